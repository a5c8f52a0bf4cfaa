-- The field at a place, by the bytes that stand there.
use Prim.Native.Nat.{ℕ, suc, ◌+◌, ◌-◌, ◌≤◌, ◌<◌}
use mathlib.Core.Path.{◌≡◌, refl, sym, ap, ◌∙◌}
use mathlib.Core.Bool.{cond}
use mathlib.Core.List.{List, [], ◌∷◌}
use mathlib.Core.Option.{none}
use native.Mathlib.Omega.{arith}
use borrow.Author.Tests.{le-leb, lt-leb}
use lib.Dec.{leb}
use lib.ListN.{length, take, drop, get_or, length-drop, drop_of_length-le}
use borrow.Author.Rules.{part_to_end}
use lib.Seq.{slice, get_or-drop, drop-cons, drop-drop, drop_at, take-add, length-take-le}
use Rattle.std.specs.Int.{from_be_bytes, w16}
use Rattle.fields.specs.Fields.{field_head, size_of, field, before, fields}
use Rattle.fields.specs.Forms.{ItemAt, EndAt, CutAt, size_at}
use Rattle.fields.proofs.Steps.{fields_short, fields_step}

pub byte : (bs : List ℕ) (i j : ℕ) → j ≡ suc i → i < length bs → drop i bs ≡ get_or bs i 0 ∷ drop j bs
byte bs i j e h = rw e (drop-cons bs i 0 h)

-- the two bytes of a length, as the library reads them
pub size_read : (h l : ℕ) → from_be_bytes w16 (h ∷ l ∷ []) ≡ size_of h l
size_read h l = omega arith

-- what stands from a place on, as a slice to the end
abbrev pub from_on : List ℕ → ℕ → List ℕ
from_on bs at = take (length bs - at) (drop at bs)

pub byte_from : (bs : List ℕ) (at k : ℕ) → get_or (from_on bs at) k 0 ≡ get_or bs (at + k) 0
byte_from bs at k = ap (λ (l : List ℕ). get_or l k 0) (part_to_end bs at) ∙ get_or-drop at bs k 0

take_of_drop : (f n : ℕ) (bs : List ℕ) → f ≤ length bs → take n (drop f bs) ≡ slice f (f + n) bs
take_of_drop f n bs h =
    sym (ap (drop f) (take-add f n bs) ∙ drop_at (take f bs) (take n (drop f bs)) f (length-take-le f bs h))

module _ (bs : List ℕ) (at : ℕ) where
  pub ends_at : length bs ≤ at → EndAt bs at
  ends_at h = record { ends = drop_of_length-le bs h }

  pub head_cut : at < length bs → length bs - at < field_head → CutAt bs at
  head_cut h k = record { left = h; passes = omega arith; breaks = fields_short (drop at bs) (rw length-drop (omega arith)) (rw length-drop (omega arith)) }

  module _ (tag h l : ℕ) (room : at + field_head ≤ length bs) (tagged : tag ≡ get_or (from_on bs at) 0 0) (high : h ≡ get_or (from_on bs at) 1 0) (low : l ≡ get_or (from_on bs at) 2 0) where
    tag_is : tag ≡ get_or bs at 0
    tag_is = tagged ∙ byte_from bs at 0 ∙ ap (λ (i : ℕ). get_or bs i 0) (let e : at + 0 ≡ at = omega arith in e)

    high_is : h ≡ get_or bs (at + 1) 0
    high_is = high ∙ byte_from bs at 1

    low_is : l ≡ get_or bs (at + 2) 0
    low_is = low ∙ byte_from bs at 2

    head_bytes : drop at bs ≡ tag ∷ h ∷ l ∷ drop (at + field_head) bs
    head_bytes =
        rw (
          byte bs at (at + 1) (omega arith) (omega arith),
          byte bs (at + 1) (at + 2) (omega arith) (omega arith),
          byte bs (at + 2) (at + field_head) (omega arith) (omega arith),
          tag_is,
          high_is,
          low_is,
        )

    step_at : fields (drop at bs)
        ≡ cond
        (leb (size_of h l) (length (drop (at + field_head) bs)))
        (before (field tag (take (size_of h l) (drop (at + field_head) bs))) (fields (drop (size_of h l) (drop (at + field_head) bs))))
        none
    step_at = ap fields head_bytes ∙ fields_step tag h l (drop (at + field_head) bs)

    size_here : size_of h l ≡ size_at bs at
    unfolding size_at
    size_here = rw (high_is, low_is)

    pub payload_cut : length bs - (at + field_head) < size_of h l → CutAt bs at
    payload_cut k = record { left = omega arith; passes = omega (arith, size_here); breaks = step_at ∙ rw (lt-leb (size_of h l) (length (drop (at + field_head) bs)) (rw length-drop k)) }

    pub field_here : size_of h l ≤ length bs - (at + field_head)
        → ItemAt fields bs at tag (at + field_head) (at + field_head + (size_of h l)) (field tag (slice (at + field_head) (at + field_head + (size_of h l)) bs))
    field_here k =
        record {
          tagged = tag_is;
          begins = refl;
          ends = ap (λ n. at + field_head + n) size_here;
          within = omega arith;
          reads =
              step_at
              ∙ rw (
                le-leb (size_of h l) (length (drop (at + field_head) bs)) (rw length-drop k),
                take_of_drop (at + field_head) (size_of h l) bs room,
                drop-drop (size_of h l) (at + field_head) bs,
              );
        }
