-- The record at a place, by the bytes that stand there.
use Rattle.std.specs.Prelude.{Result, Ok, Err, is_err}
use Prim.Native.Nat.{ℕ, suc, ◌+◌, ◌-◌, ◌≤◌, ◌<◌}
use mathlib.Core.Path.{◌≡◌, refl, ap, ◌∙◌}
use mathlib.Core.Bool.{Bool, true, false, cond, ◌&&◌, true≢false, false≢true}
use mathlib.Core.List.{List, [], ◌∷◌}
use native.Mathlib.Omega.{arith}
use borrow.Author.Tests.{le-leb, lt-leb, leb-true}
use lib.Dec.{leb}
use lib.ListN.{length, take, drop, get_or, length-drop, drop_of_length-le}
use lib.Seq.{drop-cons, drop-drop, length-take-le}
use Rattle.moves.proofs.SpliceLaws.{drop_take}
use Rattle.fields.specs.Fields.{field_head, size_of, field, cut, first}
use Rattle.fields.proofs.Reading.{byte, from_on, byte_from}
use Rattle.script.specs.Stream.{Next, known, record_of, next, whole, more, stop, payload_limit}
use Rattle.script.specs.declared.records.Tag.{Tag}
use Rattle.script.specs.declared.records.UnknownTag.{UnknownTag}
use Rattle.script.specs.Records.{tag_number, TagIs, WholeAt, MoreAt, StopAt}

known_number : (t : Tag) → known (tag_number t) ≡ true
known_number Tag.Begin = refl
known_number Tag.Writes = refl
known_number Tag.Reads = refl
known_number Tag.Range = refl
known_number Tag.Check = refl
known_number Tag.Commit = refl
known_number Tag.Batch = refl
known_number Tag.Drop = refl
known_number Tag.Minimum = refl

-- a tag is known where it is read as one of the nine, and only there
pub known_read : (n : ℕ) (r : Result Tag UnknownTag) → TagIs n r → is_err r ≡ false → known n ≡ true
known_read n (Ok t) e h = ap known e ∙ known_number t
known_read n (Err u) e h = absurd (true≢false h)

pub unknown_read : (n : ℕ) (r : Result Tag UnknownTag) → TagIs n r → is_err r ≡ true → known n ≡ false
unknown_read n (Ok t) e h = absurd (false≢true h)
unknown_read n (Err u) e h = e

-- a record whose head is whole and has a known tag, n being the length that it says
abbrev pub sized : ℕ → ℕ → List ℕ → Next
sized tag n bs = cond (leb n payload_limit) (cond (leb n (length bs)) (whole tag (take n bs) (drop n bs)) more) stop

both : (a b : Bool) (x s : Next) → cond (a && b) x s ≡ cond a (cond b x s) s
both true b x s = refl
both false b x s = refl

pub next_headed : (t h l : ℕ) (bs : List ℕ) → next (t ∷ h ∷ l ∷ bs) ≡ cond (known t) (sized t (size_of h l) bs) stop
next_headed t h l bs = go (leb n (length bs)) refl
  where
    n : ℕ
    n = size_of h l

    at : Bool → Next
    at v = cond v (whole t (take n bs) (drop n bs)) more

    go : (v : Bool) → leb n (length bs) ≡ v
        → record_of (cond v (first (field t (take n bs)) (drop n bs)) (cut t n)) ≡ cond (known t) (cond (leb n payload_limit) (at v) stop) stop
    go true e =
        both (known t) (leb (length (take n bs)) payload_limit) (at true) stop
        ∙ ap (λ (k : ℕ). cond (known t) (cond (leb k payload_limit) (at true) stop) stop) (length-take-le n bs (leb-true n (length bs) e))
    go false e = both (known t) (leb n payload_limit) (at false) stop

pub next_unknown : (t : ℕ) (bs : List ℕ) → known t ≡ false → next (t ∷ bs) ≡ stop
next_unknown t [] e = rw e
next_unknown t (h ∷ []) e = rw e
next_unknown t (h ∷ l ∷ bs) e = next_headed t h l bs ∙ rw e

next_few : (t : ℕ) (bs : List ℕ) → known t ≡ true → length (t ∷ bs) < field_head → next (t ∷ bs) ≡ more
next_few t [] e h = rw e
next_few t (x ∷ []) e h = rw e
next_few t (x ∷ l ∷ bs) e h = absurd (omega arith)

module _ (bs : List ℕ) (at : ℕ) where
  pub none_left : length bs ≤ at → MoreAt bs at
  none_left h = record { few = omega arith; reads = rw (drop_of_length-le bs h) }

  module _ (left : at < length bs) where
    tag_first : drop at bs ≡ get_or bs at 0 ∷ drop (suc at) bs
    tag_first = drop-cons bs at 0 left

    pub tag_unknown : known (get_or bs at 0) ≡ false → StopAt bs at
    tag_unknown e = record { reads = ap next tag_first ∙ next_unknown (get_or bs at 0) (drop (suc at) bs) e }

    pub head_cut : known (get_or bs at 0) ≡ true → length bs - at < field_head → MoreAt bs at
    head_cut e h =
        record {
          few = omega arith;
          reads = ap next tag_first ∙ next_few (get_or bs at 0) (drop (suc at) bs) e (rw length-drop (omega arith));
        }

  module _ (h l : ℕ) (room : at + field_head ≤ length bs) (e : known (get_or bs at 0) ≡ true) (high : h ≡ get_or (from_on bs at) 1 0) (low : l ≡ get_or (from_on bs at) 2 0) where
    head_read : next (drop at bs) ≡ sized (get_or bs at 0) (size_of h l) (drop (at + field_head) bs)
    head_read =
        rw (
          byte bs at (at + 1) (omega arith) (omega arith),
          byte bs (at + 1) (at + 2) (omega arith) (omega arith),
          byte bs (at + 2) (at + field_head) (omega arith) (omega arith),
          next_headed (get_or bs at 0) (get_or bs (at + 1) 0) (get_or bs (at + 2) 0) (drop (at + field_head) bs),
          e,
          high ∙ byte_from bs at 1,
          low ∙ byte_from bs at 2,
        )

    pub too_long_lem : payload_limit < size_of h l → StopAt bs at
    too_long_lem k = record { reads = head_read ∙ rw (lt-leb (size_of h l) payload_limit k) }

    pub payload_cut : size_of h l ≤ payload_limit → length bs - at - field_head < size_of h l → MoreAt bs at
    payload_cut k m =
        record {
          few = omega arith;
          reads =
              head_read
              ∙ rw (le-leb (size_of h l) payload_limit k, lt-leb (size_of h l) (length (drop (at + field_head) bs)) (rw length-drop (omega arith)));
        }

    pub record_here : size_of h l ≤ payload_limit → size_of h l ≤ length bs - at - field_head
        → WholeAt bs at (get_or bs at 0) (at + field_head) (at + field_head + size_of h l)
    record_here k m =
        let d : at + field_head + size_of h l - (at + field_head) ≡ size_of h l = omega arith in
        record {
          begins = refl;
          order = omega arith;
          inside = omega arith;
          reads =
              head_read
              ∙ rw (
                le-leb (size_of h l) payload_limit k,
                le-leb (size_of h l) (length (drop (at + field_head) bs)) (rw length-drop (omega arith)),
                drop_take (at + field_head) (at + field_head + size_of h l) bs,
                d,
                drop-drop (size_of h l) (at + field_head) bs,
              );
        }
