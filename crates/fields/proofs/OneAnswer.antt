-- "Show that any two results allowed for one call are equal": said of each public function's contract, as the checker
-- reads it.
use Prim.Native.Nat.{ℕ, ◌+◌, ◌<◌}
use mathlib.Core.Path.{◌≡◌, refl, sym, ap, ◌∙◌}
use mathlib.Core.List.{List}
use mathlib.Core.Logic.{◌⊎◌, inl, inr}
use mathlib.Core.Option.{Option, some, none-ne-some, some-injective}
use native.Mathlib.Omega.{arith}
use lib.ListN.{length, get_or, length-drop}
use Rattle.keys.proofs.OneAnswer.{OneAnswer}
use Rattle.kinds.specs.declared.kind.Kind.{Kind}
use Rattle.kinds.specs.declared.kind.Kind.TheVariants.{Unbounded, Included, Excluded}
use Rattle.kinds.specs.Bounds.{bound}
use Rattle.bounds.specs.Ranges.{range}
use Rattle.ranges.specs.Made.{kind_of}
use Rattle.std.specs.Prelude.{Option as Maybe, Some, None, Result, Ok, Err}
use Rattle.fields.specs.declared.Span.{Span}
use Rattle.fields.specs.declared.Field.{Field}
use Rattle.fields.specs.declared.Malformed.{Malformed}
use Rattle.fields.specs.declared.BoundPlaces.{BoundPlaces}
use Rattle.fields.specs.Fields.{field_head, key_tag}
use Rattle.fields.specs.Forms.{ItemAt, EndAt, FieldIs, NextIs, BoundsAre, size_at}
use Rattle.fields.proofs.field_at.Kinds as field-at-kinds
use Rattle.fields.proofs.field_at.Reads as field_at
use Rattle.fields.proofs.next_key.Kinds as next-key-kinds
use Rattle.fields.proofs.next_key.Reads as next-key
use Rattle.fields.proofs.check_keys.Kinds as check-keys-kinds
use Rattle.fields.proofs.check_keys.Reads as check-keys
use Rattle.fields.proofs.read_bounds.Kinds as read-bounds-kinds
use Rattle.fields.proofs.read_bounds.Reads as read-bounds

-- a whole field, the end and a cut field exclude each other, and a field stands in one place
module _ (bs : List ℕ) (at : ℕ) where
  left_over : at < length bs → EndAt bs at → ⊥
  left_over h e = omega (arith, sym (length-drop at bs) ∙ ap length e.ends)

  module _ {A : Type 0} {list : List ℕ → Option (List A)} {tag from to : ℕ} {a : A} (i : ItemAt list bs at tag from to a) where
    not_over : EndAt bs at → ⊥
    not_over = left_over (omega (arith, i))

    not_cut : length bs < at + field_head + size_at bs at → ⊥
    not_cut h = omega (arith, i)

    not_wrong : tag ≡ key_tag → (length bs < at + field_head + size_at bs at) ⊎ (get_or bs at 0 ≡ key_tag → ⊥) → ⊥
    not_wrong e (inl h) = not_cut h
    not_wrong e (inr h) = h (sym i.tagged ∙ e)

    module _ {tag' from' to' : ℕ} {a' : A} (j : ItemAt list bs at tag' from' to' a') where
      same_tag : tag ≡ tag'
      same_tag = i.tagged ∙ sym j.tagged

      same_from : from ≡ from'
      same_from = i.begins ∙ sym j.begins

      same_to : to ≡ to'
      same_to = omega (arith, i, j)

  same_span : (x y : Span) → x.from ≡ y.from → x.to ≡ y.to → x ≡ y
  same_span x y a b = λ i. record { from = a i; to = b i }

  same_field : (x y : Field) → x.tag ≡ y.tag → x.payload ≡ y.payload → x ≡ y
  same_field x y a b = λ i. record { tag = a i; payload = b i }

  field_once : (r s : Result (Maybe Field) Malformed) → FieldIs bs at r → FieldIs bs at s → r ≡ s
  field_once (Ok (Some f)) (Ok (Some g)) i j = ap (λ x. Ok (Some x)) (same_field f g (same_tag i j) (same_span f.payload g.payload (same_from i j) (same_to i j)))
  field_once (Ok (Some f)) (Ok None) i j = absurd (not_over i j)
  field_once (Ok (Some f)) (Err e) i j = absurd (not_cut i j.passes)
  field_once (Ok None) (Ok (Some f)) i j = absurd (not_over j i)
  field_once (Ok None) (Ok None) i j = refl
  field_once (Ok None) (Err e) i j = absurd (left_over j.left i)
  field_once (Err e) (Ok (Some f)) i j = absurd (not_cut j i.passes)
  field_once (Err e) (Ok None) i j = absurd (left_over i.left j)
  field_once (Err e) (Err f) i j = refl

  next_once : (r s : Result (Maybe Span) Malformed) → NextIs bs at r → NextIs bs at s → r ≡ s
  next_once (Ok (Some k)) (Ok (Some l)) i j = ap (λ x. Ok (Some x)) (same_span k l (same_from i j) (same_to i j))
  next_once (Ok (Some k)) (Ok None) i j = absurd (not_over i j)
  next_once (Ok (Some k)) (Err e) i j = absurd (not_wrong i refl j.wrong)
  next_once (Ok None) (Ok (Some k)) i j = absurd (not_over j i)
  next_once (Ok None) (Ok None) i j = refl
  next_once (Ok None) (Err e) i j = absurd (left_over j.left i)
  next_once (Err e) (Ok (Some k)) i j = absurd (not_wrong j refl i.wrong)
  next_once (Err e) (Ok None) i j = absurd (left_over i.left j)
  next_once (Err e) (Err f) i j = refl

kind_of_bound : (k : Kind) (x : List ℕ) → kind_of (bound k x) ≡ k
kind_of_bound Unbounded x = refl
kind_of_bound Included x = refl
kind_of_bound Excluded x = refl

-- the kinds of a pair of bounds
same_kinds : (k l k' l' : Kind) (x y x' y' : List ℕ) → some (range (bound k x) (bound l y)) ≡ some (range (bound k' x') (bound l' y')) → (k ≡ k') × (l ≡ l')
same_kinds k l k' l' x y x' y' e =
    let f = some-injective (range (bound k x) (bound l y)) (range (bound k' x') (bound l' y')) e in
    (sym (kind_of_bound k x) ∙ ap (λ r. kind_of r.start) f ∙ kind_of_bound k' x', sym (kind_of_bound l y) ∙ ap (λ r. kind_of r.end) f ∙ kind_of_bound l' y')

same_places : (p q : BoundPlaces)
    → p.start.kind ≡ q.start.kind
    → p.start.key.from ≡ q.start.key.from
    → p.start.key.to ≡ q.start.key.to
    → p.end.kind ≡ q.end.kind
    → p.end.key.from ≡ q.end.key.from
    → p.end.key.to ≡ q.end.key.to
    → p ≡ q
same_places p q a b c d e f =
    λ i. record { start = record { kind = a i; key = record { from = b i; to = c i } }; end = record { kind = d i; key = record { from = e i; to = f i } } }

module _ (bs : List ℕ) where
  bounds_once : (r s : Result BoundPlaces Malformed) → BoundsAre bs r → BoundsAre bs s → r ≡ s
  bounds_once (Ok p) (Ok q) i j =
      let k = same_kinds _ _ _ _ _ _ _ _ (sym i.reads ∙ j.reads) in
      ap Ok (same_places p q k.0 (omega (arith, i, j)) (omega (arith, i, j)) k.1 (omega (arith, i, j)) (i.whole ∙ sym j.whole))
  bounds_once (Ok p) (Err e) i j = absurd (none-ne-some _ (sym j.breaks ∙ i.reads))
  bounds_once (Err e) (Ok p) i j = absurd (none-ne-some _ (sym i.breaks ∙ j.reads))
  bounds_once (Err e) (Err f) i j = refl

pub one_field_at : OneAnswer 1 field-at-kinds.ps field-at-kinds.r field_at.Post
one_field_at κs a x y s t p q = field_once _ _ x y p q

pub one_next_key : OneAnswer 1 next-key-kinds.ps next-key-kinds.r next-key.Post
one_next_key κs a x y s t p q = next_once _ _ x y p q

pub one_check_keys : OneAnswer 1 check-keys-kinds.ps check-keys-kinds.r check-keys.Post
one_check_keys κs a x y s t p q = p ∙ sym q

pub one_read_bounds : OneAnswer 1 read-bounds-kinds.ps read-bounds-kinds.r read-bounds.Post
one_read_bounds κs a x y s t p q = bounds_once _ x y p q
