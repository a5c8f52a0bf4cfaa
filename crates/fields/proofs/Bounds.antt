-- Bounds, one at a time, and the two together.
use Prim.Native.Nat.{ℕ, ◌≤◌, ◌<◌}
use mathlib.Core.Path.{◌≡◌, refl, ap, ◌∙◌}
use mathlib.Core.Bool.{false, true≢false}
use mathlib.Core.List.{List, [], ◌∷◌}
use mathlib.Core.Option.{Option, none, some, some-ne-none}
use native.Mathlib.Omega.{arith}
use borrow.Author.Tests.{eq-eqb, ne_eqb}
use lib.ListN.{length, drop, length-drop, drop_of_length-le}
use lib.Seq.{slice, length-slice}
use Rattle.kinds.specs.Bounds.{Bound, unbounded, included, excluded, bound, is_bounded, NoKind}
use Rattle.kinds.specs.declared.kind.Kind.{Kind}
use Rattle.kinds.specs.declared.kind.Kind.TheVariants.{Unbounded, Included, Excluded}
use Rattle.bounds.specs.Ranges.{range}
use Rattle.fields.specs.declared.BoundPlaces.{BoundPlaces}
use Rattle.fields.specs.Fields.{bound_tag, field, before, on_some, fields, as_bound, bound_list, pair_of, bounds_of}
use Rattle.fields.specs.Forms.{ItemAt, EndAt, CutAt, NoBoundAt, BoundsAt, NoBoundsIn, BoundItem, first_of}
use Rattle.fields.proofs.Lists.{list_nil, list_cut, list_item, list_broken, list_more}

pub bounds_cut : {bs : List ℕ} {at : ℕ} → CutAt bs at → NoBoundAt bs at
bounds_cut b = record { lacks = ap first_of (list_cut as_bound b) }

pub bounds_end : {bs : List ℕ} {at : ℕ} → EndAt bs at → NoBoundAt bs at
bounds_end b = record { lacks = ap first_of (ap bound_list b.ends ∙ list_nil as_bound) }

module _ {bs : List ℕ} {at tag from to : ℕ} (i : ItemAt fields bs at tag from to (field tag (slice from to bs))) where
  -- a bound of the kind that the tag names, where an unbounded one has no payload
  pub bound_here : (k : Kind) → tag ≡ bound_tag k → (is_bounded k ≡ false → to ≤ from) → ItemAt bound_list bs at (bound_tag k) from to (bound k (slice from to bs))
  unfolding as_bound
  bound_here Unbounded e h =
      let n : length (slice from to bs) ≡ 0 = length-slice from to bs i.within ∙ (let m = h refl in omega arith) in
      list_item as_bound i (bound_tag Unbounded) unbounded e (rw (eq-eqb tag (bound_tag Unbounded) e, n))
  bound_here Included e h = list_item as_bound i (bound_tag Included) (included (slice from to bs)) e (rw e)
  bound_here Excluded e h = list_item as_bound i (bound_tag Excluded) (excluded (slice from to bs)) e (rw e)

  pub unbounded_full : (k : Kind) → tag ≡ bound_tag k → is_bounded k ≡ false → from < to → NoBoundAt bs at
  unfolding as_bound
  unbounded_full Unbounded e b k =
      let n : length (slice from to bs) ≡ 0 → ⊥ = λ z. omega (arith, length-slice from to bs i.within) in
      record { lacks = ap first_of (list_broken as_bound i (rw (eq-eqb tag (bound_tag Unbounded) e, ne_eqb (length (slice from to bs)) 0 n))) }
  unbounded_full Included e b k = absurd (true≢false b)
  unbounded_full Excluded e b k = absurd (true≢false b)

  pub tag_unknown : NoKind tag → NoBoundAt bs at
  unfolding as_bound
  tag_unknown n =
      record { lacks = ap first_of (list_broken as_bound i (rw (ne_eqb tag (bound_tag Unbounded) n.not_unbounded, ne_eqb tag (bound_tag Included) n.not_included, ne_eqb tag (bound_tag Excluded) n.not_excluded))) }

-- the two together
no_pair : (o : Option (List Bound)) → first_of o ≡ none → on_some o pair_of ≡ none
no_pair none e = refl
no_pair (some []) e = refl
no_pair (some (b ∷ bs)) e = absurd (some-ne-none b e)

no_second : (s : Bound) (o : Option (List Bound)) → first_of o ≡ none → on_some (before s o) pair_of ≡ none
no_second s none e = refl
no_second s (some []) e = refl
no_second s (some (b ∷ bs)) e = absurd (some-ne-none b e)

third : (s e : Bound) (o : Option (List Bound)) → (o ≡ some [] → ⊥) → on_some (before s (before e o)) pair_of ≡ none
third s e none h = refl
third s e (some []) h = absurd (h refl)
third s e (some (b ∷ bs)) h = refl

module _ (bs : List ℕ) where
  pub start_lacks : NoBoundAt bs 0 → NoBoundsIn bs
  unfolding bounds_of
  start_lacks b = record { breaks = no_pair (bound_list bs) b.lacks }

  module _ (tag from to : ℕ) (s : Bound) (i : ItemAt bound_list bs 0 tag from to s) where
    pub end_lacks : NoBoundAt bs to → NoBoundsIn bs
    unfolding bounds_of
    end_lacks b = record { breaks = rw i.reads (no_second s (bound_list (drop to bs)) b.lacks) }

    module _ (tag' from' to' : ℕ) (e : Bound) (j : ItemAt bound_list bs to tag' from' to' e) where
      pub more_left : to' < length bs → NoBoundsIn bs
      unfolding bounds_of
      more_left h = record { breaks = rw (i.reads, j.reads) (third s e (bound_list (drop to' bs)) (list_more as_bound (drop to' bs) (rw length-drop (omega arith)))) }

      both : length bs ≤ to' → bounds_of bs ≡ some (range s e)
      unfolding bounds_of
      both h = rw (i.reads, j.reads, drop_of_length-le bs h, list_nil as_bound)

pub bounds_here : (bs : List ℕ) (p : BoundPlaces) → BoundItem bs 0 p.start → BoundItem bs p.start.key.to p.end → length bs ≤ p.end.key.to → BoundsAt bs p
bounds_here bs p i j h =
    record {
      start_begins = i.begins;
      start_ends = i.ends;
      end_begins = j.begins;
      end_ends = j.ends;
      whole = omega (arith, j.within);
      reads = both bs _ _ _ _ i _ _ _ _ j h;
    }
