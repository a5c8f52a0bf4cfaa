-- Prefix with a subrange: "a key lies in it exactly when it starts with the prefix and its remainder lies in the subrange".
use Prim.Native.Nat.{ℕ}
use mathlib.Core.Path.{◌≡◌, refl, sym, ap, ap₂, ◌∙◌}
use mathlib.Core.Bool.{true, false, ◌&&◌, and-false}
use mathlib.Core.List.{List, [], ◌∷◌, ◌++◌, append-nil}
use mathlib.Core.Option.{Option, none, some}
use mathlib.Core.Ordering.{lt, gt, swap, lt≢eq, gt≢eq}
use lib.ListN.{length, drop}
use lib.Seq.{drop-append_seam}
use Rattle.keys.specs.Order.{order, starts_with, is_less, not_more}
use Rattle.keys.proofs.OrderLaws.{order_refl, order_swap, same_front, starts_means}
use Rattle.kinds.specs.Bounds.{Bound, unbounded, included, excluded, start_admits, end_admits}
use Rattle.bounds.specs.Ranges.{Range, holds}
use Rattle.ranges.specs.Bytes.{Bytes}
use Rattle.ranges.specs.Prefixes.{increment, end_at, sub_start, sub_end, subrange_of}
use Rattle.ranges.proofs.Least.{above_all, beyond_end}
use Rattle.ranges.proofs.PrefixPlaces.{AllStand, Place, before, among, beyond, place, not_among}

-- the start refuses every key before those with the prefix, and admits of those what the suffix's start admits
start_before : (p k : List ℕ) (b : Bound) → AllStand gt p k → start_admits (sub_start p b) k ≡ false
start_before p k (included s) all = ap not_more (all s)
start_before p k (excluded s) all = ap is_less (all s)
start_before [] k unbounded all = absurd (gt≢eq (sym (all k) ∙ order_refl k))
start_before (x ∷ p) k unbounded all = rw append-nil at (ap not_more (all []))

empty_first : (s : List ℕ) → not_more (order [] s) ≡ true
unfolding order
empty_first [] = refl
empty_first (x ∷ s) = refl

start_among : (p s : List ℕ) (b : Bound) → start_admits (sub_start p b) (p ++ s) ≡ start_admits b s
start_among p s (included a) = ap not_more (same_front p a s)
start_among p s (excluded a) = ap is_less (same_front p a s)
start_among [] s unbounded = refl
start_among (x ∷ p) s unbounded = (rw append-nil at (ap not_more (same_front (x ∷ p) [] s))) ∙ empty_first s

-- the end refuses every key beyond those with the prefix, and admits of those what the suffix's end admits
end_beyond : (p k : List ℕ) (b : Bound) → Bytes k → AllStand lt p k → end_admits (sub_end p b) k ≡ false
unfolding swap
end_beyond p k (included e) y all = ap not_more (order_swap (p ++ e) k ∙ ap swap (all e))
end_beyond p k (excluded e) y all = ap is_less (order_swap (p ++ e) k ∙ ap swap (all e))
end_beyond p k unbounded y all = beyond_end p k y all

end_among : (p s : List ℕ) (b : Bound) → end_admits (sub_end p b) (p ++ s) ≡ end_admits b s
end_among p s (included e) = ap not_more (same_front p s e)
end_among p s (excluded e) = ap is_less (same_front p s e)
end_among p s unbounded = go (increment p) refl
  where
    go : (o : Option (List ℕ)) → increment p ≡ o → end_admits (end_at o) (p ++ s) ≡ true
    go none e = refl
    go (some k) e = ap is_less (above_all p k e s)

-- the law holds for every subrange, also for one that makes an empty range and so is refused
pub subrange_holds : (p k : List ℕ) (r : Range) → Bytes k → holds (subrange_of p r) k ≡ (starts_with p k && holds r (drop (length p) k))
subrange_holds p k r y = go (place p k)
  where
    joined : (s : List ℕ) → holds (subrange_of p r) (p ++ s) ≡ (starts_with p (p ++ s) && holds r (drop (length p) (p ++ s)))
    joined s = rw (drop-append_seam p s, (starts_means p (p ++ s)).1 (record { rest = s; is = refl })) (ap₂ ◌&&◌ (start_among p s r.start) (end_among p s r.end))

    go : Place p k → holds (subrange_of p r) k ≡ (starts_with p k && holds r (drop (length p) k))
    go (before all) = rw (not_among gt p k gt≢eq all, start_before p k r.start all)
    go (among s) = rw s.is (joined s.rest)
    go (beyond all) = rw (not_among lt p k lt≢eq all, end_beyond p k r.end y all) (and-false (start_admits (sub_start p r.start) k))
