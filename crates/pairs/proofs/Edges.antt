-- The single statement that covers document 01's cases marked P.
use Prim.Native.Nat.{ℕ}
use mathlib.Core.Path.{◌≡◌, refl, sym, ap, ◌∙◌}
use mathlib.Core.Bool.{true, false, ◌&&◌, and-false}
use native.Mathlib.Omega.{arith}
use mathlib.Core.List.{List, [], ◌∷◌}
use mathlib.Core.Logic.{◌↔◌}
use mathlib.Core.Ordering.{then}
use Rattle.keys.specs.Order.{order, is_same, is_less}
use Rattle.keys.proofs.Heads.{head_more, head_same, Three, below, equal, above, three}
use Rattle.keys.proofs.OrderLaws.{order_refl, order_eq}
use Rattle.kinds.specs.Bounds.{included}
use Rattle.bounds.specs.Ranges.{range, holds, intersect_of, join_of, union_of}
use Rattle.bounds.proofs.Points.{point_holds, same_is}
use Rattle.ranges.specs.Making.{new_of}
use Rattle.ranges.specs.Prefixes.{increment, raised}
use lib.ListN.{drop}
use Rattle.machine.specs.Lists.{any, keep, sum}
use Rattle.machine.specs.Serve.{answer, serve}
use Rattle.machine.specs.Sets.{insert, insert_all, put, find, without, least_of, in_reach, tracks, conflict}
use Rattle.pairs.specs.Pairs.{cases, Every}

only_itself : (k l : List ℕ) → (holds (range (included k) (included k)) l ≡ true) ↔ (l ≡ k)
only_itself k l =
    let p = point_holds (range (included k) (included k)) (record { key = k; is = refl }) l in
    (λ h. order_eq l k (same_is (order l k) (sym p ∙ h)), λ e. p ∙ ap (λ m. is_same (order m k)) e ∙ ap is_same (order_refl k))

none_below_empty : (k : List ℕ) → is_less (order k []) ≡ false
unfolding order
none_below_empty [] = refl
none_below_empty (x ∷ k) = refl

-- nothing stands between what follows [61] and [00]
none_below_zero : (k : List ℕ) → (is_less (order [] k) && is_less (order k (0 ∷ []))) ≡ false
unfolding order
none_below_zero [] = refl
none_below_zero (x ∷ k) = go (three x 0)
  where
    go : Three x 0 → is_less (order (x ∷ k) (0 ∷ [])) ≡ false
    go (below h) = absurd (omega arith)
    go (equal e) = ap (λ y. is_less (order (y ∷ k) (0 ∷ []))) e ∙ ap is_less (head_same 0 k []) ∙ none_below_empty k
    go (above h) = ap is_less (head_more x 0 k [] h)

none_between : (k : List ℕ) → (is_less (order (97 ∷ []) k) && is_less (order k (97 ∷ 0 ∷ []))) ≡ false
unfolding order
none_between [] = refl
none_between (x ∷ k) = go (three 97 x)
  where
    go : Three 97 x → (is_less (order (97 ∷ []) (x ∷ k)) && is_less (order (x ∷ k) (97 ∷ 0 ∷ []))) ≡ false
    go (below h) = ap (λ o. is_less (order (97 ∷ []) (x ∷ k)) && is_less o) (head_more x 97 k (0 ∷ []) h) ∙ and-false (is_less (order (97 ∷ []) (x ∷ k)))
    go (equal e) = ap (λ y. is_less (order (97 ∷ []) (y ∷ k)) && is_less (order (y ∷ k) (97 ∷ 0 ∷ []))) (sym e) ∙ (λ i. is_less (head_same 97 [] k i) && is_less (head_same 97 k (0 ∷ []) i)) ∙ none_below_zero k
    go (above h) = ap (λ o. is_less o && is_less (order (x ∷ k) (97 ∷ 0 ∷ []))) (head_more 97 x [] k h)

-- the cases of the machine, by computing what is served
served : Every (drop 9 cases)
unfolding order serve answer any keep sum find put without least_of in_reach tracks conflict insert insert_all
served = ((refl, refl, refl), (refl, (refl, tt)))

pub edges : Every cases
unfolding order increment raised intersect_of join_of union_of new_of then
edges = (
  (refl, refl),
  (
    (refl, refl),
    (
      (λ k. (ap is_less (order_refl k), only_itself k)),
      (
        (refl, none_between),
        (
          (refl, none_below_empty),
          (
            (refl, refl),
            (
              refl,
              (
                refl,
                (
                  refl,
                  served,
                ),
              ),
            ),
          ),
        ),
      ),
    ),
  ),
)
