-- The increment of a prefix: "It is the least byte string above all that start with the prefix."
use Prim.Native.Nat.{ℕ, ◌+◌}
use mathlib.Core.Path.{◌≡◌, refl, sym, ap, ◌∙◌}
use mathlib.Core.Bool.{true, false, true≢false}
use mathlib.Core.List.{List, [], ◌∷◌, ◌++◌}
use mathlib.Core.Option.{none, some}
use mathlib.Core.Ordering.{Ordering, lt, eq, gt, swap, lt≢eq, gt≢lt}
use native.Mathlib.Omega.{arith}
use Rattle.keys.specs.Order.{order, is_less, not_more}
use Rattle.keys.proofs.Heads.{head_less, head_more, head_same, Three, below, equal, above, three}
use Rattle.keys.proofs.OrderLaws.{order_refl, order_swap}
use Rattle.kinds.specs.Bounds.{end_admits}
use Rattle.ranges.specs.Bytes.{Bytes}
use Rattle.ranges.specs.Prefixes.{increment, end_at}
use Rattle.ranges.proofs.IncrementLaws.{by_increment, Way, later, here, nowhere, way}
use Rattle.ranges.proofs.PrefixPlaces.{AllStand, Place, before, among, beyond, place}

-- the increment of a byte string is a byte string
pub increment_bytes : (p k : List ℕ) → increment p ≡ some k → Bytes p → Bytes k
unfolding Bytes
increment_bytes = by_increment (λ p k. Bytes p → Bytes k) (λ x p k h b. (b.0, h b.1)) (λ x p n b. (omega (arith, b.0), tt))

-- it stands above all that start with the prefix
pub above_all : (p k : List ℕ) → increment p ≡ some k → (s : List ℕ) → order (p ++ s) k ≡ lt
above_all =
    by_increment
    (λ p k. (s : List ℕ) → order (p ++ s) k ≡ lt)
    (λ x p k h s. head_same x (p ++ s) k ∙ h s)
    (λ x p n s. head_less x (x + 1) (p ++ s) [] (omega arith))

not_below_empty : (t : List ℕ) → is_less (order t []) ≡ false
unfolding order
not_below_empty [] = refl
not_below_empty (x ∷ t) = refl

-- the end that a prefix gives admits no byte string beyond all that start with the prefix
pub beyond_end : (p t : List ℕ) → Bytes t → AllStand lt p t → end_admits (end_at (increment p)) t ≡ false
unfolding order Bytes
beyond_end [] t b all = absurd (lt≢eq (sym (all t) ∙ order_refl t))
beyond_end (x ∷ p) [] b all = absurd (gt≢lt (all []))
beyond_end (x ∷ p) (y ∷ t) b all = go (beyond_end p t b.1) (three x y) (way x p)
  where
    go : (AllStand lt p t → end_admits (end_at (increment p)) t ≡ false) → Three x y → Way x p → end_admits (end_at (increment (x ∷ p))) (y ∷ t) ≡ false
    go ih (below l) (later k f g) = rw g (ap is_less (head_more y x t k l))
    go ih (below l) (here f n g) = rw g (next (three (x + 1) y))
      where
        next : Three (x + 1) y → is_less (order (y ∷ t) ((x + 1) ∷ [])) ≡ false
        next (below m) = ap is_less (head_more y (x + 1) t [] m)
        next (equal e) = rw (← e) (ap is_less (head_same (x + 1) t []) ∙ not_below_empty t)
        next (above m) = absurd (omega arith)
    go ih (below l) (nowhere f n g) = absurd (omega (arith, b.0))
    go ih (equal e) w = rest w (ih (λ s. sym (head_same y (p ++ s) t) ∙ (rw e at (all s))))
      where
        rest : Way x p → end_admits (end_at (increment p)) t ≡ false → end_admits (end_at (increment (x ∷ p))) (y ∷ t) ≡ false
        rest (later k f g) h = rw (g, ← e) (ap is_less (head_same x t k) ∙ (rw f at h))
        rest (here f n g) h = absurd (true≢false (rw f at h))
        rest (nowhere f n g) h = absurd (true≢false (rw f at h))
    go ih (above l) w = absurd (gt≢lt (sym (head_more x y (p ++ []) t l) ∙ all []))

-- t is not above all byte strings that start with p: this one is not below it
pub record Reached (p t : List ℕ) : Type 0 where
  pub rest : List ℕ
  pub bytes : Bytes rest
  pub not_below : is_less (order (p ++ rest) t) ≡ false

bytes_after : (p s : List ℕ) → Bytes (p ++ s) → Bytes s
unfolding Bytes
bytes_after [] s b = b
bytes_after (x ∷ p) s b = bytes_after p s b.1

reached : (p t : List ℕ) → Bytes t → end_admits (end_at (increment p)) t ≡ true → Reached p t
unfolding Bytes
reached p t b e = go (place p t)
  where
    go : Place p t → Reached p t
    go (before all) = record { rest = []; bytes = tt; not_below = ap is_less (all []) }
    go (among s) = record { rest = s.rest; bytes = bytes_after p s.rest (rw s.is at b); not_below = rw (← s.is) (ap is_less (order_refl t)) }
    go (beyond all) = absurd (true≢false (sym e ∙ beyond_end p t b all))

-- every byte string above all byte strings that start with the prefix is the increment or above it
pub least : (p k t : List ℕ) → increment p ≡ some k → Bytes t → ((s : List ℕ) → Bytes s → order (p ++ s) t ≡ lt) → not_more (order k t) ≡ true
unfolding swap
least p k t e b all = rw (order_swap t k) (go (order t k) refl)
  where
    go : (o : Ordering) → order t k ≡ o → not_more (swap o) ≡ true
    go eq f = refl
    go gt f = refl
    go lt f =
        let r = reached p t b (rw (e, f)) in
        absurd (true≢false (sym (ap is_less (all r.rest r.bytes)) ∙ r.not_below))

-- where there is no increment, no byte string is above all that start with the prefix
pub none_above : (p t : List ℕ) → increment p ≡ none → Bytes t → Reached p t
none_above p t e b = reached p t b (rw e)
