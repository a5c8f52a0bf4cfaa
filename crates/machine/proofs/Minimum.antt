-- "Minimum: smallest active start": some active transaction has it, and none a smaller one.
use Prim.Native.Nat.{ℕ, ◌≤◌, min}
use mathlib.Core.Path.{◌≡◌, refl, ap}
use mathlib.Core.Bool.{Bool, true, false}
use mathlib.Core.List.Memᴰ
use mathlib.Core.List.{List, [], ◌∷◌, Memᴰ}
use mathlib.Core.Logic.{◌⊎◌, inl, inr}
use native.Mathlib.Omega.{arith}
use borrow.Author.Tests.{leb-true, leb-false}
use lib.Dec.{leb}
use Rattle.machine.specs.State.{Txn}
use Rattle.machine.specs.Sets.{least_of}

pub record Smallest (ts : List Txn) (m : ℕ) : Type 0 where
  pub of : Txn
  pub active : Memᴰ of ts
  pub start : of.start ≡ m
  pub below : (u : Txn) → Memᴰ u ts → m ≤ u.start

pub least_is : (t : Txn) (ts : List Txn) → Smallest (t ∷ ts) (least_of t ts)
unfolding least_of
least_is t [] =
    record {
      of = t;
      active = Memᴰ.head refl;
      start = refl;
      below = λ u m. let e = Memᴰ.eq_of_singleton m in rw e (omega arith);
    }
least_is t (v ∷ vs) = go (least_is v vs) (leb t.start (least_of v vs)) refl
  where
    go : Smallest (v ∷ vs) (least_of v vs) → (b : Bool) → leb t.start (least_of v vs) ≡ b → Smallest (t ∷ v ∷ vs) (min t.start (least_of v vs))
    go r b e =
        record {
          of = pick b;
          active = there b;
          start = is b e;
          below = λ u m. step u (Memᴰ.cases_cons m);
        }
      where
        pick : Bool → Txn
        pick true = t
        pick false = r.of

        there : (c : Bool) → Memᴰ (pick c) (t ∷ v ∷ vs)
        there true = Memᴰ.head refl
        there false = Memᴰ.tail r.active

        is : (c : Bool) → leb t.start (least_of v vs) ≡ c → (pick c).start ≡ min t.start (least_of v vs)
        is true h = let l = leb-true t.start (least_of v vs) h in omega arith
        is false h = let l = leb-false t.start (least_of v vs) h in let s = r.start in omega arith

        step : (u : Txn) → (u ≡ t) ⊎ Memᴰ u (v ∷ vs) → min t.start (least_of v vs) ≤ u.start
        step u (inl e) = let h = ap (λ (x : Txn). x.start) e in omega arith
        step u (inr m) = let h = r.below u m in omega arith
