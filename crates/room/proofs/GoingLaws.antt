-- Invariant of the walks over any chain (`Going`): of n those up to the tally's end are read and counted, and the last of them stands from p on.
use Prim.Native.Nat.{ℕ, ◌+◌, ◌-◌, ◌≤◌, ◌<◌, max}
use mathlib.Core.Path.{◌≡◌, refl, sym, ap, ap₂, ◌∙◌}
use mathlib.Core.Bool.{Bool, true, false}
use mathlib.Core.List.{List, [], ◌∷◌, ◌++◌}
use mathlib.Core.Option.{Option, none, some}
use native.Mathlib.Omega.{arith}
use lib.ListN.{length}
use Rattle.machine.specs.Lists.{sum}
use Rattle.machine.proofs.ListLaws.{sum_one}
use Rattle.codec.specs.Codec.{fine}
use Rattle.codec.proofs.RunLaws.{Walk, walk_start, walk_next, walk_cut, walk_unfit, walk_end}
use Rattle.layout.specs.Rows.{Fills}
use Rattle.layout.specs.States.{highest}
use Rattle.room.specs.declared.tally.Tally.{Tally}
use Rattle.room.specs.Counts.{empty_tally, plus}
use Rattle.room.specs.Walks.{Got, Missing}
use Rattle.room.specs.Chains.{Chain, Linked, chain_of}

max_assoc : (a b c : ℕ) → max a (max b c) ≡ max (max a b) c
max_assoc a b c = omega arith

-- one more at the end
highest_one : {A : Type 0} (f : A → ℕ) (xs : List A) (a : A) → highest f (xs ++ (a ∷ [])) ≡ max (highest f xs) (f a)
unfolding highest
highest_one f [] a = omega arith
highest_one f (x ∷ xs) a = ap (λ (n : ℕ). max (f x) n) (highest_one f xs a) ∙ max_assoc (f x) (highest f xs) (f a)

module _ (C : Chain) where
  -- the one before stands from p up to e, if there is one
  abbrev Before : List ℕ → ℕ → ℕ → Option C.Of → Type 0
  Before s p e none = p ≡ e
  Before s p e (some a) = Fills C.one.form s p a e

  -- i of n from at on are read and counted up to the tally's end, and the last of them, prev, stands from p on
  pub record Going (s : List ℕ) (at n : ℕ) (t : Tally) (p i : ℕ) : Type 0 where
    pub prev : Option C.Of
    pub behind : Before s p t.end prev
    pub left : ℕ
    pub left_is : i + left ≡ n
    pub walk : Walk C.one.form C.before s at n prev t.end left
    pub marks : t.marks ≡ sum C.one.marks walk.done
    pub bytes : t.bytes ≡ sum C.one.bytes walk.done
    pub high : t.high ≡ highest C.one.high walk.done
    pub fits : at + t.marks + t.bytes ≤ t.end
    pub inside : t.end ≤ length s

  pub going_start : (s : List ℕ) (at n : ℕ) → at ≤ length s → Going s at n (empty_tally at) at 0
  unfolding sum highest
  going_start s at n h = record {
    prev = none;
    behind = refl;
    left = n;
    left_is = omega arith;
    walk = walk_start C.one.form C.before s at n;
    marks = refl;
    bytes = refl;
    high = refl;
    fits = omega arith;
    inside = h;
  }

  module _ {s : List ℕ} {at n : ℕ} {t : Tally} {p i : ℕ} (v : Going s at n t p i) where
    pub going_end : n ≤ i → Got (chain_of C n) s at t
    going_end h = record {
      val = v.walk.done;
      fills = record { stands = walk_end C.one.form C.before v.walk (omega (arith, v.left_is)); from = omega (arith, v.fits); inside = v.inside };
      marks = v.marks;
      bytes = v.bytes;
      high = v.high;
      fits = v.fits;
    }

    -- one more is to be read
    module _ (h : i < n) where
      more : 0 < v.left
      more = omega (arith, v.left_is)

      pub going_cut : Missing C.one.form s t.end → Missing (chain_of C n).form s at
      going_cut m = record { reads = walk_cut C.one.form C.before v.walk more m.reads }

      -- it is read
      module _ (l : Linked C) {u : Tally} (g : Got C.one s t.end u) where
        is_fine : (prev : Option C.Of) → Before s p t.end prev → fine C.one.form C.before prev g.val ≡ C.follows s p t.end u.end
        is_fine none b = sym (rw b (l.first s t.end u.end))
        is_fine (some a) b = sym (l.is s p t.end u.end a g.val b g.fills)

        judged : (b : Bool) → C.follows s p t.end u.end ≡ b → fine C.one.form C.before v.prev g.val ≡ b
        judged b f = is_fine v.prev v.behind ∙ f

        pub going_unfit : C.follows s p t.end u.end ≡ false → Missing (chain_of C n).form s at
        going_unfit f = record { reads = walk_unfit C.one.form C.before v.walk more g.val u.end g.fills.stands (judged false f) }

        pub going_next : C.follows s p t.end u.end ≡ true → Going s at n (plus t u) t.end (i + 1)
        going_next f = record {
          prev = some g.val;
          behind = g.fills;
          left = v.left - 1;
          left_is = omega (arith, v.left_is);
          walk = walk_next C.one.form C.before v.walk more g.val u.end g.fills.stands (judged true f);
          marks = ap₂ (λ (a b : ℕ). a + b) v.marks g.marks ∙ sym (sum_one C.one.marks v.walk.done g.val);
          bytes = ap₂ (λ (a b : ℕ). a + b) v.bytes g.bytes ∙ sym (sum_one C.one.bytes v.walk.done g.val);
          high = ap₂ (λ (a b : ℕ). max a b) v.high g.high ∙ sym (highest_one C.one.high v.walk.done g.val);
          fits = omega (arith, v.fits, g.fits);
          inside = g.fills.inside;
        }
