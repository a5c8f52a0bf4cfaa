-- A range between two made bounds: the answer by what code tested.
use Prim.Native.Nat.{ℕ, ◌≤◌, ◌<◌}
use mathlib.Core.Path.{◌≡◌, refl, ap, ◌∙◌}
use mathlib.Core.Bool.{Bool, true, false, cond, or-true}
use mathlib.Core.List.{List, [], ◌∷◌, ◌++◌}
use native.Mathlib.Omega.{arith}
use borrow.Author.Tests.{lt-ltb, ltb-false}
use lib.ListN.{length, take, length-append}
use Rattle.std.specs.Prelude.{Ok, Err}
use Rattle.keys.specs.Limit.{key_limit}
use Rattle.kinds.specs.Bounds.{Bound, unbounded, included, excluded, bound}
use Rattle.bounds.specs.Ranges.{range}
use Rattle.ranges.specs.declared.made.RangeError.{RangeError}
use Rattle.ranges.specs.declared.made.RangeError.TheVariants.{LongKey}
use Rattle.ranges.specs.declared.made.MadeBound.{MadeBound}
use Rattle.ranges.specs.Made.{Sized, too_long, kind_of, key_of, made_of, made_bound}
use Rattle.ranges.specs.Making.{new_of, made_range}
use Rattle.ranges.specs.Prefixes.{sub_start}
use Rattle.ranges.proofs.MadeLaws.{take_padded, length_padded, bound_back}

short_key : (b : Bound) → too_long b ≡ false → length (key_of b) ≤ key_limit
short_key unbounded e = omega arith
short_key (included k) e = ltb-false key_limit (length k) e
short_key (excluded k) e = ltb-false key_limit (length k) e

module _ (b : Bound) where
  pub was_made : {m : MadeBound} → Ok m ≡ made_bound b → m ≡ made_of b
  was_made {m} = go (too_long b)
    where
      go : (t : Bool) → Ok m ≡ cond t (Err LongKey) (Ok (made_of b)) → m ≡ made_of b
      go true h = cc
      go false h = cc

  pub sized : {m : MadeBound} → Ok m ≡ made_bound b → Sized m
  unfolding made_of
  sized {m} e = rw (was_made e) (go (too_long b) refl e)
    where
      go : (t : Bool) → too_long b ≡ t → Ok m ≡ cond t (Err LongKey) (Ok (made_of b)) → Sized (made_of b)
      go true h f = cc
      go false h f = record { len = short_key b h; bytes = length_padded (key_of b) (short_key b h) }

  -- a made bound read back
  pub read_back : {m : MadeBound} {k : List ℕ} → Ok m ≡ made_bound b → k ≡ take m.len m.bytes → bound m.kind k ≡ b
  unfolding made_of
  read_back {m} e h =
      ap (bound m.kind) h
      ∙ (λ i. bound (was_made e i).kind (take (was_made e i).len (was_made e i).bytes))
      ∙ ap (bound (kind_of b)) (take_padded (key_of b))
      ∙ bound_back b

module _ (s e : Bound) where
  pub long_start : too_long s ≡ true → Err LongKey ≡ made_range (range s e)
  unfolding new_of
  long_start h = rw h

  pub long_end : too_long e ≡ true → Err LongKey ≡ made_range (range s e)
  unfolding new_of
  long_end h = rw (h, or-true)

  pub start_failed : {x : RangeError} → Err x ≡ made_bound s → Err x ≡ made_range (range s e)
  start_failed {x} = go (too_long s) refl
    where
      go : (t : Bool) → too_long s ≡ t → Err x ≡ cond t (Err LongKey) (Ok (made_of s)) → Err x ≡ made_range (range s e)
      go true h f = let q : x ≡ LongKey = cc in ap Err q ∙ long_start h
      go false h f = cc

  pub end_failed : {x : RangeError} → Err x ≡ made_bound e → Err x ≡ made_range (range s e)
  end_failed {x} = go (too_long e) refl
    where
      go : (t : Bool) → too_long e ≡ t → Err x ≡ cond t (Err LongKey) (Ok (made_of e)) → Err x ≡ made_range (range s e)
      go true h f = let q : x ≡ LongKey = cc in ap Err q ∙ long_end h
      go false h f = cc

-- a prefix that is too long makes a start that is
longer : (p s : List ℕ) → key_limit < length p → key_limit < length (p ++ s)
longer p s h = omega (arith, length-append p s)

pub long_prefix : (p : List ℕ) (s : Bound) → key_limit < length p → too_long (sub_start p s) ≡ true
long_prefix p (included s) h = lt-ltb key_limit (length (p ++ s)) (longer p s h)
long_prefix p (excluded s) h = lt-ltb key_limit (length (p ++ s)) (longer p s h)
long_prefix [] unbounded h = absurd (omega arith)
long_prefix (x ∷ p) unbounded h = lt-ltb key_limit (length (x ∷ p)) h
