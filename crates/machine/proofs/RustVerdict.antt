-- The Rust's check says what the machine's says: its two searches, one for written keys and one for read ones, find a
-- conflict exactly when the one search of Sets.antt does.
use Prim.Native.Nat.{ℕ}
use mathlib.Core.Path.{◌≡◌, refl, sym, ap, ap₂, ◌∙◌}
use mathlib.Core.Bool.{Bool, true, false, not, ◌&&◌, ◌||◌, not-not, and-false, or_assoc, and-or_distrib_left}
use mathlib.Core.List.{List, [], ◌∷◌}
use mathlib.Core.Option.{some}
use lib.Dec.{ltb}
use Rattle.bounds.specs.Ranges.{Range, holds}
use Rattle.machine.specs.Lists.{any}
use Rattle.machine.specs.State.{Bytes, Txn, Entry}
use Rattle.machine.specs.Sets.{equal, tracks, conflict}
use Rattle.machine.specs.Rust.{Committed, expect, is_disjoint, has_write_write_conflict, has_read_write_conflict, check_txn, Same}

-- ---------------------------------------------------------------- searches

or_swap : (a x b y : Bool) → ((a || x) || (b || y)) ≡ ((a || b) || (x || y))
or_swap true x b y = refl
or_swap false true true y = refl
or_swap false true false y = refl
or_swap false false b y = refl

-- one search by two tests is two searches
any_or : {A : Type 0} (p q : A → Bool) (xs : List A) → any (λ x. p x || q x) xs ≡ (any p xs || any q xs)
unfolding any
any_or p q [] = refl
any_or p q (x ∷ xs) = ap (λ z. (p x || q x) || z) (any_or p q xs) ∙ or_swap (p x) (q x) (any p xs) (any q xs)

any_none : {A : Type 0} (p : A → Bool) (xs : List A) → ((x : A) → p x ≡ false) → any p xs ≡ false
unfolding any
any_none p [] h = refl
any_none p (x ∷ xs) h = rw (h x) (any_none p xs h)

-- of two nested searches either may be the outer one
any_any : (ks : List Bytes) (rs : List Range) → any (λ r. any (holds r) ks) rs ≡ any (λ k. any (λ r. holds r k) rs) ks
unfolding any
any_any ks [] = sym (any_none _ ks (λ k. refl))
any_any ks (r ∷ rs) =
    ap (λ z. any (holds r) ks || z) (any_any ks rs) ∙ sym (any_or (holds r) (λ k. any (λ r. holds r k) rs) ks)

-- ---------------------------------------------------------------- the early ends change nothing

shares : (a b : List Bytes) → not (is_disjoint a b) ≡ any (λ k. any (equal k) a) b
unfolding is_disjoint
shares a b = not-not (any (λ k. any (equal k) a) b)

shares_nothing : (b : List Bytes) → not (is_disjoint [] b) ≡ false
unfolding any
shares_nothing b = shares [] b ∙ any_none _ b (λ k. refl)

module _ (cs : List Committed) (started : ℕ) where
  abbrev wrote : List Bytes → Committed → Bool
  wrote ks c = ltb started (expect c.committed_seq) && not (is_disjoint ks c.write_keys)

  abbrev overwrote : List Bytes → List Range → Committed → Bool
  overwrote ks rs c =
      ltb started (expect c.committed_seq)
      && (not (is_disjoint ks c.write_keys) || any (λ r. any (holds r) c.write_keys) rs)

  write_search : (ks : List Bytes) → has_write_write_conflict cs ks started ≡ any (wrote ks) cs
  unfolding has_write_write_conflict
  write_search [] =
      sym (any_none _ cs λ c. rw (shares_nothing c.write_keys) (and-false (ltb started (expect c.committed_seq))))
  write_search (k ∷ ks) = refl

  read_search : (ks : List Bytes) (rs : List Range) → has_read_write_conflict cs ks rs started ≡ any (overwrote ks rs) cs
  unfolding has_read_write_conflict any
  read_search [] [] =
      sym (any_none _ cs λ c. rw (shares_nothing c.write_keys) (and-false (ltb started (expect c.committed_seq))))
  read_search [] (r ∷ rs) = refl
  read_search (k ∷ ks) rs = refl

-- ---------------------------------------------------------------- the verdict

-- a search among the Rust's entries and among the machine's
any_same : (p : Committed → Bool) (q : Entry → Bool)
    → ((c : Committed) (e : Entry) → c.committed_seq ≡ some e.seq → c.write_keys ≡ e.keys → p c ≡ q e)
    → (cs : List Committed) (es : List Entry) → Same cs es → any p cs ≡ any q es
unfolding any
any_same p q h [] [] s = refl
any_same p q h [] (e ∷ es) s = absurd s
any_same p q h (c ∷ cs) [] s = absurd s
any_same p q h (c ∷ cs) (e ∷ es) s = ap₂ ◌||◌ (h c e s.0.0 s.0.1) (any_same p q h cs es s.1)

module _ (t : Txn) where
  keys_same : (ks : List Bytes)
      → (not (is_disjoint t.writes ks) || (not (is_disjoint t.reads ks) || any (λ r. any (holds r) ks) t.ranges))
      ≡ any (tracks t) ks
  unfolding tracks
  keys_same ks =
      rw (shares t.writes ks, shares t.reads ks, any_any ks t.ranges) (
      sym (or_assoc (any written ks) (any read ks) (any ranged ks))
      ∙ ap (λ z. z || any ranged ks) (sym (any_or written read ks))
      ∙ sym (any_or (λ k. written k || read k) ranged ks))
    where
      written : Bytes → Bool
      written k = any (equal k) t.writes

      read : Bytes → Bool
      read k = any (equal k) t.reads

      ranged : Bytes → Bool
      ranged k = any (λ r. holds r k) t.ranges

  entry_same : (cs : List Committed) (c : Committed) (e : Entry)
      → c.committed_seq ≡ some e.seq → c.write_keys ≡ e.keys
      → (wrote cs t.start t.writes c || overwrote cs t.start t.reads t.ranges c)
      ≡ (ltb t.start e.seq && any (tracks t) e.keys)
  entry_same cs c e p q =
      sym (and-or_distrib_left (ltb t.start (expect c.committed_seq)) _ _)
      ∙ ap₂ ◌&&◌ (ap (λ n. ltb t.start (expect n)) p) (keys_same c.write_keys ∙ ap (any (tracks t)) q)

-- verdicts "equal the Rust's"
pub verdict_same : (t : Txn) (cs : List Committed) (es : List Entry) → Same cs es → check_txn cs (some t) ≡ conflict t es
unfolding conflict
verdict_same t cs es s =
    ap₂ ◌||◌ (write_search cs t.start t.writes) (read_search cs t.start t.reads t.ranges)
    ∙ sym (any_or (wrote cs t.start t.writes) (overwrote cs t.start t.reads t.ranges) cs)
    ∙ any_same _ _ (entry_same t cs) cs es s
