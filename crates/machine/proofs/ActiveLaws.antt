-- Laws of the active transactions: who is found after one is put or taken out, that the ids still ascend, and what it adds
-- to a sum.
use Prim.Native.Nat.{ℕ, suc, ◌+◌}
use mathlib.Core.Path.{◌≡◌, refl, sym, ap, ◌∙◌}
use mathlib.Core.Bool.{Bool, true, false, cond, not, true≢false}
use mathlib.Core.List.Memᴰ
use mathlib.Core.List.{List, [], ◌∷◌, Memᴰ}
use mathlib.Core.Logic.{◌↔◌, ◌⊎◌, inl, inr}
use mathlib.Core.Option.{none, some}
use mathlib.Core.Ordering.{Ordering, lt, eq, gt}
use native.Mathlib.Omega.{arith}
use lib.ListN.{length}
use Rattle.keys.specs.Order.{order, is_same}
use Rattle.keys.proofs.OrderLaws.{order_eq}
use Rattle.machine.specs.Lists.{keep, sum, All}
use Rattle.machine.specs.State.{Bytes, Txn, Above, Ascends, ids}
use Rattle.machine.specs.Sets.{equal, stands, insert, put, find, without}
use Rattle.machine.proofs.ListLaws.{all_map, all_of, keep_all, keep_whole, length_sum}
use Rattle.machine.proofs.SetLaws.{equal_refl, equal_eq, less_more, above_trans, above_ascends, insert_ascends}

-- ---------------------------------------------------------------- finding

module _ (i : Bytes) where
  pub find_id : (us : List Txn) (t : Txn) → find i us ≡ some t → i ≡ t.id
  unfolding find
  find_id [] t e = cc
  find_id (u ∷ us) t e = step (find_id us t) (equal i u.id) refl e
    where
      step : (find i us ≡ some t → i ≡ t.id) → (b : Bool) → equal i u.id ≡ b → cond b (some u) (find i us) ≡ some t
          → i ≡ t.id
      step ih true f q = let h : u ≡ t = cc in equal_eq i u.id f ∙ ap (λ (v : Txn). v.id) h
      step ih false f q = ih q

  pub find_holds : (us : List Txn) (t : Txn) → find i us ≡ some t → Memᴰ t us
  unfolding find
  find_holds [] t e = absurd (let z : ◌≡◌ {A = ℕ} 0 1 = cc in omega arith)
  find_holds (u ∷ us) t e = step (find_holds us t) (equal i u.id) e
    where
      step : (find i us ≡ some t → Memᴰ t us) → (b : Bool) → cond b (some u) (find i us) ≡ some t → Memᴰ t (u ∷ us)
      step ih true q = let h : t ≡ u = cc in Memᴰ.head h
      step ih false q = Memᴰ.tail (ih q)

  -- nobody is found exactly when no id is this one
  pub find_none : (us : List Txn) → (find i us ≡ none) ↔ All (λ u. equal i u.id ≡ false) us
  unfolding find
  find_none [] = (λ e. tt, λ a. refl)
  find_none (u ∷ us) = (λ e. out (find_none us).0 (equal i u.id) refl e, λ a. rw a.0 ((find_none us).1 a.1))
    where
      out : (find i us ≡ none → All (λ v. equal i v.id ≡ false) us) → (b : Bool) → equal i u.id ≡ b
          → cond b (some u) (find i us) ≡ none → (equal i u.id ≡ false) × All (λ v. equal i v.id ≡ false) us
      out ih true f q = absurd (let z : ◌≡◌ {A = ℕ} 0 1 = cc in omega arith)
      out ih false f q = (f, ih q)

above_ids : (p : Bytes) (us : List Txn) → Above p (ids us) → All (λ u. order p u.id ≡ lt) us
above_ids p [] a = tt
above_ids p (u ∷ us) a = (a.0, above_ids p us (above_trans p u.id (ids us) a.0 a.1))

pub above_none : (p : Bytes) (us : List Txn) → Above p (ids us) → find p us ≡ none
above_none p us a = (find_none p us).1 (all_map _ _ (λ u. ap is_same) us (above_ids p us a))

-- ids are distinct, so each active one is found by its id
pub finds : (us : List Txn) (t : Txn) → Memᴰ t us → Ascends (ids us) → find t.id us ≡ some t
unfolding find
finds [] t m a = absurd (Memᴰ.not-nil m)
finds (u ∷ us) t m a = step (λ n. finds us t n (above_ascends u.id (ids us) a)) (Memᴰ.cases_cons m)
  where
    step : (Memᴰ t us → find t.id us ≡ some t) → (t ≡ u) ⊎ Memᴰ t us
        → cond (equal t.id u.id) (some u) (find t.id us) ≡ some t
    step ih (inl q) = rw (← q, equal_refl t.id)
    step ih (inr n) = rw (ap is_same (less_more u.id t.id (all_of _ us t n (above_ids u.id us a)))) (ih n)

-- ---------------------------------------------------------------- putting

put_ids : (t : Txn) (us : List Txn) → ids (put t us) ≡ insert t.id (ids us)
unfolding put insert
put_ids t [] = refl
put_ids t (u ∷ us) = step (put_ids t us) (order t.id u.id) refl
  where
    step : ids (put t us) ≡ insert t.id (ids us) → (o : Ordering) → order t.id u.id ≡ o
        → ids (stands o (t ∷ u ∷ us) (t ∷ us) (u ∷ put t us)) ≡ stands o (t.id ∷ u.id ∷ ids us) (u.id ∷ ids us) (u.id ∷ insert t.id (ids us))
    step ih lt e = refl
    step ih eq e = ap (λ i. i ∷ ids us) (order_eq _ _ e)
    step ih gt e = ap (λ is. u.id ∷ is) ih

pub put_ascends : (t : Txn) (us : List Txn) → Ascends (ids us) → Ascends (ids (put t us))
put_ascends t us a = rw put_ids (insert_ascends t.id (ids us) a)

pub put_all : (P : Txn → Type 0) (t : Txn) (us : List Txn) → P t → All P us → All P (put t us)
unfolding put
put_all P t [] p a = (p, tt)
put_all P t (u ∷ us) p a = step (put_all P t us p a.1) (order t.id u.id)
  where
    step : All P (put t us) → (o : Ordering) → All P (stands o (t ∷ u ∷ us) (t ∷ us) (u ∷ put t us))
    step ih lt = (p, a)
    step ih eq = (p, a.1)
    step ih gt = (a.0, ih)

pub put_finds : (t : Txn) (us : List Txn) → find t.id (put t us) ≡ some t
unfolding put find
put_finds t [] = rw (equal_refl t.id)
put_finds t (u ∷ us) = step (put_finds t us) (order t.id u.id) refl
  where
    step : find t.id (put t us) ≡ some t → (o : Ordering) → order t.id u.id ≡ o
        → find t.id (stands o (t ∷ u ∷ us) (t ∷ us) (u ∷ put t us)) ≡ some t
    step ih lt e = rw (equal_refl t.id)
    step ih eq e = rw (equal_refl t.id)
    step ih gt e = rw (ap is_same e) ih

pub put_finds_other : (i : Bytes) (t : Txn) (us : List Txn) → equal i t.id ≡ false → find i (put t us) ≡ find i us
unfolding put find
put_finds_other i t [] h = rw h
put_finds_other i t (u ∷ us) h = step (put_finds_other i t us h) (order t.id u.id) refl
  where
    step : find i (put t us) ≡ find i us → (o : Ordering) → order t.id u.id ≡ o
        → find i (stands o (t ∷ u ∷ us) (t ∷ us) (u ∷ put t us)) ≡ cond (equal i u.id) (some u) (find i us)
    step ih lt e = rw h
    step ih eq e = rw (h, ← order_eq t.id u.id e, h)
    step ih gt e = ap (λ z. cond (equal i u.id) (some u) z) ih

-- a put leaves someone active
pub put_some : (t : Txn) (us : List Txn) → put t us ≡ [] → ⊥
unfolding put
put_some t [] e = let z : ◌≡◌ {A = ℕ} 0 1 = cc in omega arith
put_some t (u ∷ us) e = step (order t.id u.id) e
  where
    step : (o : Ordering) → stands o (t ∷ u ∷ us) (t ∷ us) (u ∷ put t us) ≡ [] → ⊥
    step lt q = let z : ◌≡◌ {A = ℕ} 0 1 = cc in omega arith
    step eq q = let z : ◌≡◌ {A = ℕ} 0 1 = cc in omega arith
    step gt q = let z : ◌≡◌ {A = ℕ} 0 1 = cc in omega arith

-- ---------------------------------------------------------------- taking out

keep_above : (p : Bytes) (q : Txn → Bool) (us : List Txn) → Above p (ids us) → Above p (ids (keep q us))
unfolding keep
keep_above p q [] a = tt
keep_above p q (u ∷ us) a = step (λ p' a'. keep_above p' q us a') (q u)
  where
    step : ((p' : Bytes) → Above p' (ids us) → Above p' (ids (keep q us))) → (b : Bool)
        → Above p (ids (cond b (u ∷ keep q us) (keep q us)))
    step ih true = (a.0, ih u.id a.1)
    step ih false = ih p (above_trans p u.id (ids us) a.0 a.1)

keep_ascends : (q : Txn → Bool) (us : List Txn) → Ascends (ids us) → Ascends (ids (keep q us))
unfolding keep
keep_ascends q [] a = tt
keep_ascends q (u ∷ us) a = step (keep_ascends q us (above_ascends u.id (ids us) a)) (q u)
  where
    step : Ascends (ids (keep q us)) → (b : Bool) → Ascends (ids (cond b (u ∷ keep q us) (keep q us)))
    step ih true = keep_above u.id q us a
    step ih false = ih

module _ (i : Bytes) where
  pub without_ascends : (us : List Txn) → Ascends (ids us) → Ascends (ids (without i us))
  unfolding without
  without_ascends us a = keep_ascends _ us a

  pub without_all : (P : Txn → Type 0) (us : List Txn) → All P us → All P (without i us)
  unfolding without
  without_all P us a = keep_all P _ us a

  pub without_finds_none : (us : List Txn) → find i (without i us) ≡ none
  unfolding without keep find
  without_finds_none [] = refl
  without_finds_none (u ∷ us) = step (without_finds_none us) (equal i u.id) refl
    where
      step : find i (without i us) ≡ none → (b : Bool) → equal i u.id ≡ b
          → find i (cond (not b) (u ∷ without i us) (without i us)) ≡ none
      step ih true e = ih
      step ih false e = rw e ih

  pub without_finds : (j : Bytes) (us : List Txn) → equal j i ≡ false → find j (without i us) ≡ find j us
  unfolding without keep find
  without_finds j [] h = refl
  without_finds j (u ∷ us) h = step (without_finds j us h) (equal i u.id) refl
    where
      step : find j (without i us) ≡ find j us → (b : Bool) → equal i u.id ≡ b
          → find j (cond (not b) (u ∷ without i us) (without i us)) ≡ cond (equal j u.id) (some u) (find j us)
      step ih true e = rw (← equal_eq i u.id e, h) ih
      step ih false e = ap (λ z. cond (equal j u.id) (some u) z) ih

  -- taking out one who is not there changes nothing
  pub without_same : (us : List Txn) → find i us ≡ none → without i us ≡ us
  unfolding without
  without_same us e = keep_whole _ us (all_map _ _ (λ u. ap not) us ((find_none i us).0 e))

-- ---------------------------------------------------------------- sums over the active ones

module _ (f : Txn → ℕ) where
  pub put_new_sum : (t : Txn) (us : List Txn) → find t.id us ≡ none → sum f (put t us) ≡ f t + sum f us
  unfolding put sum
  put_new_sum t [] e = refl
  put_new_sum t (u ∷ us) e = step (put_new_sum t us) (order t.id u.id) refl ((find_none t.id (u ∷ us)).0 e)
    where
      step : (find t.id us ≡ none → sum f (put t us) ≡ f t + sum f us) → (o : Ordering) → order t.id u.id ≡ o
          → All (λ v. equal t.id v.id ≡ false) (u ∷ us)
          → sum f (stands o (t ∷ u ∷ us) (t ∷ us) (u ∷ put t us)) ≡ f t + (f u + sum f us)
      step ih lt q a = refl
      step ih eq q a = absurd (true≢false (sym (ap is_same q) ∙ a.0))
      step ih gt q a = omega (arith, ih ((find_none t.id us).1 a.1))

  pub put_known_sum : (t : Txn) (us : List Txn) (v : Txn) → find t.id us ≡ some v → Ascends (ids us)
      → sum f (put t us) + f v ≡ f t + sum f us
  unfolding put sum find
  put_known_sum t [] v e a = absurd (let z : ◌≡◌ {A = ℕ} 0 1 = cc in omega arith)
  put_known_sum t (u ∷ us) v e a = step (λ q. put_known_sum t us v q (above_ascends u.id (ids us) a)) (order t.id u.id) refl e
    where
      step : (find t.id us ≡ some v → sum f (put t us) + f v ≡ f t + sum f us) → (o : Ordering)
          → order t.id u.id ≡ o → cond (is_same o) (some u) (find t.id us) ≡ some v
          → sum f (stands o (t ∷ u ∷ us) (t ∷ us) (u ∷ put t us)) + f v ≡ f t + (f u + sum f us)
      step ih lt q e =
          let h = above_none t.id us (above_trans t.id u.id (ids us) q a) in
          absurd (let z : ◌≡◌ {A = ℕ} 0 1 = cc in omega arith)
      step ih eq q e = let h : u ≡ v = cc in omega (arith, ap f h)
      step ih gt q e = omega (arith, ih e)

  pub without_sum : (i : Bytes) (us : List Txn) (t : Txn) → find i us ≡ some t → Ascends (ids us)
      → sum f (without i us) + f t ≡ sum f us
  unfolding find without keep sum
  without_sum i [] t e a = absurd (let z : ◌≡◌ {A = ℕ} 0 1 = cc in omega arith)
  without_sum i (u ∷ us) t e a = step (λ q. without_sum i us t q (above_ascends u.id (ids us) a)) (equal i u.id) refl e
    where
      step : (find i us ≡ some t → sum f (without i us) + f t ≡ sum f us) → (b : Bool) → equal i u.id ≡ b
          → cond b (some u) (find i us) ≡ some t
          → sum f (cond (not b) (u ∷ without i us) (without i us)) + f t ≡ f u + sum f us
      step ih true q e =
          let h : u ≡ t = cc in
          let k : find i us ≡ none = rw (equal_eq i u.id q) (above_none u.id us a) in
          omega (arith, ap f h, ap (sum f) (without_same i us k))
      step ih false q e = omega (arith, ih e)

pub put_new_length : (t : Txn) (us : List Txn) → find t.id us ≡ none → length (put t us) ≡ suc (length us)
put_new_length t us e = omega (arith, length_sum (put t us), length_sum us, put_new_sum (λ u. 1) t us e)

pub put_known_length : (t : Txn) (us : List Txn) (v : Txn) → find t.id us ≡ some v → Ascends (ids us)
    → length (put t us) ≡ length us
put_known_length t us v e a = omega (arith, length_sum (put t us), length_sum us, put_known_sum (λ u. 1) t us v e a)

pub without_length : (i : Bytes) (us : List Txn) (t : Txn) → find i us ≡ some t → Ascends (ids us)
    → suc (length (without i us)) ≡ length us
without_length i us t e a = omega (arith, length_sum (without i us), length_sum us, without_sum (λ u. 1) i us t e a)
