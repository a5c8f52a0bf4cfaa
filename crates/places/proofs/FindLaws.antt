-- What the place that was found for an id says of the machine: who is found, and the list with one put in or taken out.
use mathlib.Core.Path.{◌≡◌, refl, sym, ap, ◌∙◌}
use mathlib.Core.Bool.{not}
use mathlib.Core.List.{List, [], ◌∷◌, ◌++◌}
use mathlib.Core.Option.{none, some}
use mathlib.Core.Ordering.{eq}
use Prim.Native.Nat.{ℕ}
use Rattle.keys.specs.Order.{order, is_same}
use Rattle.keys.proofs.OrderLaws.{order_eq}
use Rattle.machine.specs.State.{Bytes, Txn, Above, Ascends, ids}
use Rattle.machine.specs.Lists.{keep}
use Rattle.machine.specs.Sets.{equal, put, find, without}
use Rattle.machine.proofs.ListLaws.{keep_append}
use Rattle.machine.proofs.SetLaws.{above_ascends}
use Rattle.machine.proofs.ActiveLaws.{above_none, without_same}
use Rattle.places.specs.Finds.{IdsPassed, Stops, HereIn, BeforeIn}

-- ---------------------------------------------------------------- past those with a lesser id

module _ (i : Bytes) where
  find_past : (front rest : List Txn) → IdsPassed i front → find i (front ++ rest) ≡ find i rest
  unfolding find
  find_past [] rest a = refl
  find_past (u ∷ us) rest a = rw (ap is_same a.0) (find_past us rest a.1)

  passed_none : (front : List Txn) → IdsPassed i front → find i front ≡ none
  unfolding find
  passed_none [] a = refl
  passed_none (u ∷ us) a = rw (ap is_same a.0) (passed_none us a.1)

  without_past : (front rest : List Txn) → IdsPassed i front → without i (front ++ rest) ≡ front ++ without i rest
  unfolding without
  without_past front rest a = keep_append (λ u. not (equal i u.id)) front rest ∙ ap (λ (l : List Txn). l ++ keep (λ u. not (equal i u.id)) rest) (without_same i front (passed_none front a))

put_past : (t : Txn) (front rest : List Txn) → IdsPassed t.id front → put t (front ++ rest) ≡ front ++ put t rest
unfolding put
put_past t [] rest a = refl
put_past t (u ∷ us) rest a = rw a.0 (ap (λ (l : List Txn). u ∷ l) (put_past t us rest a.1))

ascends_rest : (front : List Txn) (t : Txn) (back : List Txn) → Ascends (ids (front ++ (t ∷ back))) → Above t.id (ids back)
ascends_rest [] t back a = a
ascends_rest (u ∷ us) t back a = ascends_rest us t back (above_ascends u.id (ids (us ++ (t ∷ back))) a)

-- ---------------------------------------------------------------- at the place that was found

module _ {s : List ℕ} {at : ℕ} {id : Bytes} {ts : List Txn} {e p q : ℕ} (x : HereIn s at id ts e p q) where
  pub here_id : id ≡ x.one.id
  here_id = order_eq id x.one.id x.same

  pub here_finds : find id ts ≡ some x.one
  unfolding find
  here_finds = rw x.whole (find_past id x.front (x.one ∷ x.back) x.passed ∙ rw (ap is_same x.same))

  pub here_puts : (t : Txn) → t.id ≡ x.one.id → put t ts ≡ x.front ++ (t ∷ x.back)
  unfolding put
  here_puts t h =
      let i : id ≡ t.id = here_id ∙ sym h in
      let o : order t.id x.one.id ≡ eq = rw (← i) x.same in
      rw x.whole (put_past t x.front (x.one ∷ x.back) (rw (← i) x.passed) ∙ rw o)

  pub here_without : Ascends (ids ts) → without id ts ≡ x.front ++ x.back
  unfolding without keep
  here_without a =
      let none_after : find id x.back ≡ none = rw here_id (above_none x.one.id x.back (ascends_rest x.front x.one x.back (rw x.whole at a))) in
      rw x.whole (without_past id x.front (x.one ∷ x.back) x.passed ∙ ap (λ (l : List Txn). x.front ++ l) (rw (ap is_same x.same) (without_same id x.back none_after)))

-- ---------------------------------------------------------------- at the place where it belongs

module _ {s : List ℕ} {at : ℕ} {id : Bytes} {ts : List Txn} {e p : ℕ} (x : BeforeIn s at id ts e p) where
  pub before_puts : (t : Txn) → t.id ≡ id → put t ts ≡ x.front ++ (t ∷ x.back)
  unfolding put
  before_puts t h = rw x.whole (put_past t x.front x.back (rw h x.passed) ∙ ap (λ (l : List Txn). x.front ++ l) (first x.back x.stops))
    where
      first : (back : List Txn) → Stops id back → put t back ≡ t ∷ back
      first [] a = refl
      first (u ∷ us) a = rw (h, a)

  pub before_finds : Ascends (ids ts) → find id ts ≡ none
  before_finds a = rw x.whole (find_past id x.front x.back x.passed ∙ none_after x.front x.back (rw x.whole at a) x.stops)
    where
      none_after : (front back : List Txn) → Ascends (ids (front ++ back)) → Stops id back → find id back ≡ none
      none_after front [] a o = above_none id [] tt
      none_after front (u ∷ us) a o = above_none id (u ∷ us) (o, ascends_rest front u us a)

  pub before_without : Ascends (ids ts) → without id ts ≡ ts
  before_without a = without_same id ts (before_finds a)
