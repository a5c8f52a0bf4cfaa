-- Document 01's rows 0 and 1: the value that is answered then, and what the room holds after it.
use Prim.Native.Nat.{◌+◌, ◌-◌, ◌≤◌}
use mathlib.Core.Path.{◌≡◌, refl, sym, ap, ◌∙◌}
use mathlib.Core.List.{[], ◌∷◌}
use mathlib.Core.Option.{some}
use native.Mathlib.Omega.{arith}
use lib.ListN.{length, length-append}
use Rattle.machine.specs.State.{Bytes, Txn, State, Ceilings, new_txn, set_of, fresh_state, txn_marks, marks, MachineState}
use Rattle.machine.specs.Sets.{insert_all, find}
use Rattle.machine.specs.Calls.{Op, Call, fresh, on, Room, short, broken, holding, Answer, Reply, replied, reply}
use Rattle.machine.specs.Serve.{with_txn, answer, serve}
use Rattle.machine.specs.Words.{DoneValue, absent_value, absent_state}
use Rattle.machine.proofs.SetLaws.{insert_all_longer}
use Rattle.machine.proofs.WhichLaws.{set_marks}
use Rattle.machine.proofs.ActiveLaws.{find_id, put_finds, put_known_sum, without_same}
use Rattle.machine.proofs.Kept.{RoomOk, refusal_number}
use Rattle.machine.proofs.Effects as E
use Rattle.machine.proofs.Effects.{Effect, effect}

-- ---------------------------------------------------------------- status 1

pub absent_changes : (L : Ceilings) (s : State) (c : Op) → (serve L (holding s) (on c)).status ≡ 1
    → serve L (holding s) (on c) ≡ replied 1 (absent_value c s) (holding (absent_state c s))
unfolding serve
absent_changes L s c e = of_effect c (answer L s c) (effect L s c) e
  where
    of_effect : (c : Op) (x : Answer) → Effect L s c x → (reply s x).status ≡ 1
        → reply s x ≡ replied 1 (absent_value c s) (holding (absent_state c s))
    of_effect c _ (E.refuses r) e = absurd (omega (arith, (refusal_number r).0))
    of_effect _ _ (E.misses i (E.seeks_keys w bs) q) e = refl
    of_effect _ _ (E.misses i (E.seeks_range bs) q) e = refl
    of_effect _ _ (E.misses i E.seeks_check q) e = refl
    of_effect _ _ (E.nobody q) e = refl
    of_effect _ _ (E.advances i n q) e = refl
    of_effect _ _ (E.prunes i u d q) e = rw (d, without_same i s.active q)
    of_effect _ _ (E.checks i t q) e = absurd (omega arith)
    of_effect _ _ (E.sees_least m q) e = absurd (omega arith)
    of_effect _ _ (E.begins i u d h q f) e = absurd (omega arith)
    of_effect c _ (E.tracks i t t' u w d q a f) e = absurd (omega arith)
    of_effect _ _ (E.commits i n t u d q f) e = absurd (omega arith)
    of_effect _ _ (E.batches n bs ks u d q h f) e = absurd (omega arith)
    of_effect _ _ (E.drops i t u d q) e = absurd (omega arith)

-- ---------------------------------------------------------------- status 0

pub record Done (c : Op) (s : State) (r : Reply) : Type 0 where
  pub after : State
  pub room : r.room ≡ holding after
  pub value : DoneValue c s after r.value

-- "fresh: given number"
abbrev pub DoneCall : Room → Call → Reply → Type 0
DoneCall room (fresh n) r = (r.value ≡ n) × (r.room ≡ holding (fresh_state n))
DoneCall short (on c) r = ⊥
DoneCall broken (on c) r = ⊥
DoneCall (holding s) (on c) r = Done c s r

module _ (L : Ceilings) (s : State) (ok : MachineState L s) (i : Bytes) (t : Txn) (found : find i s.active ≡ some t) where
  -- what the transaction stores more, the state stores more
  stored : (t' : Txn) (u : State) → u ≡ with_txn t' s → t'.id ≡ t.id → txn_marks t ≤ txn_marks t'
      → marks u ≡ marks s + (txn_marks t' - txn_marks t)
  stored t' u e q h =
      let k = ap (λ j. find j s.active) (q ∙ sym (find_id i s.active t found)) ∙ found in
      rw e (omega (arith, put_known_sum txn_marks t' s.active t k ok.distinct))

module _ (L : Ceilings) (s : State) (ok : MachineState L s) where
  done_on : (c : Op) (x : Answer) → Effect L s c x → (reply s x).status ≡ 0 → Done c s (reply s x)
  done_on c _ (E.refuses r) e = absurd (omega (arith, (refusal_number r).0))
  done_on c _ (E.misses i q n) e = absurd (omega arith)
  done_on _ _ (E.nobody q) e = absurd (omega arith)
  done_on _ _ (E.advances i n q) e = absurd (omega arith)
  done_on _ _ (E.prunes i u d q) e = absurd (omega arith)
  done_on _ _ (E.checks i t q) e = record { after = s; room = refl; value = record { txn = t; active = q; value = refl } }
  done_on _ _ (E.sees_least m q) e = record { after = s; room = refl; value = q }
  done_on _ _ (E.begins i u d h q f) e =
      record { after = u; room = refl; value = record { last = refl; start = rw d (put_finds (new_txn i s.last) s.active) } }
  done_on _ _ (E.tracks i t t' u w d q (E.adds_keys which bs ks a h) f) e =
      let set = set_of which t in
      let more = set_marks which (insert_all ks set) t (length (insert_all ks set) - length set) (omega (arith, insert_all_longer ks set)) in
      record { after = u; room = refl; value = stored L s ok i t q _ u d refl (omega (arith, more)) }
  done_on _ _ (E.tracks i t t' u w d q (E.adds_range bs r a h k) f) e =
      record { after = u; room = refl; value = stored L s ok i t q _ u d refl (omega (arith, length-append t.ranges (r ∷ []))) }
  done_on _ _ (E.commits i n t u d q f) e =
      record { after = u; room = refl; value = record { last = rw d; larger = rw d } }
  done_on _ _ (E.batches n bs ks u d q h f) e =
      record { after = u; room = refl; value = record { last = rw d; larger = rw d } }
  done_on _ _ (E.drops i t u d q) e = record { after = u; room = refl; value = refl }

pub done_values : (L : Ceilings) (room : Room) (c : Call) → RoomOk L room → (serve L room c).status ≡ 0
    → DoneCall room c (serve L room c)
unfolding serve
done_values L short (fresh n) ok e = absurd (omega arith)
done_values L short (on c) ok e = absurd (omega arith)
done_values L broken (fresh n) ok e = (refl, refl)
done_values L broken (on c) ok e = absurd (omega arith)
done_values L (holding s) (fresh n) ok e = (refl, refl)
done_values L (holding s) (on c) ok e = done_on L s ok c (answer L s c) (effect L s c) e
