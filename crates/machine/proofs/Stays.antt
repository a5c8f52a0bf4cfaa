-- Demand 3, its last sentence: once said, a conflict stays said until the transaction commits or is dropped, or the room is
-- made fresh again.
use Prim.Native.Nat.{ℕ}
use mathlib.Core.Path.{◌≡◌, refl, sym, ap, ◌∙◌, subst}
use mathlib.Core.Bool.{Bool, true, false, ◌&&◌, true≢false}
use mathlib.Core.List.Memᴰ
use mathlib.Core.List.{List, [], ◌∷◌, ◌++◌, Memᴰ}
use mathlib.Core.Logic.{inr}
use mathlib.Core.Option.{none, some}
use lib.Dec.{eqb}
use Rattle.machine.specs.declared.Which.{Which}
use Rattle.machine.specs.declared.Which.TheVariants.{Writes, Reads}
use Rattle.machine.specs.State.{Bytes, Txn, Entry, State, Ceilings, new_txn}
use Rattle.machine.specs.Sets.{equal, put, find}
use Rattle.machine.specs.Calls.{Op, check, Call, fresh, on, Room, short, broken, holding, Answer, reply}
use Rattle.machine.specs.Serve.{add_keys, with_txn, answer, serve}
use Rattle.machine.specs.History.{World, after_call, after_calls, start, active_of, InTracked, in_writes_lem, in_reads_lem, in_range, Conflict, ends_op, ends, Lives}
use Rattle.machine.proofs.SetLaws.{equal_eq, insert_all_holds}
use Rattle.machine.proofs.ActiveLaws.{find_id, put_finds, put_finds_other, without_finds, without_same}
use Rattle.machine.proofs.Effects as E
use Rattle.machine.proofs.Effects.{Adds, Effect, effect}
use Rattle.machine.proofs.Record.{world, FollowsRoom, FollowsWorld, after, after_refused, adds_same, fresh_follows, next_follows, run_follows, check_verdict}

-- ---------------------------------------------------------------- what was a conflict is one

longer : (t : Txn) (h more : List Entry) → Conflict t h → Conflict t (h ++ more)
longer t h more c =
    record {
      by = c.by;
      recorded = Memᴰ.append_left more c.recorded;
      later = c.later;
      key = c.key;
      wrote = c.wrote;
      tracked = c.tracked;
    }

module _ (L : Ceilings) (i : Bytes) (t : Txn) where
  adds_tracked : (t' : Txn) (c : Op) (k : Bytes) → Adds L i t c t' → InTracked t k → InTracked t' k
  adds_tracked _ _ k (E.adds_keys w bs ks q l) (in_writes_lem m) = in_writes_lem (held w)
    where
      held : (w : Which) → Memᴰ k (add_keys w ks t).writes
      held Writes = (insert_all_holds k ks _).1 (inr m)
      held Reads = m
  adds_tracked _ _ k (E.adds_keys w bs ks q l) (in_reads_lem m) = in_reads_lem (held w)
    where
      held : (w : Which) → Memᴰ k (add_keys w ks t).reads
      held Writes = m
      held Reads = (insert_all_holds k ks _).1 (inr m)
  adds_tracked _ _ k (E.adds_keys w bs ks q l) (in_range r m e) = in_range r m e
  adds_tracked _ _ k (E.adds_range bs s q l g) (in_writes_lem m) = in_writes_lem m
  adds_tracked _ _ k (E.adds_range bs s q l g) (in_reads_lem m) = in_reads_lem m
  adds_tracked _ _ k (E.adds_range bs s q l g) (in_range r m e) = in_range r (Memᴰ.append_left (s ∷ []) m) e

  adds_conflict : (t' : Txn) (c : Op) (h : List Entry) → Adds L i t c t' → Conflict t h → Conflict t' h
  adds_conflict t' c h a d =
      record {
        by = d.by;
        recorded = d.recorded;
        later = rw (adds_same L i t t' c a).1 d.later;
        key = d.key;
        wrote = d.wrote;
        tracked = adds_tracked t' c d.key a d.tracked;
      }

-- ---------------------------------------------------------------- the transaction stays active

-- one is active and one is not, so they are not the same
other : (i j : Bytes) (us : List Txn) (t : Txn) → find i us ≡ some t → find j us ≡ none → equal i j ≡ false
other i j us t e f = go (equal i j) refl
  where
    go : (b : Bool) → equal i j ≡ b → b ≡ false
    go false q = refl
    go true q = cc (equal_eq i j q)

-- after h with t came w: the transaction is still active, and what was a conflict is one
record Still (i : Bytes) (t : Txn) (h : List Entry) (w : World) : Type 0 where
  txn : Txn
  active : find i (active_of w.room) ≡ some txn
  said : Conflict t h → Conflict txn w.history

module _ (L : Ceilings) (s : State) (h : List Entry) (i : Bytes) (t : Txn) (e : find i s.active ≡ some t) where
  found : (u : State) (more : List Entry) → find i u.active ≡ find i s.active → Still i t h (world (holding u) (h ++ more))
  found u more q = record { txn = t; active = q ∙ e; said = longer t h more }

  same : (u : State) → find i u.active ≡ find i s.active → Still i t h (world (holding u) h)
  same u q = record { txn = t; active = q ∙ e; said = λ c. c }

  still_tracked :
      (c : Op) (j : Bytes) (v v' : Txn) (more : List Entry)
      → find j s.active ≡ some v
      → Adds L j v c v'
      → Still i t h (world (holding (with_txn v' s)) (h ++ more))
  still_tracked c j v v' more q a = go (equal i j) refl
    where
      its_id : v'.id ≡ j
      its_id = (adds_same L j v v' c a).0 ∙ sym (find_id j s.active v q)

      go : (b : Bool) → equal i j ≡ b → Still i t h (world (holding (with_txn v' s)) (h ++ more))
      go false n = found (with_txn v' s) more (put_finds_other i v' s.active (ap (equal i) its_id ∙ n))
      go true n =
          let ij = equal_eq i j n in
          let vt : v ≡ t = cc in
          record {
            txn = v';
            active = ap (λ k. find k (put v' s.active)) (ij ∙ sym its_id) ∙ put_finds v' s.active;
            said = λ d. longer v' h more (adds_conflict L j v v' c h a (rw vt d));
          }

  still :
      (c : Op) (x : Answer)
      → Effect L s c x
      → (eqb (reply s x).status 0 && ends_op i c) ≡ false
      → Still i t h (world (reply s x).room (after s c h x))
  still c _ (E.refuses r) n = subst (λ z. Still i t h (world (holding s) z)) (sym (after_refused s c h r)) (same s refl)
  still c _ (E.misses j k q) n = same s refl
  still _ _ (E.nobody q) n = same s refl
  still _ _ (E.advances j m q) n = same _ refl
  still _ _ (E.prunes j u d q) n = same u (rw d (ap (find i) (without_same j s.active q)))
  still _ _ (E.checks j v q) n = found s _ refl
  still _ _ (E.sees_least m q) n = found s _ refl
  still _ _ (E.begins j u d k q g) n =
      found u _ (rw d (put_finds_other i (new_txn j s.last) s.active (other i j s.active t e q)))
  still c _ (E.tracks j v v' u w d q a g) n = rw d (still_tracked c j v v' _ q a)
  still _ _ (E.commits j m v u d q g) n = found u _ (rw d (without_finds j i s.active n))
  still _ _ (E.batches m bs ks u d q k g) n = found u _ (rw d)
  still _ _ (E.drops j v u d q) n = found u _ (rw d (without_finds j i s.active n))

still_next :
    (L : Ceilings) (room : Room) (h : List Entry) (c : Call) (i : Bytes) (t : Txn)
    → FollowsRoom L room h
    → find i (active_of room) ≡ some t
    → (eqb (serve L room c).status 0 && ends i c) ≡ false
    → Still i t h (after_call L (world room h) c)
unfolding serve
still_next L short h c i t f e n = absurd f
still_next L broken h c i t f e n = absurd f
still_next L (holding s) h (fresh m) i t f e n = absurd (true≢false n)
still_next L (holding s) h (on c) i t f e n = still L s h i t e c (answer L s c) (effect L s c) n

still_run :
    (L : Ceilings) (w : World) (cs : List Call) (i : Bytes) (t : Txn)
    → FollowsWorld L w
    → find i (active_of w.room) ≡ some t
    → Lives L i w cs
    → Still i t w.history (after_calls L w cs)
unfolding after_calls
still_run L w [] i t f e n = record { txn = t; active = e; said = λ c. c }
still_run L w (c ∷ cs) i t f e n =
    let a = still_next L w.room w.history c i t f e n.0 in
    let b = still_run L (after_call L w c) cs i a.txn (next_follows L w.room w.history c f) a.active n.1 in
    record { txn = b.txn; active = b.active; said = λ d. b.said (a.said d) }

-- said after some calls from fresh, it is said after any more that do not end the transaction
pub stays_said :
    (L : Ceilings) (n : ℕ) (cs ds : List Call) (i : Bytes) (t : Txn)
    → find i (active_of (after_calls L (start n) cs).room) ≡ some t
    → (serve L (after_calls L (start n) cs).room (on (check i))).value ≡ 1
    → Lives L i (after_calls L (start n) cs) ds
    → (serve L (after_calls L (after_calls L (start n) cs) ds).room (on (check i))).value ≡ 1
stays_said L n cs ds i t e one lives =
    let f = run_follows L (start n) cs (fresh_follows L n) in
    let before = check_verdict L _ _ i t f e in
    let s = still_run L (after_calls L (start n) cs) ds i t f e lives in
    let now = check_verdict L _ _ i s.txn (run_follows L (after_calls L (start n) cs) ds f) s.active in
    now.conflict.1 (s.said (before.conflict.0 one))
