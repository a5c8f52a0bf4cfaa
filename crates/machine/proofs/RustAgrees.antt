-- Demand 2 on values: while nothing is refused, the machine's state is the Rust's, and its answers are the Rust's own.
use Prim.Native.Nat.{ℕ, suc, ◌<◌, max}
use mathlib.Core.Path.{◌≡◌, refl, sym, ap, subst, ◌∙◌}
use mathlib.Core.Bool.{Bool, true, false, cond, true≢false, false≢true}
use mathlib.Core.List.{List, [], ◌∷◌, ◌++◌, map}
use mathlib.Core.Option.{Option, none, some}
use native.Mathlib.Omega.{arith}
use borrow.Author.Tests.{eq-eqb}
use lib.Dec.{leb}
use lib.ListN.{length}
use Rattle.bounds.specs.Ranges.{Range}
use Rattle.fields.specs.Fields.{bounds_of}
use Rattle.machine.specs.Lists.{keep}
use Rattle.machine.specs.declared.Which.TheVariants.{Writes, Reads}
use Rattle.machine.specs.State.{Bytes, Txn, Entry, State, Ceilings, fresh_state, advanced, id_size}
use Rattle.machine.specs.Sets.{insert_all, put, find, without, least_of, least, prune, in_reach, any_active, conflict}
use Rattle.machine.specs.Calls.{Op, begin, check, commit, batch, drop_txn, minimum, on, Room, short, broken, holding, Refusal, Answer, done, absent, refused, Reply, replied, reply, ◌>>=◌, given}
use Rattle.machine.specs.Serve.{entry, verdict, with_txn, begun, entered, dropped, answer, serve}
use Rattle.machine.specs.History.{World, after_call, after_calls, start}
use Rattle.machine.specs.Rust.{Committed, Manager, manager, check_txn, check_has_conflict, min_with, min_started_seq, on_range, committed, clear_idle, retains, recycle, as_number, rust, rust_run, Same, Agree, Value, Unrefused}
use Rattle.machine.proofs.ListLaws.{not_nil}
use Rattle.machine.proofs.EntryLaws.{prune_rule, empty_rule, rule_idle, anyone_keeps}
use Rattle.machine.proofs.Kept.{refusal_number}
use Rattle.machine.proofs.RustVerdict.{verdict_same}
use Rattle.machine.proofs.Effects.{Adds, adds_keys, adds_range, Seeks, seeks_keys, seeks_range, seeks_check, Effect, refuses, misses, nobody, advances, prunes, checks, sees_least, begins, tracks, commits, batches, drops, effect}

-- ---------------------------------------------------------------- the minimum

least_same : (ts : List Txn) → min_started_seq ts ≡ least ts
unfolding min_started_seq least_of
least_same [] = refl
least_same (t ∷ []) = refl
least_same (t ∷ u ∷ us) = ap (λ m. some (min_with t.start m)) (least_same (u ∷ us))

-- ---------------------------------------------------------------- retained entries

same_append : (cs : List Committed) (es : List Entry) (k n : ℕ) (ks : List Bytes) → Same cs es
    → Same (cs ++ (committed k n ks ∷ [])) (es ++ (entry n ks ∷ []))
same_append [] [] k n ks s = ((refl, refl), tt)
same_append [] (e ∷ es) k n ks s = absurd s
same_append (c ∷ cs) [] k n ks s = absurd s
same_append (c ∷ cs) (e ∷ es) k n ks s = (s.0, same_append cs es k n ks s.1)

same_entered : (left : List Txn) (cs : List Committed) (es : List Entry) (k n : ℕ) (ks : List Bytes) → Same cs es
    → Same (clear_idle (min_started_seq left) (cs ++ (committed k n ks ∷ []))) (keep (any_active left) (es ++ (entry n ks ∷ [])))
unfolding min_started_seq
same_entered [] cs es k n ks s = rw (rule_idle any_active empty_rule [] (es ++ (entry n ks ∷ [])) refl) tt
same_entered (t ∷ ts) cs es k n ks s =
    rw (anyone_keeps (t ∷ ts) (es ++ (entry n ks ∷ [])) (not_nil t ts)) (same_append cs es k n ks s)

same_keep : (m : ℕ) (cs : List Committed) (es : List Entry) → Same cs es
    → Same (keep (λ c. retains m c.committed_seq) cs) (keep (λ e. leb m e.seq) es)
unfolding keep
same_keep m [] [] s = tt
same_keep m [] (e ∷ es) s = absurd s
same_keep m (c ∷ cs) [] s = absurd s
same_keep m (c ∷ cs) (e ∷ es) s =
    step (retains m c.committed_seq) (leb m e.seq) (ap (retains m) s.0.0)
    (same_keep m cs es s.1)
  where
    kept : List Committed
    kept = keep (λ c. retains m c.committed_seq) cs

    left : List Entry
    left = keep (λ e. leb m e.seq) es

    step : (a b : Bool) → a ≡ b → Same kept left → Same (cond a (c ∷ kept) kept) (cond b (e ∷ left) left)
    step true true z ih = (s.0, ih)
    step false false z ih = ih
    step true false z ih = absurd (true≢false z)
    step false true z ih = absurd (false≢true z)

same_prune : (left : List Txn) (cs : List Committed) (es : List Entry) → Same cs es
    → Same (recycle (min_started_seq left) cs) (prune left es)
unfolding in_reach
same_prune [] cs es s = rw (least_same [], rule_idle in_reach prune_rule [] es refl) tt
same_prune (t ∷ ts) cs es s = rw (least_same (t ∷ ts)) (same_keep (least_of t ts) cs es s)

same_length : (cs : List Committed) (es : List Entry) → Same cs es → length es ≡ length cs
same_length [] [] s = refl
same_length [] (e ∷ es) s = absurd s
same_length (c ∷ cs) [] s = absurd s
same_length (c ∷ cs) (e ∷ es) s = ap suc (same_length cs es s.1)

-- ---------------------------------------------------------------- every call

verdict_number : (b : Bool) → verdict b ≡ as_number b
verdict_number true = refl
verdict_number false = refl

abbrev pub AgreeRoom : Manager → Room → Type 0
AgreeRoom m short = ⊥
AgreeRoom m broken = ⊥
AgreeRoom m (holding s) = Agree m s

-- a reply beside the manager before the call: what the room holds then is the Rust's, and so is the value of a call that
-- is done
pub record Replies (m : Manager) (c : Op) (r : Reply) : Type 0 where
  pub room : r.status < 2 → AgreeRoom (rust c m) r.room
  pub value : r.status ≡ 0 → Value c m r.value

module _ (m : Manager) (c : Op) (s : State) where
  replies_done : (v : ℕ) (u : State) → Agree (rust c m) u → Value c m v → Replies m c (reply s (done v u))
  replies_done v u a w = record { room = λ h. a; value = λ h. w }

  replies_absent : (v : ℕ) (u : State) → Agree (rust c m) u → Replies m c (reply s (absent v u))
  replies_absent v u a = record { room = λ h. a; value = λ h. absurd (omega arith) }

  replies_refused : (r : Refusal) → Replies m c (reply s (refused r))
  replies_refused r =
      let n = refusal_number r in
      record { room = λ h. absurd (omega arith); value = λ h. absurd (omega arith) }

agree : (u : State) (cs : List Committed) → Same cs u.entries → Agree (manager u.active cs u.last) u
agree u cs q = record { active = refl; last = refl; entries = q }

module _ (L : Ceilings) (s : State) (cs : List Committed) (q : Same cs s.entries) where
  abbrev beforehand : Manager
  beforehand = manager s.active cs s.last

  -- `if let Some(txn_state)`: nothing happens to an unknown id
  seeks : (i : Bytes) (c : Op) → Seeks i c → find i s.active ≡ none → rust c beforehand ≡ beforehand
  unfolding rust
  seeks i _ (seeks_keys Writes bs) e = rw e
  seeks i _ (seeks_keys Reads bs) e = rw e
  seeks i _ (seeks_range bs) e = rw e (go (bounds_of bs))
    where
      go : (o : Option Range) → on_range o (λ r. beforehand) beforehand ≡ beforehand
      go none = refl
      go (some r) = refl
  seeks i _ seeks_check e = refl

  adds : (i : Bytes) (t t' : Txn) (c : Op) → Adds L i t c t' → find i s.active ≡ some t
      → rust c beforehand ≡ manager (put t' s.active) cs s.last
  unfolding rust
  adds i t _ _ (adds_keys Writes bs ks f g) e = rw (e, f)
  adds i t _ _ (adds_keys Reads bs ks f g) e = rw (e, f)
  adds i t _ _ (adds_range bs r f g g') e = rw (e, f)

  adds_value : (i : Bytes) (t t' : Txn) (c : Op) (v : ℕ) → Adds L i t c t' → Value c beforehand v
  adds_value i t _ _ v (adds_keys w bs ks f g) = tt
  adds_value i t _ _ v (adds_range bs r f g g') = tt

  abbrev kept_after : Bytes → List Entry
  kept_after i = prune (without i s.active) s.entries

  pruned_same : (i : Bytes) → Same (recycle (min_started_seq (without i s.active)) cs) (kept_after i)
  pruned_same i = same_prune (without i s.active) cs s.entries q

  by_effect : (c : Op) (x : Answer) → Effect L s c x → Replies beforehand c (reply s x)
  unfolding rust check_has_conflict
  by_effect c _ (refuses r) = replies_refused beforehand c s r
  by_effect c _ (misses i k e) = replies_absent beforehand c s 0 s (rw (seeks i c k e) (agree s cs q))
  by_effect _ _ (nobody e) = replies_absent beforehand minimum s 0 s (agree s cs q)
  by_effect _ _ (advances i n e) =
      let u = advanced n s in
      replies_absent beforehand (commit i n) s (max s.last n) u (rw e (agree u cs q))
  by_effect _ _ (prunes i u p e) =
      rw p
      (replies_absent beforehand (drop_txn i) s (length (kept_after i)) (dropped i s) (agree (dropped i s) _ (pruned_same i)))
  by_effect _ _ (checks i t e) =
      replies_done beforehand (check i) s (verdict (conflict t s.entries)) s (agree s cs q)
      (rw (e, verdict_same t cs s.entries q) (verdict_number (conflict t s.entries)))
  by_effect _ _ (sees_least n e) = replies_done beforehand minimum s n s (agree s cs q) (least_same s.active ∙ e)
  by_effect _ _ (begins i u p d e f) =
      rw p (replies_done beforehand (begin i) s s.last (begun i s) (agree (begun i s) cs q) refl)
  by_effect c _ (tracks i t t' u w p e a f) =
      rw p
      (replies_done beforehand c s _ (with_txn t' s) (rw (adds i t t' c a e) (agree (with_txn t' s) cs q))
      (adds_value i t t' c _ a))
  by_effect _ _ (commits i n t u p e f) =
      let left = without i s.active in
      let after = entered left n t.writes s in
      rw p
      (replies_done beforehand (commit i n) s (max s.last n) after
      (rw e (agree after _ (same_entered left cs s.entries t.start n t.writes q)))
      (rw e))
  by_effect _ _ (batches n bs ks u p g h f) =
      let after = entered s.active n (insert_all ks []) s in
      rw p
      (replies_done beforehand (batch n bs) s (max s.last n) after
      (rw g (agree after _ (same_entered s.active cs s.entries n n (insert_all ks []) q)))
      refl)
  by_effect _ _ (drops i t u p e) =
      rw p
      (replies_done beforehand (drop_txn i) s (length (kept_after i)) (dropped i s) (agree (dropped i s) _ (pruned_same i))
      (same_length (recycle (min_started_seq (without i s.active)) cs) (kept_after i) (pruned_same i)))

manager_is : (m : Manager) (s : State) → Agree m s → m ≡ manager s.active m.recent_committed_txns s.last
manager_is m s a = λ i. manager (a.active i) m.recent_committed_txns (a.last i)

-- demand 2 for one call
pub agrees : (L : Ceilings) (s : State) (m : Manager) (c : Op) → Agree m s → Replies m c (serve L (holding s) (on c))
unfolding serve
agrees L s m c a =
    subst (λ m. Replies m c (reply s (answer L s c))) (sym (manager_is m s a))
    (by_effect L s m.recent_committed_txns a.entries c _ (effect L s c))

-- ---------------------------------------------------------------- runs

-- the Rust answers false for an id that is not active, whose check has status 1 and value 0
check_agrees : (L : Ceilings) (s : State) (m : Manager) (i : Bytes) → Agree m s → length i ≡ id_size
    → (serve L (holding s) (on (check i))).value ≡ as_number (check_has_conflict i m)
unfolding serve answer check_has_conflict
check_agrees L s m i a e = rw (eq-eqb (length i) id_size e, a.active) (go (find i s.active))
  where
    go : (o : Option Txn)
        → (reply s (given o (absent 0 s) >>= λ t. done (verdict (conflict t s.entries)) s)).value
        ≡ as_number (check_txn m.recent_committed_txns o)
    go none = refl
    go (some t) =
        rw (verdict_same t m.recent_committed_txns s.entries a.entries) (verdict_number (conflict t s.entries))

-- min_active_seq as a reply: "minimum: that start", or 1 "with nobody active"
abbrev pub minimum_reply : Room → Option ℕ → Reply
minimum_reply room none = replied 1 0 room
minimum_reply room (some n) = replied 0 n room

minimum_agrees : (L : Ceilings) (s : State) (m : Manager) → Agree m s
    → serve L (holding s) (on minimum) ≡ minimum_reply (holding s) (min_started_seq m.active_txns)
unfolding serve answer
minimum_agrees L s m a = rw (a.active, least_same s.active) (go (least s.active))
  where
    go : (o : Option ℕ) → reply s (given o (absent 0 s) >>= λ n. done n s) ≡ minimum_reply (holding s) o
    go none = refl
    go (some n) = refl

-- "verdicts, minimum active sequence, last committed sequence and retained entries equal the Rust's": what the room
-- holds, what it says of any transaction and of the minimum, and what it answers to any call that may come next
pub record Equals (L : Ceilings) (m : Manager) (room : Room) : Type 0 where
  pub held : State
  pub holds : room ≡ holding held
  pub same : Agree m held
  pub verdicts : (i : Bytes) → length i ≡ id_size → (serve L room (on (check i))).value ≡ as_number (check_has_conflict i m)
  pub least_start : serve L room (on minimum) ≡ minimum_reply room (min_started_seq m.active_txns)
  pub answers : (c : Op) → Replies m c (serve L room (on c))

room_equals : (L : Ceilings) (m : Manager) (room : Room) → AgreeRoom m room → Equals L m room
room_equals L m short a = absurd a
room_equals L m broken a = absurd a
room_equals L m (holding s) a =
    record {
      held = s;
      holds = refl;
      same = a;
      verdicts = λ i e. check_agrees L s m i a e;
      least_start = minimum_agrees L s m a;
      answers = λ c. agrees L s m c a;
    }

run_agrees : (L : Ceilings) (w : World) (m : Manager) (cs : List Op) → AgreeRoom m w.room → Unrefused L w.room cs
    → AgreeRoom (rust_run m cs) (after_calls L w (map on cs)).room
unfolding after_calls rust_run
run_agrees L w m [] a u = a
run_agrees L w m (c ∷ cs) a u =
    run_agrees L (after_call L w (on c)) (rust c m) cs (((room_equals L m w.room a).answers c).room u.0) u.1

-- demand 2: "While no call has answered 2 to 7"
pub demand_2 : (L : Ceilings) (n : ℕ) (cs : List Op) → Unrefused L (holding (fresh_state n)) cs
    → Equals L (rust_run (manager [] [] n) cs) (after_calls L (start n) (map on cs)).room
demand_2 L n cs u =
    room_equals L _ _ (run_agrees L (start n) (manager [] [] n) cs (agree (fresh_state n) [] tt) u)

-- and so at every point of a run in which nothing is refused: its beginnings are such runs
pub unrefused_front : (L : Ceilings) (room : Room) (cs ds : List Op) → Unrefused L room (cs ++ ds) → Unrefused L room cs
unrefused_front L room [] ds u = tt
unrefused_front L room (c ∷ cs) ds u = (u.0, unrefused_front L (serve L room (on c)).room cs ds u.1)
