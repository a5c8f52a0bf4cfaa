-- Demand 3: over any calls from a fresh room, a check says conflict exactly when the full record has one.
use Prim.Native.Nat.{ℕ, max}
use mathlib.Core.Path.{◌≡◌, refl, sym, ap, ◌∙◌, subst}
use mathlib.Core.Bool.{Bool, true, false, cond, false≢true}
use mathlib.Core.List.{List, [], ◌∷◌, ◌++◌, append-nil}
use mathlib.Core.Logic.Iff
use mathlib.Core.Logic.{◌↔◌}
use mathlib.Core.Option.{some}
use native.Mathlib.Omega.{arith}
use lib.Dec.{eqb}
use lib.ListN.{length}
use borrow.Author.Tests.{eq-eqb}
use Rattle.machine.specs.Lists.{keep, All}
use Rattle.machine.specs.State.{Bytes, Txn, Entry, State, Ceilings, new_txn, fresh_state, TxnOk, MachineState}
use Rattle.machine.specs.Sets.{find, without, in_reach, any_active, conflict}
use Rattle.machine.specs.Calls.{Op, check, Call, fresh, on, Room, short, broken, holding, Refusal, malformed, again, longKey, emptyRange, full, Answer, refused, replied, reply}
use Rattle.machine.specs.Serve.{entry, is_id, verdict, with_txn, entered, dropped, answer, serve}
use Rattle.machine.specs.History.{World, written, after_call, after_calls, start, active_of, Conflict, SaysConflict}
use Rattle.machine.proofs.ListLaws.{all_map, all_append, all_of, all_from}
use Rattle.machine.proofs.ActiveLaws.{find_id, find_holds, put_all, without_all}
use Rattle.machine.proofs.Effects as E
use Rattle.machine.proofs.Effects.{Adds, Effect, effect}
use Rattle.machine.proofs.EntryLaws.{Rule, prune_rule, empty_rule}
use Rattle.machine.proofs.Kept.{RoomOk, fresh_ok, serve_keeps, not_7}
use Rattle.machine.proofs.Meaning.{conflict_means}
use Rattle.machine.proofs.Pruning.{above, same_verdict, above_more, UpTo, up_to_none, up_to_larger, up_to_last, rule_above}

-- ---------------------------------------------------------------- what a run keeps

-- the full record and the room's entries are the same above t's start
abbrev SameAbove : List Entry → List Entry → Txn → Type 0
SameAbove h es t = above t.start h ≡ above t.start es

-- what every call keeps of a room and the full record beside it
pub record Follows (L : Ceilings) (s : State) (h : List Entry) : Type 0 where
  pub kept : MachineState L s
  pub past : UpTo s.last h
  pub same : All (SameAbove h s.entries) s.active

abbrev pub FollowsRoom : Ceilings → Room → List Entry → Type 0
FollowsRoom L short h = ⊥
FollowsRoom L broken h = ⊥
FollowsRoom L (holding s) h = Follows L s h

abbrev pub world : Room → List Entry → World
world room h = record { room = room; history = h }

abbrev pub FollowsWorld : Ceilings → World → Type 0
FollowsWorld L w = FollowsRoom L w.room w.history

-- the full record after a call is answered
abbrev pub after : State → Op → List Entry → Answer → List Entry
after s c h x = cond (eqb (reply s x).status 0) (h ++ written s c) h

pub after_refused : (s : State) (c : Op) (h : List Entry) (r : Refusal) → after s c h (refused r) ≡ h
after_refused s c h malformed = refl
after_refused s c h again = refl
after_refused s c h longKey = refl
after_refused s c h emptyRange = refl
after_refused s c h full = refl

pub adds_same : (L : Ceilings) (i : Bytes) (t t' : Txn) (c : Op) → Adds L i t c t' → (t'.id ≡ t.id) × (t'.start ≡ t.start)
adds_same L i t _ _ (E.adds_keys w bs ks q k) = (refl, refl)
adds_same L i t _ _ (E.adds_range bs r q k l) = (refl, refl)

-- what leaves the list is seen by nobody who is active
leaving_same : (stays : List Txn → Entry → Bool) → Rule stays → (h es : List Entry) (ts : List Txn)
    → All (SameAbove h es) ts → All (SameAbove h (keep (stays ts) es)) ts
leaving_same stays r h es ts a = all_from _ ts λ t m. all_of _ ts t m a ∙ sym (rule_above stays r ts es t m)

module _ (L : Ceilings) (s : State) (h : List Entry) (f : Follows L s h) where
  with_txn_lem : (t : Txn) → SameAbove h s.entries t → MachineState L (with_txn t s) → Follows L (with_txn t s) h
  with_txn_lem t a ok = record { kept = ok; past = f.past; same = put_all _ t s.active a f.same }

  with_entry_lem :
      (left : List Txn) (n : ℕ) (ks : List Bytes)
      → All (SameAbove h s.entries) left
      → MachineState L (entered left n ks s)
      → Follows L (entered left n ks s) (h ++ (entry n ks ∷ []))
  with_entry_lem left n ks a ok =
      let more = all_map _ _ (λ u. above_more u.start h s.entries (entry n ks ∷ [])) left a in
      record {
        kept = ok;
        past = all_append _ h _ (up_to_larger s.last (max s.last n) h (omega arith) f.past) (omega arith, tt);
        same = leaving_same any_active empty_rule (h ++ (entry n ks ∷ [])) (s.entries ++ (entry n ks ∷ [])) left more;
      }

  with_drop : (i : Bytes) → MachineState L (dropped i s) → Follows L (dropped i s) h
  with_drop i ok =
      record {
        kept = ok;
        past = f.past;
        same = leaving_same in_reach prune_rule h s.entries (without i s.active) (without_all i _ _ f.same);
      }

  begun_same : (i : Bytes) → SameAbove h s.entries (new_txn i s.last)
  begun_same i = up_to_none s.last h f.past ∙ sym (up_to_none s.last s.entries (up_to_last L s f.kept))

  follows : (c : Op) (x : Answer) → Effect L s c x → RoomOk L (reply s x).room → FollowsRoom L (reply s x).room (after s c h x)
  unfolding written
  follows c _ (E.refuses r) ok = subst (Follows L s) (sym (after_refused s c h r)) f
  follows c _ (E.misses i k q) ok = f
  follows _ _ (E.nobody q) ok = f
  follows _ _ (E.advances i n q) ok =
      record { kept = ok; past = up_to_larger s.last (max s.last n) h (omega arith) f.past; same = f.same }
  follows _ _ (E.prunes i u e q) ok = rw e (with_drop i (rw e at ok))
  follows _ _ (E.checks i t q) ok = rw append-nil f
  follows _ _ (E.sees_least m q) ok = rw append-nil f
  follows _ _ (E.begins i u e k q g) ok = rw (e, append-nil) (with_txn_lem _ (begun_same i) (rw e at ok))
  follows c _ (E.tracks i t t' u w e q a g) ok =
      rw (e, w, append-nil) (with_txn_lem t' (rw (adds_same L i t t' c a).1 (all_of _ _ t (find_holds i _ t q) f.same)) (rw e at ok))
  follows _ _ (E.commits i n t u e q g) ok = rw (e, q) (with_entry_lem _ n t.writes (without_all i _ _ f.same) (rw e at ok))
  follows _ _ (E.batches n bs ks u e q k g) ok = rw (e, q) (with_entry_lem _ n _ f.same (rw e at ok))
  follows _ _ (E.drops i t u e q) ok = rw (e, append-nil) (with_drop i (rw e at ok))

pub fresh_follows : (L : Ceilings) (n : ℕ) → Follows L (fresh_state n) []
fresh_follows L n = record { kept = fresh_ok L n; past = tt; same = tt }

pub next_follows : (L : Ceilings) (room : Room) (h : List Entry) (c : Call) → FollowsRoom L room h → FollowsWorld L (after_call L (world room h) c)
unfolding serve
next_follows L short h c f = absurd f
next_follows L broken h c f = absurd f
next_follows L (holding s) h (fresh n) f = fresh_follows L n
next_follows L (holding s) h (on c) f = follows L s h f c _ (effect L s c) (serve_keeps L (holding s) (on c) f.kept)

pub run_follows : (L : Ceilings) (w : World) (cs : List Call) → FollowsWorld L w → FollowsWorld L (after_calls L w cs)
unfolding after_calls
run_follows L w [] f = f
run_follows L w (c ∷ cs) f = run_follows L (after_call L w c) cs (next_follows L w.room w.history c f)

-- ---------------------------------------------------------------- the verdict

verdict_1 : (b : Bool) → (verdict b ≡ 1) ↔ (b ≡ true)
verdict_1 true = (λ e. refl, λ e. refl)
verdict_1 false = (λ e. absurd (omega arith), λ e. absurd (false≢true e))

verdict_0 : (b : Bool) → (verdict b ≡ 0) ↔ (b ≡ true → ⊥)
verdict_0 true = (λ e. absurd (omega arith), λ n. absurd (n refl))
verdict_0 false = (λ e. false≢true, λ n. refl)

said : (t : Txn) (h es : List Entry) (room : Room) → conflict t h ≡ conflict t es → SaysConflict t h (replied 0 (verdict (conflict t es)) room)
said t h es room q =
    let means : (conflict t es ≡ true) ↔ Conflict t h = rw (← q) (conflict_means t h) in
    record {
      done = refl;
      conflict = Iff.trans (verdict_1 (conflict t es)) means;
      none = Iff.trans (verdict_0 (conflict t es)) (Iff.not means);
    }

pub check_verdict :
    (L : Ceilings) (room : Room) (h : List Entry) (i : Bytes) (t : Txn)
    → FollowsRoom L room h
    → find i (active_of room) ≡ some t
    → SaysConflict t h (serve L room (on (check i)))
unfolding serve answer
check_verdict L short h i t f e = absurd f
check_verdict L broken h i t f e = absurd f
check_verdict L (holding s) h i t f e =
    let active = find_holds i s.active t e in
    let ok = all_of (TxnOk L s.last) s.active t active f.kept.txns in
    let is_id_lem : is_id i ≡ true = eq-eqb _ _ (ap length (find_id i s.active t e) ∙ ok.id_length) in
    rw (is_id_lem, e) (said t h s.entries (holding s) (same_verdict t h s.entries (all_of _ s.active t active f.same)))

-- any calls, refused ones and further freshes included
pub demand_3 :
    (L : Ceilings) (n : ℕ) (cs : List Call) (i : Bytes) (t : Txn)
    → find i (active_of (after_calls L (start n) cs).room) ≡ some t
    → SaysConflict t (after_calls L (start n) cs).history (serve L (after_calls L (start n) cs).room (on (check i)))
demand_3 L n cs i t e = check_verdict L _ _ i t (run_follows L (start n) cs (fresh_follows L n)) e

-- "A room made fresh, written only by the calls and passed whole never gets 7."
pub never_7 : (L : Ceilings) (n : ℕ) (cs : List Call) (c : Call) → (serve L (after_calls L (start n) cs).room c).status ≡ 7 → ⊥
never_7 L n cs c = holds_state (after_calls L (start n) cs).room (run_follows L (start n) cs (fresh_follows L n))
  where
    holds_state : (room : Room) → FollowsRoom L room (after_calls L (start n) cs).history → (serve L room c).status ≡ 7 → ⊥
    holds_state short f = absurd f
    holds_state broken f = absurd f
    holds_state (holding s) f = not_7 L s c
