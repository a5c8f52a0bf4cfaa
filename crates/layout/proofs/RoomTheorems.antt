-- The demands on rooms of bytes, for every call that keeps the one contract.
use Prim.Native.Nat.{ℕ, ◌≤◌}
use mathlib.Core.Path.{◌≡◌, refl, sym, ap, ◌∙◌, subst}
use mathlib.Core.List.{List, [], ◌∷◌, map}
use mathlib.Core.Bool.{Bool, true, false}
use mathlib.Core.Option.{Option, none, some}
use native.Mathlib.Omega.{arith}
use Rattle.machine.specs.State.{Bytes, Txn, Ceilings, base, fresh_state}
use Rattle.machine.specs.Sets.{find, conflict}
use Rattle.machine.specs.Calls.{Op, Call, fresh, on, check, Room, short, broken, holding, malformed, done, absent, Reply, replied, reply, ◌>>=◌, ◌>>◌, need, given}
use Rattle.machine.specs.Serve.{is_id, verdict, answer, serve}
use Rattle.machine.specs.History.{World, after_call, after_calls, start, active_of, SaysConflict, Lives}
use Rattle.machine.proofs.Record.{demand_3, never_7}
use Rattle.machine.specs.Rust.{Unrefused, rust_run, manager}
use Rattle.machine.proofs.Stays.{stays_said}
use Rattle.machine.proofs.RustAgrees.{Equals, demand_2}
use Rattle.layout.specs.Rooms.{load, ServedBy, Served}
use Rattle.layout.specs.Runs.{Passed, Alike}
use Rattle.layout.specs.Demands.{Demand1}
use Rattle.layout.proofs.HoldLaws.{Small, base_small}
use Rattle.layout.proofs.FrontLaws.{same_front}
use Rattle.layout.proofs.DemandOne.{demand_1}

module _ (L : Ceilings) where
  -- "any two results allowed for one call are equal", but for unused bytes
  pub one_result : (room : List ℕ) (c : Call) (s v : ℕ) (r : List ℕ) (s' v' : ℕ) (r' : List ℕ) → ServedBy L room c s v r → ServedBy L room c s' v' r' → Alike L c s v r s' v' r'
  one_result room c s v r s' v' r' a b =
      let e : replied s v (load L r) ≡ replied s' v' (load L r') = sym a.answers ∙ b.answers in
      record {
        statuses = ap (λ (x : Reply). x.status) e;
        values = ap (λ (x : Reply). x.value) e;
        states = ap (λ (x : Reply). x.room) e;
        refused = λ h. a.kept h ∙ sym (b.kept (subst (λ (n : ℕ). 2 ≤ n) (ap (λ (x : Reply). x.status) e) h));
        absent = λ h k. a.absent h k ∙ sym (b.absent (sym (ap (λ (x : Reply). x.status) e) ∙ h) k);
        beyond = a.beyond ∙ sym b.beyond;
        size = a.size ∙ sym b.size;
      }

  -- demand 1: any bytes, ids, sequences and room; the status is the table's, given exactly when the table says, with its value
  -- and its bytes
  pub room_demand_1 : Small L → (room : List ℕ) (c : Call) (s v : ℕ) (room' : List ℕ) → ServedBy L room c s v room' → Demand1 L room c s v room'
  room_demand_1 small = demand_1 L small

  -- a check that answers 1 is done
  one_done : (room : Room) (i : Bytes) → (serve L room (on (check i))).value ≡ 1 → (serve L room (on (check i))).status ≡ 0
  unfolding serve answer
  one_done short i e = absurd (omega (arith, e))
  one_done broken i e = absurd (omega (arith, e))
  one_done (holding s) i e = go (is_id i) (find i s.active) e
    where
      go : (b : Bool) (o : Option Txn) → (reply s (need b malformed >> (given o (absent 0 s) >>= λ t. done (verdict (conflict t s.entries)) s))).value ≡ 1
          → (reply s (need b malformed >> (given o (absent 0 s) >>= λ t. done (verdict (conflict t s.entries)) s))).status ≡ 0
      go false o q = absurd (omega (arith, q))
      go true none q = absurd (omega (arith, q))
      go true (some t) q = refl

  -- a run of calls on a room goes as the machine goes
  passed_run : (w : World) (room : List ℕ) (cs : List Call) (room' : List ℕ) → load L room ≡ w.room → Passed L room cs room' → load L room' ≡ (after_calls L w cs).room
  unfolding after_calls
  passed_run w room [] room' e p = same_front L room' room p ∙ e
  passed_run w room (c ∷ cs) room' e p =
      let g : load L p.lent ≡ w.room = same_front L p.lent room p.same ∙ e in
      let f : load L p.left ≡ (serve L w.room c).room = sym (ap (λ (x : Reply). x.room) p.served.answers) ∙ ap (λ (x : Room). (serve L x c).room) g in
      passed_run (after_call L w c) p.left cs room' f p.rest

  -- a room that fresh answered 0
  module _ (old : List ℕ) (n v : ℕ) (made : List ℕ) (f : ServedBy L old (fresh n) 0 v made) (cs : List Call) (room : List ℕ) (p : Passed L made cs room) where
    fresh_holds : load L made ≡ (start n).room
    unfolding serve
    fresh_holds = go (load L old) f.answers
      where
        go : (x : Room) → serve L x (fresh n) ≡ replied 0 v (load L made) → load L made ≡ holding (fresh_state n)
        go short e = absurd (let z : ◌≡◌ {A = ℕ} 7 0 = ap (λ (y : Reply). y.status) e in omega arith)
        go broken e = sym (ap (λ (y : Reply). y.room) e)
        go (holding s) e = sym (ap (λ (y : Reply). y.room) e)

    holds_run : load L room ≡ (after_calls L (start n) cs).room
    holds_run = passed_run (start n) made cs room fresh_holds p

    -- "A room made fresh, written only by the calls and passed whole never gets 7."
    pub room_never_7 : (c : Call) (s u : ℕ) (after : List ℕ) → ServedBy L room c s u after → s ≡ 7 → ⊥
    room_never_7 c s u after a =
        let e : (serve L (after_calls L (start n) cs).room c).status ≡ s = ap (λ (x : Room). (serve L x c).status) (sym holds_run) ∙ ap (λ (x : Reply). x.status) a.answers in
        λ q. never_7 L n cs c (e ∙ q)

    -- demand 3: a check of an active transaction says conflict exactly when the full record says so
    pub room_demand_3 : (i : Bytes) (t : Txn) (s u : ℕ) (after : List ℕ) → find i (active_of (load L room)) ≡ some t → ServedBy L room (on (check i)) s u after
        → SaysConflict t (after_calls L (start n) cs).history (replied s u (load L after))
    room_demand_3 i t s u after e a =
        subst (SaysConflict t (after_calls L (start n) cs).history)
        (ap (λ (x : Room). serve L x (on (check i))) (sym holds_run) ∙ a.answers)
        (demand_3 L n cs i t (subst (λ (x : Room). find i (active_of x) ≡ some t) holds_run e))

    -- "Once said, it stays said until that transaction commits or is dropped, or the room is made fresh again."
    pub room_stays_said : (i : Bytes) (t : Txn) (s : ℕ) (after : List ℕ) → find i (active_of (load L room)) ≡ some t → ServedBy L room (on (check i)) s 1 after
        → (ds : List Call) (later : List ℕ) → Passed L room ds later → Lives L i (after_calls L (start n) cs) ds
        → (s' u' : ℕ) (after' : List ℕ) → ServedBy L later (on (check i)) s' u' after' → (s' ≡ 0) × (u' ≡ 1)
    room_stays_said i t s after e a ds later q lives s' u' after' b =
        let one : (serve L (after_calls L (start n) cs).room (on (check i))).value ≡ 1 = ap (λ (x : Room). (serve L x (on (check i))).value) (sym holds_run) ∙ ap (λ (x : Reply). x.value) a.answers in
        let still = stays_said L n cs ds i t (subst (λ (x : Room). find i (active_of x) ≡ some t) holds_run e) one lives in
        let h : load L later ≡ (after_calls L (after_calls L (start n) cs) ds).room = passed_run (after_calls L (start n) cs) room ds later holds_run q in
        let one' : (serve L (load L later) (on (check i))).value ≡ 1 = ap (λ (x : Room). (serve L x (on (check i))).value) h ∙ still in
        (sym (ap (λ (x : Reply). x.status) b.answers) ∙ one_done (load L later) i one', sym (ap (λ (x : Reply). x.value) b.answers) ∙ one')

  -- demand 2: "While no call has answered 2 to 7", the room holds what the Rust's manager does
  pub room_demand_2 : (old : List ℕ) (n v : ℕ) (made : List ℕ) → ServedBy L old (fresh n) 0 v made → (cs : List Op) (room : List ℕ) → Passed L made (map on cs) room → Unrefused L (holding (fresh_state n)) cs
      → Equals L (rust_run (manager [] [] n) cs) (load L room)
  room_demand_2 old n v made f cs room p u = subst (Equals L (rust_run (manager [] [] n) cs)) (sym (holds_run old n v made f (map on cs) room p)) (demand_2 L n cs u)

-- demand 1 with document 01's ceilings, for what every call on a room is proved to leave
pub served_demand_1 : (room : List ℕ) (c : Call) (s v : ℕ) (room' : List ℕ) → Served room c s v room' → Demand1 base room c s v room'
served_demand_1 = room_demand_1 base base_small
