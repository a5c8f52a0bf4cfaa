-- Demand 1 on a room's bytes, from the machine's table.
use Prim.Native.Nat.{ℕ, ◌≤◌}
use mathlib.Core.Path.{◌≡◌, refl, sym, ap, ◌∙◌, subst}
use mathlib.Core.Bool.{Bool, true, false, cond}
use mathlib.Core.List.{List, Memᴰ}
use mathlib.Core.Logic.{inl, inr}
use native.Mathlib.Omega.{arith}
use borrow.Author.Tests.{ltb-true, ltb-false, eqb-true}
use lib.Dec.{ltb, eqb}
use lib.ListN.{length}
use Rattle.machine.specs.Lists.{any}
use Rattle.machine.specs.State.{State, Ceilings, fresh_state}
use Rattle.machine.specs.Calls.{Call, fresh, on, is_commit_or_drop, Room, short, broken, holding, Reply, replied}
use Rattle.machine.specs.Serve.{serve}
use Rattle.machine.specs.Words.{First, Status, DoneValue, absent_value, absent_state}
use Rattle.machine.proofs.ListLaws.{any_some}
use Rattle.machine.proofs.Kept.{refuses}
use Rattle.machine.proofs.Answers.{absent_changes, done_values}
use Rattle.machine.proofs.StatusLaws.{first_one, one_status, status_is}
use Rattle.codec.specs.Codec.{Item, item, cut}
use Rattle.codec.specs.Formats.{only}
use Rattle.layout.specs.States.{state_form, room_size}
use Rattle.layout.specs.Rooms.{in_room, load, ServedBy}
use Rattle.layout.specs.Demands.{RecordOf, TooShort, NoState, OnState, Given, Done, Missed, statuses, Demand1}
use Rattle.layout.proofs.HoldLaws.{Small, machine_holds, holds_machine}

module _ (L : Ceilings) (small : Small L) where
  -- ---------------------------------------------------------------- what the bytes are

  -- what a room is read as, with why
  data Reads (room : List ℕ) : Room → Type 0 where
    is_short : TooShort L room → Reads room short
    is_broken : room_size L ≤ length room → (state_form L).read room ≡ cut → Reads room broken
    is_held : (s : State) (rest : List ℕ) → room_size L ≤ length room → (state_form L).read room ≡ item s rest → Reads room (holding s)

  reads : (room : List ℕ) → Reads room (load L room)
  unfolding load
  reads room = go (ltb (length room) (room_size L)) refl ((state_form L).read room) refl
    where
      go : (b : Bool) → ltb (length room) (room_size L) ≡ b → (x : Item State) → (state_form L).read room ≡ x → Reads room (cond b short (in_room x))
      go true p x q = is_short (ltb-true (length room) (room_size L) p)
      go false p cut q = is_broken (ltb-false (length room) (room_size L) p) q
      go false p (item s rest) q = is_held s rest (ltb-false (length room) (room_size L) p) q

  read_record : (room : List ℕ) (s : State) (r : RecordOf L room s) → (state_form L).read room ≡ item s r.rest
  unfolding state_form only
  read_record room s r =
      ap (state_form L).read r.is ∙ (state_form L).write_is s r.rest (machine_holds L s small r.machine r.last)

  record_read : (room : List ℕ) (s : State) (rest : List ℕ) → (state_form L).read room ≡ item s rest → RecordOf L room s
  unfolding state_form only
  record_read room s rest e =
      let x = (state_form L).read_is room s rest e in
      let m = holds_machine L s x.1 in
      record { machine = m.0; last = m.1; rest = rest; is = x.0 }

  pub held_record : (room : List ℕ) (s : State) → load L room ≡ holding s → RecordOf L room s
  held_record room s e = go (load L room) (reads room) e
    where
      go : (x : Room) → Reads room x → x ≡ holding s → RecordOf L room s
      go _ (is_short h) q = absurd (let z : ◌≡◌ {A = ℕ} 0 1 = cc in omega arith)
      go _ (is_broken h c) q = absurd (let z : ◌≡◌ {A = ℕ} 0 1 = cc in omega arith)
      go _ (is_held u rest h c) q = let p : u ≡ s = cc in subst (RecordOf L room) p (record_read room u rest c)

  -- a room records one state
  one_record : (room : List ℕ) (s u : State) → RecordOf L room s → RecordOf L room u → s ≡ u
  one_record room s u p q =
      let e : item s p.rest ≡ item u q.rest = sym (read_record room s p) ∙ read_record room u q in
      cc

  -- ---------------------------------------------------------------- the status

  status_given : (room : List ℕ) (c : Call) (x : Room) → Reads room x → Given L room c (serve L x c).status
  unfolding serve
  status_given room (fresh n) _ (is_short h) = inl (h, refl)
  status_given room (fresh n) _ (is_broken h e) = inr (λ k. omega (arith, h, k), refl)
  status_given room (fresh n) _ (is_held s rest h e) = inr (λ k. omega (arith, h, k), refl)
  status_given room (on c) _ (is_short h) = inl (inl h, refl)
  status_given room (on c) _ (is_broken h e) = inl (inr none, refl)
    where
      none : (s : State) → RecordOf L room s → ⊥
      none s r = let q : cut ≡ item s r.rest = sym e ∙ read_record room s r in let z : ◌≡◌ {A = ℕ} 0 1 = cc in omega arith
  status_given room (on c) _ (is_held s rest h e) =
      let r = record_read room s rest e in
      inr (some_state, record { now = s; recorded = r; status = status_is L s c r.machine })
    where
      some_state : NoState L room (on c) → ⊥
      some_state (inl k) = omega (arith, h, k)
      some_state (inr k) = k s (record_read room s rest e)

  one_given : (room : List ℕ) (c : Call) (a b : ℕ) → Given L room c a → Given L room c b → a ≡ b
  one_given room (fresh n) = first_one 7 (TooShort L room) (λ n. n ≡ 0) (λ a b p q. p ∙ sym q)
  one_given room (on c) = first_one 7 (NoState L room (on c)) (OnState L room c) same
    where
      same : (a b : ℕ) → OnState L room c a → OnState L room c b → a ≡ b
      same a b p q =
          let e : q.now ≡ p.now = one_record room q.now p.now q.recorded p.recorded in
          one_status L p.now c a b p.status (subst (λ (s : State). Status L s c b) e q.status)

  -- ---------------------------------------------------------------- a status of the table

  listed_at : (k : ℕ) → any (eqb k) statuses ≡ true → (n : ℕ) → n ≡ k → Memᴰ n statuses
  listed_at k e n p =
      let m = any_some (eqb k) statuses e in
      subst (λ (x : ℕ). Memᴰ x statuses) (sym (eqb-true k m.0 m.2) ∙ sym p) m.1

  first_listed : (k : ℕ) (P : Type 0) (after : ℕ → Type 0) → any (eqb k) statuses ≡ true → ((n : ℕ) → after n → Memᴰ n statuses)
      → (n : ℕ) → First k P after n → Memᴰ n statuses
  first_listed k P after e f n (inl p) = listed_at k e n p.1
  first_listed k P after e f n (inr p) = f n p.1

  given_listed : (room : List ℕ) (c : Call) (n : ℕ) → Given L room c n → Memᴰ n statuses
  unfolding any
  given_listed room (fresh k) = first_listed 7 _ _ refl (listed_at 0 refl)
  given_listed room (on c) = first_listed 7 _ _ refl λ n o. rows n o.now o.status
    where
      rows : (n : ℕ) (s : State) → Status L s c n → Memᴰ n statuses
      rows n s = first_listed 2 _ _ refl (first_listed 4 _ _ refl (first_listed 5 _ _ refl (first_listed 3 _ _ refl (first_listed 1 _ _ refl (first_listed 6 _ _ refl (listed_at 0 refl)))))) n

  -- ---------------------------------------------------------------- the value and the room

  module _ (room : List ℕ) (room' : List ℕ) (v : ℕ) where
    is_done_lem : (c : Call) (x : Room) → Reads room x → serve L x c ≡ replied 0 v (load L room') → Done L room c v room'
    unfolding serve
    is_done_lem (fresh n) _ (is_short h) e = absurd (let z : ◌≡◌ {A = ℕ} 7 0 = ap (λ (y : Reply). y.status) e in omega arith)
    is_done_lem (fresh n) _ (is_broken h b) e = (sym (ap (λ (y : Reply). y.value) e), held_record room' (fresh_state n) (sym (ap (λ (y : Reply). y.room) e)))
    is_done_lem (fresh n) _ (is_held s rest h b) e = (sym (ap (λ (y : Reply). y.value) e), held_record room' (fresh_state n) (sym (ap (λ (y : Reply). y.room) e)))
    is_done_lem (on c) _ (is_short h) e = absurd (let z : ◌≡◌ {A = ℕ} 7 0 = ap (λ (y : Reply). y.status) e in omega arith)
    is_done_lem (on c) _ (is_broken h b) e = absurd (let z : ◌≡◌ {A = ℕ} 7 0 = ap (λ (y : Reply). y.status) e in omega arith)
    is_done_lem (on c) _ (is_held s rest h b) e =
        let r = record_read room s rest b in
        let d = done_values L (holding s) (on c) r.machine (ap (λ (y : Reply). y.status) e) in
        record {
          before = s;
          recorded = r;
          after = d.after;
          left = held_record room' d.after (sym (ap (λ (y : Reply). y.room) e) ∙ d.room);
          is = subst (DoneValue c s d.after) (ap (λ (y : Reply). y.value) e) d.value;
        }

    is_absent_lem : (c : Call) (x : Room) → Reads room x → serve L x c ≡ replied 1 v (load L room') → (is_commit_or_drop c ≡ false → room' ≡ room) → Missed L room c v room'
    unfolding serve
    is_absent_lem (fresh n) _ (is_short h) e k = absurd (let z : ◌≡◌ {A = ℕ} 7 1 = ap (λ (y : Reply). y.status) e in omega arith)
    is_absent_lem (fresh n) _ (is_broken h b) e k = absurd (let z : ◌≡◌ {A = ℕ} 0 1 = ap (λ (y : Reply). y.status) e in omega arith)
    is_absent_lem (fresh n) _ (is_held s rest h b) e k = absurd (let z : ◌≡◌ {A = ℕ} 0 1 = ap (λ (y : Reply). y.status) e in omega arith)
    is_absent_lem (on c) _ (is_short h) e k = absurd (let z : ◌≡◌ {A = ℕ} 7 1 = ap (λ (y : Reply). y.status) e in omega arith)
    is_absent_lem (on c) _ (is_broken h b) e k = absurd (let z : ◌≡◌ {A = ℕ} 7 1 = ap (λ (y : Reply). y.status) e in omega arith)
    is_absent_lem (on c) _ (is_held s rest h b) e k =
        let q : replied 1 v (load L room') ≡ replied 1 (absent_value c s) (holding (absent_state c s)) = sym e ∙ absent_changes L s c (ap (λ (y : Reply). y.status) e) in
        record {
          before = s;
          recorded = record_read room s rest b;
          left = held_record room' (absent_state c s) (ap (λ (y : Reply). y.room) q);
          is = ap (λ (y : Reply). y.value) q;
          kept = k;
        }

  -- ---------------------------------------------------------------- the demand

  pub demand_1 : (room : List ℕ) (c : Call) (s v : ℕ) (room' : List ℕ) → ServedBy L room c s v room' → Demand1 L room c s v room'
  demand_1 room c s v room' a =
      let status : (serve L (load L room) c).status ≡ s = ap (λ (y : Reply). y.status) a.answers in
      let is : Given L room c s = subst (Given L room c) status (status_given room c (load L room) (reads room)) in
      record {
        listed = given_listed room c s is;
        given = λ n. (λ e. subst (Given L room c) e is, λ g. one_given room c s n is g);
        done = λ e. is_done_lem room room' v c (load L room) (reads room) (a.answers ∙ ap (λ (n : ℕ). replied n v (load L room')) e);
        absent = λ e. is_absent_lem room room' v c (load L room) (reads room) (a.answers ∙ ap (λ (n : ℕ). replied n v (load L room')) e) (a.absent e);
        refused = λ h. (sym (ap (λ (y : Reply). y.value) a.answers) ∙ (refuses L (load L room) c (subst (λ (n : ℕ). 2 ≤ n) (sym status) h)).0, a.kept h);
        beyond = a.beyond;
        size = a.size;
      }
