-- What a room holds, and the contract of a call from what the machine answers: one law for each way a call ends.
use Prim.Native.Nat.{ℕ, ◌≤◌, ◌<◌, ◌^◌}
use mathlib.Core.Path.{◌≡◌, refl, sym, ap, ◌∙◌, subst}
use mathlib.Core.Bool.{Bool, true, false, cond, true≢false}
use mathlib.Core.List.{List, ◌++◌}
use mathlib.Core.Logic.{◌⊎◌, inl, inr}
use native.Mathlib.Omega.{arith}
use borrow.Author.Tests.{lt-ltb, le-ltb, ltb-false}
use lib.Dec.{ltb}
use lib.ListN.{length, drop}
use Rattle.machine.specs.State.{State, fresh_state, Ceilings, base, MachineState}
use Rattle.machine.specs.Calls.{Op, Call, fresh, on, is_commit_or_drop, Room, short, broken, holding, Refusal, refusal_status, Answer, done, absent, refused, replied, reply}
use Rattle.machine.specs.Serve.{answer, serve}
use Rattle.machine.proofs.Kept.{RoomOk, fresh_ok, serve_keeps}
use Rattle.codec.specs.Codec.{Item, item, cut}
use Rattle.codec.specs.Formats.{only}
use Rattle.layout.specs.Offsets.{number_size}
use Rattle.layout.specs.States.{plain_form, state_form, room_size}
use Rattle.layout.specs.Rooms.{in_room, load, ServedBy, Served}
use Rattle.layout.proofs.HoldLaws.{Small, base_small, machine_holds, holds_machine}

-- The laws are over any ceilings; where a state is written, its counts and keys must fit two bytes (`Small`). The names without `By` are
-- those at the ceilings of the code.

-- the bytes begin with the record of a state
pub record RecordedBy (L : Ceilings) (s : List ℕ) (st : State) : Type 0 where
  pub rest : List ℕ
  pub is : s ≡ (plain_form L.key).write st ++ rest

module _ (L : Ceilings) (s : List ℕ) (h : room_size L ≤ length s) where
  enough : ltb (length s) (room_size L) ≡ false
  enough = le-ltb (length s) (room_size L) h

  pub load_read : (st : State) (rest : List ℕ) → (state_form L).read s ≡ item st rest → load L s ≡ holding st
  unfolding load
  load_read st rest e = rw (enough, e)

  pub load_cut : (state_form L).read s ≡ cut → load L s ≡ broken
  unfolding load
  load_cut e = rw (enough, e)

  pub load_recorded : (st : State) → Small L → RecordedBy L s st → MachineState L st → st.last < 256 ^ number_size → load L s ≡ holding st
  unfolding state_form only
  load_recorded st small w o l =
      load_read st w.rest (ap (state_form L).read w.is ∙ (state_form L).write_is st w.rest (machine_holds L st small o l))

pub load_short : (L : Ceilings) (s : List ℕ) → length s < room_size L → load L s ≡ short
unfolding load
load_short L s h = rw (lt-ltb (length s) (room_size L) h)

-- what a room holds is a machine state, and its record is the first of the room's bytes
pub record HeldBy (L : Ceilings) (s : List ℕ) (st : State) : Type 0 where
  pub kept : MachineState L st
  pub last : st.last < 256 ^ number_size
  pub size : room_size L ≤ length s
  pub recorded : RecordedBy L s st

abbrev pub Held : List ℕ → State → Type 0
Held = HeldBy base

pub held : (L : Ceilings) (s : List ℕ) (st : State) → load L s ≡ holding st → HeldBy L s st
unfolding load state_form only
held L s st e = go (ltb (length s) (room_size L)) refl ((state_form L).read s) refl e
  where
    inside : (b : Bool) → ltb (length s) (room_size L) ≡ b → b ≡ false → room_size L ≤ length s
    inside b p q = ltb-false (length s) (room_size L) (p ∙ q)

    go : (b : Bool) → ltb (length s) (room_size L) ≡ b → (x : Item State) → (state_form L).read s ≡ x → cond b short (in_room x) ≡ holding st → HeldBy L s st
    go true p x q f = absurd (let z : ◌≡◌ {A = ℕ} 0 1 = cc in omega arith)
    go false p cut q f = absurd (let z : ◌≡◌ {A = ℕ} 0 1 = cc in omega arith)
    go false p (item u r) q f =
        let g : u ≡ st = cc in
        let x = (state_form L).read_is s u r q in
        let m = holds_machine L u x.1 in
        rw (← g) (record { kept = m.0; last = m.1; size = inside false p refl; recorded = record { rest = r; is = x.0 } })

-- ---- a call leaves the room as it is

same_room : (L : Ceilings) (s : List ℕ) (c : Call) (status value : ℕ) → serve L (load L s) c ≡ replied status value (load L s) → ServedBy L s c status value s
same_room L s c status value e = record { answers = e; kept = λ h. refl; absent = λ h k. refl; beyond = refl; size = refl }

pub no_state : {L : Ceilings} (s : List ℕ) (c : Op) → (load L s ≡ short) ⊎ (load L s ≡ broken) → ServedBy L s (on c) 7 0 s
unfolding serve
no_state {L} s c (inl e) = same_room L s (on c) 7 0 (rw e)
no_state {L} s c (inr e) = same_room L s (on c) 7 0 (rw e)

pub fresh_short : (L : Ceilings) (s : List ℕ) (n : ℕ) → length s < room_size L → ServedBy L s (fresh n) 7 0 s
unfolding serve
fresh_short L s n h = same_room L s (fresh n) 7 0 (rw (load_short L s h))

module _ {L : Ceilings} (s : List ℕ) (st : State) (c : Op) (h : load L s ≡ holding st) where
  pub refuse : (r : Refusal) → answer L st c ≡ refused r → ServedBy L s (on c) (refusal_status r) 0 s
  unfolding serve
  refuse r e = same_room L s (on c) (refusal_status r) 0 (rw (h, e))

  pub look : (v : ℕ) → answer L st c ≡ done v st → ServedBy L s (on c) 0 v s
  unfolding serve
  look v e = same_room L s (on c) 0 v (rw (h, e))

  pub look_absent : (v : ℕ) → answer L st c ≡ absent v st → ServedBy L s (on c) 1 v s
  unfolding serve
  look_absent v e = same_room L s (on c) 1 v (rw (h, e))

-- ---- a call changes the room

-- the bytes after a change: the record of a state at their front, the same bytes past the published size
pub record ChangedBy (L : Ceilings) (s s' : List ℕ) (st : State) : Type 0 where
  pub recorded : RecordedBy L s' st
  pub last : st.last < 256 ^ number_size
  pub beyond : drop (room_size L) s' ≡ drop (room_size L) s
  pub size : length s' ≡ length s

abbrev pub Changed : List ℕ → List ℕ → State → Type 0
Changed = ChangedBy base

module _ (L : Ceilings) (small : Small L) (s s' : List ℕ) (st st' : State) (c : Op) (h : load L s ≡ holding st) (w : ChangedBy L s s' st') where
  after : (serve L (holding st) (on c)).room ≡ holding st' → load L s' ≡ holding st'
  after e =
      let k = held L s st h in
      let m : MachineState L st' = subst (RoomOk L) e (serve_keeps L (holding st) (on c) k.kept) in
      load_recorded L s' (omega (arith, k.size, w.size)) st' small w.recorded m w.last

  pub change_by : (v : ℕ) → answer L st c ≡ done v st' → ServedBy L s (on c) 0 v s'
  unfolding serve
  change_by v e =
      let f : (serve L (holding st) (on c)).room ≡ holding st' = ap (λ (x : Answer). (reply st x).room) e in
      record { answers = rw (h, e, after f); kept = λ k. absurd (omega (arith, k)); absent = λ k d. absurd (omega (arith, k)); beyond = w.beyond; size = w.size }

  pub change_absent_by : (v : ℕ) → is_commit_or_drop (on c) ≡ true → answer L st c ≡ absent v st' → ServedBy L s (on c) 1 v s'
  unfolding serve
  change_absent_by v d e =
      let f : (serve L (holding st) (on c)).room ≡ holding st' = ap (λ (x : Answer). (reply st x).room) e in
      record { answers = rw (h, e, after f); kept = λ k. absurd (omega (arith, k)); absent = λ k g. absurd (true≢false (sym d ∙ g)); beyond = w.beyond; size = w.size }

module _ (s s' : List ℕ) (st st' : State) (c : Op) (h : load base s ≡ holding st) (w : Changed s s' st') where
  pub change : (v : ℕ) → answer base st c ≡ done v st' → Served s (on c) 0 v s'
  change = change_by base base_small s s' st st' c h w

  pub change_absent : (v : ℕ) → is_commit_or_drop (on c) ≡ true → answer base st c ≡ absent v st' → Served s (on c) 1 v s'
  change_absent = change_absent_by base base_small s s' st st' c h w

not_short : (L : Ceilings) (room : Room) (n : ℕ) → (room ≡ short → ⊥) → serve L room (fresh n) ≡ replied 0 n (holding (fresh_state n))
unfolding serve
not_short L short n h = absurd (h refl)
not_short L broken n h = refl
not_short L (holding s) n h = refl

pub make_fresh : (L : Ceilings) → Small L → (s s' : List ℕ) (n : ℕ) → room_size L ≤ length s → ChangedBy L s s' (fresh_state n) → ServedBy L s (fresh n) 0 n s'
make_fresh L small s s' n h w =
    record {
      answers = not_short L (load L s) n long ∙ ap (replied 0 n) (sym (load_recorded L s' (omega (arith, h, w.size)) (fresh_state n) small w.recorded (fresh_ok L n) w.last));
      kept = λ k. absurd (omega (arith, k));
      absent = λ k d. absurd (omega (arith, k));
      beyond = w.beyond;
      size = w.size;
    }
  where
    long : load L s ≡ short → ⊥
    long e = go ((state_form L).read s) refl
      where
        go : (x : Item State) → (state_form L).read s ≡ x → ⊥
        go (item u r) f = let z : holding u ≡ short = sym (load_read L s h u r f) ∙ e in absurd (let y : ◌≡◌ {A = ℕ} 0 1 = cc in omega arith)
        go cut f = let z : broken ≡ short = sym (load_cut L s h f) ∙ e in absurd (let y : ◌≡◌ {A = ℕ} 0 1 = cc in omega arith)
