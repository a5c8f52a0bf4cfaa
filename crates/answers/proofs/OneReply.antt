-- "Show that any two results allowed for one call are equal", for a call that answers and leaves a room, as a statement about
-- a contract as the checker reads it.
use Prim.Native.Nat.{ℕ}
use mathlib.Core.Path.{◌≡◌}
use mathlib.Core.List.{List}
use contract.Lifetimes.{Lfts}
use denote.Triple.Clauses.{AtExit}
use borrow.Fn.Kinds.{ParamKind, ResultKind, Dens, Out, res_t, ended_of}
use Rattle.machine.specs.State.{base}
use Rattle.machine.specs.Calls.{Call}
use Rattle.layout.specs.Rooms.{Served}
use Rattle.layout.specs.Runs.{Alike}
use Rattle.layout.proofs.RoomTheorems.{one_result}
use Rattle.answers.specs.declared.Answer.{Answer}

-- two answers are equal, and the rooms left with them are alike: equal but for "unused bytes inside the room"
pub record SameReply (c : Call) (x : Answer) (left : List ℕ) (y : Answer) (left' : List ℕ) : Type 0 where
  pub answers : x ≡ y
  pub rooms : Alike base c x.status x.value left y.status y.value left'

-- whatever the arguments, two answers that the contract allows are equal, and the rooms left with them alike; `call`, `answer` and
-- `room` say where the three stand: in the arguments, in a result, and in what the arguments are at the end
abbrev pub OneReply : (n : ℕ) (ps : List (ParamKind n)) (r : ResultKind n) → Out n ps r → ((κs : Lfts n) → Dens κs ps → Call) → ((κs : Lfts n) → (res_t r κs).Denot → Answer) → ((κs : Lfts n) → AtExit (ended_of n ps r) κs → List ℕ) → Type 0
OneReply n ps r Post call answer room =
    (κs : Lfts n) (a : Dens κs ps) (x y : (res_t r κs).Denot) (s t : AtExit (ended_of n ps r) κs) → Post κs a x s → Post κs a y t → SameReply (call κs a) (answer κs x) (room κs s) (answer κs y) (room κs t)

pub same_reply : {room : List ℕ} {c : Call} {x y : Answer} {left left' : List ℕ} → Served room c x.status x.value left → Served room c y.status y.value left'
    → SameReply c x left y left'
same_reply p q =
    let e = one_result base _ _ _ _ _ _ _ _ p q in
    record { answers = λ i. record { status = e.statuses i; value = e.values i }; rooms = e }
