-- Check and minimum only look: the room is as it was, whatever they answer.
use mathlib.Core.Path.{◌≡◌, refl}
use mathlib.Core.Bool.{Bool, true, false}
use mathlib.Core.Option.{Option, none, some}
use Prim.Native.Nat.{ℕ}
use Rattle.machine.specs.State.{Bytes, Txn, State, Ceilings}
use Rattle.machine.specs.Sets.{find, least, conflict}
use Rattle.machine.specs.Calls.{check, minimum, on, holding, malformed, absent, done, reply, need, given, ◌>>=◌, ◌>>◌}
use Rattle.machine.specs.Serve.{is_id, verdict, answer, serve}

pub check_looks : (L : Ceilings) (s : State) (i : Bytes) → (serve L (holding s) (on (check i))).room ≡ holding s
unfolding serve answer
check_looks L s i = go (is_id i) (find i s.active)
  where
    go : (b : Bool) (o : Option Txn) → (reply s (need b malformed >> (given o (absent 0 s) >>= λ t. done (verdict (conflict t s.entries)) s))).room ≡ holding s
    go false o = refl
    go true none = refl
    go true (some t) = refl

pub minimum_looks : (L : Ceilings) (s : State) → (serve L (holding s) (on minimum)).room ≡ holding s
unfolding serve answer
minimum_looks L s = go (least s.active)
  where
    go : (o : Option ℕ) → (reply s (given o (absent 0 s) >>= λ m. done m s)).room ≡ holding s
    go none = refl
    go (some m) = refl
