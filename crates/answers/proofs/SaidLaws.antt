-- What a call leaves, by the answer that says it, and by the result that a `?` hands on.
use Prim.Native.Nat.{ℕ}
use mathlib.Core.Path.{◌≡◌, sym, subst}
use mathlib.Core.List.{List}
use Rattle.std.specs.Prelude.{Result, Ok, Err, IsErrAnd}
use Rattle.machine.specs.Calls.{Call}
use Rattle.layout.specs.Rooms.{Served}
use Rattle.answers.specs.declared.Answer.{Answer}
use Rattle.answers.specs.declared.Outcome.{Outcome}
use Rattle.answers.specs.declared.Refusal.{Refusal}
use Rattle.answers.specs.Says.{Says, refusal_number, status_of, value_of}

pub said : {s s' : List ℕ} {c : Call} {n v : ℕ} {r : Answer} → Says r n v → Served s c n v s' → Served s c r.status r.value s'
said {s} {s'} {c} {n} {v} {r} h w =
    subst (λ (x : ℕ). Served s c x r.value s') (sym h.status) (subst (λ (x : ℕ). Served s c n x s') (sym h.value) w)

-- at the exit of a `?`: the refusal that the error is made into
pub refuses : {s s' : List ℕ} {c : Call} (e : Refusal) (r : Result Outcome Refusal) → IsErrAnd r (λ x. x ≡ e) → Served s c (refusal_number e) 0 s' → Served s c (status_of r) (value_of r) s'
refuses e (Ok o) h w = absurd h
refuses e (Err y) h w = rw h w
