-- What an answer says: the status and the value of what a call returns.
use Rattle.std.specs.Prelude.{ℕ, ◌≡◌, Result, Ok, Err}
use Rattle.fields.specs.declared.FormError.{FormError}
use Rattle.answers.specs.declared.Answer.{Answer}
use Rattle.answers.specs.declared.Outcome.{Outcome}
use Rattle.answers.specs.declared.Refusal.{Refusal}

-- it has this status and this value
pub record Says (r : Answer) (n v : ℕ) : Type 0 where
  pub status : r.status ≡ n
  pub value : r.value ≡ v

-- "2: malformed", "3: begin of an active id", "4: a key over 512 bytes", "5: an empty range", "6: a limit would be passed", "7: no state"
abbrev pub refusal_number : Refusal → ℕ
refusal_number Refusal.Malformed = 2
refusal_number Refusal.Again = 3
refusal_number Refusal.LongKey = 4
refusal_number Refusal.EmptyRange = 5
refusal_number Refusal.Full = 6
refusal_number Refusal.NoState = 7

-- how a key list that is badly formed, or has an over-long key, is refused
abbrev pub form_refusal : FormError → Refusal
form_refusal FormError.Malformed = Refusal.Malformed
form_refusal FormError.LongKey = Refusal.LongKey

-- "0: done", "1: id isn't active, or minimum with nobody active", or a refusal's number
abbrev pub status_of : Result Outcome Refusal → ℕ
status_of (Ok (Outcome.Done v)) = 0
status_of (Ok (Outcome.Absent v)) = 1
status_of (Err e) = refusal_number e

-- the call's own value; a refusal has none
abbrev pub value_of : Result Outcome Refusal → ℕ
value_of (Ok (Outcome.Done v)) = v
value_of (Ok (Outcome.Absent v)) = v
value_of (Err e) = 0
