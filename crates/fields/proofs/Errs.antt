-- What holds of every error holds of a result that is one.
use mathlib.Core.Bool.{false≢true}
use Rattle.std.specs.Prelude.{Result, Ok, Err, IsErr}

pub by_err : {T E : Type 0} (P : Result T E → Type 0) (r : Result T E) → IsErr r → ((e : E) → P (Err e)) → P r
by_err P (Ok x) h f = absurd (false≢true h)
by_err P (Err e) h f = f e
