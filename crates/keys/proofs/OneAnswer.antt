-- "Show that any two results allowed for one call are equal", as a statement about a contract as the checker reads it.
use Prim.Native.Nat.{ℕ}
use mathlib.Core.Path.{◌≡◌}
use mathlib.Core.List.{List}
use contract.Lifetimes.{Lfts}
use denote.Triple.Clauses.{AtExit}
use borrow.Fn.Kinds.{ParamKind, ResultKind, Dens, Out, res_t, ended_of}

-- whatever the arguments, two results that the contract allows are equal
abbrev pub OneAnswer : (n : ℕ) (ps : List (ParamKind n)) (r : ResultKind n) → Out n ps r → Type 0
OneAnswer n ps r Post = (κs : Lfts n) (a : Dens κs ps) (x y : (res_t r κs).Denot) (s t : AtExit (ended_of n ps r) κs) → Post κs a x s → Post κs a y t → x ≡ y
