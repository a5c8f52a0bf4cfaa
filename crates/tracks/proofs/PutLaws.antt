-- A record that is spliced in where one of a row's records begins, for any format.
use Prim.Native.Nat.{ℕ, ◌+◌, ◌≤◌}
use mathlib.Core.Path.{◌≡◌, sym, ap, ◌∙◌}
use mathlib.Core.List.{List, ◌∷◌, ◌++◌}
use mathlib.Core.Option.{none, some}
use native.Mathlib.Omega.{arith}
use lib.ListN.{length, take, drop, take-append-drop}
use lib.Seq.{length-take-le}
use Rattle.codec.specs.Codec.{Codec, write_run, RunOk}
use Rattle.moves.specs.Splices.{Spliced, used_after}
use Rattle.layout.specs.Keys.{any_order}
use Rattle.layout.specs.Rows.{Row}
use Rattle.layout.proofs.RowLaws.{row_slice, row_of, row_ok, ok_append, any_fine, write_append}

module _ {A : Type 0} (C : Codec A) (s : List ℕ) (xs ys : List A) (a : A) (at used : ℕ) (s' : List ℕ) (r : Row C s 0 xs at) (q : Row C s at ys used) (w : Spliced s used at 0 (C.write a) s') where
  put_bytes : take (used + length (C.write a)) s' ≡ write_run C (xs ++ (a ∷ ys))
  unfolding write_run
  put_bytes =
      let u : used_after used 0 (C.write a) ≡ used + length (C.write a) = omega arith in
      let z : at + 0 ≡ at = omega arith in
      let x : take at s ≡ write_run C xs = row_slice C s 0 xs at r in
      let y : drop at (take used s) ≡ write_run C ys = row_slice C s at ys used q in
      (rw (u, z) at w.bytes) ∙ rw (x, y) (sym (write_append C xs (a ∷ ys)))

  pub row_put : C.Ok a → used + length (C.write a) ≤ length s → Row C s' 0 (xs ++ (a ∷ ys)) (used + length (C.write a))
  row_put o h =
      let n : ℕ = used + length (C.write a) in
      let whole : List ℕ = write_run C (xs ++ (a ∷ ys)) in
      let b : s' ≡ whole ++ drop n s' = sym (take-append-drop n s') ∙ ap (λ (l : List ℕ). l ++ drop n s') put_bytes in
      let k : length whole ≡ n = ap length (sym put_bytes) ∙ length-take-le n s' (omega (arith, w.size)) in
      let ok : RunOk C any_order none (xs ++ (a ∷ ys)) =
      ok_append C none xs (a ∷ ys) (row_ok C none s 0 xs at r) (λ p. (any_fine C p a, (o, row_ok C (some a) s at ys used q))) in
      ends_at (omega (arith, k)) (row_of C any_order none s' 0 (xs ++ (a ∷ ys)) (drop n s') ok (omega arith) b)
    where
      ends_at : {e f : ℕ} → e ≡ f → Row C s' 0 (xs ++ (a ∷ ys)) e → Row C s' 0 (xs ++ (a ∷ ys)) f
      ends_at x y = rw (← x) y
