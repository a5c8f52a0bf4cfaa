-- The records of a room's entries and active ones stand where its bytes are laid out.
use Prim.Native.Nat.{ℕ, ◌+◌}
use mathlib.Core.Path.{◌≡◌, refl, sym, ap, ◌∙◌}
use mathlib.Core.List.{List, ◌++◌, append_assoc}
use mathlib.Core.Option.{none}
use native.Mathlib.Omega.{arith}
use lib.ListN.{length, drop, take-append-drop}
use lib.Seq.{drop_at, drop-drop}
use Rattle.machine.specs.State.{Txn, Entry, Ceilings}
use Rattle.codec.specs.Codec.{RunOk}
use Rattle.layout.specs.Offsets.{entries_at, any_length}
use Rattle.layout.specs.Keys.{any_order}
use Rattle.layout.specs.Records.{entry_form, txn_form}
use Rattle.layout.specs.States.{Heads, write_heads}
use Rattle.layout.specs.Rows.{Row}
use Rattle.layout.proofs.RowLaws.{row_of}
use Rattle.layout.proofs.SizeLaws.{heads_length}
use Rattle.edits.specs.Laid.{Laid, write_entries, write_active}
use Rattle.edits.proofs.LaidLaws.{inside, laid_used}

behind : {L : Ceilings} {s0 s : List ℕ} {used : ℕ} {h : Heads} {es ts : List ℕ} → Laid L s0 s used h es ts → drop entries_at s ≡ es ++ (ts ++ drop used s)
behind {s = s} {used} {h} {es} {ts} v =
    let e : s ≡ write_heads h ++ (es ++ (ts ++ drop used s)) = sym (take-append-drop used s) ∙ ap (λ (x : List ℕ). x ++ drop used s) v.bytes ∙ simp append_assoc in
    ap (drop entries_at) e ∙ drop_at (write_heads h) (es ++ (ts ++ drop used s)) entries_at (heads_length h)

module _ {L : Ceilings} {s0 s : List ℕ} {used : ℕ} {h : Heads} (es : List Entry) (ts : List Txn) (v : Laid L s0 s used h (write_entries es) (write_active ts)) where
  pub laid_entry_row : RunOk (entry_form any_length) any_order none es → Row (entry_form any_length) s entries_at es (entries_at + length (write_entries es))
  laid_entry_row o = row_of (entry_form any_length) any_order none s entries_at es (write_active ts ++ drop used s) o (omega (arith, laid_used v, inside v)) (behind v)

  pub laid_txn_row : RunOk (txn_form any_length) any_order none ts → Row (txn_form any_length) s (entries_at + length (write_entries es)) ts used
  laid_txn_row o =
      let m : ℕ = entries_at + length (write_entries es) in
      let b : drop m s ≡ write_active ts ++ drop used s = sym (drop-drop (length (write_entries es)) entries_at s) ∙ ap (drop (length (write_entries es))) (behind v) ∙ drop_at (write_entries es) (write_active ts ++ drop used s) (length (write_entries es)) refl in
      let e : m + length (write_active ts) ≡ used = omega (arith, laid_used v) in
      ended m _ _ e (row_of (txn_form any_length) any_order none s m ts (drop used s) o (omega (arith, laid_used v, inside v)) b)
    where
      ended : (m e f : ℕ) → e ≡ f → Row (txn_form any_length) s m ts e → Row (txn_form any_length) s m ts f
      ended m e f q r = rw (← q) r
