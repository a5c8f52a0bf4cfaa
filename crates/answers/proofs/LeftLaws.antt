-- A room with one of the active ones taken out.
use Prim.Native.Nat.{ℕ, ◌+◌, ◌-◌, ◌≤◌, ◌<◌}
use mathlib.Core.Path.{◌≡◌, refl, sym, ap, ◌∙◌}
use mathlib.Core.List.{List, [], ◌∷◌, ◌++◌}
use native.Mathlib.Omega.{arith}
use lib.ListN.{length, length-append}
use Rattle.std.specs.Prelude.{Ok}
use Rattle.fields.specs.declared.Span.{Span}
use Rattle.machine.specs.State.{Bytes, Txn, base}
use Rattle.machine.specs.Sets.{without}
use Rattle.moves.specs.Splices.{Spliced}
use Rattle.layout.specs.Offsets.{any_length}
use Rattle.layout.specs.Records.{txn_form}
use Rattle.layout.proofs.FillLaws.{fills_end}
use Rattle.layout.proofs.RowLaws.{row_inside, row_end}
use Rattle.room.specs.declared.View.{View}
use Rattle.room.specs.Views.{Seen}
use Rattle.places.specs.Finds.{HereIn, Found}
use Rattle.places.proofs.FindLaws.{here_without}
use Rattle.layout.specs.States.{heads_of}
use Rattle.edits.specs.Laid.{Laid, write_entries, write_active}
use Rattle.edits.proofs.LaidLaws.{relaid}
use Rattle.edits.proofs.ChangeLaws.{laid_out}
use Rattle.answers.proofs.SeenLaws.{seen_held, seen_laid, seen_middle}
use Rattle.answers.proofs.FoundLaws as F

module _ {s : List ℕ} {v : View} (w : Seen s v) where
  module _ {id : Bytes} {p : Span} (f : Found s v.middle v.active id (Ok p)) where
    abbrev here : HereIn s v.middle id w.state.active v.used p.from p.to
    here = F.here w f

    -- those who are left
    abbrev pub left : List Txn
    left = here.front ++ here.back

    pub left_is : without id w.state.active ≡ left
    left_is = here_without here (seen_held w).kept.distinct

    pub left_many : v.active ≡ length left + 1
    left_many =
        w.active ∙ ap length here.whole ∙ length-append here.front (here.one ∷ here.back) ∙ sym (ap (λ (n : ℕ). n + 1) (length-append here.front here.back) ∙ omega arith)

    pub record Bounds : Type 0 where
      pub after : v.middle ≤ p.from
      pub from : p.from ≤ p.to
      pub within : p.to ≤ v.used
      pub inside : v.used ≤ length s
      pub some : 0 < v.active

    pub here_bounds : Bounds
    here_bounds =
        let a = row_inside (txn_form any_length) s v.middle here.front p.from here.before in
        let b = row_inside (txn_form any_length) s p.to here.back v.used here.after in
        record { after = a.0; from = here.fills.from; within = b.0; inside = b.1; some = omega (arith, left_many) }

    pub here_out : {s1 : List ℕ} → Spliced s v.used p.from (p.to - p.from) [] s1 → Laid base s s1 (v.used - (p.to - p.from)) (heads_of w.state) (write_entries w.state.entries) (write_active left)
    here_out x =
        let a : p.from ≡ v.middle + length (write_active here.front) = row_end (txn_form any_length) s v.middle here.front p.from here.before in
        laid_out here.front here.back here.one (relaid refl refl refl (ap write_active here.whole) (seen_laid w)) (omega (arith, a, seen_middle w)) (omega (arith, fills_end (txn_form any_length) here.fills)) x
