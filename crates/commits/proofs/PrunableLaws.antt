-- A room that was seen to hold a state can be pruned, as it is and with one of the active ones taken out.
use Prim.Native.Nat.{ℕ, ◌-◌, ◌≤◌}
use mathlib.Core.Path.{◌≡◌, refl, sym, ap, subst}
use mathlib.Core.List.{List, []}
use mathlib.Core.Option.{none}
use native.Mathlib.Omega.{arith}
use lib.ListN.{length}
use lib.Seq.{paste}
use Rattle.machine.specs.Lists.{All}
use Rattle.machine.specs.State.{Bytes, State, with_active, base}
use Rattle.machine.proofs.ListLaws.{all_map}
use Rattle.machine.proofs.ActiveLaws.{without_all}
use Rattle.codec.specs.Formats.{number}
use Rattle.moves.specs.Splices.{Spliced}
use Rattle.layout.specs.Offsets.{count_size, active_count_at, entries_at, any_length}
use Rattle.layout.specs.Records.{entry_form, txn_form}
use Rattle.layout.specs.States.{heads_of, set_active_count}
use Rattle.layout.specs.Rows.{Row}
use Rattle.room.specs.declared.View.{View}
use Rattle.room.specs.Views.{Seen}
use Rattle.std.specs.Prelude.{Ok}
use Rattle.fields.specs.declared.Span.{Span}
use Rattle.places.specs.Finds.{Found}
use Rattle.edits.specs.Laid.{Laid, write_entries, write_active}
use Rattle.edits.specs.Leaving.{Unpruned, Tells, Prunable}
use Rattle.edits.proofs.LaidLaws.{relaid, rebased, laid_active}
use Rattle.layout.proofs.RowLaws.{row_ok, ok_append}
use Rattle.edits.proofs.StandLaws.{laid_entry_row, laid_txn_row}
use Rattle.answers.proofs.SeenLaws.{seen_held, seen_laid, entry_row, active_row, seen_middle}
use Rattle.answers.proofs.FoundLaws.{here}
use Rattle.answers.proofs.LeftLaws.{left, left_is, left_many, here_out}

module _ {s : List ℕ} {v : View} (w : Seen s v) where
  seen_started : All (λ t. t.start ≤ w.state.last) w.state.active
  seen_started = all_map _ _ (λ t o. o.started) w.state.active (seen_held w).kept.txns

  pub seen_unpruned : Unpruned base s w.state v.middle v.used
  seen_unpruned = record { laid = seen_laid w; entries = entry_row w; active = active_row w; started = seen_started; small = (seen_held w).last }

  pub seen_tells : Tells w.state v.last v.entries v.active
  seen_tells = record { last = sym w.last; entries = sym w.entries; active = sym w.active }

  pub seen_prunable : Prunable s v.last v.entries v.active v.middle v.used
  seen_prunable = record { ceilings = base; state = w.state; stands = seen_unpruned; tells = seen_tells }

  module _ {id : Bytes} {p : Span} (f : Found s v.middle v.active id (Ok p)) where
    -- the state without the one that was found
    abbrev pub rest : State
    rest = with_active (left w f) w.state

    pub rest_tells : Tells rest v.last v.entries (v.active - 1)
    rest_tells = record { last = sym w.last; entries = sym w.entries; active = omega (arith, left_many w f) }

    module _ {s1 s2 : List ℕ} (x : Spliced s v.used p.from (p.to - p.from) [] s1) (e : s2 ≡ paste s1 active_count_at ((number count_size).write (v.active - 1)) count_size) where
      pub here_laid : Laid base s s2 (v.used - (p.to - p.from)) (heads_of rest) (write_entries rest.entries) (write_active rest.active)
      here_laid =
          let c : v.active - 1 ≡ length (left w f) = omega (arith, left_many w f) in
          relaid refl (ap (λ (k : ℕ). set_active_count k (heads_of w.state)) c) refl refl (laid_active (here_out w f x) (v.active - 1) e)

      pub here_unpruned : Unpruned base s2 rest v.middle (v.used - (p.to - p.from))
      here_unpruned =
          let d = here_laid in
          let oe = row_ok (entry_form any_length) none s entries_at w.state.entries v.middle (entry_row w) in
          let ot = ok_append (txn_form any_length) none (here w f).front (here w f).back (row_ok (txn_form any_length) none s v.middle (here w f).front p.from (here w f).before) (λ o. row_ok (txn_form any_length) o s p.to (here w f).back v.used (here w f).after) in
          record {
            laid = rebased d;
            entries = subst (Row (entry_form any_length) s2 entries_at w.state.entries) (sym (seen_middle w)) (laid_entry_row w.state.entries (left w f) d oe);
            active = subst (λ (m : ℕ). Row (txn_form any_length) s2 m (left w f) (v.used - (p.to - p.from))) (sym (seen_middle w)) (laid_txn_row w.state.entries (left w f) d ot);
            started = rw (← left_is w f) (without_all id _ w.state.active seen_started);
            small = (seen_held w).last;
          }
