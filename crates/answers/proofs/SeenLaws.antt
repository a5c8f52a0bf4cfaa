-- What a view of a room says, in the terms of the laws about its parts.
use Prim.Native.Nat.{ℕ, ◌+◌, ◌≤◌}
use mathlib.Core.Path.{◌≡◌, sym, ap, ◌∙◌}
use mathlib.Core.List.{List}
use lib.ListN.{length}
use native.Mathlib.Omega.{arith}
use Rattle.std.specs.Prelude.{Option as Maybe, Some, None, Result, Err}
use Rattle.std.specs.Option.{ok_or}
use Rattle.std.specs.Result.{IsErrAnd}
use Rattle.fields.specs.declared.Span.{Span}
use Rattle.machine.specs.State.{Bytes, base}
use Rattle.machine.specs.Calls.{Op, on, holding}
use Rattle.layout.specs.Records.{entry_form, txn_form}
use Rattle.layout.specs.Offsets.{entries_at, any_length}
use Rattle.layout.specs.States.{heads_of, room_size}
use Rattle.layout.specs.Rooms.{load, Served}
use Rattle.layout.specs.Rows.{Row, Rows}
use Rattle.layout.proofs.HoldLaws.{base_small}
use Rattle.layout.proofs.WideLaws.{entries_alike}
use Rattle.layout.proofs.LoadLaws.{Held, no_state}
use Rattle.edits.specs.Laid.{Laid, write_entries, write_active}
use Rattle.places.specs.Finds.{Found, PlaceIn}
use Rattle.room.specs.declared.View.{View}
use Rattle.room.specs.Views.{Seen, HoldsNone, Opening}
use Rattle.answers.specs.declared.Outcome.{Outcome}
use Rattle.answers.specs.declared.Refusal.{Refusal}
use Rattle.answers.specs.Says.{refusal_number, status_of, value_of}
use Rattle.answers.proofs.SaidLaws.{refuses}
use Rattle.answers.proofs.SightLaws.{Rowed, sight_load, sight_held, sight_laid, sight_short, sight_rows}

-- every call on a room that holds no state
pub seen_nothing : {s : List ℕ} (c : Op) → HoldsNone s → Served s (on c) 7 0 s
seen_nothing {s} c w = no_state s c w.none

module _ {s : List ℕ} {v : View} (w : Seen s v) where
  pub seen_load : load base s ≡ holding w.state
  seen_load = sight_load base base_small s w.state v.used w.whole w.inside w.size

  pub seen_held : Held s w.state
  seen_held = sight_held base base_small s w.state v.used w.whole w.inside w.size

  pub seen_short : v.used ≤ room_size base
  seen_short = sight_short base base_small s w.state v.used w.whole w.inside w.size

  pub seen_laid : Laid base s s v.used (heads_of w.state) (write_entries w.state.entries) (write_active w.state.active)
  seen_laid = sight_laid base base_small s w.state v.used w.whole w.inside w.size

  rowed : Rowed s w.state v.used
  rowed = sight_rows base base_small s w.state v.used w.whole w.inside w.size

  pub seen_middle : v.middle ≡ entries_at + length (write_entries w.state.entries)
  seen_middle = w.middle ∙ ap (λ (x : List ℕ). entries_at + length x) (entries_alike base.key any_length w.state.entries)

  pub entry_row : Row (entry_form any_length) s entries_at w.state.entries v.middle
  entry_row = rw seen_middle rowed.entries

  pub active_row : Row (txn_form any_length) s v.middle w.state.active v.used
  active_row = rw seen_middle rowed.active

  pub entry_rows : Rows (entry_form any_length) s entries_at v.entries
  entry_rows = record { vals = w.state.entries; end = v.middle; row = entry_row; count = sym w.entries }

  pub active_rows : Rows (txn_form any_length) s v.middle v.active
  active_rows = record { vals = w.state.active; end = v.used; row = active_row; count = sym w.active }

  -- where the search for an id among the active ones ended
  pub found_in : (id : Bytes) (r : Result Span ℕ) → Found s v.middle v.active id r → PlaceIn s v.middle id w.state.active v.used r
  found_in id r f = f.is w.state.active v.used active_row (sym w.active)

-- a room that does not open, at the exit of the `?` behind `ok_or`
pub no_view : {s : List ℕ} {op : Op} (o : Maybe View) (e : Refusal) (r : Result Outcome Refusal) → Opening s o → Err e ≡ ok_or o Refusal.NoState → IsErrAnd r (λ x. x ≡ e) → Served s (on op) (status_of r) (value_of r) s
no_view {op = op} None e r w h g = refuses e r g (let q : refusal_number e ≡ 7 = grind arith in rw q (seen_nothing op w))
no_view (Some v) e r w h g = absurd (grind arith)
