-- Where the parts of a state stand that a room was seen to hold.
use Prim.Native.Nat.{ℕ, ◌+◌, ◌≤◌}
use mathlib.Core.Path.{◌≡◌, refl, sym, ◌∙◌}
use mathlib.Core.List.{List}
use native.Mathlib.Omega.{arith}
use lib.ListN.{length, drop, length-append}
use Rattle.machine.specs.State.{State, Ceilings}
use Rattle.machine.specs.Calls.{holding}
use Rattle.codec.specs.Formats.{bind, only}
use Rattle.codec.specs.Stands.{Stands}
use Rattle.codec.proofs.RecordLaws.{stands_length}
use Rattle.layout.specs.Keys.{any_order}
use Rattle.layout.specs.Offsets.{entries_at, any_length}
use Rattle.layout.specs.Records.{head_form, counts_form, counts_of, part_raw, to_content, of_content, part_same, part_form, entry_form, txn_form, entries_form, active_form, below_id}
use Rattle.layout.specs.States.{state_raw, to_state, of_state, content_of, heads_of, plain_form, state_form, room_size}
use Rattle.layout.specs.Rooms.{load}
use Rattle.layout.specs.Rows.{Fills, Row}
use Rattle.layout.proofs.FillLaws.{both, through, fills_end}
use Rattle.layout.proofs.RowLaws.{run_row, row_end}
use Rattle.layout.proofs.SizeLaws.{heads_length, machine_size}
use Rattle.layout.proofs.HoldLaws.{Small}
use Rattle.layout.proofs.WideLaws.{stands_wide}
use Rattle.layout.proofs.LoadLaws.{HeldBy, load_read, held}
use Rattle.edits.specs.Laid.{Laid, write_entries, write_active}
use Rattle.edits.proofs.LaidLaws.{laid_start}

pub record Rowed (s : List ℕ) (st : State) (used : ℕ) : Type 0 where
  pub entries : Row (entry_form any_length) s entries_at st.entries (entries_at + length (write_entries st.entries))
  pub active : Row (txn_form any_length) s (entries_at + length (write_entries st.entries)) st.active used

module _ (L : Ceilings) (small : Small L) (s : List ℕ) (st : State) (used : ℕ) (w : Stands (state_form L) s 0 st used) (i : used ≤ length s) (z : room_size L ≤ length s) where
  pub sight_load : load L s ≡ holding st
  sight_load = load_read L s z st (drop used s) w.reads

  pub sight_held : HeldBy L s st
  sight_held = held L s st sight_load

  pub sight_used : used ≡ length ((plain_form L.key).write st)
  unfolding state_form only
  sight_used = stands_length (state_form L) w (omega arith) i ∙ omega arith

  pub sight_short : used ≤ room_size L
  sight_short = omega (arith, sight_used, machine_size L L.key st sight_held.kept)

  pub sight_laid : Laid L s s used (heads_of st) (write_entries st.entries) (write_active st.active)
  sight_laid = laid_start s st used sight_held sight_used sight_short

  -- no limit of the ceilings is asked for: the state's record is one under the widest too
  pub sight_rows : Rowed s st used
  unfolding plain_form part_form entries_form active_form
  sight_rows =
      let p : Fills (plain_form any_length) s 0 st used = record { stands = stands_wide L small w; from = omega arith; inside = i } in
      let q = through (state_raw any_length) to_state of_state (λ b. refl) (λ a o. refl) p in
      let h = both head_form (λ l. part_form any_length) q in
      let c = both counts_form (λ c. bind (entries_form any_length c.entries) (λ es. active_form any_length c.active)) (through (part_raw any_length) to_content of_content (λ b. refl) (part_same any_length) h.two) in
      let m : c.middle ≡ entries_at = fills_end counts_form c.one ∙ omega (arith, fills_end head_form h.one, counted) in
      go c.middle m c.two
    where
      counted : length (head_form.write st.last) + length (counts_form.write (counts_of (content_of st))) ≡ entries_at
      counted = sym (length-append (head_form.write st.last) (counts_form.write (counts_of (content_of st)))) ∙ heads_length (heads_of st)

      rows : (mid : ℕ) → Fills (entries_form any_length (length st.entries)) s entries_at st.entries mid → Fills (active_form any_length (length st.active)) s mid st.active used → Rowed s st used
      rows mid x y =
          let re = run_row (entry_form any_length) any_order (length st.entries) x in
          let rt = run_row (txn_form any_length) below_id (length st.active) y in
          let f : mid ≡ entries_at + length (write_entries st.entries) = row_end (entry_form any_length) s entries_at st.entries mid re.0 in
          record { entries = rw (← f) re.0; active = rw (← f) rt.0 }

      go : (m : ℕ) → m ≡ entries_at → Fills (bind (entries_form any_length (length st.entries)) (λ es. active_form any_length (length st.active))) s m (st.entries, st.active) used → Rowed s st used
      go m e b =
          let b' : Fills (bind (entries_form any_length (length st.entries)) (λ es. active_form any_length (length st.active))) s entries_at (st.entries, st.active) used = rw e at b in
          let c = both (entries_form any_length (length st.entries)) (λ es. active_form any_length (length st.active)) b' in
          rows c.middle c.one c.two
