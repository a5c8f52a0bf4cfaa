-- What a view says of the totals, and of the transaction that an id was looked for.
use Prim.Native.Nat.{ℕ, ◌+◌, ◌-◌, ◌*◌, ◌≤◌}
use native.Mathlib.Nat.{le_refl}
use mathlib.Core.Path.{◌≡◌, refl, sym, ap, ◌∙◌}
use mathlib.Core.List.{◌∷◌, ◌++◌}
use mathlib.Core.Option.{none, some}
use native.Mathlib.Omega.{arith}
use lib.ListN.{length}
use Rattle.std.specs.Prelude.{Ok, Err}
use Rattle.fields.specs.declared.Span.{Span}
use Rattle.machine.specs.State.{Bytes, State, with_active, Txn, Ceilings, base, marks, key_bytes, Fits}
use Rattle.machine.specs.Sets.{put, find}
use Rattle.machine.proofs.ListLaws.{all_map}
use Rattle.machine.proofs.ActiveLaws.{put_known_length}
use Rattle.layout.specs.Offsets.{id_size, entries_at, mark_size, any_length}
use Rattle.layout.specs.Records.{txn_form}
use Rattle.layout.specs.States.{heads_of, set_active_count, room_size}
use Rattle.layout.specs.Rows.{Here}
use Rattle.layout.proofs.RowLaws.{row_end}
use Rattle.layout.proofs.SizeLaws.{fits_size}
use Rattle.layout.proofs.HoldLaws.{base_small}
use Rattle.layout.proofs.LoadLaws.{Changed}
use Rattle.places.specs.Finds.{Found, HereIn, BeforeIn}
use Rattle.places.proofs.FindLaws.{here_id, here_finds, here_puts, before_finds}
use Rattle.edits.specs.Laid.{Laid, write_entries, write_active}
use Rattle.edits.proofs.LaidLaws.{relaid, laid_end}
use Rattle.answers.proofs.SightLaws.{sight_used}
use Rattle.answers.proofs.SeenLaws.{seen_held, seen_laid, seen_middle, found_in}
use Rattle.room.specs.declared.View.{View}
use Rattle.room.specs.Views.{Seen}

module _ {s : Bytes} {v : View} (n : Seen s v) where
  pub within : (v.marks ≤ base.marks) × (v.bytes ≤ base.bytes)
  within = (omega (arith, n.marks, (seen_held n).kept.ceilings.marks), omega (arith, n.bytes, (seen_held n).kept.ceilings.bytes))

  -- what the totals leave finds room: a mark takes `mark_size` bytes at most beside its key bytes
  pub space_left : v.used + mark_size * (base.marks - v.marks) + (base.bytes - v.bytes) ≤ room_size base
  space_left =
      let L : Ceilings = record { active = base.active; entries = base.entries; marks = marks n.state; bytes = key_bytes n.state; key = base.key } in
      let f : Fits L n.state = record { active = (seen_held n).kept.ceilings.active; entries = (seen_held n).kept.ceilings.entries; marks = le_refl _; bytes = le_refl _ } in
      let a = all_map _ (λ t. length t.id ≡ id_size) (λ t o. o.id_length) n.state.active (seen_held n).kept.txns in
      omega (arith, fits_size L base.key n.state f a, sight_used base base_small s n.state v.used n.whole n.inside n.size, n.marks, n.bytes, (seen_held n).kept.ceilings.marks, (seen_held n).kept.ceilings.bytes)

  module _ {id : Bytes} {p : ℕ} (f : Found s v.middle v.active id (Err p)) where
    pub not_here : BeforeIn s v.middle id n.state.active v.used p
    not_here = found_in n id (Err p) f

    pub not_found : find id n.state.active ≡ none
    not_found = before_finds not_here (seen_held n).kept.distinct

  module _ {id : Bytes} {p : Span} (f : Found s v.middle v.active id (Ok p)) where
    pub here : HereIn s v.middle id n.state.active v.used p.from p.to
    here = found_in n id (Ok p) f

    pub txn_here : Here (txn_form any_length) s p.from
    txn_here = record { val = here.one; end = p.to; fills = here.fills }

    pub found : find id n.state.active ≡ some here.one
    found = here_finds here

    pub place : p.from ≡ entries_at + (length (write_entries n.state.entries) + length (write_active here.front))
    place = row_end (txn_form any_length) s v.middle here.front p.from here.before ∙ omega (arith, seen_middle n)

    pub laid : Laid base s s v.used (heads_of n.state) (write_entries n.state.entries) (write_active (here.front ++ (here.one ∷ here.back)))
    laid = relaid refl refl refl (ap write_active here.whole) (seen_laid n)

    -- another in the place of the one that was found
    pub changed : {s' : Bytes} {used' : ℕ} (t : Txn) → t.id ≡ here.one.id
        → Laid base s s' used' (heads_of n.state) (write_entries n.state.entries) (write_active (here.front ++ (t ∷ here.back)))
        → Changed s s' (with_active (put t n.state.active) n.state)
    changed t i l =
        let st : State = with_active (put t n.state.active) n.state in
        let e : find t.id n.state.active ≡ some here.one = ap (λ (x : Bytes). find x n.state.active) (i ∙ sym (here_id here)) ∙ found in
        laid_end st (relaid refl (ap (λ (k : ℕ). set_active_count k (heads_of n.state)) (sym (put_known_length t n.state.active here.one e (seen_held n).kept.distinct))) refl (sym (ap write_active (here_puts here t i))) l) (seen_held n).last
