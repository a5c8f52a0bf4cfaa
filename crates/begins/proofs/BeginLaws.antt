-- Each way that fresh and begin end.
use Prim.Native.Nat.{ℕ, ◌+◌, ◌≤◌, ◌<◌, ◌^◌}
use mathlib.Core.Path.{◌≡◌, refl, sym, ap, ◌∙◌, subst}
use mathlib.Core.List.{List}
use native.Mathlib.Omega.{arith}
use mathlib.Core.Option.{none}
use lib.ListN.{length, length-append}
use lib.Seq.{paste}
use Rattle.machine.specs.State.{Bytes, Txn, base, Fits}
use Rattle.machine.specs.Lists.{sum}
use Rattle.machine.specs.Sets.{put, find}
use Rattle.machine.specs.Calls.{on, begin, malformed, again, full, fresh}
use Rattle.machine.specs.Serve.{new_txn, begun}
use Rattle.machine.proofs.ActiveLaws.{put_new_length, put_all}
use Rattle.codec.specs.Formats.{number}
use Rattle.codec.specs.Stands.{Stands}
use Rattle.codec.proofs.RecordLaws.{stands_one}
use Rattle.moves.specs.Splices.{Spliced}
use Rattle.layout.specs.Offsets.{number_size, count_size, id_size, last_at, part_at, active_count_at, entries_at, txn_size, any_length}
use Rattle.layout.specs.Records.{txn_form}
use Rattle.layout.specs.States.{heads_of, set_active_count, room_size}
use Rattle.layout.specs.Rooms.{Served}
use Rattle.layout.proofs.RowLaws.{row_end, row_inside, write_append}
use Rattle.layout.proofs.SizeLaws.{txn_length, ids_long, fits_size, state_length}
use Rattle.layout.proofs.HoldLaws.{base_small}
use Rattle.layout.proofs.LoadLaws.{refuse, change, make_fresh}
use Rattle.edits.specs.Laid.{write_entries, write_active}
use Rattle.edits.specs.Edits.{Freshened}
use Rattle.edits.proofs.LaidLaws.{relaid, laid_used, laid_active, laid_end, laid_number}
use Rattle.edits.proofs.ChangeLaws.{fresh_changed, active_split, laid_put}
use Rattle.std.specs.Prelude.{Ok, Err}
use Rattle.fields.specs.declared.Span.{Span}
use Rattle.places.specs.Finds.{Found, BeforeIn}
use Rattle.places.proofs.FindLaws.{before_puts}
use Rattle.room.specs.declared.View.{View}
use Rattle.room.specs.Views.{Seen}
use Rattle.answers.proofs.StateLaws.{begin_malformed, begin_again, begin_full, begin_fits, begin_done}
use Rattle.answers.proofs.SeenLaws.{seen_load, seen_held, seen_laid, seen_middle}
use Rattle.answers.proofs.FoundLaws.{not_here, not_found, here, found}

pub fresh_made : {s s' : List ℕ} {n : ℕ} → room_size base ≤ length s → Freshened s n s' → n < 256 ^ number_size → Served s (fresh n) 0 n s'
fresh_made {s} {s'} {n} h e l = make_fresh base base_small s s' n h (fresh_changed base h e l)

new_length : (id : Bytes) (n : ℕ) → length id ≡ id_size → length ((txn_form any_length).write (new_txn id n)) ≡ txn_size
unfolding sum
new_length id n h = txn_length any_length (new_txn id n) h ∙ omega arith

module _ (s : List ℕ) (v : View) (id : Bytes) (w : Seen s v) where
  pub begins_malformed : (length id ≡ id_size → ⊥) → Served s (on (begin id)) 2 0 s
  begins_malformed h = refuse s w.state (begin id) (seen_load w) malformed (begin_malformed base w.state id h)

  pub begins_again : {p : Span} → length id ≡ id_size → Found s v.middle v.active id (Ok p) → Served s (on (begin id)) 3 0 s
  begins_again h f = refuse s w.state (begin id) (seen_load w) again (begin_again base w.state id (here w f).one h (found w f))

  module _ {p : ℕ} (h : length id ≡ id_size) (f : Found s v.middle v.active id (Err p)) where
    place : BeforeIn s v.middle id w.state.active v.used p
    place = not_here w f

    unknown : find id w.state.active ≡ none
    unknown = not_found w f

    pub begins_full : base.active ≤ v.active → Served s (on (begin id)) 6 0 s
    begins_full k = refuse s w.state (begin id) (seen_load w) full (begin_full base w.state id h unknown (omega (arith, w.active)))

    -- where the new one goes
    place_at : p ≡ entries_at + (length (write_entries w.state.entries) + length (write_active place.front))
    place_at = omega (arith, row_end (txn_form any_length) s v.middle place.front p place.before, seen_middle w)

    module _ (k : v.active < base.active) where
      fits_in : Fits base (begun id w.state)
      fits_in = begin_fits base w.state id unknown (omega (arith, w.active)) (seen_held w).kept.ceilings

      room_for : v.used + txn_size ≤ room_size base
      room_for =
          let t : Txn = new_txn id w.state.last in
          let long = fits_size base any_length (begun id w.state) fits_in (put_all (λ u. length u.id ≡ id_size) t w.state.active h (ids_long base w.state.last w.state.active (seen_held w).kept.txns)) in
          let a : length (write_active (put t w.state.active)) ≡ length (write_active place.front) + (txn_size + length (write_active place.back)) =
          ap (λ (x : List Txn). length (write_active x)) (before_puts place t refl) ∙ ap length (active_split place.front t place.back) ∙ length-append (write_active place.front) _
          ∙ rw (length-append ((txn_form any_length).write t) (write_active place.back), new_length id w.state.last h) in
          let b : length (write_active w.state.active) ≡ length (write_active place.front) + length (write_active place.back) =
          ap (λ (x : List Txn). length (write_active x)) place.whole ∙ ap length (write_append (txn_form any_length) place.front place.back) ∙ length-append (write_active place.front) (write_active place.back) in
          omega (arith, laid_used (seen_laid w), a, b, state_length any_length (begun id w.state), long)

      pub begin_space : (p ≤ v.used) × (v.used + txn_size ≤ length s) × (length id ≡ id_size)
      begin_space = ((row_inside (txn_form any_length) s p place.back v.used place.after).0, omega (arith, room_for, w.size), h)

      pub begins : {s1 s2 : List ℕ} {n : ℕ} → Stands (number number_size) s last_at n part_at → Spliced s v.used p 0 ((txn_form any_length).write (new_txn id n)) s1 → s2 ≡ paste s1 active_count_at ((number count_size).write (v.active + 1)) count_size
          → Served s (on (begin id)) 0 n s2
      begins {s1} {s2} {n} g a b =
          let e : n ≡ w.state.last = stands_one (number number_size) g (laid_number (seen_laid w) (seen_held w).last) in
          subst (λ (x : ℕ). Served s (on (begin id)) 0 x s2) (sym e) (go (subst (λ (x : ℕ). Spliced s v.used p 0 ((txn_form any_length).write (new_txn id x)) s1) e a))
        where
          go : Spliced s v.used p 0 ((txn_form any_length).write (new_txn id w.state.last)) s1 → Served s (on (begin id)) 0 w.state.last s2
          go a' =
              let t : Txn = new_txn id w.state.last in
              let v0 = relaid refl refl refl (ap write_active place.whole) (seen_laid w) in
              let v1 = laid_put place.front place.back t v0 place_at a' (rw (new_length id w.state.last h) room_for) in
              let v2 = laid_active v1 (v.active + 1) b in
              let c : v.active + 1 ≡ length (put t w.state.active) = omega (arith, w.active, put_new_length t w.state.active unknown) in
              let v3 = relaid refl (ap (λ (k : ℕ). set_active_count k (heads_of w.state)) c) refl (sym (ap write_active (before_puts place t refl))) v2 in
              change s s2 w.state (begun id w.state) (begin id) (seen_load w) (laid_end (begun id w.state) v3 (seen_held w).last) w.state.last
              (begin_done base w.state id h unknown (omega (arith, w.active)) (seen_held w).kept.ceilings)
