-- How a drop ends.
use Prim.Native.Nat.{ℕ, ◌-◌}
use mathlib.Core.Path.{◌≡◌, refl}
use mathlib.Core.List.{List, []}
use lib.ListN.{length}
use lib.Seq.{paste}
use Rattle.machine.specs.State.{Bytes, base}
use Rattle.machine.specs.Calls.{on, drop_txn, malformed}
use Rattle.codec.specs.Formats.{number}
use Rattle.moves.specs.Splices.{Spliced}
use Rattle.layout.specs.Offsets.{count_size, id_size, active_count_at}
use Rattle.layout.specs.Rooms.{Served}
use Rattle.layout.proofs.LoadLaws.{refuse, change, change_absent}
use Rattle.room.specs.declared.View.{View}
use Rattle.room.specs.Views.{Seen}
use Rattle.std.specs.Prelude.{Ok, Err}
use Rattle.fields.specs.declared.Span.{Span}
use Rattle.places.specs.Finds.{Found}
use Rattle.edits.specs.Leaving.{Prunable, Recycled}
use Rattle.edits.proofs.LaidLaws.{changed_on}
use Rattle.answers.proofs.EnterLaws.{drop_malformed, drop_absent, drop_done}
use Rattle.answers.proofs.SeenLaws.{seen_load}
use Rattle.answers.proofs.FoundLaws.{not_found, here, found}
use Rattle.answers.proofs.LeftLaws.{left, left_is}
use Rattle.commits.proofs.PrunableLaws.{seen_unpruned, seen_tells, rest, rest_tells, here_laid, here_unpruned}

module _ {s : List ℕ} {v : View} (w : Seen s v) {id : Bytes} where
  pub drop_refused : (length id ≡ id_size → ⊥) → Served s (on (drop_txn id)) 2 0 s
  drop_refused h = refuse s w.state (drop_txn id) (seen_load w) malformed (drop_malformed base w.state id h)

  module _ (h : length id ≡ id_size) where
    pub drop_unknown : {p r : ℕ} {s' : List ℕ} → Found s v.middle v.active id (Err p) → Recycled s v.last v.entries v.active v.middle v.used s' r → Served s (on (drop_txn id)) 1 r s'
    drop_unknown {p} {r} {s'} f x =
        let y = x.is base w.state (seen_unpruned w) (seen_tells w) in
        rw y.count (change_absent s s' w.state _ (drop_txn id) (seen_load w) y.changed _ refl (drop_absent base w.state id h (not_found w f)))

    module _ {p : Span} {s1 s2 : List ℕ} (f : Found s v.middle v.active id (Ok p)) (x : Spliced s v.used p.from (p.to - p.from) [] s1) (e : s2 ≡ paste s1 active_count_at ((number count_size).write (v.active - 1)) count_size) where
      pub drop_prunable : Prunable s2 v.last v.entries (v.active - 1) v.middle (v.used - (p.to - p.from))
      drop_prunable = record { ceilings = base; state = rest w f; stands = here_unpruned w f x e; tells = rest_tells w f }

      pub drop_known : {r : ℕ} {s3 : List ℕ} → Recycled s2 v.last v.entries (v.active - 1) v.middle (v.used - (p.to - p.from)) s3 r → Served s (on (drop_txn id)) 0 r s3
      drop_known {r} {s3} z =
          let y = z.is base (rest w f) (here_unpruned w f x e) (rest_tells w f) in
          rw y.count (change s s3 w.state _ (drop_txn id) (seen_load w) (changed_on (here_laid w f x e) y.changed) _ (drop_done base w.state id (here w f).one (left w f) h (found w f) (left_is w f)))
