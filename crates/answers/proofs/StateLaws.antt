-- What the machine answers to each call, from plain facts on the state: begin, minimum and check.
use Prim.Native.Nat.{◌≤◌, ◌<◌}
use mathlib.Core.Path.{◌≡◌, refl}
use mathlib.Core.Bool.{Bool, true, false}
use mathlib.Core.List.{List, [], ◌∷◌}
use mathlib.Core.Option.{none, some}
use native.Mathlib.Omega.{arith}
use borrow.Author.Tests.{eq-eqb, ne_eqb}
use lib.ListN.{length}
use Rattle.machine.specs.Lists.{sum}
use Rattle.machine.specs.State.{Bytes, Txn, State, Ceilings, new_txn, fits, Fits, txn_marks, txn_bytes, id_size}
use Rattle.machine.specs.Sets.{find, least_of, conflict}
use Rattle.machine.specs.Calls.{begin, check, minimum, malformed, again, full, done, absent, refused}
use Rattle.machine.specs.Serve.{is_id, verdict, answer, begun}
use Rattle.machine.proofs.Kept.{fits_means}
use Rattle.machine.proofs.ActiveLaws.{put_new_length, put_new_sum}

pub is_id_lem : (i : Bytes) → length i ≡ id_size → is_id i ≡ true
is_id_lem i e = eq-eqb (length i) id_size e

pub no_id : (i : Bytes) → (length i ≡ id_size → ⊥) → is_id i ≡ false
no_id i e = ne_eqb (length i) id_size e

-- what is not true is false
pub not_true : (b : Bool) → (b ≡ true → ⊥) → b ≡ false
not_true true h = absurd (h refl)
not_true false h = refl

pub fits_not : (L : Ceilings) (s : State) → (Fits L s → ⊥) → fits L s ≡ false
fits_not L s h = not_true (fits L s) (λ e. h ((fits_means L s).0 e))

module _ (L : Ceilings) (s : State) (i : Bytes) where
  pub begin_malformed : (length i ≡ id_size → ⊥) → answer L s (begin i) ≡ refused malformed
  unfolding answer
  begin_malformed h = rw (no_id i h)

  pub begin_again : (t : Txn) → length i ≡ id_size → find i s.active ≡ some t → answer L s (begin i) ≡ refused again
  unfolding answer
  begin_again t h e = rw (is_id_lem i h, e)

  pub begin_full : length i ≡ id_size → find i s.active ≡ none → L.active ≤ length s.active → answer L s (begin i) ≡ refused full
  unfolding answer
  begin_full h e k = rw (is_id_lem i h, e, fits_not L (begun i s) (λ f. omega (arith, f.active, put_new_length (new_txn i s.last) s.active e)))

  pub begin_fits : find i s.active ≡ none → length s.active < L.active → Fits L s → Fits L (begun i s)
  unfolding sum
  begin_fits e k f =
      let t : Txn = new_txn i s.last in
      record {
        active = omega (arith, put_new_length t s.active e);
        entries = f.entries;
        marks = omega (arith, f.marks, put_new_sum txn_marks t s.active e);
        bytes = omega (arith, f.bytes, put_new_sum txn_bytes t s.active e);
      }

  pub begin_done : length i ≡ id_size → find i s.active ≡ none → length s.active < L.active → Fits L s → answer L s (begin i) ≡ done s.last (begun i s)
  unfolding answer
  begin_done h e k f = rw (is_id_lem i h, e, (fits_means L (begun i s)).1 (begin_fits e k f))

  pub check_malformed : (length i ≡ id_size → ⊥) → answer L s (check i) ≡ refused malformed
  unfolding answer
  check_malformed h = rw (no_id i h)

  pub check_absent : length i ≡ id_size → find i s.active ≡ none → answer L s (check i) ≡ absent 0 s
  unfolding answer
  check_absent h e = rw (is_id_lem i h, e)

  pub check_done : (t : Txn) → length i ≡ id_size → find i s.active ≡ some t → answer L s (check i) ≡ done (verdict (conflict t s.entries)) s
  unfolding answer
  check_done t h e = rw (is_id_lem i h, e)

module _ (L : Ceilings) (s : State) where
  pub minimum_nobody : s.active ≡ [] → answer L s minimum ≡ absent 0 s
  unfolding answer
  minimum_nobody e = rw e

  pub minimum_done : (t : Txn) (ts : List Txn) → s.active ≡ t ∷ ts → answer L s minimum ≡ done (least_of t ts) s
  unfolding answer
  minimum_done t ts e = rw e
