-- Each way that check and minimum end.
use Prim.Native.Nat.{ℕ}
use mathlib.Core.Path.{◌≡◌, refl, sym, ap, ◌∙◌, subst}
use mathlib.Core.Bool.{Bool, true, false}
use mathlib.Core.List.{List, [], ◌∷◌}
use native.Mathlib.Omega.{arith}
use lib.ListN.{length}
use Rattle.machine.specs.State.{Bytes, Txn, base, TxnOk}
use Rattle.machine.specs.Lists.{All}
use Rattle.machine.specs.Sets.{least_of, conflict}
use Rattle.machine.specs.Calls.{on, check, minimum, malformed}
use Rattle.machine.specs.Serve.{verdict}
use Rattle.layout.specs.Offsets.{id_size, entries_at}
use Rattle.layout.specs.Rooms.{Served}
use Rattle.layout.proofs.LoadLaws.{refuse, look, look_absent}
use mir.Val.{bool_byte}
use Rattle.std.specs.Prelude.{Ok, Err}
use Rattle.fields.specs.declared.Span.{Span}
use Rattle.places.specs.Finds.{Found, LowestIs, lowest}
use Rattle.places.proofs.LowLaws.{lowest_least}
use Rattle.search.specs.Search.{Searched}
use Rattle.room.specs.declared.View.{View}
use Rattle.room.specs.Views.{Seen}
use Rattle.machine.proofs.ListLaws.{none_left}
use Rattle.answers.proofs.StateLaws.{check_malformed, check_absent, check_done, minimum_nobody, minimum_done}
use Rattle.answers.proofs.SeenLaws.{seen_load, seen_held, entry_row, active_row}
use Rattle.answers.proofs.FoundLaws.{not_found, here, found}

-- ---- check

-- the verdict as a number
pub verdict_is : (b : Bool) → bool_byte b ≡ verdict b
verdict_is true = refl
verdict_is false = refl

module _ (s : List ℕ) (v : View) (id : Bytes) (w : Seen s v) where
  pub checks_malformed : (length id ≡ id_size → ⊥) → Served s (on (check id)) 2 0 s
  checks_malformed h = refuse s w.state (check id) (seen_load w) malformed (check_malformed base w.state id h)

  pub checks_absent : {p : ℕ} → length id ≡ id_size → Found s v.middle v.active id (Err p) → Served s (on (check id)) 1 0 s
  checks_absent {p} h f = look_absent s w.state (check id) (seen_load w) 0 (check_absent base w.state id h (not_found w f))

  pub checks : {p : Span} (f : Found s v.middle v.active id (Ok p)) {b : Bool} → length id ≡ id_size → Searched s entries_at v.entries p.from b → Served s (on (check id)) 0 (verdict b) s
  checks {p} f {b} h r =
      let t = (here w f).one in
      let e : b ≡ conflict t w.state.entries = r.is w.state.entries v.middle t p.to (entry_row w) (sym w.entries) (here w f).fills in
      subst (λ (x : Bool). Served s (on (check id)) 0 (verdict x) s) (sym e) (look s w.state (check id) (seen_load w) (verdict (conflict t w.state.entries)) (check_done base w.state id t h (found w f)))

-- ---- minimum

module _ {s : List ℕ} {v : View} (w : Seen s v) where
  pub nobody : v.active ≡ 0 → Served s (on minimum) 1 0 s
  nobody e = look_absent s w.state minimum (seen_load w) 0 (minimum_nobody base w.state (none_left w.state.active (omega (arith, w.active))))

  pub least_is : {r : ℕ} → (v.active ≡ 0 → ⊥) → LowestIs s v.middle v.active v.last r → Served s (on minimum) 0 r s
  least_is {r} h f = go w.state.active refl
    where
      go : (ts : List Txn) → w.state.active ≡ ts → Served s (on minimum) 0 r s
      go [] e = absurd (h (w.active ∙ ap length e))
      go (t ∷ ts) e =
          let x : r ≡ lowest v.last (t ∷ ts) = f.is w.state.active v.used (active_row w) (sym w.active) ∙ ap (lowest v.last) e in
          let o : TxnOk base w.state.last t = (subst (All (TxnOk base w.state.last)) e (seen_held w).kept.txns).0 in
          let y : r ≡ least_of t ts = x ∙ lowest_least v.last t ts (omega (arith, o.started, w.last)) in
          subst (λ (n : ℕ). Served s (on minimum) 0 n s) (sym y) (look s w.state minimum (seen_load w) (least_of t ts) (minimum_done base w.state t ts e))
