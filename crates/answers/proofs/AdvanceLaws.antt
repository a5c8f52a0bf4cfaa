-- The last committed number advances: the larger of two, and a room's bytes with it.
use Prim.Native.Nat.{ℕ, ◌<◌, ◌^◌, max}
use mathlib.Core.Path.{◌≡◌, refl, sym, ap, ◌∙◌, subst}
use mathlib.Core.List.{List, []}
use native.Mathlib.Omega.{arith}
use Rattle.machine.specs.State.{Bytes, State, with_last, advanced, base}
use Rattle.machine.specs.Sets.{emptied}
use Rattle.layout.specs.States.{Heads, heads_of, set_last}
use Rattle.layout.proofs.LoadLaws.{Changed}
use Rattle.layout.specs.Offsets.{number_size}
use Rattle.room.specs.declared.View.{View}
use Rattle.room.specs.Views.{Seen}
use Rattle.edits.specs.Laid.{Laid, write_entries, write_active}
use Rattle.edits.specs.Leaving.{Emptied}
use Rattle.edits.proofs.LaidLaws.{relaid, laid_last, laid_end, laid_number}
use Rattle.edits.specs.Advance.{AdvancedTo}
use Rattle.answers.proofs.SeenLaws.{seen_held, seen_laid}
use Rattle.answers.proofs.EnterLaws.{joined, entry_gone}

-- the number advances once all else stands
pub advance_changed : {s0 s s' : List ℕ} {used seq r : ℕ} {h : Heads} (st : State) → AdvancedTo s seq s' r → st.last < 256 ^ number_size → seq < 256 ^ number_size → h ≡ heads_of st → Laid base s0 s used h (write_entries st.entries) (write_active st.active)
    → Changed s0 s' (advanced seq st) × (r ≡ max st.last seq)
advance_changed {seq = seq} {r} st x a b eh v =
    let v' = relaid refl eh refl refl v in
    let e : r ≡ max st.last seq = x.larger st.last (laid_number v' a) in
    (laid_end (advanced seq st) (relaid refl (ap (λ (n : ℕ). set_last n (heads_of st)) e) refl refl (laid_last v' r x.bytes)) (omega (arith, a, b)), e)

-- with nobody active after it, an entry leaves an empty list: the number alone advances
pub empty_advanced : {s s' : List ℕ} {v : View} {seq r : ℕ} (w : Seen s v) (ks : List Bytes) → r ≡ max v.last seq → Emptied s r s' → seq < 256 ^ number_size
    → Changed s s' (emptied (joined [] seq ks w.state)) × (r ≡ max w.state.last seq)
empty_advanced {s} {s'} {v} {seq} {r} w ks e x b =
    let st = w.state in
    let n : r ≡ max st.last seq = e ∙ ap (λ (l : ℕ). max l seq) w.last in
    let c : Changed s s' (emptied (with_last r st)) = x.changed base st v.used (seen_laid w) (omega (arith, n, b, (seen_held w).last)) in
    (subst (Changed s s') (ap (λ (l : ℕ). emptied (with_last l st)) n ∙ sym (entry_gone seq ks st)) c, n)
