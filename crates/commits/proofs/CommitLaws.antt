-- How a commit ends.
use Prim.Native.Nat.{ℕ, ◌+◌, ◌-◌, ◌≤◌, ◌<◌, ◌^◌, max}
use mathlib.Core.Path.{◌≡◌, refl, sym, ap, ap₂, ◌∙◌}
use mathlib.Core.List.{List, [], ◌∷◌, ◌++◌}
use native.Mathlib.Omega.{arith}
use lib.ListN.{length, length-append}
use lib.Seq.{paste}
use Rattle.machine.specs.State.{Bytes, Txn, Entry, State, with_active, with_entries, advanced, base, txn_marks, txn_bytes}
use Rattle.machine.specs.Sets.{without}
use Rattle.machine.specs.Serve.{entry, answer}
use Rattle.machine.specs.Calls.{on, commit, malformed, full, done}
use Rattle.machine.proofs.ActiveLaws.{without_sum}
use Rattle.codec.specs.Formats.{number}
use Rattle.codec.proofs.NumberLaws.{length_number}
use Rattle.layout.specs.Offsets.{number_size, count_size, id_size, entry_count_at, active_count_at, any_length}
use Rattle.layout.specs.Keys.{set_form}
use Rattle.layout.specs.Records.{txn_form}
use Rattle.layout.specs.States.{heads_of, set_entry_count, set_active_count}
use Rattle.layout.specs.Rooms.{Served}
use Rattle.layout.proofs.FillLaws.{fills_end}
use Rattle.layout.proofs.OpenLaws.{open_txn}
use Rattle.layout.proofs.SizeLaws.{set_length, txn_length}
use Rattle.layout.proofs.LoadLaws.{refuse, change, change_absent}
use Rattle.room.specs.declared.View.{View}
use Rattle.room.specs.Views.{Seen}
use Rattle.std.specs.Prelude.{Ok, Err}
use Rattle.fields.specs.declared.Span.{Span}
use Rattle.places.specs.Finds.{Found}
use Rattle.edits.specs.Leaving.{Emptied}
use Rattle.edits.proofs.LaidLaws.{laid_entries, laid_active}
use Rattle.edits.proofs.ChangeLaws.{laid_enter}
use Rattle.edits.specs.Advance.{AdvancedTo}
use Rattle.machine.proofs.ListLaws.{none_left}
use Rattle.answers.proofs.EnterLaws.{commit_malformed, commit_absent, commit_alone, commit_full, commit_done}
use Rattle.commits.specs.Commits.{Leaving, Entered}
use Rattle.answers.proofs.SeenLaws.{seen_load, seen_held, seen_laid, seen_middle}
use Rattle.answers.proofs.FoundLaws.{not_found, here, found}
use Rattle.answers.proofs.LeftLaws.{left, left_is, left_many, here_bounds, here_out}
use Rattle.answers.proofs.AdvanceLaws.{advance_changed, empty_advanced}

-- the one that was found can leave
pub commit_leaving : {s : List ℕ} {v : View} (w : Seen s v) {id : Bytes} {p : Span} → Found s v.middle v.active id (Ok p) → Leaving s v.used v.middle p.from p.to
commit_leaving w {id} f =
    let t = (here w f).one in
    let o = here_bounds w f in
    let g = (seen_held w).kept in
    let m = without_sum txn_marks id w.state.active t (found w f) g.distinct in
    let n = without_sum txn_bytes id w.state.active t (found w f) g.distinct in
    record {
      one = t;
      fills = (here w f).fills;
      after = o.after;
      within = o.within;
      inside = o.inside;
      short = rw (set_length any_length t.writes) (omega (arith, m, n, g.ceilings.marks, g.ceilings.bytes));
    }

others_left : {s : List ℕ} {v : View} (w : Seen s v) {id : Bytes} {p : Span} → Found s v.middle v.active id (Ok p) → (v.active ≡ 1 → ⊥) → 0 < length (without id w.state.active)
others_left w f k = rw (left_is w f) (omega (arith, k, left_many w f))

module _ {s : List ℕ} {v : View} (w : Seen s v) {id : Bytes} {seq : ℕ} where
  pub commit_refused : (length id ≡ id_size → ⊥) → Served s (on (commit id seq)) 2 0 s
  commit_refused h = refuse s w.state (commit id seq) (seen_load w) malformed (commit_malformed base w.state id seq h)

  module _ (h : length id ≡ id_size) where
    pub commit_unknown : {p r : ℕ} {s' : List ℕ} → Found s v.middle v.active id (Err p) → AdvancedTo s seq s' r → seq < 256 ^ number_size → Served s (on (commit id seq)) 1 r s'
    commit_unknown {p} {r} {s'} f x b =
        let st = w.state in
        let y = advance_changed st x (seen_held w).last b refl (seen_laid w) in
        rw y.1 (change_absent s s' st _ (commit id seq) (seen_load w) y.0 _ refl (commit_absent base st id seq h (not_found w f)))

    module _ {p : Span} (f : Found s v.middle v.active id (Ok p)) where
      pub commit_only : {r : ℕ} {s' : List ℕ} → v.active ≡ 1 → r ≡ max v.last seq → Emptied s r s' → seq < 256 ^ number_size → Served s (on (commit id seq)) 0 r s'
      commit_only {r} {s'} k e c b =
          let st = w.state in
          let y = empty_advanced w (here w f).one.writes e c b in
          rw y.1 (change s s' st _ (commit id seq) (seen_load w) y.0 _ (commit_alone base st id seq (here w f).one h (found w f) (left_is w f ∙ none_left (left w f) (omega (arith, left_many w f, k)))))

      pub commit_many : (v.active ≡ 1 → ⊥) → base.entries ≤ v.entries → Served s (on (commit id seq)) 6 0 s
      commit_many k m =
          let st = w.state in
          refuse s st (commit id seq) (seen_load w) full (commit_full base st id seq (here w f).one h (found w f) (others_left w f k) (omega (arith, m, w.entries)))

      pub commit_entered : {s1 s2 s3 s4 : List ℕ} {r : ℕ} → (v.active ≡ 1 → ⊥) → v.entries < base.entries → Entered s v.used v.middle p.from p.to seq s1 → s2 ≡ paste s1 entry_count_at ((number count_size).write (v.entries + 1)) count_size
          → s3 ≡ paste s2 active_count_at ((number count_size).write (v.active - 1)) count_size → AdvancedTo s3 seq s4 r → seq < 256 ^ number_size → Served s (on (commit id seq)) 0 r s4
      commit_entered {s1} {s2} {s3} {s4} {r} k m x e2 e3 a b =
          let st = w.state in
          let t = (here w f).one in
          let y = x.is t (here w f).fills in
          let set : List ℕ = (set_form any_length).write t.writes in
          let o = here_bounds w f in
          let ls : length ((number number_size).write seq ++ set) ≡ number_size + length set = length-append ((number number_size).write seq) set ∙ rw (length_number number_size seq) in
          let lt : length set + number_size ≤ length ((txn_form any_length).write t) = rw (set_length any_length t.writes, txn_length any_length t (open_txn any_length (here w f).fills).head.id_length) (omega (arith)) in
          let d = here_out w f y.leaves in
          let d1 = laid_enter st.entries seq t.writes d (seen_middle w) refl y.enters (omega (arith, ls, lt, o.from, o.within, fills_end (txn_form any_length) (here w f).fills, d.short, (seen_laid w).short)) in
          let es : List Entry = st.entries ++ (entry seq t.writes ∷ []) in
          let st' : State = with_entries es (with_active (left w f) st) in
          let ne : v.entries + 1 ≡ length es = sym (length-append st.entries (entry seq t.writes ∷ []) ∙ omega (arith, w.entries)) in
          let na : v.active - 1 ≡ length (left w f) = omega (arith, left_many w f) in
          let counts = ap₂ (λ (i j : ℕ). set_active_count j (set_entry_count i (heads_of st))) ne na in
          let z = advance_changed st' a (seen_held w).last b counts (laid_active (laid_entries d1 (v.entries + 1) e2) (v.active - 1) e3) in
          let g : answer base st (commit id seq) ≡ done (max st.last seq) (advanced seq st') =
          commit_done base st id seq t h (found w f) (others_left w f k) (omega (arith, m, w.entries)) (seen_held w).kept ∙ ap (λ (ts : List Txn). done (max st.last seq) (advanced seq (with_entries es (with_active ts st)))) (left_is w f) in
          rw z.1 (change s s4 st _ (commit id seq) (seen_load w) z.0 _ g)
