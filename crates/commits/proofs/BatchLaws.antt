-- How a batch ends.
use Prim.Native.Nat.{ℕ, ◌+◌, ◌-◌, ◌≤◌, ◌<◌, ◌^◌, max}
use mathlib.Core.Path.{◌≡◌, refl, sym, ap, ◌∙◌, subst}
use mathlib.Core.List.{List, [], ◌∷◌, ◌++◌}
use mathlib.Core.Logic.{◌⊎◌, inl, inr}
use native.Mathlib.Omega.{arith}
use lib.ListN.{length, take, drop, length-append, length-drop}
use lib.Seq.{paste, length-paste}
use Rattle.fields.specs.Fields.{key_list}
use Rattle.fields.specs.Forms.{form_of}
use Rattle.fields.specs.declared.FormError.{FormError}
use Rattle.machine.specs.Lists.{sum}
use Rattle.machine.specs.State.{Bytes, Entry, State, with_entries, advanced, base, MachineState, marks, key_bytes, set_bytes}
use Rattle.machine.specs.Sets.{insert_all}
use Rattle.machine.specs.Serve.{entry, answer, serve}
use Rattle.machine.specs.Calls.{Op, Answer, on, batch, holding, reply, malformed, longKey, full, done}
use Rattle.machine.proofs.ListLaws.{all_map}
use Rattle.machine.proofs.Kept.{RoomOk, serve_keeps}
use Rattle.codec.specs.Codec.{write_run}
use Rattle.codec.specs.Formats.{number}
use Rattle.codec.proofs.NumberLaws.{length_number}
use Rattle.moves.specs.Splices.{Spliced}
use Rattle.layout.specs.Offsets.{number_size, count_size, part_at, entry_count_at, any_length}
use Rattle.layout.specs.Keys.{set_form}
use Rattle.layout.specs.Records.{entry_form}
use Rattle.layout.specs.States.{heads_of, set_entry_count, room_size}
use Rattle.layout.specs.Rooms.{Served}
use Rattle.layout.proofs.RowLaws.{write_append}
use Rattle.layout.proofs.SizeLaws.{set_length, entry_length, state_length, fits_size}
use Rattle.layout.proofs.LoadLaws.{refuse, change}
use Rattle.layout.proofs.WideLaws.{short_wide}
use Rattle.room.specs.declared.View.{View}
use Rattle.room.specs.Views.{Seen}
use Rattle.tracks.specs.declared.sets.Set.{Set}
use Rattle.tracks.specs.declared.sets.Space.{Space}
use Rattle.tracks.specs.declared.sets.Full.{Full}
use Rattle.std.specs.Prelude.{Ok, Err}
use Rattle.tracks.specs.Drafts.{set_size, Begun, SetStands, DraftedIs}
use Rattle.edits.specs.Laid.{write_entries}
use Rattle.edits.specs.Leaving.{Emptied}
use Rattle.edits.proofs.LaidLaws.{laid_used, laid_entries}
use Rattle.edits.proofs.ChangeLaws.{laid_enter}
use Rattle.edits.specs.Advance.{AdvancedTo}
use Rattle.answers.proofs.EnterLaws.{batch_malformed, batch_long, batch_idle, batch_full, batch_done}
use Rattle.commits.specs.Batches.{Entering}
use Rattle.answers.proofs.SeenLaws.{seen_load, seen_held, seen_laid, seen_middle}
use Rattle.machine.proofs.ListLaws.{none_left}
use Rattle.answers.proofs.FormLaws.{good_list, bad_list}
use Rattle.answers.specs.Says.{refusal_number, form_refusal}
use Rattle.answers.proofs.AdvanceLaws.{advance_changed, empty_advanced}

-- ---- before the list's keys are looked at

module _ {s : List ℕ} {v : View} (w : Seen s v) {seq : ℕ} {list : Bytes} where
  pub batch_bad : {e : FormError} → Err e ≡ form_of (key_list list) → Served s (on (batch seq list)) (refusal_number (form_refusal e)) 0 s
  batch_bad {e} h =
      bad_list (λ r. Served s (on (batch seq list)) (refusal_number r) 0 s) (key_list list) e h
      (λ n. refuse s w.state (batch seq list) (seen_load w) malformed (batch_malformed base w.state seq list n))
      (λ l. refuse s w.state (batch seq list) (seen_load w) longKey (batch_long base w.state seq list l.keys l.is l.short))

  pub batch_nobody : {r : ℕ} {s' : List ℕ} → Ok (tt {0}) ≡ form_of (key_list list) → v.active ≡ 0 → r ≡ max v.last seq → Emptied s r s' → seq < 256 ^ number_size
      → Served s (on (batch seq list)) 0 r s'
  batch_nobody {r} {s'} e k m c b =
      let st = w.state in
      let l = good_list (key_list list) e in
      let y = empty_advanced w (insert_all l.keys []) m c b in
      rw y.1 (change s s' st _ (batch seq list) (seen_load w) y.0 _ (batch_idle base st seq list l.keys l.is l.short (none_left st.active (omega (arith, k, w.active)))))

  pub batch_many : Ok (tt {0}) ≡ form_of (key_list list) → (v.active ≡ 0 → ⊥) → base.entries ≤ v.entries → Served s (on (batch seq list)) 6 0 s
  batch_many e k m =
      let st = w.state in
      let l = good_list (key_list list) e in
      refuse s st (batch seq list) (seen_load w) full (batch_full base st seq list l.keys l.is l.short (omega (arith, k, w.active)) (inl (omega (arith, m, w.entries))))

pub entering : {v : View} {list : Bytes} → Ok (tt {0}) ≡ form_of (key_list list) → (v.active ≡ 0 → ⊥) → v.entries < base.entries → Entering v list
entering {list = list} e k m = let l = good_list (key_list list) e in record { keys = l.keys; listed = l.is; short = l.short; active = omega (arith, k); entries = m }

-- ---- the draft

-- the set before any key is put in
abbrev pub no_keys : Set
no_keys = record { used = 0; count = 0 }

pub begun : {v : View} {list : Bytes} {left : Space} (d : List ℕ) → Entering v list → length d ≡ set_size → left.marks ≤ base.marks → left.bytes ≤ base.bytes → Begun d no_keys list left
begun d x l hm hb =
    let n : length (drop count_size d) ≡ set_size - count_size = length-drop count_size d ∙ omega (arith, l) in
    record {
      head = omega (arith, l);
      keys = record { ks = []; row = (refl, omega arith); count = refl; keys = x.keys; listed = x.listed; short = short_wide base.key (omega arith) x.keys x.short; room = omega (arith, n, hm, hb) };
    }

-- a machine state answers with one
done_ok : (st : State) (c : Op) (n : ℕ) (st' : State) → answer base st c ≡ done n st' → MachineState base st → MachineState base st'
unfolding serve
done_ok st c n st' e o = subst (RoomOk base) (ap (λ (x : Answer). (reply st x).room) e) (serve_keeps base (holding st) (on c) o)

-- an entry more, in bytes
one_more : (es : List Entry) (n : ℕ) (ks : List Bytes) → length (write_entries (es ++ (entry n ks ∷ []))) ≡ length (write_entries es) + (number_size + length ((set_form any_length).write ks))
unfolding write_run
one_more es n ks =
    let x : Entry = entry n ks in
    let e : length ((entry_form any_length).write x ++ []) ≡ length ((entry_form any_length).write x) + 0 = length-append ((entry_form any_length).write x) [] in
    ap length (write_append (entry_form any_length) es (x ∷ [])) ∙ length-append (write_entries es) ((entry_form any_length).write x ++ []) ∙ omega (arith, e, entry_length any_length x, set_length any_length ks)

-- ---- the entry

pub room_for_last : {s s1 s2 src : List ℕ} {v : View} {used at : ℕ} (x : ℕ) → Seen s v → Spliced s used at 0 src s1 → s2 ≡ paste s1 entry_count_at ((number count_size).write x) count_size → part_at ≤ length s2
room_for_last {s1 = s1} x w y e = omega (arith, w.size, y.size, ap length e, length-paste s1 entry_count_at ((number count_size).write x) count_size (omega (arith, w.size, y.size)) (omega (arith, length_number count_size x)))

module _ {s : List ℕ} {v : View} (w : Seen s v) {list : Bytes} (x : Entering v list) where
  -- the keys of the list as a set
  abbrev all : List Bytes
  all = insert_all x.keys []

  someone : 0 < length w.state.active
  someone = omega (arith, x.active, w.active)

module _ {s : List ℕ} {v : View} (w : Seen s v) {list : Bytes} (x : Entering v list) {left : Space} (hm : v.marks + left.marks ≡ base.marks) (hb : v.bytes + left.bytes ≡ base.bytes) where
  pub batch_over : {d d' : List ℕ} {seq : ℕ} {e : Full} → DraftedIs d no_keys list left d' (Err e) → Served s (on (batch seq list)) 6 0 s
  unfolding sum
  batch_over {d} {d'} {seq} q =
      let st = w.state in
      refuse s st (batch seq list) (seen_load w) full (batch_full base st seq list x.keys x.listed x.short (someone w x) (inr (passes (q.is [] x.keys (refl, omega arith) refl x.listed))))
    where
      passes : (0 + left.marks < length (all w x)) ⊎ (0 + left.bytes < set_bytes (all w x)) → (base.marks < marks w.state + length (all w x)) ⊎ (base.bytes < key_bytes w.state + set_bytes (all w x))
      passes (inl a) = inl (omega (arith, a, w.marks, hm))
      passes (inr a) = inr (omega (arith, a, w.bytes, hb))

  module _ {d d' : List ℕ} {p : Set} (q : DraftedIs d no_keys list left d' (Ok p)) where
    set : SetStands d' [] (all w x) left p
    set = q.is [] x.keys (refl, omega arith) refl x.listed

    pub set_inside : p.used ≤ length d'
    set_inside = set.inside

    -- the state with the entry
    abbrev more : ℕ → State
    more seq = with_entries (w.state.entries ++ (entry seq (all w x) ∷ [])) w.state

    answers : (seq : ℕ) → answer base w.state (batch seq list) ≡ done (max w.state.last seq) (advanced seq (more seq))
    unfolding sum
    answers seq =
        batch_done base w.state seq list x.keys x.listed x.short (someone w x) (omega (arith, x.entries, w.entries)) (omega (arith, set.few, w.marks, hm)) (omega (arith, set.small, w.bytes, hb)) (seen_held w).kept

    -- the state's record with the entry fits
    fits : (seq : ℕ) → v.used + (number_size + length ((set_form any_length).write (all w x))) ≤ room_size base
    fits seq =
        let st = w.state in
        let st' : State = advanced seq (more seq) in
        let o = done_ok st (batch seq list) (max st.last seq) st' (answers seq) (seen_held w).kept in
        omega (arith, fits_size base any_length st' o.ceilings (all_map _ _ (λ t k. k.id_length) st.active o.txns), state_length any_length st', one_more st.entries seq (all w x), laid_used (seen_laid w))

    pub batch_room : (v.middle ≤ v.used) × (v.used + (number_size + length (take p.used d')) ≤ length s)
    batch_room = (omega (arith, seen_middle w, laid_used (seen_laid w)), omega (arith, ap length set.whole, fits 0, w.size))

    pub batch_entered : {s1 s2 s3 : List ℕ} {seq r : ℕ} → Spliced s v.used v.middle 0 ((number number_size).write seq ++ take p.used d') s1 → s2 ≡ paste s1 entry_count_at ((number count_size).write (v.entries + 1)) count_size → AdvancedTo s2 seq s3 r → seq < 256 ^ number_size
        → Served s (on (batch seq list)) 0 r s3
    batch_entered {s1} {s2} {s3} {seq} {r} y e a b =
        let st = w.state in
        let es : List Entry = st.entries ++ (entry seq (all w x) ∷ []) in
        let ls : length ((number number_size).write seq ++ take p.used d') ≡ number_size + length ((set_form any_length).write (all w x)) = length-append ((number number_size).write seq) (take p.used d') ∙ rw (length_number number_size seq, set.whole) in
        let l = laid_enter st.entries seq (all w x) (seen_laid w) (seen_middle w) set.whole y (omega (arith, ls, fits seq)) in
        let ne : v.entries + 1 ≡ length es = sym (length-append st.entries (entry seq (all w x) ∷ []) ∙ omega (arith, w.entries)) in
        let z = advance_changed (more seq) a (seen_held w).last b (ap (λ (i : ℕ). set_entry_count i (heads_of st)) ne) (laid_entries l (v.entries + 1) e) in
        rw z.1 (change s s3 st _ (batch seq list) (seen_load w) z.0 _ (answers seq))
