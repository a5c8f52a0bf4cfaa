-- The laws of a room's bytes while a call changes it (`Laid`): a number of the heads written over, records put in and taken out, and
-- the record of a state at the start and at the end.
use Prim.Native.Nat.{ℕ, ◌+◌, ◌≤◌, ◌<◌, ◌^◌}
use mathlib.Core.Path.{◌≡◌, refl, sym, ap, ◌∙◌, subst}
use mathlib.Core.List.{List, [], ◌++◌, append_assoc, append-nil}
use native.Mathlib.Omega.{arith}
use lib.ListN.{length, take, drop, length-append, take-append-drop}
use lib.Seq.{paste, length-take-le, take-take, take_at}
use Rattle.machine.specs.State.{State, Ceilings}
use Rattle.codec.specs.Formats.{number, bind, only, via}
use Rattle.codec.specs.Stands.{Stands}
use Rattle.codec.proofs.NumberLaws.{length_number}
use Rattle.codec.proofs.RecordLaws.{written_stands}
use Rattle.moves.specs.Splices.{Spliced, used_after}
use Rattle.moves.proofs.SpliceLaws.{replaces, written_over, untouched}
use Rattle.layout.specs.Offsets.{number_size, count_size, last_at, part_at, entry_count_at, active_count_at, entries_at, any_length}
use Rattle.layout.specs.Records.{head_form, counts_form, stamp}
use Rattle.layout.specs.States.{plain_form, Heads, heads_of, write_heads, set_last, set_entry_count, set_active_count, room_size}
use Rattle.layout.proofs.SizeLaws.{head_length, heads_length, state_bytes}
use Rattle.layout.proofs.LoadLaws.{HeldBy, ChangedBy}
use Rattle.layout.proofs.WideLaws.{state_alike}
use Rattle.edits.specs.Laid.{write_entries, write_active, bytes_of, Laid}

bytes_length : (h : Heads) (es ts : List ℕ) → length (bytes_of h es ts) ≡ entries_at + (length es + length ts)
bytes_length h es ts = length-append (write_heads h) (es ++ ts) ∙ rw (heads_length h, length-append es ts)

-- the same in equal numbers and bytes
pub relaid : {L : Ceilings} {s0 s : List ℕ} {used used' : ℕ} {h h' : Heads} {es es' ts ts' : List ℕ} → used ≡ used' → h ≡ h' → es ≡ es' → ts ≡ ts' → Laid L s0 s used h es ts → Laid L s0 s used' h' es' ts'
relaid {L} {s0} {s} a b c d v = subst (λ x. x) (λ i. Laid L s0 s (a i) (b i) (c i) (d i)) v

-- a number written over another of its width
pub over_spliced : (w : ℕ) (s s' : List ℕ) (used at x : ℕ) → s' ≡ paste s at ((number w).write x) w → at + w ≤ used → used ≤ length s → Spliced s used at w ((number w).write x) s'
over_spliced w s s' used at x e h k =
    let lx : length ((number w).write x) ≡ w = length_number w x in
    let f : paste s at ((number w).write x) (length ((number w).write x)) ≡ s' = ap (λ (m : ℕ). paste s at ((number w).write x) m) lx ∙ sym e in
    let g = written_over s ((number w).write x) used at (omega arith) k in
    subst (λ (m : ℕ). Spliced s used at m ((number w).write x) s') lx (subst (Spliced s used at (length ((number w).write x)) ((number w).write x)) f g)

module _ {L : Ceilings} {s0 s : List ℕ} {used : ℕ} {h : Heads} {es ts : List ℕ} (v : Laid L s0 s used h es ts) where
  pub inside : used ≤ length s
  inside = omega (arith, v.short, v.room, v.size)

  pub laid_used : used ≡ entries_at + (length es + length ts)
  laid_used = sym (length-take-le used s inside) ∙ ap length v.bytes ∙ bytes_length h es ts

  -- three parts of the used bytes, the middle one replaced
  laid_splice : {at gone : ℕ} {src s' : List ℕ} (p old q : List ℕ) (h' : Heads) (es' ts' : List ℕ) → Spliced s used at gone src s' → bytes_of h es ts ≡ p ++ (old ++ q) → p ++ (src ++ q) ≡ bytes_of h' es' ts'
      → at ≡ length p → gone ≡ length old → used_after used gone src ≤ room_size L → Laid L s0 s' (used_after used gone src) h' es' ts'
  laid_splice {at} {gone} {src} {s'} p old q h' es' ts' w a b ea eg k =
      let c : length p + (length old + length q) ≡ used = sym (length-append p (old ++ q) ∙ rw (length-append old q)) ∙ sym (ap length a) ∙ bytes_length h es ts ∙ sym laid_used in
      record {
        bytes = replaces w p old q (v.bytes ∙ a) ea eg (omega arith) ∙ b;
        short = k;
        beyond = untouched w (room_size L) k ∙ v.beyond;
        size = w.size ∙ v.size;
        room = v.room;
      }

  -- a number written over another of its width in the heads
  laid_over : (w : ℕ) {s' : List ℕ} (at x y : ℕ) (p q : List ℕ) (h' : Heads) → s' ≡ paste s at ((number w).write x) w → bytes_of h es ts ≡ p ++ ((number w).write y ++ q) → p ++ ((number w).write x ++ q) ≡ bytes_of h' es ts
      → at ≡ length p → at + w ≤ used → Laid L s0 s' used h' es ts
  laid_over w {s'} at x y p q h' e a b ea k =
      let u : used_after used w ((number w).write x) ≡ used = rw (length_number w x) (omega arith) in
      let r = laid_splice p ((number w).write y) q h' es ts (over_spliced w s s' used at x e k inside) a b ea (sym (length_number w y)) (rw u v.short) in
      rw u at r

  -- the counts of the part, and what stands behind them
  abbrev part : List ℕ
  part = counts_form.write h.counts ++ (es ++ ts)

  -- the last number, where it is read
  pub laid_number : h.last < 256 ^ number_size → Stands (number number_size) s last_at h.last part_at
  unfolding number head_form via bind only
  laid_number k =
      let l = h.last in
      let e : s ≡ (number number_size).write stamp ++ ((number number_size).write l ++ (part ++ drop used s)) = sym (take-append-drop used s) ∙ rw v.bytes (simp append_assoc) in
      let a : length ((number number_size).write stamp) ≡ last_at = length_number number_size stamp in
      let b : length ((number number_size).write stamp) + length ((number number_size).write l) ≡ part_at = rw (a, length_number number_size l) in
      let r = written_stands (number number_size) s ((number number_size).write stamp) (part ++ drop used s) l k e in
      subst (λ (x : ℕ). Stands (number number_size) s x l part_at) a (subst (Stands (number number_size) s (length ((number number_size).write stamp)) l) b r)

  -- one law for each number of the heads
  pub laid_last : {s' : List ℕ} (x : ℕ) → s' ≡ paste s last_at ((number number_size).write x) number_size → Laid L s0 s' used (set_last x h) es ts
  unfolding head_form via bind only
  laid_last x e =
      laid_over number_size last_at x h.last ((number number_size).write stamp) part (set_last x h) e (simp append_assoc) (simp append_assoc) (sym (length_number number_size stamp)) (omega (arith, laid_used))

  pub laid_entries : {s' : List ℕ} (x : ℕ) → s' ≡ paste s entry_count_at ((number count_size).write x) count_size → Laid L s0 s' used (set_entry_count x h) es ts
  unfolding counts_form via bind
  laid_entries x e =
      laid_over count_size entry_count_at x h.counts.entries (head_form.write h.last) ((number count_size).write h.counts.active ++ (es ++ ts)) (set_entry_count x h) e (simp append_assoc) (simp append_assoc) (sym (head_length h.last)) (omega (arith, laid_used))

  pub laid_active : {s' : List ℕ} (x : ℕ) → s' ≡ paste s active_count_at ((number count_size).write x) count_size → Laid L s0 s' used (set_active_count x h) es ts
  unfolding counts_form via bind
  laid_active x e =
      let p : List ℕ = head_form.write h.last ++ (number count_size).write h.counts.entries in
      let lp : active_count_at ≡ length p = sym (length-append (head_form.write h.last) ((number count_size).write h.counts.entries) ∙ rw (head_length h.last, length_number count_size h.counts.entries)) in
      laid_over count_size active_count_at x h.counts.active p (es ++ ts) (set_active_count x h) e (simp append_assoc) (simp append_assoc) lp (omega (arith, laid_used))

module _ {L : Ceilings} {s0 s : List ℕ} {used : ℕ} {h : Heads} where
  pub laid_in_active : {at gone : ℕ} {src s' : List ℕ} (es a old b : List ℕ) → Laid L s0 s used h es (a ++ (old ++ b)) → Spliced s used at gone src s' → at ≡ entries_at + (length es + length a) → gone ≡ length old
      → used_after used gone src ≤ room_size L → Laid L s0 s' (used_after used gone src) h es (a ++ (src ++ b))
  laid_in_active {at} {gone} {src} {s'} es a old b v w ea eg k =
      let p : List ℕ = write_heads h ++ (es ++ a) in
      let lp : at ≡ length p = ea ∙ sym (length-append (write_heads h) (es ++ a) ∙ rw (heads_length h, length-append es a)) in
      laid_splice v p old b h es (a ++ (src ++ b)) w (simp append_assoc) (simp append_assoc) lp eg k

  pub laid_in_entries : {at gone : ℕ} {src s' : List ℕ} (a old b ts : List ℕ) → Laid L s0 s used h (a ++ (old ++ b)) ts → Spliced s used at gone src s' → at ≡ entries_at + length a → gone ≡ length old
      → used_after used gone src ≤ room_size L → Laid L s0 s' (used_after used gone src) h (a ++ (src ++ b)) ts
  laid_in_entries {at} {gone} {src} {s'} a old b ts v w ea eg k =
      let p : List ℕ = write_heads h ++ a in
      let lp : at ≡ length p = ea ∙ sym (length-append (write_heads h) a ∙ rw (heads_length h)) in
      laid_splice v p old (b ++ ts) h (a ++ (src ++ b)) ts w (simp append_assoc) (simp append_assoc) lp eg k

pub laid_start : {L : Ceilings} (s : List ℕ) (st : State) (used : ℕ) → HeldBy L s st → used ≡ length ((plain_form L.key).write st) → used ≤ room_size L
    → Laid L s s used (heads_of st) (write_entries st.entries) (write_active st.active)
laid_start {L} s st used h e k =
    record {
      bytes = ap (take used) h.recorded.is ∙ take_at ((plain_form L.key).write st) h.recorded.rest used (sym e) ∙ state_alike L.key any_length st ∙ state_bytes any_length st;
      short = k;
      beyond = refl;
      size = refl;
      room = h.size;
    }

pub laid_end : {L : Ceilings} {s0 s : List ℕ} {used : ℕ} (st : State) → Laid L s0 s used (heads_of st) (write_entries st.entries) (write_active st.active) → st.last < 256 ^ number_size → ChangedBy L s0 s st
laid_end {L} {s0} {s} {used} st v h =
    let is : take used s ≡ (plain_form L.key).write st = v.bytes ∙ sym (state_bytes any_length st) ∙ state_alike any_length L.key st in
    record {
      recorded = record { rest = drop used s; is = sym (take-append-drop used s) ∙ ap (λ (x : List ℕ). x ++ drop used s) is };
      last = h;
      beyond = v.beyond;
      size = v.size;
    }

-- the heads stand there with nothing behind them
pub laid_heads : {L : Ceilings} {s0 s : List ℕ} {used : ℕ} {h : Heads} {es ts : List ℕ} → Laid L s0 s used h es ts → Laid L s0 s entries_at h [] []
laid_heads {L} {s0} {s} {used} {h} {es} {ts} v =
    let first : take entries_at s ≡ write_heads h = sym (take-take entries_at used s (omega (arith, laid_used v))) ∙ ap (take entries_at) v.bytes ∙ take_at (write_heads h) (es ++ ts) entries_at (heads_length h) in
    record { bytes = first ∙ sym (append-nil (write_heads h)); short = omega arith; beyond = v.beyond; size = v.size; room = v.room }

-- the room as it is may be taken for the one at the start
pub rebased : {L : Ceilings} {s0 s : List ℕ} {used : ℕ} {h : Heads} {es ts : List ℕ} → Laid L s0 s used h es ts → Laid L s s used h es ts
rebased v = record { bytes = v.bytes; short = v.short; beyond = refl; size = refl; room = omega (arith, v.room, v.size) }

-- a change of a room that a call has changed already
pub changed_on : {L : Ceilings} {s0 s s' : List ℕ} {used : ℕ} {h : Heads} {es ts : List ℕ} {st : State} → Laid L s0 s used h es ts → ChangedBy L s s' st → ChangedBy L s0 s' st
changed_on v c = record { recorded = c.recorded; last = c.last; beyond = c.beyond ∙ v.beyond; size = c.size ∙ v.size }
