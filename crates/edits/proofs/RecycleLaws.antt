-- Leaving the list: the kept entries close up, the count is written, and what stands is the record of the pruned state; with nobody
-- active the heads alone are left.
use Prim.Native.Nat.{ℕ, ◌+◌, ◌-◌, ◌≤◌, ◌<◌}
use mathlib.Core.Path.{◌≡◌, refl, sym, ap, ap₂, ◌∙◌, subst}
use mathlib.Core.List.{List, [], ◌∷◌, ◌++◌, append_assoc}
use native.Mathlib.Omega.{arith}
use lib.ListN.{length, take, drop, length-append, take-append-drop}
use lib.Seq.{paste, slice, take-take, take_at, drop_at, drop-drop, length-take-le}
use Rattle.machine.specs.Lists.{All}
use Rattle.machine.specs.State.{Txn, Entry, State, Ceilings, with_last, with_active, with_entries}
use Rattle.machine.specs.Sets.{prune, pruned, emptied, in_reach}
use Rattle.machine.proofs.ListLaws.{none_left}
use Rattle.machine.proofs.EntryLaws.{prune_rule, rule_idle, emptied_is, idle_pruned}
use Rattle.codec.specs.Codec.{write_run}
use Rattle.codec.specs.Formats.{number}
use Rattle.moves.specs.Splices.{Spliced, used_after}
use Rattle.moves.proofs.SpliceLaws.{drop_take, later, replaces, untouched}
use Rattle.layout.specs.Offsets.{number_size, count_size, last_at, entry_count_at, active_count_at, entries_at, any_length}
use Rattle.layout.specs.Records.{entry_form, txn_form}
use Rattle.layout.specs.States.{Heads, heads_of, write_heads, set_entry_count, room_size}
use Rattle.layout.specs.Rows.{Rows}
use Rattle.layout.proofs.RowLaws.{row_inside, row_end}
use Rattle.layout.proofs.SizeLaws.{heads_length}
use Rattle.layout.proofs.LoadLaws.{ChangedBy}
use Rattle.places.specs.Finds.{lowest, LowestIs}
use Rattle.places.proofs.LowLaws.{lowest_least}
use Rattle.edits.specs.declared.leaving.Kept.{Kept}
use Rattle.edits.specs.Laid.{Laid, write_entries}
use Rattle.edits.specs.Leaving.{kept_from, PrunedTo, Prunes, Unpruned, Tells, Prunable, PrunedFor, Recycled, Emptied}
use Rattle.edits.proofs.LaidLaws.{relaid, inside, laid_used, laid_last, laid_entries, laid_active, laid_heads, laid_end}

-- two places cut some bytes in three
in_three : (s : List ℕ) (a b : ℕ) → a ≤ b → s ≡ take a s ++ (slice a b s ++ drop b s)
in_three s a b h =
    let k : a + (b - a) ≡ b = omega arith in
    sym (take-append-drop a s)
    ∙ ap (λ (x : List ℕ). take a s ++ x) (sym (take-append-drop (b - a) (drop a s)) ∙ ap₂ (λ (x y : List ℕ). x ++ y) (sym (drop_take a b s)) (drop-drop (b - a) a s ∙ ap (λ (x : ℕ). drop x s) k))

module _ {L : Ceilings} {s0 s s1 s2 : List ℕ} {used least mid : ℕ} {h : Heads} {ts : List ℕ} (es : List Entry) (r : Kept) where
  pub laid_pruned : Laid L s0 s used h (write_entries es) ts → mid ≡ entries_at + length (write_entries es) → PrunedTo s least es mid s1 r → Spliced s1 used r.end (mid - r.end) [] s2
      → Laid L s0 s2 (used - (mid - r.end)) h (write_entries (kept_from least es)) ts
  laid_pruned v em p w =
      let lu : used ≡ entries_at + (length (write_entries es) + length ts) = laid_used v in
      let iu : used ≤ length s = inside v in
      let kept : List ℕ = write_entries (kept_from least es) in
      let b0 : take used s ≡ write_heads h ++ (write_entries es ++ ts) = v.bytes in
      let first : take entries_at s ≡ write_heads h = sym (take-take entries_at used s (omega arith)) ∙ ap (take entries_at) b0 ∙ take_at (write_heads h) (write_entries es ++ ts) entries_at (heads_length h) in
      let front : take r.end s1 ≡ write_heads h ++ kept = p.bytes ∙ ap (λ (x : List ℕ). x ++ kept) first in
      let u1 : used ≤ length s1 = omega (arith, p.size) in
      let f1 : take r.end (take used s1) ≡ write_heads h ++ kept = take-take r.end used s1 (omega (arith, p.within)) ∙ front in
      let t0 : drop mid (take used s) ≡ ts = ap (drop mid) (b0 ∙ sym (append_assoc (write_heads h) (write_entries es) ts)) ∙ drop_at (write_heads h ++ write_entries es) ts mid (length-append (write_heads h) (write_entries es) ∙ rw (heads_length h) (sym em)) in
      let t1 : drop mid (take used s1) ≡ ts = drop_take mid used s1 ∙ ap (take (used - mid)) p.after ∙ sym (drop_take mid used s) ∙ t0 in
      let g : List ℕ = slice r.end mid (take used s1) in
      let three : take used s1 ≡ (write_heads h ++ kept) ++ (g ++ ts) = in_three (take used s1) r.end mid p.within ∙ ap₂ (λ (x y : List ℕ). x ++ (g ++ y)) f1 t1 in
      let lf : r.end ≡ length (write_heads h ++ kept) = sym (length-take-le r.end s1 (omega (arith, p.within))) ∙ ap length front in
      let lg : mid - r.end ≡ length g = omega (arith, p.within, length-take-le used s1 u1, ap length three, length-append (write_heads h ++ kept) (g ++ ts), length-append g ts) in
      let e : used_after used (mid - r.end) [] ≡ used - (mid - r.end) = omega arith in
      record {
        bytes = subst (λ (x : ℕ). take x s2 ≡ (write_heads h ++ kept) ++ ([] ++ ts)) e (replaces w (write_heads h ++ kept) g ts three lf lg (omega (arith, p.within))) ∙ append_assoc (write_heads h) kept ts;
        short = omega (arith, v.short);
        beyond = untouched w (room_size L) (omega (arith, v.short)) ∙ later s s1 mid (room_size L) (omega (arith, v.short)) p.after ∙ v.beyond;
        size = w.size ∙ p.size ∙ v.size;
        room = v.room;
      }

-- ---- emptying

pub empties : (s a b s' : List ℕ) (last : ℕ) → a ≡ paste s last_at ((number number_size).write last) number_size → b ≡ paste a entry_count_at ((number count_size).write 0) count_size
    → s' ≡ paste b active_count_at ((number count_size).write 0) count_size → Emptied s last s'
unfolding write_run
empties s a b s' last ea eb es =
    record {
      changed = λ L st used v l. subst (ChangedBy L s s') (sym (emptied_is (with_last last st)))
          (laid_end (with_entries [] (with_active [] (with_last last st))) (laid_heads (laid_active (laid_entries (laid_last v last ea) 0 eb) 0 es)) l);
    }

nobody : (L : Ceilings) (s s' : List ℕ) (st : State) → length st.active ≡ 0 → ChangedBy L s s' (emptied st) → PrunedFor L s st s' 0
nobody L s s' st e w =
    let idle = none_left st.active e in
    let none : prune st.active st.entries ≡ [] = rule_idle in_reach prune_rule st.active st.entries idle in
    record { changed = subst (ChangedBy L s s') (sym (idle_pruned st idle)) w; count = sym (ap length none) }

-- ---- pruning

module _ {s : List ℕ} {last n k middle used : ℕ} (p : Prunable s last n k middle used) where
  pub recycle_room : entries_at ≤ length s
  recycle_room = omega (arith, p.stands.laid.room)

  pub recycle_nobody : {s' : List ℕ} → k ≡ 0 → Emptied s last s' → Recycled s last n k middle used s' 0
  recycle_nobody {s'} h e =
      record {
        is = λ L st u t. nobody L s s' st (t.active ∙ h) (subst (λ (m : ℕ). ChangedBy L s s' (emptied (with_last m st))) (sym t.last) (e.changed L st used u.laid (omega (arith, u.small, t.last))));
      }

  pub recycle_entries : Rows (entry_form any_length) s entries_at n
  recycle_entries = record { vals = p.state.entries; end = middle; row = p.stands.entries; count = p.tells.entries }

  pub recycle_active : Rows (txn_form any_length) s middle k
  recycle_active = record { vals = p.state.active; end = used; row = p.stands.active; count = p.tells.active }

  -- the kept entries end before the active ones, and these before the room
  pub recycle_inside : {least : ℕ} {s1 : List ℕ} (r : Kept) → Prunes s n least s1 r → (r.end ≤ middle) × ((middle ≤ used) × (used ≤ length s1))
  recycle_inside r w =
      let u = p.stands in
      let q = w.is p.state.entries middle u.entries p.tells.entries in
      let i = row_inside (txn_form any_length) s middle p.state.active used u.active in
      (q.within, (i.0, omega (arith, i.1, q.size)))

least_kept : (last : ℕ) (ts : List Txn) (es : List Entry) → 0 < length ts → All (λ t. t.start ≤ last) ts → kept_from (lowest last ts) es ≡ prune ts es
unfolding in_reach
least_kept last [] es h a = absurd (omega (arith, h))
least_kept last (t ∷ ts) es h a = ap (λ (m : ℕ). kept_from m es) (lowest_least last t ts a.0)

pub recycle_some : {s s1 s2 s3 : List ℕ} {last n k middle used least : ℕ} (r : Kept) → 0 < k → LowestIs s middle k last least → Prunes s n least s1 r → Spliced s1 used r.end (middle - r.end) [] s2
    → s3 ≡ paste s2 entry_count_at ((number count_size).write r.count) count_size → Recycled s last n k middle used s3 r.count
recycle_some {s} {s1} {s2} {s3} {last} {n} {k} {middle} {used} {least} r h low w x e = record { is = leaves }
  where
    leaves : (L : Ceilings) (st : State) → Unpruned L s st middle used → Tells st last n k → PrunedFor L s st s3 r.count
    leaves L st u t =
        let es = st.entries in
        let ts = st.active in
        let q = w.is es middle u.entries t.entries in
        let em : middle ≡ entries_at + length (write_entries es) = row_end (entry_form any_length) s entries_at es middle u.entries in
        let lo : least ≡ lowest st.last ts = low.is ts used u.active t.active ∙ ap (λ (m : ℕ). lowest m ts) (sym t.last) in
        let f : kept_from least es ≡ prune ts es = ap (λ (m : ℕ). kept_from m es) lo ∙ least_kept st.last ts es (omega (arith, t.active, h)) u.started in
        let c : r.count ≡ length (prune ts es) = q.count ∙ ap length f in
        let v = laid_entries (laid_pruned es r u.laid em q x) r.count e in
        record { changed = laid_end (pruned st) (relaid refl (ap (λ (m : ℕ). set_entry_count m (heads_of st)) c) (ap write_entries f) refl v) u.small; count = c }
