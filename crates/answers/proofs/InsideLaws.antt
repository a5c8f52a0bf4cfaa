-- A part of one transaction's record is replaced: what is laid out after a track.
use Prim.Native.Nat.{ℕ, ◌+◌, ◌≤◌}
use mathlib.Core.Path.{◌≡◌, refl, sym, ap, ◌∙◌}
use mathlib.Core.List.{List, [], ◌∷◌, ◌++◌, append_assoc, append-nil}
use native.Mathlib.Omega.{arith}
use lib.ListN.{length, length-append}
use lib.Seq.{paste}
use Rattle.bounds.specs.Ranges.{Range}
use Rattle.machine.specs.State.{Txn, base}
use Rattle.machine.specs.Serve.{add_range}
use Rattle.codec.specs.Codec.{write_run}
use Rattle.codec.specs.Formats.{number, bind, via, run}
use Rattle.codec.proofs.NumberLaws.{length_number}
use Rattle.moves.specs.Splices.{Spliced, used_after}
use Rattle.layout.specs.Offsets.{count_size, entries_at, any_length}
use Rattle.layout.specs.Keys.{set_form, range_form, ranges_form, list_form}
use Rattle.layout.specs.Records.{txn_head_form, head_of, txn_form}
use Rattle.layout.specs.States.{Heads, room_size}
use Rattle.layout.proofs.SizeLaws.{txn_bytes_lem}
use Rattle.layout.proofs.RowLaws.{write_append}
use Rattle.edits.specs.Laid.{Laid, write_active}
use Rattle.edits.proofs.LaidLaws.{relaid, inside, laid_used, over_spliced, laid_in_active}
use Rattle.edits.proofs.ChangeLaws.{active_split}

-- ---- a part of one transaction's record is replaced

module _ {s0 s s' : List ℕ} {used at gone : ℕ} {h : Heads} {src es : List ℕ} (front back : List Txn) (t t' : Txn) (a old b : List ℕ) where
  pub laid_within : Laid base s0 s used h es (write_active (front ++ (t ∷ back))) → (txn_form any_length).write t ≡ a ++ (old ++ b) → (txn_form any_length).write t' ≡ a ++ (src ++ b)
      → at ≡ entries_at + (length es + length (write_active front)) + length a → gone ≡ length old → Spliced s used at gone src s' → used_after used gone src ≤ room_size base
      → Laid base s0 s' (used_after used gone src) h es (write_active (front ++ (t' ∷ back)))
  laid_within v et et' ea eg w k =
      let x : write_active (front ++ (t ∷ back)) ≡ (write_active front ++ a) ++ (old ++ (b ++ write_active back)) = active_split front t back ∙ rw et (simp append_assoc) in
      let y : (write_active front ++ a) ++ (src ++ (b ++ write_active back)) ≡ write_active (front ++ (t' ∷ back)) = sym (active_split front t' back ∙ rw et' (simp append_assoc)) in
      let ea' : at ≡ entries_at + (length es + length (write_active front ++ a)) = ea ∙ rw (length-append (write_active front) a) (omega arith) in
      relaid refl refl refl y (laid_in_active es (write_active front ++ a) old (b ++ write_active back) (relaid refl refl refl x v) w ea' eg k)

ranges_bytes : (rs : List Range) → (ranges_form any_length).write rs ≡ (number count_size).write (length rs) ++ write_run (range_form any_length) rs
unfolding ranges_form list_form via bind run
ranges_bytes rs = refl

ranges_snoc : (rs : List Range) (r : Range) → write_run (range_form any_length) (rs ++ (r ∷ [])) ≡ write_run (range_form any_length) rs ++ (range_form any_length).write r
unfolding write_run
ranges_snoc rs r = write_append (range_form any_length) rs (r ∷ []) ∙ rw (append-nil ((range_form any_length).write r))

-- what stands before the ranges of a transaction
abbrev pub before_ranges : Txn → List ℕ
before_ranges t = txn_head_form.write (head_of t) ++ ((set_form any_length).write t.writes ++ (set_form any_length).write t.reads)

module _ {s0 s s1 s2 : List ℕ} {used at end : ℕ} {h : Heads} {es bounds : List ℕ} (front back : List Txn) (t : Txn) (r : Range) where
  -- a range is put last, and the count raised
  pub laid_range : Laid base s0 s used h es (write_active (front ++ (t ∷ back))) → bounds ≡ (range_form any_length).write r
      → end ≡ entries_at + (length es + length (write_active front)) + length ((txn_form any_length).write t) → at ≡ entries_at + (length es + length (write_active front)) + length (before_ranges t)
      → Spliced s used end 0 bounds s1 → s2 ≡ paste s1 at ((number count_size).write (length t.ranges + 1)) count_size → used + length bounds ≤ room_size base
      → Laid base s0 s2 (used + length bounds) h es (write_active (front ++ (add_range r t ∷ back)))
  laid_range v eb ee ea w e k =
      let T = (txn_form any_length).write in
      let f : List ℕ = write_active front in
      let g : List ℕ = write_active back in
      let gs : List ℕ = write_run (range_form any_length) t.ranges in
      let x : write_active (front ++ (t ∷ back)) ≡ (f ++ T t) ++ ([] ++ g) = active_split front t back ∙ simp append_assoc in
      let le : end ≡ entries_at + (length es + length (f ++ T t)) = ee ∙ rw (length-append f (T t)) (omega arith) in
      let u1 : used_after used 0 bounds ≡ used + length bounds = omega arith in
      let v1 = relaid u1 refl refl refl (laid_in_active es (f ++ T t) [] g (relaid refl refl refl x v) w le refl (omega arith)) in
      let tb : T t ≡ before_ranges t ++ ((number count_size).write (length t.ranges) ++ gs) = txn_bytes_lem any_length t ∙ rw (ranges_bytes t.ranges) (simp append_assoc) in
      let y : (f ++ T t) ++ (bounds ++ g) ≡ (f ++ before_ranges t) ++ ((number count_size).write (length t.ranges) ++ (gs ++ (bounds ++ g))) = rw tb (simp append_assoc) in
      let v2 = relaid refl refl refl y v1 in
      let la : at ≡ entries_at + (length es + length (f ++ before_ranges t)) = ea ∙ rw (length-append f (before_ranges t)) (omega arith) in
      let lt : length (T t) ≡ length (before_ranges t) + (count_size + length gs) = ap length tb ∙ length-append (before_ranges t) ((number count_size).write (length t.ranges) ++ gs) ∙ rw (length-append ((number count_size).write (length t.ranges)) gs, length_number count_size (length t.ranges)) in
      let lx : length (write_active (front ++ (t ∷ back))) ≡ length f + (length (T t) + length g) = ap length (active_split front t back) ∙ length-append f (T t ++ g) ∙ rw (length-append (T t) g) in
      let o = over_spliced count_size s1 s2 (used + length bounds) at (length t.ranges + 1) e (omega (arith, laid_used v, ea, lt, lx)) (inside v1) in
      let u2 : used_after (used + length bounds) count_size ((number count_size).write (length t.ranges + 1)) ≡ used + length bounds = rw (length_number count_size (length t.ranges + 1)) (omega (arith, laid_used v)) in
      let c : length (t.ranges ++ (r ∷ [])) ≡ length t.ranges + 1 = length-append t.ranges (r ∷ []) in
      let z : (f ++ before_ranges t) ++ ((number count_size).write (length t.ranges + 1) ++ (gs ++ (bounds ++ g))) ≡ write_active (front ++ (add_range r t ∷ back)) =
      sym (active_split front (add_range r t) back ∙ rw (txn_bytes_lem any_length (add_range r t), ranges_bytes (t.ranges ++ (r ∷ [])), ranges_snoc t.ranges r, c, ← eb) (simp append_assoc)) in
      relaid u2 refl refl z
      (laid_in_active es (f ++ before_ranges t) ((number count_size).write (length t.ranges)) (gs ++ (bounds ++ g)) v2 o la (sym (length_number count_size (length t.ranges))) (omega (arith, u2)))
