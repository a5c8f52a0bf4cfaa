-- A fresh record, a transaction put among the active ones or taken out, and an entry put last: what is laid out afterwards.
use Prim.Native.Nat.{ℕ, ◌+◌, ◌-◌, ◌≤◌, ◌<◌, ◌^◌}
use mathlib.Core.Path.{◌≡◌, refl, sym, ap, ◌∙◌}
use mathlib.Core.List.{List, [], ◌∷◌, ◌++◌, append-nil}
use native.Mathlib.Omega.{arith}
use lib.ListN.{length, drop}
use lib.Seq.{paste, drop-paste, length-paste, take-length}
use Rattle.machine.specs.State.{Bytes, Txn, Entry, Ceilings, fresh_state}
use Rattle.machine.specs.Serve.{entry}
use Rattle.codec.specs.Codec.{write_run}
use Rattle.codec.specs.Formats.{number, bind, via}
use Rattle.moves.specs.Splices.{Spliced, used_after}
use Rattle.moves.proofs.SpliceLaws.{later}
use Rattle.layout.specs.Offsets.{number_size, entries_at, any_length}
use Rattle.layout.specs.Keys.{set_form}
use Rattle.layout.specs.Records.{entry_form, txn_form}
use Rattle.layout.specs.States.{plain_form, Heads, room_size}
use Rattle.layout.proofs.SizeLaws.{state_length}
use Rattle.layout.proofs.RowLaws.{write_append}
use Rattle.layout.proofs.LoadLaws.{ChangedBy}
use Rattle.layout.proofs.WideLaws.{state_alike}
use Rattle.edits.specs.Laid.{Laid, write_entries, write_active}
use Rattle.edits.specs.Edits.{Freshened}
use Rattle.edits.proofs.LaidLaws.{relaid, laid_in_active, laid_in_entries}

-- ---- a fresh room

pub fresh_changed : (L : Ceilings) {s s' : List ℕ} {n : ℕ} → room_size L ≤ length s → Freshened s n s' → n < 256 ^ number_size → ChangedBy L s s' (fresh_state n)
unfolding write_run
fresh_changed L {s} {s'} {n} h f l =
    let e = f.bytes in
    let w : List ℕ = (plain_form any_length).write (fresh_state n) in
    let lw : length w ≡ entries_at = state_length any_length (fresh_state n) in
    let is : s' ≡ w ++ drop entries_at s = e ∙ ap (λ (k : ℕ). paste s 0 w k) (sym lw) ∙ whole w ∙ ap (λ (k : ℕ). w ++ drop k s) lw in
    let d : drop entries_at s' ≡ drop entries_at s = ap (drop entries_at) e ∙ drop-paste s 0 w entries_at (omega arith) (omega arith) in
    record {
      recorded = record { rest = drop entries_at s; is = is ∙ ap (λ (x : List ℕ). x ++ drop entries_at s) (state_alike any_length L.key (fresh_state n)) };
      last = l;
      beyond = later s s' entries_at (room_size L) (omega arith) d;
      size = ap length e ∙ length-paste s 0 w entries_at (omega arith) (omega arith);
    }
  where
    whole : (w : List ℕ) → paste s 0 w (length w) ≡ w ++ drop (length w) s
    whole w = let z : 0 + length w ≡ length w = omega arith in rw (take-length w, z)

-- ---- the active ones

one_active : (t : Txn) (ts : List Txn) → write_active (t ∷ ts) ≡ (txn_form any_length).write t ++ write_active ts
unfolding write_run
one_active t ts = refl

-- the records of some, of one and of others
pub active_split : (front : List Txn) (t : Txn) (back : List Txn) → write_active (front ++ (t ∷ back)) ≡ write_active front ++ ((txn_form any_length).write t ++ write_active back)
active_split front t back = write_append (txn_form any_length) front (t ∷ back) ∙ rw (one_active t back)

module _ {L : Ceilings} {s0 s : List ℕ} {used : ℕ} {h : Heads} {es : List ℕ} (front back : List Txn) where
  -- one is put between others
  pub laid_put : {s' : List ℕ} {at : ℕ} (t : Txn) → Laid L s0 s used h es (write_active (front ++ back)) → at ≡ entries_at + (length es + length (write_active front)) → Spliced s used at 0 ((txn_form any_length).write t) s'
      → used + length ((txn_form any_length).write t) ≤ room_size L → Laid L s0 s' (used + length ((txn_form any_length).write t)) h es (write_active (front ++ (t ∷ back)))
  laid_put t v ea w k =
      let v' : Laid L s0 s used h es (write_active front ++ ([] ++ write_active back)) = relaid refl refl refl (write_append (txn_form any_length) front back) v in
      let u : used_after used 0 ((txn_form any_length).write t) ≡ used + length ((txn_form any_length).write t) = omega arith in
      relaid u refl refl (sym (active_split front t back)) (laid_in_active es (write_active front) [] (write_active back) v' w ea refl (omega arith))

  -- one is taken out
  pub laid_out : {s' : List ℕ} {at gone : ℕ} (t : Txn) → Laid L s0 s used h es (write_active (front ++ (t ∷ back))) → at ≡ entries_at + (length es + length (write_active front)) → gone ≡ length ((txn_form any_length).write t) → Spliced s used at gone [] s'
      → Laid L s0 s' (used - gone) h es (write_active (front ++ back))
  laid_out {s'} {at} {gone} t v ea eg w =
      let v' = relaid refl refl refl (active_split front t back) v in
      let u : used_after used gone [] ≡ used - gone = omega arith in
      relaid u refl refl (sym (write_append (txn_form any_length) front back)) (laid_in_active es (write_active front) ((txn_form any_length).write t) (write_active back) v' w ea eg (omega (arith, v.short)))

-- ---- the entries

entry_bytes_lem : (n : ℕ) (ks : List Bytes) → (entry_form any_length).write (entry n ks) ≡ (number number_size).write n ++ (set_form any_length).write ks
unfolding entry_form via bind
entry_bytes_lem n ks = refl

entries_snoc : (es : List Entry) (e : Entry) → write_entries (es ++ (e ∷ [])) ≡ write_entries es ++ ((entry_form any_length).write e ++ [])
unfolding write_run
entries_snoc es e = write_append (entry_form any_length) es (e ∷ [])

-- an entry is put last
pub laid_enter : {L : Ceilings} {s0 s s' : List ℕ} {used at : ℕ} {h : Heads} {ts set : List ℕ} (es : List Entry) (q : ℕ) (ks : List Bytes) → Laid L s0 s used h (write_entries es) ts → at ≡ entries_at + length (write_entries es) → set ≡ (set_form any_length).write ks
    → Spliced s used at 0 ((number number_size).write q ++ set) s' → used + length ((number number_size).write q ++ set) ≤ room_size L
    → Laid L s0 s' (used + length ((number number_size).write q ++ set)) h (write_entries (es ++ (entry q ks ∷ []))) ts
laid_enter {L} {s0} {s} {s'} {used} {at} {h} {ts} {set} es q ks v ea e w k =
    let v' : Laid L s0 s used h (write_entries es ++ ([] ++ [])) ts = relaid refl refl (sym (append-nil (write_entries es))) refl v in
    let u : used_after used 0 ((number number_size).write q ++ set) ≡ used + length ((number number_size).write q ++ set) = omega arith in
    let r = laid_in_entries (write_entries es) [] [] ts v' w ea refl (omega arith) in
    let f : write_entries es ++ (((number number_size).write q ++ set) ++ []) ≡ write_entries (es ++ (entry q ks ∷ [])) = rw e (rw (← entry_bytes_lem q ks) (sym (entries_snoc es (entry q ks)))) in
    relaid u refl f refl r
