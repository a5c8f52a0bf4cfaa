-- Document 01's table of statuses as tests, for a call on a machine state; Words.antt has it in plain words, and `malformed_means` and
-- its like say that they agree. Serve.antt has one rule for row 6; `rows` says that it gives the same.
use Rattle.std.specs.Prelude.{ℕ, suc, Bool, true, false, cond, not, ◌&&◌, ◌||◌, [], leb, ltb, length}
use Rattle.std.proofs.Math.Option.{Option, none, some}
use Rattle.bounds.specs.Ranges.{not_empty}
use Rattle.fields.specs.Fields.{key_list, bounds_of}
use Rattle.fields.specs.Forms.{short_keys}
use Rattle.machine.specs.Lists.{is_nil}
use Rattle.machine.specs.State.{Bytes, Txn, State, Ceilings, marks, key_bytes}
use Rattle.machine.specs.Sets.{insert_all, find, without}
use Rattle.machine.specs.Calls.{Op, begin, track_keys, track_range, check, commit, batch, drop_txn, minimum, takes, of_some}
use Rattle.machine.specs.Serve.{entry, is_id, is_new, short_range, add_keys, add_range, with_txn, with_entry}

abbrev pub is_none : {A : Type 0} → Option A → Bool
is_none none = true
is_none (some a) = false

-- 2: "id not 16 bytes, sequence not 8, key list or bounds badly formed" (a sequence is a number here)
abbrev pub is_malformed : Op → Bool
is_malformed c =
    (of_some (takes c).new (λ i. not (is_id i)) || of_some (takes c).id (λ i. not (is_id i)))
    || (of_some (takes c).list (λ bs. is_none (key_list bs)) || of_some (takes c).bounds (λ bs. is_none (bounds_of bs)))

-- 4: "a key over 512 bytes"
abbrev pub long_keys : Ceilings → Bytes → Bool
long_keys L bs = of_some (key_list bs) λ ks. not (short_keys L.key ks)

abbrev pub long_bound : Ceilings → Bytes → Bool
long_bound L bs = of_some (bounds_of bs) λ r. not (short_range L.key r)

abbrev pub is_long_key : Ceilings → Op → Bool
is_long_key L c = of_some (takes c).list (long_keys L) || of_some (takes c).bounds (long_bound L)

-- 5: "range empty by the rule"
abbrev pub empty_bounds : Bytes → Bool
empty_bounds bs = of_some (bounds_of bs) λ r. not (not_empty r)

abbrev pub is_empty_range : Op → Bool
is_empty_range c = of_some (takes c).bounds empty_bounds

-- 3: "begin of an active id"
abbrev pub is_again : State → Op → Bool
is_again s c = of_some (takes c).new λ i. not (is_new (find i s.active))

-- 1: "id isn't active, or minimum with nobody active"
abbrev pub is_absent : State → Op → Bool
is_absent s c = of_some (takes c).id (λ i. is_new (find i s.active)) || ((takes c).anyone && is_nil s.active)

-- "would pass a total": marks or key bytes
abbrev pub passes_total : Ceilings → State → Bool
passes_total L s = ltb L.marks (marks s) || ltb L.bytes (key_bytes s)

abbrev pub track_passes : Ceilings → State → Bytes → (Txn → Txn) → Bool
track_passes L s i f = of_some (find i s.active) λ t. passes_total L (with_txn (f t) s)

-- 6: "begin with 32 active; track that would pass a total; batch while someone is active that would pass 128 entries or a
-- total; commit with 128 entries while someone else is active"
abbrev pub is_full : Ceilings → State → Op → Bool
is_full L s (begin i) = leb L.active (length s.active)
is_full L s (track_keys w i bs) = of_some (key_list bs) λ ks. track_passes L s i (add_keys w ks)
is_full L s (track_range i bs) = of_some (bounds_of bs) λ r. track_passes L s i (add_range r)
is_full L s (check i) = false
is_full L s (commit i n) = leb L.entries (length s.entries) && not (is_nil (without i s.active))
is_full L s (batch n bs) =
    not (is_nil s.active)
    && of_some (key_list bs) λ ks. ltb L.entries (suc (length s.entries)) || passes_total L (with_entry (entry n (insert_all ks [])) s)
is_full L s (drop_txn i) = false
is_full L s minimum = false

-- "First in this order wins: 7, 2, 4, 5, then 3 or 1, then 6."
abbrev pub status_of : Ceilings → State → Op → ℕ
status_of L s c =
    cond (is_malformed c) 2
    (cond (is_long_key L c) 4
    (cond (is_empty_range c) 5
    (cond (is_again s c) 3
    (cond (is_absent s c) 1
    (cond (is_full L s c) 6
    0)))))
