-- How many bytes each record takes, and that every state within the ceilings fits the published size.
use Prim.Native.Nat.{ℕ, ◌+◌, ◌*◌, ◌≤◌}
use mathlib.Core.Path.{◌≡◌, refl, sym, ap, ◌∙◌}
use mathlib.Core.List.{List, [], ◌∷◌, ◌++◌, append_assoc}
use native.Mathlib.Omega.{arith}
use lib.ListN.{length, length-append}
use Rattle.kinds.specs.Bounds.{Bound}
use Rattle.bounds.specs.Ranges.{Range}
use Rattle.ranges.specs.Made.{key_of, kind_of}
use Rattle.fields.specs.Forms.{bound_tag}
use Rattle.machine.specs.Lists.{sum, All}
use Rattle.machine.specs.State.{Bytes, Txn, Entry, State, Ceilings, Fits, TxnOk, MachineState, set_bytes, range_bytes, txn_bytes, entry_bytes, txn_marks, entry_marks}
use Rattle.codec.specs.Codec.{write_run}
use Rattle.codec.specs.Formats.{number, raw, bind, only, via, run}
use Rattle.codec.proofs.NumberLaws.{length_number}
use Rattle.layout.specs.Offsets.{number_size, count_size, length_size, tag_size, id_size, part_at, entries_at, writes_at, bound_key_at, entry_size, txn_size, mark_size}
use Rattle.layout.specs.Keys.{key_form, list_form, set_form, bound_form, pair_form, range_form, ranges_form}
use Rattle.layout.specs.Records.{entry_form, TxnHead, txn_head_form, head_of, txn_form, entries_form, active_form, head_form, counts_form, counts_of, part_form}
use Rattle.layout.specs.States.{plain_form, content_of, Heads, heads_of, write_heads, room_size}

pub key_length : (m : ℕ) (k : Bytes) → length ((key_form m).write k) ≡ length_size + length k
unfolding key_form via bind only raw
key_length m k = length-append ((number length_size).write (length k)) k ∙ rw (length_number length_size (length k))

pub keys_length : (m : ℕ) (ks : List Bytes) → length (write_run (key_form m) ks) ≡ length_size * length ks + set_bytes ks
unfolding write_run sum
keys_length m [] = refl
keys_length m (k ∷ ks) = length-append ((key_form m).write k) (write_run (key_form m) ks) ∙ rw (key_length m k, keys_length m ks) (omega arith)

pub set_length : (m : ℕ) (ks : List Bytes) → length ((set_form m).write ks) ≡ count_size + length_size * length ks + set_bytes ks
unfolding set_form list_form via bind run
set_length m ks = length-append ((number count_size).write (length ks)) (write_run (key_form m) ks) ∙ rw (length_number count_size (length ks), keys_length m ks) (omega arith)

bound_length : (m : ℕ) (b : Bound) → length ((bound_form m).write b) ≡ bound_key_at + length (key_of b)
unfolding bound_form via bind only
bound_length m b = length-append ((number tag_size).write (bound_tag (kind_of b))) ((key_form _).write (key_of b)) ∙ rw (length_number tag_size (bound_tag (kind_of b)), key_length _ (key_of b)) (omega arith)

pub range_length : (m : ℕ) (r : Range) → length ((range_form m).write r) ≡ mark_size + range_bytes r
unfolding range_form pair_form only via bind
range_length m r = length-append ((bound_form m).write r.start) ((bound_form m).write r.end) ∙ rw (bound_length m r.start, bound_length m r.end) (omega arith)

ranges_run : (m : ℕ) (rs : List Range) → length (write_run (range_form m) rs) ≡ mark_size * length rs + sum range_bytes rs
unfolding write_run sum
ranges_run m [] = refl
ranges_run m (r ∷ rs) = length-append ((range_form m).write r) (write_run (range_form m) rs) ∙ rw (range_length m r, ranges_run m rs) (omega arith)

pub ranges_length : (m : ℕ) (rs : List Range) → length ((ranges_form m).write rs) ≡ count_size + mark_size * length rs + sum range_bytes rs
unfolding ranges_form list_form via bind run
ranges_length m rs = length-append ((number count_size).write (length rs)) (write_run (range_form m) rs) ∙ rw (length_number count_size (length rs), ranges_run m rs) (omega arith)

pub entry_length : (m : ℕ) (e : Entry) → length ((entry_form m).write e) ≡ entry_size + length_size * entry_marks e + entry_bytes e
unfolding entry_form via bind
entry_length m e = length-append ((number number_size).write e.seq) ((set_form m).write e.keys) ∙ rw (length_number number_size e.seq, set_length m e.keys) (omega arith)

pub txn_head_length : (h : TxnHead) → length h.id ≡ id_size → length (txn_head_form.write h) ≡ writes_at
unfolding txn_head_form via bind raw
txn_head_length h e = length-append h.id ((number number_size).write h.start) ∙ rw (e, length_number number_size h.start)

-- the head first, then the sets and the ranges
pub txn_bytes_lem : (m : ℕ) (t : Txn) → (txn_form m).write t ≡ txn_head_form.write (head_of t) ++ ((set_form m).write t.writes ++ ((set_form m).write t.reads ++ (ranges_form m).write t.ranges))
unfolding txn_form via bind
txn_bytes_lem m t = refl

pub txn_length : (m : ℕ) (t : Txn) → length t.id ≡ id_size → length ((txn_form m).write t) ≡ txn_size + length_size * (length t.writes + length t.reads) + mark_size * length t.ranges + txn_bytes t
txn_length m t h =
    rw (txn_bytes_lem m t)
    (simp (length-append)
    (rw (txn_head_length (head_of t) h, set_length m t.writes, set_length m t.reads, ranges_length m t.ranges) (omega arith)))

pub head_length : (l : ℕ) → length (head_form.write l) ≡ part_at
unfolding head_form via bind only
head_length l = simp (length-append, length_number)

pub heads_length : (h : Heads) → length (write_heads h) ≡ entries_at
unfolding head_form counts_form via bind only
heads_length h = simp (length-append, length_number)

entries_length : (m : ℕ) (es : List Entry) → length (write_run (entry_form m) es) ≤ entry_size * length es + mark_size * sum entry_marks es + sum entry_bytes es
unfolding write_run sum
entries_length m [] = omega arith
entries_length m (e ∷ es) = rw (length-append ((entry_form m).write e) (write_run (entry_form m) es), entry_length m e) (omega (arith, entries_length m es))

active_length : (m : ℕ) (ts : List Txn) → All (λ t. length t.id ≡ id_size) ts → length (write_run (txn_form m) ts) ≤ txn_size * length ts + mark_size * sum txn_marks ts + sum txn_bytes ts
unfolding write_run sum
active_length m [] a = omega arith
active_length m (t ∷ ts) a = rw (length-append ((txn_form m).write t) (write_run (txn_form m) ts), txn_length m t a.0) (omega (arith, active_length m ts a.1))

-- the heads first, then the entries, then the active ones
pub state_bytes : (m : ℕ) (s : State) → (plain_form m).write s ≡ write_heads (heads_of s) ++ (write_run (entry_form m) s.entries ++ write_run (txn_form m) s.active)
unfolding plain_form part_form via bind entries_form active_form run
state_bytes m s = sym (append_assoc (head_form.write s.last) (counts_form.write (counts_of (content_of s))) (write_run (entry_form m) s.entries ++ write_run (txn_form m) s.active))

pub state_length : (m : ℕ) (s : State) → length ((plain_form m).write s) ≡ entries_at + length (write_run (entry_form m) s.entries) + length (write_run (txn_form m) s.active)
state_length m s =
    ap length (state_bytes m s)
    ∙ length-append (write_heads (heads_of s)) (write_run (entry_form m) s.entries ++ write_run (txn_form m) s.active)
    ∙ rw (heads_length (heads_of s), length-append (write_run (entry_form m) s.entries) (write_run (txn_form m) s.active)) (omega arith)

-- "the library publishes its size": every machine state's record fits
pub fits_size : (L : Ceilings) (m : ℕ) (s : State) → Fits L s → All (λ t. length t.id ≡ id_size) s.active → length ((plain_form m).write s) ≤ room_size L
fits_size L m s f a =
    rw (state_length m s)
    (omega (arith, f.active, f.entries, f.marks, f.bytes, entries_length m s.entries, active_length m s.active a))

pub ids_long : (L : Ceilings) (n : ℕ) (ts : List Txn) → All (TxnOk L n) ts → All (λ t. length t.id ≡ id_size) ts
ids_long L n [] a = tt
ids_long L n (t ∷ ts) a = (a.0.id_length, ids_long L n ts a.1)

pub machine_size : (L : Ceilings) (m : ℕ) (s : State) → MachineState L s → length ((plain_form m).write s) ≤ room_size L
machine_size L m s o = fits_size L m s o.ceilings (ids_long L s.last s.active o.txns)
