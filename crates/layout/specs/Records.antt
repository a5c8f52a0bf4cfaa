-- Entries and transactions as bytes, the head of a room, and its part.
use Rattle.std.specs.Prelude.{ℕ, ◌≡◌, refl, Bool, List, eqb, length}
use Rattle.std.proofs.Common.{sym, ap, ap₂, eqb-true}
use Rattle.bounds.specs.Ranges.{Range}
use Rattle.machine.specs.State.{Bytes, Txn, Entry}
use Rattle.codec.specs.Codec.{Codec}
use Rattle.codec.specs.Formats.{number, raw, bind, only, via, run}
use Rattle.layout.specs.Offsets.{number_size, count_size, id_size}
use Rattle.layout.specs.Keys.{set_form, ranges_form, below, any_order}

-- "each a committed sequence and a write set"
unfoldable pub entry_form : ℕ → Codec Entry
entry_form m = via (bind (number number_size) (λ n. set_form m)) (λ p. record { seq = p.0; keys = p.1 }) (λ e. (e.seq, e.keys)) (λ b. refl) (λ a o. refl)

-- what a transaction's record begins with: "by 16-byte id, each with a start"
pub record TxnHead : Type 0 where
  pub id : Bytes
  pub start : ℕ

abbrev pub txn_head_raw : Codec (Bytes × ℕ)
txn_head_raw = bind (raw id_size) (λ i. number number_size)

abbrev pub to_txn_head : Bytes × ℕ → TxnHead
to_txn_head p = record { id = p.0; start = p.1 }

abbrev pub of_txn_head : TxnHead → Bytes × ℕ
of_txn_head h = (h.id, h.start)

unfoldable pub txn_head_form : Codec TxnHead
txn_head_form = via txn_head_raw to_txn_head of_txn_head (λ b. refl) (λ a o. refl)

abbrev pub head_of : Txn → TxnHead
head_of t = record { id = t.id; start = t.start }

-- "a write set, a read set and a list of ranges"
abbrev pub sets_raw : ℕ → Codec (List Bytes × (List Bytes × List Range))
sets_raw m = bind (set_form m) (λ w. bind (set_form m) (λ r. ranges_form m))

abbrev pub txn_raw : ℕ → Codec (TxnHead × (List Bytes × (List Bytes × List Range)))
txn_raw m = bind txn_head_form (λ h. sets_raw m)

abbrev pub to_txn : TxnHead × (List Bytes × (List Bytes × List Range)) → Txn
to_txn p = record { id = p.0.id; start = p.0.start; writes = p.1.0; reads = p.1.1.0; ranges = p.1.1.1 }

abbrev pub of_txn : Txn → TxnHead × (List Bytes × (List Bytes × List Range))
of_txn t = (head_of t, (t.writes, (t.reads, t.ranges)))

unfoldable pub txn_form : ℕ → Codec Txn
txn_form m = via (txn_raw m) to_txn of_txn (λ b. refl) (λ a o. refl)

unfoldable pub entries_form : ℕ → ℕ → Codec (List Entry)
entries_form m n = run (entry_form m) any_order n

-- "ids distinct": each id is above the one before
abbrev pub below_id : Txn → Txn → Bool
below_id t u = below t.id u.id

unfoldable pub active_form : ℕ → ℕ → Codec (List Txn)
active_form m n = run (txn_form m) below_id n

-- the letters "Stranvk1"; another format, or other ceilings, has another stamp
abbrev pub stamp : ℕ
stamp = 6013557165237103409

-- the room's own head: a stamp of this format and its ceilings, and the last number
abbrev pub head_raw : Codec (ℕ × ℕ)
head_raw = bind (only (number number_size) (λ n. eqb n stamp)) (λ x. number number_size)

pub head_same : (p : ℕ × ℕ) → head_raw.Ok p → (stamp, p.1) ≡ p
unfolding bind only
head_same p o = ap (λ (n : ℕ). (n, p.1)) (sym (eqb-true p.0 stamp o.0.1))

unfoldable pub head_form : Codec ℕ
head_form = via head_raw (λ p. p.1) (λ l. (stamp, l)) (λ b. refl) head_same

-- what a part begins with: how many entries, how many active
pub record Counts : Type 0 where
  pub entries : ℕ
  pub active : ℕ

unfoldable pub counts_form : Codec Counts
counts_form = via (bind (number count_size) (λ n. number count_size)) (λ p. record { entries = p.0; active = p.1 }) (λ c. (c.entries, c.active)) (λ b. refl) (λ a o. refl)

abbrev pub with_entry_count : ℕ → Counts → Counts
with_entry_count n c = record { entries = n; active = c.active }

abbrev pub with_active_count : ℕ → Counts → Counts
with_active_count n c = record { entries = c.entries; active = n }

-- one part of a room: the counts, the entries, the active ones, one after another
pub record Content : Type 0 where
  pub entries : List Entry
  pub active : List Txn

abbrev pub part_raw : ℕ → Codec (Counts × (List Entry × List Txn))
part_raw m = bind counts_form (λ c. bind (entries_form m c.entries) (λ es. active_form m c.active))

abbrev pub to_content : Counts × (List Entry × List Txn) → Content
to_content p = record { entries = p.1.0; active = p.1.1 }

abbrev pub counts_of : Content → Counts
counts_of c = record { entries = length c.entries; active = length c.active }

abbrev pub of_content : Content → Counts × (List Entry × List Txn)
of_content c = (counts_of c, (c.entries, c.active))

pub part_same : (m : ℕ) (p : Counts × (List Entry × List Txn)) → (part_raw m).Ok p → of_content (to_content p) ≡ p
unfolding bind entries_form active_form run
part_same m p o =
    let a : length p.1.0 ≡ p.0.entries = o.1.0.1 in
    let b : length p.1.1 ≡ p.0.active = o.1.1.1 in
    ap₂ (λ (n k : ℕ). (with_active_count k (with_entry_count n p.0), p.1)) a b

unfoldable pub part_form : ℕ → Codec Content
part_form m = via (part_raw m) to_content of_content (λ b. refl) (part_same m)
