-- Where the parts of a room and of its records stand, and what they take: the names that the code has them under in src/lib.rt, but for
-- `any_length`, which no code looks at.
use Rattle.std.specs.Prelude.{ℕ, ◌+◌, ◌-◌, ◌^◌}
pub use Rattle.machine.specs.State.{id_size}

-- ---- what numbers take: a stamp, a sequence or a start; the count of a list; a key's length; a bound's tag; an id

abbrev pub number_size : ℕ
number_size = 8

abbrev pub count_size : ℕ
count_size = 2

abbrev pub length_size : ℕ
length_size = 2

abbrev pub tag_size : ℕ
tag_size = 1

-- the longest key that a length can tell of: a walk over a room that was validated tests no key, and reads it under this limit, whatever the
-- ceilings are
abbrev pub any_length : ℕ
any_length = 256 ^ length_size - 1

-- ---- where the parts of a room stand: the last number behind the stamp; then its part, the counts first

abbrev pub last_at : ℕ
last_at = number_size

abbrev pub part_at : ℕ
part_at = last_at + number_size

abbrev pub entry_count_at : ℕ
entry_count_at = part_at

abbrev pub active_count_at : ℕ
active_count_at = entry_count_at + count_size

abbrev pub entries_at : ℕ
entries_at = active_count_at + count_size

-- ---- where the parts of a record stand, from its beginning on: an entry's keys, a transaction's start and writes, a bound's key

abbrev pub keys_at : ℕ
keys_at = number_size

abbrev pub start_at : ℕ
start_at = id_size

abbrev pub writes_at : ℕ
writes_at = start_at + number_size

abbrev pub bound_key_at : ℕ
bound_key_at = tag_size + length_size

-- ---- what records take beside key bytes; of the marks a range takes the most

abbrev pub entry_size : ℕ
entry_size = keys_at + count_size

abbrev pub txn_size : ℕ
txn_size = writes_at + count_size + count_size + count_size

abbrev pub mark_size : ℕ
mark_size = bound_key_at + bound_key_at
