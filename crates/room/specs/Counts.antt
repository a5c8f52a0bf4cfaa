-- What is counted of the values of a format: marks, key bytes and the highest number, which are the machine's totals. The key limit is
-- any number m.
use Rattle.std.specs.Prelude.{ℕ, ◌+◌, max, Bool, List, length}
use Rattle.bounds.specs.Ranges.{Range}
use Rattle.machine.specs.Lists.{sum}
use Rattle.machine.specs.State.{Bytes, Txn, Entry, txn_marks, entry_marks, set_bytes, range_bytes, txn_bytes, entry_bytes}
use Rattle.codec.specs.Codec.{Codec}
use Rattle.codec.specs.Formats.{run}
use Rattle.layout.specs.Keys.{key_form, set_form, range_form, ranges_form}
use Rattle.layout.specs.Records.{entry_form, txn_form}
use Rattle.layout.specs.States.{highest, seq_of, start_of}
use Rattle.room.specs.declared.tally.Tally.{Tally}

-- a format, and what each of its values counts
pub record Counted (A : Type 0) : Type 1 where
  pub form : Codec A
  pub marks : A → ℕ
  pub bytes : A → ℕ
  pub high : A → ℕ

-- "A mark is one key in one set (active or entry) or one range."
abbrev pub a_key : ℕ → Counted Bytes
a_key m = record { form = key_form m; marks = λ k. 1; bytes = length; high = λ k. 0 }

abbrev pub a_set : ℕ → Counted (List Bytes)
a_set m = record { form = set_form m; marks = length; bytes = set_bytes; high = λ ks. 0 }

abbrev pub a_range : ℕ → Counted Range
a_range m = record { form = range_form m; marks = λ r. 1; bytes = range_bytes; high = λ r. 0 }

abbrev pub some_ranges : ℕ → Counted (List Range)
some_ranges m = record { form = ranges_form m; marks = length; bytes = sum range_bytes; high = λ rs. 0 }

abbrev pub an_entry : ℕ → Counted Entry
an_entry m = record { form = entry_form m; marks = entry_marks; bytes = entry_bytes; high = seq_of }

abbrev pub a_txn : ℕ → Counted Txn
a_txn m = record { form = txn_form m; marks = txn_marks; bytes = txn_bytes; high = start_of }

-- n of them, one after another
abbrev pub run_of : {A : Type 0} → Counted A → (A → A → Bool) → ℕ → Counted (List A)
run_of K before n = record { form = run K.form before n; marks = sum K.marks; bytes = sum K.bytes; high = highest K.high }

-- nothing is counted yet
abbrev pub empty_tally : ℕ → Tally
empty_tally at = record { end = at; marks = 0; bytes = 0; high = 0 }

-- what is counted up to a place, and what the record at that place counts
abbrev pub plus : Tally → Tally → Tally
plus t u = record { end = u.end; marks = t.marks + u.marks; bytes = t.bytes + u.bytes; high = max t.high u.high }
