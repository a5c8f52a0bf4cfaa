-- Tracks of ranges: the verdict on given bounds, and what the bytes are when they are put last.
use Rattle.std.specs.Prelude.{ℕ, ◌+◌, ◌≤◌, ◌≡◌, cond, Result, Ok, Err, length}
use Rattle.std.proofs.Math.Option.{Option, none, some}
use Rattle.std.proofs.Math.Seq.{paste}
use Rattle.keys.specs.Limit.{key_limit}
use Rattle.bounds.specs.Ranges.{Range, not_empty}
use Rattle.machine.specs.State.{Bytes, Txn, range_bytes}
use Rattle.machine.specs.Serve.{short_range}
use Rattle.layout.specs.Offsets.{count_size, any_length}
use Rattle.codec.specs.Formats.{number}
use Rattle.moves.specs.Splices.{Spliced}
use Rattle.layout.specs.Keys.{ranges_form}
use Rattle.layout.specs.Records.{txn_form}
use Rattle.layout.specs.Rows.{Fills}
use Rattle.fields.specs.declared.Span.{Span}
use Rattle.answers.specs.declared.Refusal.{Refusal}

-- "First in this order wins: .. 2, 4, 5"
abbrev pub judged : Option Range → Result ℕ Refusal
judged none = Err Refusal.Malformed
judged (some r) = cond (short_range key_limit r) (cond (not_empty r) (Ok (range_bytes r)) (Err Refusal.EmptyRange)) (Err Refusal.LongKey)

-- a transaction stands at a place in the used bytes, and the bounds find room behind those
pub record Appendable (s : Bytes) (used : ℕ) (txn : Span) (bounds : Bytes) : Type 0 where
  pub one : Txn
  pub fills : Fills (txn_form any_length) s txn.from one txn.to
  pub within : txn.to ≤ used
  pub space : used + length bounds ≤ length s

-- the bounds are put in at the end of the transaction's record, and then the count of its ranges is raised
pub record AppendedTo (s : Bytes) (used end : ℕ) (bounds s' : Bytes) (t : Txn) : Type 0 where
  pub at : ℕ
  pub ranges : Fills (ranges_form any_length) s at t.ranges end
  pub longer : Bytes
  pub spliced : Spliced s used end 0 bounds longer
  pub counted : s' ≡ paste longer at ((number count_size).write (length t.ranges + 1)) count_size

pub record Appended (s : Bytes) (used : ℕ) (txn : Span) (bounds s' : Bytes) : Type 0 where
  pub is : (t : Txn) → Fills (txn_form any_length) s txn.from t txn.to → AppendedTo s used txn.to bounds s' t
