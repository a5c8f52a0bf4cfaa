-- The formats and the ways to make one of others.
use Rattle.std.specs.Prelude.{ℕ, ◌^◌, ◌<◌, ◌≡◌, Bool, true, List, length}
use Rattle.std.proofs.Math.Option.{none}
use Rattle.codec.specs.Codec.{Codec, read_number, write_number, read_raw, read_both, write_both, BothOk, read_only, read_as, read_run, RunOk, write_run}
use Rattle.codec.specs.CodecLaws.{number_read, number_write, raw_read, raw_write, both_read, both_write, only_read, only_write, as_read, as_write, run_read, run_write}

-- a number of k bytes, the highest first
unfoldable pub number : ℕ → Codec ℕ
number k = record { write = write_number k; read = read_number k; Ok = λ n. n < 256 ^ k; read_is = number_read k; write_is = number_write k }

-- n bytes as they are
unfoldable pub raw : ℕ → Codec (List ℕ)
raw n = record { write = λ a. a; read = read_raw n; Ok = λ a. length a ≡ n; read_is = raw_read n; write_is = raw_write n }

-- one, and then another that the first one's value chooses
unfoldable pub bind : {A B : Type 0} → Codec A → (A → Codec B) → Codec (A × B)
bind C D = record { write = write_both C D; read = read_both C D; Ok = BothOk C D; read_is = both_read C D; write_is = both_write C D }

-- those values alone that pass a test
unfoldable pub only : {A : Type 0} → Codec A → (A → Bool) → Codec A
only C test = record { write = C.write; read = read_only C test; Ok = λ a. C.Ok a × (test a ≡ true); read_is = only_read C test; write_is = only_write C test }

-- the same bytes for another form of the value
unfoldable pub via : {A B : Type 0} (C : Codec A) (to : A → B) (from : B → A) → ((b : B) → to (from b) ≡ b) → ((a : A) → C.Ok a → from (to a) ≡ a) → Codec B
via C to from back same = record { write = λ b. C.write (from b); read = read_as C to; Ok = λ b. C.Ok (from b); read_is = as_read C to from back same; write_is = as_write C to from back same }

-- n records, each fine after the one before
unfoldable pub run : {A : Type 0} → Codec A → (A → A → Bool) → ℕ → Codec (List A)
run C before n = record { write = write_run C; read = read_run C before none n; Ok = λ xs. RunOk C before none xs × (length xs ≡ n); read_is = run_read C before none n; write_is = run_write C before none n }
