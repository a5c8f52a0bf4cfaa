-- Records that stand one after another: where each ends, and where so many of them do.
use Rattle.std.specs.Prelude.{ℕ, ◌≡◌, List, length}
use Rattle.codec.specs.Codec.{Codec}
use Rattle.layout.specs.Rows.{Row}

-- a form of records, whatever they are of
pub record Form : Type 1 where
  pub Of : Type 0
  pub codec : Codec Of

abbrev pub formed : {A : Type 0} → Codec A → Form
formed {A} C = record { Of = A; codec = C }

-- r is where the last of the n records from a place on ends
pub record RowEnds {A : Type 0} (C : Codec A) (s : List ℕ) (at n r : ℕ) : Type 0 where
  pub is : (xs : List A) (e : ℕ) → Row C s at xs e → length xs ≡ n → r ≡ e
