-- What stands at a place of a room: a record, or a row of records one after another.
use Rattle.std.specs.Prelude.{ℕ, ◌≤◌, ◌≡◌, List, [], ◌∷◌, length}
use Rattle.codec.specs.Codec.{Codec}
use Rattle.codec.specs.Stands.{Stands}

-- the record of a fills the bytes from at up to e
pub record Fills {A : Type 0} (C : Codec A) (s : List ℕ) (at : ℕ) (a : A) (e : ℕ) : Type 0 where
  pub stands : Stands C s at a e
  pub from : at ≤ e
  pub inside : e ≤ length s

-- the record of a, and what stands behind it
pub record Next {A : Type 0} (C : Codec A) (s : List ℕ) (at : ℕ) (a : A) (more : ℕ → Type 0) : Type 0 where
  pub end : ℕ
  pub first : Fills C s at a end
  pub rest : more end

-- the records of xs stand one after another from at up to e
abbrev pub Row : {A : Type 0} → Codec A → List ℕ → ℕ → List A → ℕ → Type 0
Row C s at [] e = (at ≡ e) × (e ≤ length s)
Row C s at (x ∷ xs) e = Next C s at x (λ m. Row C s m xs e)

-- some record stands at a place; n of them stand there
pub record Here {A : Type 0} (C : Codec A) (s : List ℕ) (at : ℕ) : Type 0 where
  pub val : A
  pub end : ℕ
  pub fills : Fills C s at val end

pub record Rows {A : Type 0} (C : Codec A) (s : List ℕ) (at n : ℕ) : Type 0 where
  pub vals : List A
  pub end : ℕ
  pub row : Row C s at vals end
  pub count : length vals ≡ n

-- r is where the record at a place ends
pub record Ends {A : Type 0} (C : Codec A) (s : List ℕ) (at r : ℕ) : Type 0 where
  pub is : (a : A) (e : ℕ) → Fills C s at a e → r ≡ e
