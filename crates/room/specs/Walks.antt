-- What a walk over a record answers: what stands at a place and what it counts, or that nothing does.
use Rattle.std.specs.Prelude.{ℕ, ◌+◌, ◌-◌, ◌≤◌, ◌≡◌, Option, Some, None, List, take, drop}
use Rattle.codec.specs.Codec.{Codec, cut}
use Rattle.layout.specs.Rows.{Fills}
use Rattle.room.specs.declared.tally.Tally.{Tally}
use Rattle.room.specs.Counts.{Counted}

-- a record stands from at up to the tally's end, and the tally is what it counts; a mark or a key byte takes a byte at least
pub record Got {A : Type 0} (K : Counted A) (s : List ℕ) (at : ℕ) (t : Tally) : Type 0 where
  pub val : A
  pub fills : Fills K.form s at val t.end
  pub marks : t.marks ≡ K.marks val
  pub bytes : t.bytes ≡ K.bytes val
  pub high : t.high ≡ K.high val
  pub fits : at + t.marks + t.bytes ≤ t.end

-- no record stands at a place
pub record Missing {A : Type 0} (C : Codec A) (s : List ℕ) (at : ℕ) : Type 0 where
  pub reads : C.read (drop at s) ≡ cut

-- the two answers of a walk
abbrev pub Walks : {A : Type 0} → Counted A → List ℕ → ℕ → Option Tally → Type 0
Walks K s at (Some t) = Got K s at t
Walks K s at None = Missing K.form s at

-- the bytes from p up to e
abbrev pub between : List ℕ → ℕ → ℕ → List ℕ
between s p e = take (e - p) (drop p s)

-- p is e, or a record of k bytes at least stands from p up to e
pub record Apart (k p e : ℕ) : Type 0 where
  pub far : (p ≡ e → ⊥) → p + k ≤ e
