-- What stands at a place of some bytes.
use Rattle.std.specs.Prelude.{ℕ, ◌≡◌, List, drop}
use Rattle.codec.specs.Codec.{Codec, item}

-- the record of a stands from at up to e
pub record Stands {A : Type 0} (C : Codec A) (s : List ℕ) (at : ℕ) (a : A) (e : ℕ) : Type 0 where
  pub reads : C.read (drop at s) ≡ item a (drop e s)
