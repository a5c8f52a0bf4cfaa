-- No key is the padding of no bytes.
use Rattle.kinds.specs.declared.kind.Kind.TheVariants.{Unbounded}
use Rattle.ranges.specs.Made.{made_of}
use Rattle.ranges.proofs.made.MadeBound.unbounded.Goals as goal

pub returns : goal.returns
unfolding made_of
returns c = λ i. record { kind = Unbounded; len = 0; bytes = c.zeros.ensures i }
