-- The new range's status for the pair that the numbers name, and its kinds where it was made.
use mathlib.Core.Path.{ap, ◌∙◌}
use Rattle.kinds.specs.Bounds.{bound}
use Rattle.bounds.specs.Ranges.{range}
use Rattle.ranges.specs.Making.{new_of}
use Rattle.stranvek.specs.Boundary.{kind_at}
use Rattle.stranvek.specs.Answers.{ranged}
use Rattle.stranvek.proofs.AnswerLaws.{new_kinds}
use Rattle.stranvek.proofs.bytes_range.stranvek_new_range.Goals as goal

pub returns : goal.returns
returns c = let x = c.args in
    c.from.ensures
    ∙ ap ranged (c.new.ensures ∙ (λ i. new_of (range (bound (c.kind_at.ensures i) x.start_key.now) (bound (c.kind_at-2.ensures i) x.end_key.now))))
    ∙ new_kinds (kind_at x.start_kind) (kind_at x.end_kind) x.start_key.now x.end_key.now
