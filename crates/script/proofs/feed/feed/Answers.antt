-- Turn by turn the records before `at` were served and their lines are the first `put` bytes (`FedTo`).
use mathlib.Core.Path.{refl, ◌∙◌}
use native.Mathlib.Omega.{arith}
use borrow.Author.Rules.{rules}
use Rattle.answers.proofs.SaidLaws.{said}
use Rattle.script.proofs.LineLaws.{answer_short}
use Rattle.script.proofs.PlayedLaws.{fed_none, fed_on}
use Rattle.script.proofs.feed.feed.Goals as goal

pub loop-out-init : goal.loop-out-init
loop-out-init c = (fed_none _ _ _, refl)

pub loop-out-preserved : goal.loop-out-preserved
loop-out-preserved c = (
  fed_on c.loop-out.invariant.0 (rw c.in-Ok-Some.field-0-is at c.in-Ok-Some.ensures) (said c.from-answer.ensures c.serve_record.ensures) c.put_line-put.ensures
      (answer_short _ _ (search rules) (search rules)) (omega (arith, c.if-out-put-lt-LINE_LIMIT.false, c.loop-out.invariant.0.size)),
  c.serve_record.ensures.size ∙ c.loop-out.invariant.1,
)
