-- With nobody active there is no minimum; else the least start from the last number down is the least of all.
use Rattle.answers.proofs.SeenLaws.{active_rows}
use Rattle.queries.proofs.QueryLaws.{nobody, least_is}
use Rattle.queries.proofs.minimum.Goals as goal

pub returns-then-v-eq0 : goal.returns-then-v-eq0
returns-then-v-eq0 c = nobody c.requires c.if-v-eq0.true

pub least_start-value-requires : goal.least_start-value-requires
least_start-value-requires c = active_rows c.requires

pub returns : goal.returns
returns c = least_is c.requires c.if-v-eq0.false c.least_start-value.ensures
