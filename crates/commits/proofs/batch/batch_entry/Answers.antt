-- Answered in order: malformed, a key too long, nobody active (the list is emptied), as many entries as there may be; else the keys are entered.
use Rattle.answers.proofs.SaidLaws.{refuses}
use mathlib.Core.Path.{sym, ◌∙◌}
use Rattle.commits.proofs.BatchLaws.{batch_bad, batch_nobody, batch_many, entering}
use native.Mathlib.Omega.{arith}
use Rattle.commits.proofs.batch.batch_entry.Goals as goal

pub returns-in_err-check_keys : goal.returns-in_err-check_keys
returns-in_err-check_keys c = refuses _ _ c.from_residual.ensures.1 (batch_bad c.requires (sym c.in_err-check_keys.was ∙ c.check_keys.ensures))

pub returns-then-v-eq0 : goal.returns-then-v-eq0
returns-then-v-eq0 c = batch_nobody c.requires (sym c.in_ok-check_keys.was ∙ c.check_keys.ensures) c.if-v-eq0.true c.max-value.ensures c.empty_recent_committed_txns.ensures.changed (omega (arith, c.ranges.seq))

pub returns-then-v-ge-ENTRY_LIMIT : goal.returns-then-v-ge-ENTRY_LIMIT
returns-then-v-ge-ENTRY_LIMIT c = batch_many c.requires (sym c.in_ok-check_keys.was ∙ c.check_keys.ensures) c.if-v-eq0.false (omega (arith, c.if-v-ge-ENTRY_LIMIT.true))

pub enter_keys-requires : goal.enter_keys-requires
enter_keys-requires c = (c.requires, entering (sym c.in_ok-check_keys.was ∙ c.check_keys.ensures) c.if-v-eq0.false (omega (arith, c.if-v-ge-ENTRY_LIMIT.false)))
