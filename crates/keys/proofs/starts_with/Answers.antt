-- A key starts with a prefix where its first bytes, as many as the prefix has, equal it.
use mathlib.Core.Path.{sym, ◌∙◌}
use borrow.Author.Tests.{lt-leb}
use Rattle.keys.proofs.Library.{front_is, longer_is}
use Rattle.keys.proofs.starts_with.Goals as goal

pub returns-then-prefix-key : goal.returns-then-prefix-key
returns-then-prefix-key c = c.eq.ensures ∙ front_is c.args.prefix.now c.args.key.now

pub returns-else-prefix-key : goal.returns-else-prefix-key
returns-else-prefix-key c = lt-leb _ _ c.if-prefix-key.false ∙ sym (longer_is c.args.prefix.now c.args.key.now c.if-prefix-key.false)
