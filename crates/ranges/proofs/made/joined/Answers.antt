-- An open bound has no key, a key over the limit is refused, and otherwise the two parts are pasted one behind the other.
use mathlib.Core.Path.{sym, ◌∙◌}
use native.Mathlib.Omega.{arith}
use Rattle.ranges.proofs.MadeLaws.{front_bytes, joined_bytes}
use Rattle.ranges.proofs.made.joined.Goals as goal

pub returns : goal.returns
returns c = let f = front_bytes c.args.prefix.now (omega arith) c.zeros.ensures c.with_bytes-front.ensures in
    joined_bytes c.args.kind c.args.prefix.now c.args.suffix.now (sym c.bounded.ensures ∙ c.if-not-bounded.false) (omega arith) f c.with_bytes.ensures
