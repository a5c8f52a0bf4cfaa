-- Two splices, one right behind the other, put the entry's record in.
use native.Mathlib.Omega.{arith}
use mathlib.Core.Path.{sym, ◌∙◌}
use Rattle.codec.proofs.NumberLaws.{number_bytes}
use Rattle.layout.specs.Offsets.{number_size}
use Rattle.edits.proofs.EditLaws.{entry_put}
use Rattle.edits.proofs.put_entry.Goals as goal

pub returns : goal.returns
returns c = entry_put _ _ _ _ _ _ _ _ c.requires.0 (omega arith) (c.to_be_bytes.ensures ∙ sym (number_bytes number_size c.args.seq)) c.splice.ensures c.splice-2.ensures
