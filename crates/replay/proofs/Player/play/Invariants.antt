-- The bytes that are held are fewer than a record's longest, so that every read has place; offset and held grow by what is read.
use Rattle.std.proofs.Common.{◌+◌, ◌-◌, ◌<◌}
use Rattle.fields.specs.Fields.{field_head}
use Rattle.script.specs.Stream.{payload_limit}
use Rattle.replay.specs.declared.TheConstants.{OFFSET_LIMIT}
use Rattle.replay.proofs.Player.play.Given as goal

abbrev pub invariant-loop-offset : goal.invariant-loop-offset
invariant-loop-offset l = l.held < field_head + payload_limit

-- with what is held, the bytes that have come stay below this sum while the loop goes on
abbrev pub decreases-loop-offset : goal.decreases-loop-offset
decreases-loop-offset l = OFFSET_LIMIT + field_head + payload_limit - (l.offset + l.held)
