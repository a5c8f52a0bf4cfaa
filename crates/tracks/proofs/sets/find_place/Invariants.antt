-- The key belongs behind those that have been passed.
use Rattle.tracks.proofs.PlaceLaws.{KeySeek}
use Rattle.tracks.proofs.sets.find_place.Given as goal

abbrev pub invariant-loop : goal.invariant-loop
invariant-loop l = KeySeek l.draft l.count l.key l.at l.counter
