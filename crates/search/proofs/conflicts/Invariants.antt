-- In each of the three loops nothing is found yet, so the answer for all is the answer for what is left: entries, keys of an entry, marks.
use Rattle.places.proofs.SplitLaws.{to_go}
use Rattle.search.specs.Search.{marks_left}
use Rattle.search.proofs.SearchLaws.{MarksWalk, KeysWalk, EntriesWalk}
use Rattle.search.proofs.conflicts.Given as goal

abbrev pub invariant-loop-m : goal.invariant-loop-m
invariant-loop-m l = MarksWalk l.room l.txn l.found l.key l.m

abbrev pub decreases-loop-m : goal.decreases-loop-m
decreases-loop-m l = marks_left l.m

abbrev pub invariant-keys : goal.invariant-keys
invariant-keys l = KeysWalk l.room l.txn l.found l.entry (to_go l.end l.counter l.key)

abbrev pub invariant-search : goal.invariant-search
invariant-search l = EntriesWalk l.room l.at l.entries l.txn l.found (to_go l.entries l.counter l.entry)
