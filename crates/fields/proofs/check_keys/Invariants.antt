-- The verdict on the whole list is the verdict on what is left of it, by whether the keys so far were short.
use Prim.Native.Nat.{◌-◌}
use mathlib.Core.Path.{◌≡◌}
use lib.ListN.{length, drop}
use Rattle.fields.specs.Fields.{key_list}
use Rattle.fields.specs.Forms.{form_of}
use Rattle.fields.proofs.Keys.{form_after}
use Rattle.fields.proofs.check_keys.Given as goal

abbrev pub invariant-loop-key : goal.invariant-loop-key
invariant-loop-key l = form_of (key_list l.list) ≡ form_after l.short (key_list (drop l.at l.list))

abbrev pub decreases-loop-key : goal.decreases-loop-key
decreases-loop-key l = length l.list - l.at
