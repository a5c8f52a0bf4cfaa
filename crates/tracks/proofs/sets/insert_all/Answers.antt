-- Turn by turn the draft holds the set with the keys of the list before this place, and the space is what these have not
-- taken (`Adding`).
use native.Mathlib.Omega.{arith}
use Rattle.tracks.proofs.InsertLaws.{add_start, end_inside, all_added, add_there, full, can_splice, add_put}
use Rattle.tracks.proofs.sets.insert_all.Goals as goal

pub loop-key-init : goal.loop-key-init
loop-key-init c = add_start c.requires

pub returns-in_err-space : goal.returns-in_err-space
returns-in_err-space c = full c.loop-key.invariant c.next_key.ensures c.in-Some.ensures c.in-Some-find_place.ensures c.in_err-space.ensures c.from_residual.ensures.0

pub splice-requires : goal.splice-requires
splice-requires c = can_splice c.loop-key.invariant c.next_key.ensures c.in-Some.ensures c.in-Some-find_place.ensures c.in_ok-space.ensures

pub overflow_add-set-in-Some-2 : goal.overflow_add-set-in-Some-2
overflow_add-set-in-Some-2 c = omega (arith, end_inside c.loop-key.invariant)

pub loop-key-preserved : goal.loop-key-preserved
loop-key-preserved c = add_put c.loop-key.invariant c.next_key.ensures c.in-Some.ensures c.in-Some-find_place.ensures c.in_ok-space.ensures (λ i. omega (arith, c.type_inv.list i)) c.splice.ensures

pub loop-key-preserved-in_default-find_place : goal.loop-key-preserved-in_default-find_place
loop-key-preserved-in_default-find_place c = add_there c.loop-key.invariant c.next_key.ensures c.in-Some.ensures c.in_default-find_place.ensures

pub returns : goal.returns
returns c = all_added c.loop-key.invariant c.next_key.ensures c.in_default.ensures
