-- The record of one key, and where it stands in a key list.
use Prim.Native.Nat.{ℕ, ◌+◌, ◌-◌, ◌≤◌, ◌<◌}
use mathlib.Core.Path.{◌≡◌, sym, ap, ◌∙◌}
use mathlib.Core.List.{◌++◌}
use native.Mathlib.Omega.{arith}
use lib.ListN.{length, take, drop, get_or}
use lib.Seq.{slice, length-slice, take-append-add}
use Rattle.fields.specs.Fields.{key_tag, key_list}
use Rattle.fields.specs.Forms.{ItemAt, size_at}
use Rattle.machine.specs.State.{Bytes}
use Rattle.layout.specs.Offsets.{length_size, tag_size}
use Rattle.codec.specs.Formats.{number, raw, bind, only, via}
use Rattle.codec.specs.Stands.{Stands}
use Rattle.codec.proofs.NumberLaws.{stands_number, length_number}
use Rattle.moves.proofs.SpliceLaws.{drop_take}
use Rattle.layout.specs.Keys.{key_form}

-- a part of some bytes as it is lent
abbrev pub lent : Bytes → ℕ → ℕ → Bytes
lent s from to = take (to - from) (drop from s)

-- the two bytes behind a key field's tag and its payload are the record of the key
pub key_record : (m : ℕ) {list : Bytes} {at from to : ℕ} → ItemAt key_list list at key_tag from to (slice from to list) → ((i : ℕ) → get_or list i 0 < 256)
    → lent list (from - length_size) to ≡ (key_form m).write (lent list from to)
unfolding key_form via bind only raw size_at
key_record m {list} {at} {from} {to} i small =
    let n : ℕ = size_at list at in
    let low : at + tag_size + 1 ≡ at + 2 = omega arith in
    let f : from - length_size ≡ at + tag_size = omega (arith, i.begins) in
    let g : at + tag_size + length_size ≡ from = omega (arith, i.begins) in
    let q : Stands (number length_size) list (at + tag_size) n (at + tag_size + length_size) = stands_number length_size list (at + tag_size) n (omega (arith, i.begins, i.ends, i.within)) small (rw low) in
    let b : drop (at + tag_size) list ≡ (number length_size).write n ++ drop from list = ((number length_size).read_is (drop (at + tag_size) list) n (drop (at + tag_size + length_size) list) q.reads).0 ∙ rw g in
    let l : length (lent list from to) ≡ n = ap length (sym (drop_take from to list)) ∙ length-slice from to list i.within ∙ omega (arith, i.ends) in
    let t : to - (at + tag_size) ≡ length ((number length_size).write n) + (to - from) = omega (arith, length_number length_size n, i.begins, i.ends) in
    rw (f, l, b, t) (take-append-add ((number length_size).write n) (drop from list) (to - from))

pub lent_length : (s : Bytes) (from to : ℕ) → to ≤ length s → length (lent s from to) ≡ to - from
lent_length s from to h = ap length (sym (drop_take from to s)) ∙ length-slice from to s h
