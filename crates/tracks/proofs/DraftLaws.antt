-- The record of a set in a draft is its count and its keys.
use Prim.Native.Nat.{ℕ, ◌+◌, ◌-◌, ◌≤◌}
use mathlib.Core.Path.{◌≡◌, refl, sym, ap, ◌∙◌}
use mathlib.Core.List.{List, [], ◌++◌, append-nil}
use native.Mathlib.Omega.{arith}
use borrow.Rule.Slice.PartMut.{put_mid}
use lib.ListN.{length, take, drop, length-append, length-drop, drop_of_length-le, replicate, length-replicate}
use lib.Seq.{paste, take_all, take-append-add, drop_at, length-take-le}
use Rattle.std.specs.Prelude.{Ok}
use Rattle.machine.specs.State.{Bytes}
use Rattle.machine.specs.Sets.{insert_all}
use Rattle.codec.specs.Codec.{write_run}
use Rattle.codec.specs.Formats.{number, bind, via, run}
use Rattle.codec.proofs.NumberLaws.{length_number}
use Rattle.layout.specs.Offsets.{count_size, any_length}
use Rattle.layout.specs.Keys.{set_form, list_form}
use Rattle.layout.proofs.RowLaws.{row_inside, row_slice}
use Rattle.tracks.specs.declared.sets.Set.{Set}
use Rattle.tracks.specs.declared.sets.Space.{Space}
use Rattle.tracks.specs.Sets.{key_codec, AllStand, InsertedIs}
use Rattle.tracks.specs.Drafts.{set_size, Begun, SetStands, DraftedIs}

-- a draft as it begins
abbrev pub zeros : List ℕ
zeros = replicate set_size 0

pub zeros_long : length zeros ≡ set_size
zeros_long = length-replicate {A = ℕ} set_size 0

set_bytes_lem : (ks : List Bytes) → (set_form any_length).write ks ≡ (number count_size).write (length ks) ++ write_run key_codec ks
unfolding set_form list_form via bind run
set_bytes_lem ks = refl

-- what is lent of a draft, all but its count, and the draft when it is given back
abbrev keys_in : Bytes → Bytes
keys_in d = take (length d - count_size) (drop count_size d)

abbrev keys_put : Bytes → Bytes → Bytes
keys_put d x = put_mid count_size (length d - count_size) d x

lent : (d : Bytes) → keys_in d ≡ drop count_size d
lent d = take_all (length d - count_size) (drop count_size d) (omega (arith, length-drop count_size d))

module _ {d list : Bytes} {set : Set} {space : Space} (b : Begun d set list space) {x : Bytes} {new : Set} (i : InsertedIs (keys_in d) set list space x (Ok new)) where
  pub end_inside : count_size + new.used ≤ length d
  end_inside =
      let a = i.is b.keys.ks b.keys.keys (rw (lent d) b.keys.row) b.keys.count b.keys.listed in
      omega (arith, row_inside key_codec x 0 (insert_all b.keys.keys b.keys.ks) new.used a.row, i.size, ap length (lent d), length-drop count_size d, b.head)

  -- the count is written over the first two bytes
  counted : (w : Bytes) (k : ℕ) → w ≡ paste (keys_put d x) 0 ((number count_size).write k) count_size → w ≡ (number count_size).write k ++ x
  counted w k e =
      let t : take count_size ((number count_size).write k) ≡ (number count_size).write k = take_all count_size ((number count_size).write k) (omega (arith, length_number count_size k)) in
      let z : drop (length d - count_size) (drop count_size d) ≡ [] = drop_of_length-le (drop count_size d) {i = length d - count_size} (omega (arith, length-drop count_size d)) in
      let f : drop count_size (keys_put d x) ≡ x = drop_at (take count_size d) (x ++ drop (length d - count_size) (drop count_size d)) count_size (length-take-le count_size d b.head) ∙ rw z (append-nil x) in
      e ∙ rw (t, f)

  pub all_added : {w : Bytes} → w ≡ paste (keys_put d x) 0 ((number count_size).write new.count) count_size → DraftedIs d set list space w (Ok (record { used = count_size + new.used; count = new.count }))
  all_added {w} e =
      let k : ℕ = new.count in
      let f : w ≡ (number count_size).write k ++ x = counted w k e in
      let lw : length w ≡ count_size + length x = ap length f ∙ length-append ((number count_size).write k) x ∙ rw (length_number count_size k) in
      record {
        is = λ ks keys r c l. stood ks (insert_all keys ks) f lw (i.is ks keys (rw (lent d) r) c l);
        size = lw ∙ omega (arith, i.size, ap length (lent d), length-drop count_size d, b.head);
      }
    where
      stood : (ks all : List Bytes) → w ≡ (number count_size).write new.count ++ x → length w ≡ count_size + length x → AllStand x ks all space new
          → SetStands w ks all space (record { used = count_size + new.used; count = new.count })
      stood ks all f lw a =
          let k : ℕ = new.count in
          let u : ℕ = new.used in
          let t : take (count_size + u) ((number count_size).write k ++ x) ≡ (number count_size).write k ++ take u x = ap (λ (m : ℕ). take (m + u) ((number count_size).write k ++ x)) (sym (length_number count_size k)) ∙ take-append-add ((number count_size).write k) x u in
          record {
            whole = ap (take (count_size + u)) f ∙ t ∙ rw (row_slice key_codec x 0 all u a.row, a.count) (sym (set_bytes_lem all));
            inside = omega (arith, lw, row_inside key_codec x 0 all u a.row);
            count = a.count;
            few = a.few;
            small = a.small;
          }
