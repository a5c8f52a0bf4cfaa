-- What a room holds is decided by its bytes within the published size: the host may lend more, and what stands there is its own.
use Prim.Native.Nat.{ℕ, ◌+◌, ◌-◌}
use mathlib.Core.Path.{◌≡◌, refl, sym, ap, ◌∙◌}
use mathlib.Core.Bool.{Bool, true, false, cond}
use mathlib.Core.List.{List, ◌++◌, append_assoc}
use native.Mathlib.Omega.{arith}
use borrow.Author.Tests.{ltb-true, ltb-false, le-ltb}
use lib.Dec.{ltb}
use lib.ListN.{length, take, drop, take-append-drop}
use lib.Seq.{take_all, length-take-le, take-append-add}
use Rattle.machine.specs.State.{State, Ceilings}
use Rattle.machine.specs.Calls.{short}
use Rattle.codec.specs.Codec.{Item, item, cut}
use Rattle.codec.specs.Formats.{only}
use Rattle.layout.specs.States.{plain_form, state_form, room_size}
use Rattle.layout.specs.Rooms.{in_room, load}
use Rattle.layout.proofs.SizeLaws.{machine_size}
use Rattle.layout.proofs.HoldLaws.{holds_machine}

module _ (L : Ceilings) where
  abbrev front : List ℕ → List ℕ
  front room = take (room_size L) room

  -- a record stays where it is when bytes are put behind it, and when those beyond the size are cut off
  pub more_behind : (a b : List ℕ) (s : State) (rest : List ℕ) → (state_form L).read a ≡ item s rest → (state_form L).read (a ++ b) ≡ item s (rest ++ b)
  unfolding state_form only
  more_behind a b s rest e =
      let x = (state_form L).read_is a s rest e in
      let whole : a ++ b ≡ (plain_form L.key).write s ++ (rest ++ b) = ap (λ (l : List ℕ). l ++ b) x.0 ∙ append_assoc ((plain_form L.key).write s) rest b in
      ap (state_form L).read whole ∙ (state_form L).write_is s (rest ++ b) x.1

  less_behind : (a : List ℕ) (s : State) (rest : List ℕ) → (state_form L).read a ≡ item s rest → (left : List ℕ) × ((state_form L).read (front a) ≡ item s left)
  unfolding state_form only
  less_behind a s rest e =
      let x = (state_form L).read_is a s rest e in
      let w : List ℕ = (plain_form L.key).write s in
      let n : ℕ = room_size L - length w in
      let fits : length w + n ≡ room_size L = omega (arith, machine_size L L.key s (holds_machine L s x.1).0) in
      let cut_off : front a ≡ w ++ take n rest = ap (λ (l : List ℕ). take (room_size L) l) x.0 ∙ ap (λ (k : ℕ). take k (w ++ rest)) (sym fits) ∙ take-append-add w rest n in
      (take n rest, ap (state_form L).read cut_off ∙ (state_form L).write_is s (take n rest) x.1)

  reads_alike : (room : List ℕ) → in_room ((state_form L).read room) ≡ in_room ((state_form L).read (front room))
  reads_alike room = go ((state_form L).read room) refl ((state_form L).read (front room)) refl
    where
      go : (x : Item State) → (state_form L).read room ≡ x → (y : Item State) → (state_form L).read (front room) ≡ y → in_room x ≡ in_room y
      go (item s rest) p y q = let z = less_behind room s rest p in ap in_room (sym z.1 ∙ q)
      go cut p cut q = refl
      go cut p (item s rest) q =
          let more = more_behind (front room) (drop (room_size L) room) s rest q in
          let z : cut ≡ item s (rest ++ drop (room_size L) room) = sym p ∙ ap (state_form L).read (sym (take-append-drop (room_size L) room)) ∙ more in
          absurd (let y : ◌≡◌ {A = ℕ} 0 1 = cc in omega arith)

  -- "Bytes beyond that size are never touched": what a room holds does not look at them
  pub load_front : (room : List ℕ) → load L room ≡ load L (front room)
  unfolding load
  load_front room = go (ltb (length room) (room_size L)) refl
    where
      go : (b : Bool) → ltb (length room) (room_size L) ≡ b
          → cond (ltb (length room) (room_size L)) short (in_room ((state_form L).read room)) ≡ cond (ltb (length (front room)) (room_size L)) short (in_room ((state_form L).read (front room)))
      go true p = let h = ltb-true (length room) (room_size L) p in rw (take_all (room_size L) room (omega (arith, h)))
      go false p =
          let h = ltb-false (length room) (room_size L) p in
          let whole : ltb (length (front room)) (room_size L) ≡ false = le-ltb (length (front room)) (room_size L) (omega (arith, length-take-le (room_size L) room h)) in
          rw (p, whole) (reads_alike room)

  -- two rooms with the same bytes within the size hold the same, however long they are
  pub same_front : (a b : List ℕ) → front a ≡ front b → load L a ≡ load L b
  same_front a b e = load_front a ∙ ap (load L) e ∙ sym (load_front b)
