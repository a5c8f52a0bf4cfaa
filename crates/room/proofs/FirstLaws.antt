-- The bytes of the published size decide what a longer room holds.
use Rattle.std.specs.Prelude.{Option, Some, None}
use Prim.Native.Nat.{ℕ, ◌≤◌}
use mathlib.Core.Path.{◌≡◌, sym, ap, ◌∙◌, subst}
use mathlib.Core.Logic.{◌⊎◌}
use mathlib.Core.List.{List, ◌++◌}
use native.Mathlib.Omega.{arith}
use lib.ListN.{length, take, drop, take-append-drop}
use lib.Seq.{length-take-le, drop-append-le}
use Rattle.machine.specs.State.{base}
use Rattle.machine.specs.Calls.{Room, short, broken}
use Rattle.codec.specs.Codec.{item}
use Rattle.codec.specs.Formats.{only}
use Rattle.layout.specs.States.{state_form, room_size}
use Rattle.layout.proofs.FrontLaws.{load_front, more_behind}
use Rattle.room.specs.declared.View.{View}
use Rattle.room.specs.Views.{Seen, HoldsNone, Opening}

-- as many first bytes as there are at least are as many
pub front_long : (n : ℕ) (s : List ℕ) → n ≤ length s → n ≤ length (take n s)
front_long n s h = omega (arith, length-take-le n s h)

module _ (s : List ℕ) (h : room_size base ≤ length s) where
  -- the bytes of the published size
  first : List ℕ
  first = take (room_size base) s

  first_length : length first ≡ room_size base
  unfolding first
  first_length = length-take-le (room_size base) s h

  more : s ≡ first ++ drop (room_size base) s
  unfolding first
  more = sym (take-append-drop (room_size base) s)

  seen_more : {v : View} → Seen first v → Seen s v
  unfolding state_form only
  seen_more {v} w =
      let x = more_behind base first (drop (room_size base) s) w.state (drop v.used first) w.whole.reads in
      let d : drop v.used s ≡ drop v.used first ++ drop (room_size base) s = ap (drop v.used) more ∙ drop-append-le v.used first (drop (room_size base) s) w.inside in
      record {
        state = w.state;
        whole = record { reads = ap (state_form base).read more ∙ x ∙ ap (item w.state) (sym d) };
        inside = omega (arith, w.inside, first_length);
        size = h;
        last = w.last;
        entries = w.entries;
        active = w.active;
        middle = w.middle;
        marks = w.marks;
        bytes = w.bytes;
      }

  none_more : HoldsNone first → HoldsNone s
  unfolding first
  none_more w = record { none = subst (λ (x : Room). (x ≡ short) ⊎ (x ≡ broken)) (sym (load_front base s)) w.none }

  pub opening_more : (r : Option View) → Opening (take (room_size base) s) r → Opening s r
  unfolding first
  opening_more (Some v) w = seen_more w
  opening_more None w = none_more w
