-- The search for an id: as far as it has come, and how it ends.
use Prim.Native.Nat.{ℕ, ◌+◌, ◌-◌, ◌≤◌, ◌<◌}
use mathlib.Core.Path.{◌≡◌, refl, sym, ap, ◌∙◌}
use mathlib.Core.Bool.{true, false}
use mathlib.Core.List.{List, [], ◌∷◌}
use mathlib.Core.Ordering.{Ordering, lt, eq, gt}
use native.Mathlib.Omega.{arith}
use lib.IntN.{ℤ, pos}
use lib.Signed.{lt_z}
use mir.Syntax.{w8}
use mir.Val.{to_z, of_z}
use lib.ListN.{length, take, drop}
use Rattle.std.specs.Prelude.{Ok, Err}
use Rattle.keys.specs.Order.{order, sign, is_less}
use Rattle.keys.proofs.OrderLaws.{less_is}
use Rattle.keys.proofs.Signs.{on_lt}
use Rattle.machine.specs.State.{Bytes, Txn}
use Rattle.machine.proofs.ListLaws.{all_append}
use Rattle.layout.specs.Offsets.{id_size, writes_at, any_length}
use Rattle.moves.proofs.SpliceLaws.{drop_take}
use Rattle.layout.specs.Records.{txn_form}
use Rattle.layout.specs.Rows.{Rows, Here, Ends}
use Rattle.layout.proofs.OpenLaws.{open_txn, sets_inside}
use Rattle.places.specs.declared.cursor.Cursor.{Cursor}
use Rattle.places.specs.Cursors.{past}
use Rattle.places.specs.Finds.{IdsPassed, Found}
use Rattle.places.proofs.SplitLaws.{split_one, Search, Turn, turn, turn_here, search_start, search_over, search_next}

-- the sixteen bytes at a place, as a part of the room that is lent
abbrev pub id_at : List ℕ → ℕ → Bytes
id_at s e = take (e + id_size - e) (drop e s)

abbrev pub Past : Bytes → List Txn → List Txn → Type 0
Past id front rest = IdsPassed id front

abbrev pub Seek : List ℕ → ℕ → ℕ → Bytes → Cursor → Type 0
Seek s at n id c = Search (txn_form any_length) (Past id) s at n c

pub seek_start : {s : List ℕ} {at n : ℕ} {c : Cursor} (id : Bytes) → Rows (txn_form any_length) s at n → (c.at ≡ at) × (c.left ≡ n) → Seek s at n id c
seek_start id x q = search_start (txn_form any_length) (Past id) (λ xs. tt) x q

pub seek_end : {s : List ℕ} {at n : ℕ} {c : Cursor} (id : Bytes) → Seek s at n id c → c.left ≤ 0 → Found s at n id (Err c.at)
seek_end id x h =
    let t = search_over (txn_form any_length) (Past id) x h in
    record {
      is = λ ts f r l.
          let o = split_one (txn_form any_length) t.walk ts f r l in
          record { front = t.front; back = []; whole = o.0; before = t.walk.before; after = rw o.1 t.walk.after.row; passed = t.holds; stops = tt };
    }

pub txn_inside : {s : List ℕ} {e : ℕ} → Here (txn_form any_length) s e → e + writes_at ≤ length s
txn_inside x = sets_inside any_length x.fills

-- the fixed part of the next transaction is in the room
pub next_inside : {P : List Txn → List Txn → Type 0} {s : List ℕ} {at n : ℕ} {c : Cursor} → Search (txn_form any_length) P s at n c → 0 < c.left → c.at + writes_at ≤ length s
next_inside {P} x h = txn_inside (turn_here (txn_form any_length) P (turn (txn_form any_length) P x h))

-- what the tests of a comparison's answer say
pub is_less_lem : {o : Ordering} {r : ℤ} → r ≡ sign o → lt_z (to_z w8 (of_z w8 r)) (pos 0) ≡ true → o ≡ lt
is_less_lem {o} e h = less_is o (on_lt o e h)

pub is_same_lem : {o : Ordering} {r : ℤ} → r ≡ sign o → of_z w8 r ≡ 0 → o ≡ eq
is_same_lem {o} e h = go o (ap (of_z w8) (sym e) ∙ h)
  where
    go : (o : Ordering) → of_z w8 (sign o) ≡ 0 → o ≡ eq
    go lt q = absurd (omega (arith, q))
    go eq q = refl
    go gt q = absurd (omega (arith, q))

pub is_more_lem : {o : Ordering} {r : ℤ} → r ≡ sign o → lt_z (to_z w8 (of_z w8 r)) (pos 0) ≡ false → (of_z w8 r ≡ 0 → ⊥) → o ≡ gt
is_more_lem {o} e h k = go o (on_lt o e h) (λ q. k (ap (of_z w8) e ∙ q))
  where
    go : (o : Ordering) → is_less o ≡ false → (of_z w8 (sign o) ≡ 0 → ⊥) → o ≡ gt
    go lt q n = cc
    go eq q n = absurd (n refl)
    go gt q n = refl

module _ {s : List ℕ} {at n : ℕ} (id : Bytes) {c : Cursor} (t : Turn (txn_form any_length) (Past id) s at n c) where
  id_is : (o : Ordering) → order id (id_at s c.at) ≡ o → order id t.one.id ≡ o
  id_is o q = ap (order id) (sym (open_txn any_length t.walk.after.row.first).head.id_at_lem ∙ drop_take c.at (c.at + id_size) s) ∙ q

  pub seek_before : order id (id_at s c.at) ≡ lt → Found s at n id (Err c.at)
  seek_before q =
      record {
        is = λ ts f r l.
            let o = split_one (txn_form any_length) t.walk ts f r l in
            record {
              front = t.front;
              back = t.one ∷ t.back;
              whole = o.0;
              before = t.walk.before;
              after = rw o.1 t.walk.after.row;
              passed = t.holds;
              stops = id_is lt q;
            };
      }

  pub seek_next : {d : Cursor} {r : ℕ} → Ends (txn_form any_length) s c.at r → order id (id_at s c.at) ≡ gt → d ≡ past c r → Seek s at n id d
  seek_next p q j = search_next (txn_form any_length) (Past id) (Past id) t p j (all_append (λ u. order id u.id ≡ gt) t.front (t.one ∷ []) t.holds (id_is gt q, tt))

  pub seek_found : {r : ℕ} → Ends (txn_form any_length) s c.at r → order id (id_at s c.at) ≡ eq → Found s at n id (Ok (record { from = c.at; to = r }))
  seek_found {r} p q =
      let w = t.walk in
      let j : r ≡ w.after.row.end = p.is t.one w.after.row.end w.after.row.first in
      record {
        is = λ ts f r' l.
            let o = split_one (txn_form any_length) w ts f r' l in
            record {
              front = t.front;
              one = t.one;
              back = t.back;
              whole = o.0;
              before = w.before;
              fills = rw j w.after.row.first;
              after = rw (j, o.1) w.after.row.rest;
              same = id_is eq q;
              passed = t.holds;
            };
      }
