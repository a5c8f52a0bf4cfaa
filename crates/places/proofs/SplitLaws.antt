-- A search through a row of records by a cursor: those that it has passed, those that are left, and a fact P of both.
use Prim.Native.Nat.{ℕ, ◌+◌, ◌-◌, ◌≤◌, ◌<◌}
use mathlib.Core.Path.{◌≡◌, refl, sym, ◌∙◌}
use mathlib.Core.List.{List, [], ◌∷◌, ◌++◌, append_assoc}
use native.Mathlib.Omega.{arith}
use lib.ListN.{length}
use Rattle.codec.specs.Codec.{Codec}
use Rattle.layout.specs.Rows.{Row, Rows, Here, Ends}
use Rattle.layout.proofs.RowLaws.{row_inside, row_one, row_join}
use Rattle.places.specs.declared.cursor.Cursor.{Cursor}
use Rattle.places.specs.Cursors.{past, Before}
use Rattle.places.specs.Rows.{RowEnds}
use Rattle.places.proofs.CursorLaws.{before_here, before_next}

-- where i of n records are passed, and the next one stands at a place
abbrev pub to_go : ℕ → ℕ → ℕ → Cursor
to_go n i at = record { at = at; left = n - i }

pub one_less : (n i r : ℕ) → to_go n (i + 1) r ≡ past (to_go n i r) r
one_less n i r = let e : n - (i + 1) ≡ n - i - 1 = omega arith in rw e

module _ {A : Type 0} (C : Codec A) where
  pub record Split (s : List ℕ) (at n : ℕ) (front : List A) (c : Cursor) (rest : List A) : Type 0 where
    pub before : Row C s at front c.at
    pub after : Before C s c rest
    pub total : length (front ++ rest) ≡ n

  -- the row as it was taken for the search is the row
  pub split_one : {s : List ℕ} {at n : ℕ} {c : Cursor} {front rest : List A} (w : Split s at n front c rest) (xs : List A) (f : ℕ) → Row C s at xs f → length xs ≡ n → (xs ≡ front ++ rest) × (f ≡ w.after.end)
  split_one {s} {at} {n} {c} {front} {rest} w xs f r q =
      row_one C s at xs (front ++ rest) f w.after.end r (row_join C s at front rest c.at w.after.end w.before w.after.row) (q ∙ sym w.total)

  pub record Search (P : List A → List A → Type 0) (s : List ℕ) (at n : ℕ) (c : Cursor) : Type 0 where
    pub front : List A
    pub rest : List A
    pub walk : Split s at n front c rest
    pub holds : P front rest

  -- one is left, and stands next
  pub record Turn (P : List A → List A → Type 0) (s : List ℕ) (at n : ℕ) (c : Cursor) : Type 0 where
    pub front : List A
    pub one : A
    pub back : List A
    pub walk : Split s at n front c (one ∷ back)
    pub holds : P front (one ∷ back)

  -- none is left
  pub record Over (P : List A → List A → Type 0) (s : List ℕ) (at n : ℕ) (c : Cursor) : Type 0 where
    pub front : List A
    pub walk : Split s at n front c []
    pub holds : P front []

  module _ (P : List A → List A → Type 0) {s : List ℕ} {at n : ℕ} where
    pub search_start : {c : Cursor} → ((xs : List A) → P [] xs) → Rows C s at n → (c.at ≡ at) × (c.left ≡ n) → Search P s at n c
    search_start {c} h x q =
        let i = row_inside C s at x.vals x.end x.row in
        record {
          front = [];
          rest = x.vals;
          walk = record { before = (sym q.0, omega (arith, q.0)); after = record { end = x.end; row = rw q.0 x.row; count = x.count ∙ sym q.1 }; total = x.count };
          holds = h x.vals;
        }

    module _ {c : Cursor} where
      pub turn : Search P s at n c → 0 < c.left → Turn P s at n c
      turn x h = go x.rest x.walk x.holds
        where
          go : (xs : List A) → Split s at n x.front c xs → P x.front xs → Turn P s at n c
          go [] w p = absurd (omega (arith, w.after.count))
          go (a ∷ xs) w p = record { front = x.front; one = a; back = xs; walk = w; holds = p }

      pub turn_here : Turn P s at n c → Here C s c.at
      turn_here t = before_here C s c t.one t.back t.walk.after

      pub search_over : Search P s at n c → c.left ≤ 0 → Over P s at n c
      search_over x h = go x.rest x.walk x.holds
        where
          go : (xs : List A) → Split s at n x.front c xs → P x.front xs → Over P s at n c
          go [] w p = record { front = x.front; walk = w; holds = p }
          go (a ∷ xs) w p = absurd (omega (arith, w.after.count))

      pub search_next : (Q : List A → List A → Type 0) {d : Cursor} {r : ℕ} (t : Turn P s at n c) → Ends C s c.at r → d ≡ past c r → Q (t.front ++ (t.one ∷ [])) t.back → Search Q s at n d
      search_next Q {d} {r} t x j h =
          let w = t.walk in
          let p = w.after.row.first in
          let q : r ≡ w.after.row.end = x.is t.one w.after.row.end p in
          record {
            front = t.front ++ (t.one ∷ []);
            rest = t.back;
            walk = record {
              before = rw (j, q) (row_join C s at t.front (t.one ∷ []) c.at w.after.row.end w.before (record { end = w.after.row.end; first = p; rest = (refl, p.inside) }));
              after = before_next C s c t.one t.back d r w.after x j;
              total = rw append_assoc w.total;
            };
            holds = h;
          }

-- a row that is passed ends where its last record does
module _ {A : Type 0} (C : Codec A) where
  abbrev pub Passing : (s : List ℕ) (at n : ℕ) → Cursor → Type 0
  Passing s at n c = Search C (λ front rest. Unit {0}) s at n c

  pub row_ends : {s : List ℕ} {at n : ℕ} {c : Cursor} → Search C (λ front rest. Unit {0}) s at n c → c.left ≤ 0 → RowEnds C s at n c.at
  row_ends x h =
      let w = (search_over C (λ front rest. Unit {0}) x h).walk in
      record { is = λ xs e r q. w.after.row.0 ∙ sym (split_one C w xs e r q).1 }
