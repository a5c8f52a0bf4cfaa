-- The records before which a cursor stands: the first of them, and what is left behind it.
use Prim.Native.Nat.{ℕ}
use mathlib.Core.Path.{◌≡◌, sym}
use mathlib.Core.Bool.{Bool}
use mathlib.Core.List.{List, ◌∷◌}
use native.Mathlib.Omega.{arith}
use Rattle.layout.specs.Offsets.{count_size}
use Rattle.codec.specs.Codec.{Codec}
use Rattle.layout.specs.Rows.{Row, Here, Ends}
use Rattle.layout.proofs.FillLaws.{number_read_is}
use Rattle.layout.proofs.OpenLaws.{OpenList}
use Rattle.places.specs.declared.cursor.Cursor.{Cursor}
use Rattle.places.specs.Cursors.{past, CountAt, Before}

module _ {A : Type 0} (C : Codec A) (s : List ℕ) (c : Cursor) where
  pub before_here : (x : A) (xs : List A) → Before C s c (x ∷ xs) → Here C s c.at
  before_here x xs b = record { val = x; end = b.row.end; fills = b.row.first }

  unfoldable pub before_next : (x : A) (xs : List A) (d : Cursor) (e : ℕ) → Before C s c (x ∷ xs) → Ends C s c.at e → d ≡ past c e → Before C s d xs
  before_next x xs d e b n q =
      let here : b.row.end ≡ e = sym (n.is x b.row.end b.row.first) in
      let row : Row C s e xs b.end = rw here at b.row.rest in
      record { end = b.end; row = rw q row; count = rw q (omega (arith, b.count)) }

  -- the records of a list stand behind its count
  unfoldable pub before_list : (before : A → A → Bool) (at : ℕ) (xs : List A) (e : ℕ) → OpenList C before s at xs e → CountAt s at c → Before C s c xs
  before_list before at xs e o n = record { end = e; row = rw n.begins o.row; count = sym (number_read_is count_size o.count_at n.counts) }
