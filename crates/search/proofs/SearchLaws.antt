-- The three loops of the search: marks of the transaction, keys of an entry, entries. Each speaks of whatever stands at its
-- places.
use Prim.Native.Nat.{ℕ, zero, suc, ◌+◌, ◌-◌, ◌≤◌, ◌<◌}
use mathlib.Core.Path.{◌≡◌, refl, sym, ap, ap₂, ◌∙◌}
use mathlib.Core.Bool.{Bool, true, false, ◌&&◌}
use mathlib.Core.List.{List, ◌∷◌}
use native.Mathlib.Omega.{arith}
use borrow.Author.Tests.{eqb-true, eqb-false, lt-ltb, le-ltb}
use lib.Dec.{eqb, ltb}
use lib.ListN.{length, take, drop}
use Rattle.machine.specs.Lists.{any}
use Rattle.machine.specs.State.{Bytes, Txn, Entry}
use Rattle.machine.specs.Sets.{tracks, conflict}
use Rattle.layout.specs.Offsets.{number_size, count_size, length_size, keys_at, start_at, any_length}
use Rattle.codec.specs.Formats.{number}
use Rattle.codec.specs.Stands.{Stands}
use Rattle.layout.specs.Keys.{key_form, below}
use Rattle.layout.specs.Records.{entry_form, txn_form}
use Rattle.layout.specs.Rows.{Fills, Row, Here, Rows, Ends}
use Rattle.layout.proofs.FillLaws.{number_read_is}
use Rattle.layout.proofs.OpenLaws.{open_set, open_entry, open_txn}
use Rattle.places.specs.declared.cursor.Cursor.{Cursor}
use Rattle.places.specs.Cursors.{past, CountAt, Before}
use Rattle.places.proofs.CursorLaws.{before_list}
use Rattle.places.proofs.MarkLaws.{key_part}
use Rattle.places.proofs.SplitLaws.{to_go}
use Rattle.search.specs.declared.marks.Marks.{Marks}
use Rattle.search.specs.Marks.{Mark, meets}
use Rattle.search.specs.Search.{marks_left, Left, Stays, MarksAt, Nexts, Meets, Searched}
use Rattle.search.proofs.LeftLaws.{left_count}
use Rattle.search.proofs.TrackLaws.{tracks_marks}
use Rattle.search.proofs.WalkLaws.{Walk, Head, walk_head, walk_over, head_hit, head_miss, cursor_head, cursor_over, cursor_here, cursor_next}

module _ (s : List ℕ) (txn : ℕ) where
  -- whether the transaction tracks the key at a place; whether it tracks a key of the entry at a place
  pub record Tracks (at : ℕ) (b : Bool) : Type 0 where
    pub is : (t : Txn) (f : ℕ) (k : Bytes) (g : ℕ) → Fills (txn_form any_length) s txn t f → Fills (key_form any_length) s at k g → tracks t k ≡ b

  pub record Wrote (at : ℕ) (b : Bool) : Type 0 where
    pub is : (t : Txn) (f : ℕ) (x : Entry) (g : ℕ) → Fills (txn_form any_length) s txn t f → Fills (entry_form any_length) s at x g → any (tracks t) x.keys ≡ b

  -- the invariants of the two inner loops, over the key and over the entry at a place
  pub record MarksWalk (found : Bool) (at : ℕ) (m : Marks) : Type 0 where
    pub none : found ≡ false
    pub whose : Here (txn_form any_length) s txn
    pub here : Here (key_form any_length) s at
    pub is : (t : Txn) (f : ℕ) (k : Bytes) (g : ℕ) → Fills (txn_form any_length) s txn t f → Fills (key_form any_length) s at k g → Walk (Left s m) (meets k) (tracks t k)

  pub record KeysWalk (found : Bool) (at : ℕ) (c : Cursor) : Type 0 where
    pub none : found ≡ false
    pub whose : Here (txn_form any_length) s txn
    pub here : Here (entry_form any_length) s at
    pub is : (t : Txn) (f : ℕ) (x : Entry) (g : ℕ) → Fills (txn_form any_length) s txn t f → Fills (entry_form any_length) s at x g
        → Walk (Before (key_form any_length) s c) (tracks t) (any (tracks t) x.keys)

pub entry_room : {s : List ℕ} {at : ℕ} → Here (entry_form any_length) s at → at + keys_at + count_size ≤ length s
entry_room h = (open_set any_length (open_entry any_length h.fills).set).count_at.inside

-- ---------------------------------------------------------------- marks

marks_head : {s : List ℕ} {m : Marks} {test : Mark → Bool} {whole : Bool} → Walk (Left s m) test whole → eqb (marks_left m) 0 ≡ false → Head (Left s m) test whole
marks_head {s} {m} w h = walk_head w (omega (arith, left_count s m w.rest w.here, some (marks_left m) h))
  where
    some : (n : ℕ) → eqb n 0 ≡ false → 0 < n
    some zero e = absurd (eqb-false 0 0 e refl)
    some (suc n) e = omega arith

module _ {s : List ℕ} {txn : ℕ} {found : Bool} {at : ℕ} {m : Marks} (w : MarksWalk s txn found at m) {over : Bool} (o : over ≡ eqb (marks_left m) 0) where
  pub marks_none : over ≡ true → Tracks s txn at false
  marks_none e =
      record { is = λ t f k g p q. let x = w.is t f k g p q in walk_over x (omega (arith, left_count s m x.rest x.here, eqb-true (marks_left m) 0 (sym o ∙ e))) }

  module _ (e : over ≡ false) where
    pub marks_stay : Stays s m
    marks_stay = let x = marks_head (w.is _ _ _ _ w.whose.fills w.here.fills) (sym o ∙ e) in record { first = x.first; rest = x.rest; left = x.here }

    pub next_less : (d : Marks) → Nexts s m d → marks_left d < marks_left m
    next_less d j = let x = marks_stay in omega (arith, left_count s m (x.first ∷ x.rest) x.left, left_count s d x.rest (j.is x.first x.rest x.left))

    module _ {to : ℕ} {r : Bool} (n : Ends (key_form any_length) s at to) (z : Meets s m (take (to - (at + length_size)) (drop (at + length_size) s)) r) where
      met : (k : Bytes) (g : ℕ) → Fills (key_form any_length) s at k g → (x : Mark) (xs : List Mark) → Left s m (x ∷ xs) → meets k x ≡ r
      met k g q x xs l = sym (z.is x xs l ∙ ap (λ (y : Bytes). meets y x) (key_part s at to k g n q))

      pub marks_hit : r ≡ true → Tracks s txn at true
      marks_hit h = record { is = λ t f k g p q. let x = marks_head (w.is t f k g p q) (sym o ∙ e) in head_hit x (met k g q x.first x.rest x.here ∙ h) }

      pub marks_next : (d : Marks) → r ≡ false → Nexts s m d → MarksWalk s txn found at d
      marks_next d h j =
          record {
            none = w.none;
            whose = w.whose;
            here = w.here;
            is = λ t f k g p q.
                let x = marks_head (w.is t f k g p q) (sym o ∙ e) in
                record { rest = x.rest; here = j.is x.first x.rest x.here; says = head_miss x (met k g q x.first x.rest x.here ∙ h) };
          }

-- ---------------------------------------------------------------- keys

module _ {s : List ℕ} {txn : ℕ} {found : Bool} {at : ℕ} {c : Cursor} (w : KeysWalk s txn found at c) where
  pub keys_none : c.left ≤ 0 → Wrote s txn at false
  keys_none h = record { is = λ t f x g p q. cursor_over (w.is t f x g p q) h }

  module _ (h : 0 < c.left) where
    pub key_here : Here (key_form any_length) s c.at
    key_here = cursor_here (w.is _ _ _ _ w.whose.fills w.here.fills) h

    pub marks_start : (m : Marks) → MarksAt s txn m → MarksWalk s txn found c.at m
    marks_start m a = record { none = w.none; whose = w.whose; here = key_here; is = λ t f k g p q. record { rest = _; here = a.is t f p; says = tracks_marks t k } }

    pub keys_hit : Tracks s txn c.at true → Wrote s txn at true
    keys_hit e = record { is = λ t f x g p q. let y = cursor_head (w.is t f x g p q) h in head_hit y (e.is t f y.first _ p y.here.row.first) }

    pub keys_next : (b : Bool) (d : Cursor) (to : ℕ) → b ≡ false → Tracks s txn c.at false → Ends (key_form any_length) s c.at to → d ≡ past c to → KeysWalk s txn b at d
    keys_next b d to q e n j =
        record {
          none = q;
          whose = w.whose;
          here = w.here;
          is = λ t f x g p v. let y = cursor_head (w.is t f x g p v) h in cursor_next d to y (e.is t f y.first _ p y.here.row.first) n j;
        }

-- ---------------------------------------------------------------- entries

abbrev clashes : Txn → Entry → Bool
clashes t x = ltb t.start x.seq && any (tracks t) x.keys

and_false : (a b : Bool) → b ≡ false → (a && b) ≡ false
and_false true b e = e
and_false false b e = refl

-- the invariant of the outer loop
pub record EntriesWalk (s : List ℕ) (at entries txn : ℕ) (found : Bool) (c : Cursor) : Type 0 where
  pub none : found ≡ false
  pub rows : Rows (entry_form any_length) s at entries
  pub whose : Here (txn_form any_length) s txn
  pub is : (es : List Entry) (e : ℕ) (t : Txn) (f : ℕ) → Row (entry_form any_length) s at es e → length es ≡ entries → Fills (txn_form any_length) s txn t f
      → Walk (Before (entry_form any_length) s c) (clashes t) (conflict t es)

pub entries_start : {s : List ℕ} {at entries txn : ℕ} → Rows (entry_form any_length) s at entries → Here (txn_form any_length) s txn → EntriesWalk s at entries txn false (to_go entries 0 at)
unfolding conflict
entries_start {entries = entries} r h =
    let all : entries - 0 ≡ entries = omega arith in
    record { none = refl; rows = r; whose = h; is = λ es e t f r n p. record { rest = es; here = record { end = e; row = r; count = n ∙ sym all }; says = refl } }

module _ {s : List ℕ} {at entries txn : ℕ} {found : Bool} {c : Cursor} (w : EntriesWalk s at entries txn found c) where
  pub entries_none : c.left ≤ 0 → Searched s at entries txn found
  entries_none h = rw w.none (record { is = λ es e t f r n p. sym (cursor_over (w.is es e t f r n p) h) })

  module _ (h : 0 < c.left) where
    pub entry_here : Here (entry_form any_length) s c.at
    entry_here = cursor_here (w.is w.rows.vals w.rows.end _ _ w.rows.row w.rows.count w.whose.fills) h

    pub entry_inside : c.at + keys_at + count_size ≤ length s
    entry_inside = entry_room entry_here

    pub keys_start : (k : Cursor) → CountAt s (c.at + keys_at) k → KeysWalk s txn found c.at (to_go k.left 0 k.at)
    keys_start k n =
        let all : k.left - 0 ≡ k.left = omega arith in
        rw all
        (record {
          none = w.none;
          whose = w.whose;
          here = entry_here;
          is = λ t f x g p q.
              record { rest = x.keys; here = before_list (key_form any_length) s k below (c.at + keys_at) x.keys g (open_set any_length (open_entry any_length q).set) n; says = refl };
        })

    -- the start and the sequence as they were read
    module _ {start seq f g : ℕ} (a : Stands (number number_size) s (txn + start_at) start f) (b : Stands (number number_size) s c.at seq g) where
      later : (t : Txn) (e : ℕ) (x : Entry) (e' : ℕ) → Fills (txn_form any_length) s txn t e → Fills (entry_form any_length) s c.at x e' → ltb t.start x.seq ≡ ltb start seq
      later t e x e' p q = sym (ap₂ ltb (number_read_is number_size (open_txn any_length p).head.start_at_lem a) (number_read_is number_size (open_entry any_length q).seq_at b))

      pub entries_hit : start < seq → Wrote s txn c.at true → Searched s at entries txn true
      entries_hit l e =
          record {
            is = λ es z t z' r n p.
                let y = cursor_head (w.is es z t z' r n p) h in
                let i = y.here.row.first in
                sym (head_hit y (ap₂ (λ (u v : Bool). u && v) (later t z' y.first _ p i ∙ lt-ltb start seq l) (e.is t z' y.first _ p i)));
          }

      pub entry_early : (b' : Bool) (d : Cursor) (to : ℕ) → b' ≡ found → seq ≤ start → Ends (entry_form any_length) s c.at to → d ≡ past c to → EntriesWalk s at entries txn b' d
      entry_early b' d to q l n j =
          record {
            none = q ∙ w.none;
            rows = w.rows;
            whose = w.whose;
            is = λ es z t z' r k p.
                let y = cursor_head (w.is es z t z' r k p) h in
                cursor_next d to y (ap (λ (u : Bool). u && any (tracks t) y.first.keys) (later t z' y.first _ p y.here.row.first ∙ le-ltb start seq l)) n j;
          }

    pub entry_apart : (b : Bool) (d : Cursor) (to : ℕ) → b ≡ false → Wrote s txn c.at false → Ends (entry_form any_length) s c.at to → d ≡ past c to → EntriesWalk s at entries txn b d
    entry_apart b d to q e n j =
        record {
          none = q;
          rows = w.rows;
          whose = w.whose;
          is = λ es z t z' r k p.
              let y = cursor_head (w.is es z t z' r k p) h in
              cursor_next d to y (and_false (ltb t.start y.first.seq) (any (tracks t) y.first.keys) (e.is t z' y.first _ p y.here.row.first)) n j;
        }
