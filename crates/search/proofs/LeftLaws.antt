-- The marks that are left: the first is the first record of one of three rows, and what is left behind it.
use Prim.Native.Nat.{ℕ, suc, ◌+◌, ◌≤◌, ◌<◌}
use mathlib.Core.Path.{◌≡◌, refl, sym, ap, ◌∙◌}
use mathlib.Core.Bool.{Bool}
use mathlib.Core.List.{List, [], ◌∷◌, ◌++◌, map}
use native.Mathlib.Omega.{arith}
use lib.ListN.{length, length-append}
use Rattle.bounds.specs.Ranges.{Range}
use Rattle.machine.specs.State.{Bytes, Txn}
use Rattle.layout.specs.Offsets.{count_size, writes_at, any_length}
use Rattle.codec.specs.Codec.{Codec}
use Rattle.layout.specs.Keys.{key_form, set_form, range_form, ranges_form, below, any_order}
use Rattle.layout.specs.Records.{txn_form}
use Rattle.layout.specs.Rows.{Fills, Here, Ends}
use Rattle.layout.proofs.OpenLaws.{open_set, open_ranges, open_txn}
use Rattle.places.specs.declared.cursor.Cursor.{Cursor}
use Rattle.places.specs.Cursors.{past, CountAt, Before, IsKey, Holds}
use Rattle.places.proofs.CursorLaws.{before_next, before_list}
use Rattle.search.specs.declared.marks.Marks.{Marks}
use Rattle.search.specs.Marks.{Mark, key, range, meets, listed, marks_of}
use Rattle.search.specs.Search.{marks_left, Left, MarksAt}

-- the first mark that is left is the first record of one of the three rows; the marks behind it are left past that record
pub record Turn {A : Type 0} (C : Codec A) (mark : A → Mark) (s : List ℕ) (c : Cursor) (m : Mark) (more : Cursor → Type 0) : Type 0 where
  pub val : A
  pub end : ℕ
  pub fills : Fills C s c.at val end
  pub is : m ≡ mark val
  pub some : 0 < c.left
  pub next : (d : Cursor) (e : ℕ) → Ends C s c.at e → d ≡ past c e → more d

pub turn_here : {A : Type 0} {C : Codec A} {mark : A → Mark} {s : List ℕ} {c : Cursor} {m : Mark} {more : Cursor → Type 0} → Turn C mark s c m more → Here C s c.at
turn_here t = record { val = t.val; end = t.end; fills = t.fills }

pub key_met : {s : List ℕ} {c : Cursor} {m : Mark} {more : Cursor → Type 0} (k : Bytes) (r : Bool) → Turn (key_form any_length) key s c m more → IsKey s c k r → r ≡ meets k m
key_met k r t h = h.is t.val t.end t.fills ∙ ap (meets k) (sym t.is)

pub range_met : {s : List ℕ} {c : Cursor} {m : Mark} {more : Cursor → Type 0} (k : Bytes) (r : Bool) → Turn (range_form any_length) range s c m more → Holds s c k r → r ≡ meets k m
range_met k r t h = h.is t.val t.end t.fills ∙ ap (meets k) (sym t.is)

module _ (s : List ℕ) (c : Marks) (m : Mark) (ms : List Mark) where
  pub write_turn : Left s c (m ∷ ms) → 0 < c.writes.left → Turn (key_form any_length) key s c.writes m (λ d. Left s (record { writes = d; reads = c.reads; ranges = c.ranges }) ms)
  write_turn l h = go l.writes l.writes_left l.all
    where
      go : (ws : List Bytes) → Before (key_form any_length) s c.writes ws → m ∷ ms ≡ listed ws l.reads l.ranges
          → Turn (key_form any_length) key s c.writes m (λ d. Left s (record { writes = d; reads = c.reads; ranges = c.ranges }) ms)
      go [] b e = absurd (omega (arith, b.count, h))
      go (w ∷ ws) b e =
          record {
            val = w;
            end = b.row.end;
            fills = b.row.first;
            is = cc;
            some = h;
            next = λ d f n q. record { writes = ws; reads = l.reads; ranges = l.ranges; writes_left = before_next (key_form any_length) s c.writes w ws d f b n q; reads_left = l.reads_left; ranges_left = l.ranges_left; all = cc };
          }

  pub read_turn : Left s c (m ∷ ms) → c.writes.left ≤ 0 → 0 < c.reads.left
      → Turn (key_form any_length) key s c.reads m (λ d. Left s (record { writes = c.writes; reads = d; ranges = c.ranges }) ms)
  read_turn l z h = go l.writes l.reads l.writes_left l.reads_left l.all
    where
      go : (ws rs : List Bytes) → Before (key_form any_length) s c.writes ws → Before (key_form any_length) s c.reads rs → m ∷ ms ≡ listed ws rs l.ranges
          → Turn (key_form any_length) key s c.reads m (λ d. Left s (record { writes = c.writes; reads = d; ranges = c.ranges }) ms)
      go (w ∷ ws) rs a b e = absurd (omega (arith, a.count, z))
      go [] [] a b e = absurd (omega (arith, b.count, h))
      go [] (r ∷ rs) a b e =
          record {
            val = r;
            end = b.row.end;
            fills = b.row.first;
            is = cc;
            some = h;
            next = λ d f n q. record { writes = []; reads = rs; ranges = l.ranges; writes_left = a; reads_left = before_next (key_form any_length) s c.reads r rs d f b n q; ranges_left = l.ranges_left; all = cc };
          }

  pub range_turn : Left s c (m ∷ ms) → c.writes.left ≤ 0 → c.reads.left ≤ 0
      → Turn (range_form any_length) range s c.ranges m (λ d. Left s (record { writes = c.writes; reads = c.reads; ranges = d }) ms)
  range_turn l y z = go l.writes l.reads l.ranges l.writes_left l.reads_left l.ranges_left l.all
    where
      go : (ws rs : List Bytes) (gs : List Range) → Before (key_form any_length) s c.writes ws → Before (key_form any_length) s c.reads rs → Before (range_form any_length) s c.ranges gs
          → m ∷ ms ≡ listed ws rs gs → Turn (range_form any_length) range s c.ranges m (λ d. Left s (record { writes = c.writes; reads = c.reads; ranges = d }) ms)
      go (w ∷ ws) rs gs a b g e = absurd (omega (arith, a.count, y))
      go [] (r ∷ rs) gs a b g e = absurd (omega (arith, b.count, z))
      go [] [] [] a b g e = absurd (let x : ◌≡◌ {A = ℕ} 0 1 = cc in omega arith)
      go [] [] (x ∷ gs) a b g e =
          record {
            val = x;
            end = g.row.end;
            fills = g.row.first;
            is = cc;
            some = omega (arith, g.count);
            next = λ d f n q. record { writes = []; reads = []; ranges = gs; writes_left = a; reads_left = b; ranges_left = before_next (range_form any_length) s c.ranges x gs d f g n q; all = cc };
          }

-- as many marks are left as the cursor says
length_map : {A : Type 0} (f : A → Mark) (xs : List A) → length (map f xs) ≡ length xs
length_map f [] = refl
length_map f (x ∷ xs) = ap suc (length_map f xs)

pub left_count : (s : List ℕ) (c : Marks) (ms : List Mark) → Left s c ms → length ms ≡ marks_left c
left_count s c ms l =
    let a : length ms ≡ length (map key l.writes) + (length (map key l.reads) + length (map range l.ranges)) =
    ap length l.all ∙ length-append (map key l.writes) (map key l.reads ++ map range l.ranges) ∙ rw (length-append (map key l.reads) (map range l.ranges)) in
    omega (arith, l.writes_left.count, l.reads_left.count, l.ranges_left.count, length_map key l.writes, length_map key l.reads, length_map range l.ranges)

-- the marks of a transaction where it stands
module _ (s : List ℕ) (txn : ℕ) where
  pub marks_at : (a b : ℕ) (w r g : Cursor) → Ends (set_form any_length) s (txn + writes_at) a → Ends (set_form any_length) s a b → CountAt s (txn + writes_at) w → CountAt s a r → CountAt s b g
      → MarksAt s txn (record { writes = w; reads = r; ranges = g })
  marks_at a b w r g n k x y z = record { is = left }
    where
      left : (t : Txn) (e : ℕ) → Fills (txn_form any_length) s txn t e → Left s (record { writes = w; reads = r; ranges = g }) (marks_of t)
      left t e p =
          let o = open_txn any_length p in
          let reads : Fills (set_form any_length) s a t.reads o.reads_end = rw (n.is _ _ o.writes) o.reads in
          let ranges : Fills (ranges_form any_length) s b t.ranges e = rw (k.is _ _ reads) o.ranges in
          record {
            writes = t.writes;
            reads = t.reads;
            ranges = t.ranges;
            writes_left = before_list (key_form any_length) s w below _ _ _ (open_set any_length o.writes) x;
            reads_left = before_list (key_form any_length) s r below _ _ _ (open_set any_length reads) y;
            ranges_left = before_list (range_form any_length) s g any_order _ _ _ (open_ranges any_length ranges) z;
            all = refl;
          }

pub set_room : {s : List ℕ} {at : ℕ} → Here (set_form any_length) s at → at + count_size ≤ length s
set_room h = (open_set any_length h.fills).count_at.inside

pub ranges_room : {s : List ℕ} {at : ℕ} → Here (ranges_form any_length) s at → at + count_size ≤ length s
ranges_room h = (open_ranges any_length h.fills).count_at.inside
