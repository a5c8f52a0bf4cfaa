-- The walk that moves the kept entries together: s is the room at the start, in which a cursor goes through the entries, r the room as it is now,
-- which has the bytes of s from the cursor on.
use Prim.Native.Nat.{ℕ, ◌+◌, ◌-◌, ◌≤◌, ◌<◌}
use mathlib.Core.Path.{◌≡◌, refl, sym, ap, ◌∙◌}
use mathlib.Core.List.{List, [], ◌∷◌, ◌++◌, append_assoc, append-nil}
use native.Mathlib.Omega.{arith}
use borrow.Author.Tests.{le-leb, lt-leb}
use lib.Dec.{leb}
use lib.ListN.{length, take, drop, length-append, length-drop}
use lib.Seq.{paste, length-paste, take-paste, drop-paste}
use Rattle.machine.specs.Lists.{keep}
use Rattle.machine.specs.State.{Entry}
use Rattle.machine.proofs.ListLaws.{keep_append}
use Rattle.codec.specs.Codec.{Codec, write_run}
use Rattle.codec.specs.Formats.{number}
use Rattle.codec.specs.Stands.{Stands}
use Rattle.moves.proofs.SpliceLaws.{drop_take, later}
use Rattle.layout.specs.Offsets.{number_size, entries_at, keys_at, any_length}
use Rattle.layout.specs.Records.{entry_form}
use Rattle.layout.specs.Rows.{Fills, Rows, Here, Ends}
use Rattle.layout.proofs.FillLaws.{fills_slice, number_read_is}
use Rattle.layout.proofs.RowLaws.{write_append}
use Rattle.layout.proofs.OpenLaws.{open_entry}
use Rattle.places.specs.declared.cursor.Cursor.{Cursor}
use Rattle.places.specs.Cursors.{past}
use Rattle.places.proofs.SplitLaws.{split_one, Search, Turn, search_start, turn_here, search_over, search_next}
use Rattle.edits.specs.Leaving.{kept_from, Prunes}

abbrev E : Codec Entry
E = entry_form any_length

-- what stands behind a place stands there too where the bytes from it on are the same
module _ {A : Type 0} (C : Codec A) {s r : List ℕ} {at : ℕ} (d : drop at r ≡ drop at s) (l : length r ≡ length s) where
  same_fills : {e : ℕ} {a : A} → Fills C s at a e → Fills C r at a e
  same_fills {e} {a} p = record { stands = record { reads = rw (d, later s r at e p.from d) p.stands.reads }; from = p.from; inside = omega (arith, p.inside) }

  same_here : Here C s at → Here C r at
  same_here h = record { val = h.val; end = h.end; fills = same_fills h.fills }

  same_ends : {e : ℕ} → Ends C r at e → Ends C s at e
  same_ends w = record { is = λ a f p. w.is a f (same_fills p) }

-- of the entries that the cursor has passed the kept ones stand together up to `end`
pub record Gathered (s : List ℕ) (n least : ℕ) (r : List ℕ) (end count : ℕ) (c : Cursor) (front rest : List Entry) : Type 0 where
  pub bytes : take end r ≡ take entries_at s ++ write_run E (kept_from least front)
  pub behind : drop c.at r ≡ drop c.at s
  pub size : length r ≡ length s
  pub count_is : count ≡ length (kept_from least front)
  pub within : end ≤ c.at
  pub few : count + c.left ≤ n

abbrev pub Pruning : List ℕ → ℕ → ℕ → List ℕ → ℕ → ℕ → Cursor → Type 0
Pruning s n least r end count c = Search E (Gathered s n least r end count c) s entries_at n c

-- the same where an entry is left, whose turn it is
abbrev pub Moving : List ℕ → ℕ → ℕ → List ℕ → ℕ → ℕ → Cursor → Type 0
Moving s n least r end count c = Turn E (Gathered s n least r end count c) s entries_at n c

pub prune_start : {s : List ℕ} {n least : ℕ} {c : Cursor} → Rows E s entries_at n → (c.at ≡ entries_at) × (c.left ≡ n) → Pruning s n least s entries_at 0 c
unfolding keep write_run
prune_start {s} {n} {least} {c} w q = search_start E (Gathered s n least s entries_at 0 c) (λ xs. record { bytes = sym (append-nil (take entries_at s)); behind = refl; size = refl; count_is = refl; within = omega (arith, q.0); few = omega (arith, q.1) }) w q

keep_one : (least : ℕ) (front : List Entry) (x : Entry) → least ≤ x.seq → kept_from least (front ++ (x ∷ [])) ≡ kept_from least front ++ (x ∷ [])
unfolding keep
keep_one least front x h = keep_append (λ y. leb least y.seq) front (x ∷ []) ∙ rw (le-leb least x.seq h)

keep_none : (least : ℕ) (front : List Entry) (x : Entry) → x.seq < least → kept_from least (front ++ (x ∷ [])) ≡ kept_from least front
unfolding keep
keep_none least front x h = keep_append (λ y. leb least y.seq) front (x ∷ []) ∙ rw (lt-leb least x.seq h, append-nil)

write_one : (x : Entry) → write_run E (x ∷ []) ≡ E.write x
unfolding write_run
write_one x = append-nil (E.write x)

module _ {s : List ℕ} {n least : ℕ} {r : List ℕ} {end count : ℕ} {c : Cursor} (t : Moving s n least r end count c) where
  now_part : {e : ℕ} → Fills E s c.at t.one e → Fills E r c.at t.one e
  now_part p = same_fills E t.holds.behind t.holds.size p

  pub here : Here E r c.at
  here = same_here E t.holds.behind t.holds.size (turn_here E (Gathered s n least r end count c) t)

  pub room_for_seq : c.at + keys_at ≤ length r
  room_for_seq =
      let o = open_entry any_length (now_part t.walk.after.row.first) in
      omega (arith, o.seq_at.inside)

  module _ {e : ℕ} (w : Ends E r c.at e) where
    ends : Ends E s c.at e
    ends = same_ends E t.holds.behind t.holds.size w

    entry_fills : Fills E r c.at t.one e
    entry_fills =
        let p = t.walk.after.row.first in
        rw (ends.is t.one _ p) (now_part p)

    pub ahead : (end ≤ c.at) × (c.at ≤ e) × (e ≤ length r)
    ahead = (t.holds.within, entry_fills.from, entry_fills.inside)

    module _ {q : ℕ} (g : Stands (number number_size) r c.at q (c.at + keys_at)) where
      seq_is : q ≡ t.one.seq
      seq_is = number_read_is number_size (open_entry any_length entry_fills).seq_at g

      pub prune_drop : {d : Cursor} → d ≡ past c e → q < least → Pruning s n least r end count d
      prune_drop {d} j k =
          let v = t.holds in
          let same = keep_none least t.front t.one (omega (arith, seq_is)) in
          let on : Gathered s n least r end count (past c e) (t.front ++ (t.one ∷ [])) t.back =
          record {
            bytes = v.bytes ∙ rw same;
            behind = later s r c.at e entry_fills.from v.behind;
            size = v.size;
            count_is = v.count_is ∙ rw same;
            within = omega (arith, v.within, entry_fills.from);
            few = omega (arith, v.few);
          } in
          search_next E (Gathered s n least r end count c) (Gathered s n least r end count d) t ends j (rw j on)

      pub prune_keep : {d : Cursor} {r' : List ℕ} → d ≡ past c e → least ≤ q → r' ≡ paste r end (drop c.at r) (e - c.at) → Pruning s n least r' (end + (e - c.at)) (count + 1) d
      prune_keep {d} {r'} j k z =
          let v = t.holds in
          let m : ℕ = e - c.at in
          let a : end + m ≤ length r = omega (arith, v.within, entry_fills.from, entry_fills.inside) in
          let b : m ≤ length (drop c.at r) = rw length-drop (omega (arith, entry_fills.from, entry_fills.inside)) in
          let bytes : take (end + m) r' ≡ take end r ++ take m (drop c.at r) = ap (take (end + m)) z ∙ take-paste r end (drop c.at r) m (omega arith) b in
          let one : take m (drop c.at r) ≡ E.write t.one = sym (drop_take c.at e r) ∙ fills_slice E entry_fills in
          let after : drop (end + m) r' ≡ drop (end + m) r = ap (drop (end + m)) z ∙ drop-paste r end (drop c.at r) m (omega arith) b in
          let kept = keep_one least t.front t.one (omega (arith, seq_is)) in
          let on : Gathered s n least r' (end + m) (count + 1) (past c e) (t.front ++ (t.one ∷ [])) t.back =
          record {
            bytes = bytes ∙ rw (v.bytes, one, kept, write_append E (kept_from least t.front) (t.one ∷ []), write_one t.one) (append_assoc (take entries_at s) (write_run E (kept_from least t.front)) (E.write t.one));
            behind = later r r' (end + m) e (omega (arith, v.within, entry_fills.from)) after ∙ later s r c.at e entry_fills.from v.behind;
            size = ap length z ∙ length-paste r end (drop c.at r) m a b ∙ v.size;
            count_is = ap (λ (k : ℕ). k + 1) v.count_is ∙ sym (ap length kept ∙ length-append (kept_from least t.front) (t.one ∷ []));
            within = omega (arith, v.within, entry_fills.from);
            few = omega (arith, v.few);
          } in
          search_next E (Gathered s n least r end count c) (Gathered s n least r' (end + m) (count + 1) d) t ends j (rw j on)

pub prune_end : {s : List ℕ} {n least : ℕ} {r : List ℕ} {end count : ℕ} {c : Cursor} → Pruning s n least r end count c → c.left ≤ 0 → Prunes s n least r (record { count = count; end = end })
prune_end {s} {n} {least} {r} {end} {count} {c} x h =
    let t = search_over E (Gathered s n least r end count c) x h in
    let v = t.holds in
    record {
      is = λ es e w l.
          let o = split_one E t.walk es e w l in
          let all : es ≡ t.front = o.0 ∙ append-nil t.front in
          let last : c.at ≡ e = t.walk.after.row.0 ∙ sym o.1 in
          record {
            bytes = v.bytes ∙ rw all;
            after = rw last at v.behind;
            size = v.size;
            count = v.count_is ∙ rw all;
            within = omega (arith, v.within, last);
          };
    }
