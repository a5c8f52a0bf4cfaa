-- What is read part by part is what the state's format reads: the head, the entries, the active ones, and totals that are sound.
use Prim.Native.Nat.{ℕ, ◌+◌, ◌≤◌, ◌<◌, max}
use native.Mathlib.Nat.{add_comm}
use mathlib.Core.Path.{◌≡◌, refl, sym, ap₂, ◌∙◌}
use mathlib.Core.Bool.{Bool, true, false, ◌&&◌, ◌||◌}
use mathlib.Core.Logic.{inl, inr}
use mathlib.Core.List.{List, [], ◌∷◌}
use native.Mathlib.Omega.{arith}
use borrow.Author.Tests.{lt-ltb, leb-true, leb-false, le-leb, lt-leb, ne_eqb}
use lib.Dec.{leb, ltb, eqb}
use lib.ListN.{length, drop}
use Rattle.keys.specs.Limit.{key_limit}
use Rattle.machine.specs.Lists.{sum}
use Rattle.machine.specs.State.{Txn, Entry, State, base, marks, key_bytes, txn_marks, entry_marks, txn_bytes, entry_bytes}
use Rattle.codec.specs.Codec.{item}
use Rattle.codec.specs.Formats.{bind, only, via, run}
use Rattle.layout.specs.Offsets.{entries_at}
use Rattle.layout.specs.Keys.{any_order}
use Rattle.layout.specs.Records.{head_form, entry_form, txn_form, entries_form, active_form, to_content, part_form, below_id}
use Rattle.layout.specs.States.{to_state, plain_form, state_form, room_size, sound, in_time, idle, highest, seq_of, start_of}
use Rattle.layout.proofs.FillLaws.{fills_end}
use Rattle.layout.proofs.RowLaws.{run_row}
use Rattle.layout.proofs.LoadLaws.{load_short, load_cut}
use Rattle.room.specs.declared.tally.Tally.{Tally}
use Rattle.room.specs.Counts.{an_entry, a_txn, run_of, plus}
use Rattle.room.specs.Walks.{Got, Missing}
use Rattle.room.specs.declared.Top.{Top}
use Rattle.room.specs.Views.{counts_in, HeadIs, Seen, HoldsNone, soundly}

-- ---- the verdict on the totals

leb_max : (a b c : ℕ) → leb (max a b) c ≡ (leb a c && leb b c)
leb_max a b c = go (leb a c) refl (leb b c) refl
  where
    go : (x : Bool) → leb a c ≡ x → (y : Bool) → leb b c ≡ y → leb (max a b) c ≡ (x && y)
    go true p true q = le-leb (max a b) c (omega (arith, leb-true a c p, leb-true b c q))
    go true p false q = lt-leb (max a b) c (omega (arith, leb-false b c q))
    go false p y q = lt-leb (max a b) c (omega (arith, leb-false a c p))

idle_is : (ts : List Txn) (es : List Entry) → (ltb 0 (length ts) || eqb (length es) 0) ≡ idle ts es
idle_is [] [] = refl
idle_is [] (e ∷ es) = ne_eqb (length (e ∷ es)) 0 (λ q. omega (arith, q))
idle_is (t ∷ ts) es = rw (lt-ltb 0 (length (t ∷ ts)) (omega arith))

module _ (top : Top) (ts : List Txn) (es : List Entry) where
  abbrev read : State
  read = to_state (top.last, to_content (counts_in top, (es, ts)))

  sound_by : (n m k b h : ℕ) → n ≡ length es → m ≡ length ts → k ≡ marks read → b ≡ key_bytes read → h ≡ max (highest seq_of es) (highest start_of ts)
      → (leb m base.active && leb n base.entries && leb k base.marks && leb b base.bytes && (leb h top.last && (ltb 0 m || eqb n 0))) ≡ sound base read
  unfolding sound in_time
  sound_by n m k b h en em ek eb eh = rw (en, em, ek, eb, eh, leb_max (highest seq_of es) (highest start_of ts) top.last, idle_is ts es)

-- ---- a room that holds no state

pub too_small : {s : List ℕ} → length s < room_size base → HoldsNone s
too_small {s} h = record { none = inl (load_short base s h) }

module _ {s : List ℕ} (size : room_size base ≤ length s) where
  no_state : Missing (state_form base) s 0 → HoldsNone s
  no_state m = record { none = inr (load_cut base s size m.reads) }

  pub no_head : Missing head_form s 0 → HoldsNone s
  unfolding state_form plain_form only via bind
  no_head m = no_state (record { reads = rw m.reads })

  module _ {top : Top} (h : HeadIs s top) where
    pub no_entries : Missing (run (entry_form key_limit) any_order top.entries) s entries_at → HoldsNone s
    unfolding state_form plain_form part_form entries_form only via bind
    no_entries m = no_state (record { reads = rw (h.head.reads, h.counts.reads, m.reads) })

    module _ {t : Tally} (e : Got (run_of (an_entry key_limit) any_order top.entries) s entries_at t) where
      pub no_active : Missing (run (txn_form key_limit) below_id top.active) s t.end → HoldsNone s
      unfolding state_form plain_form part_form entries_form active_form only via bind
      no_active m = no_state (record { reads = rw (h.head.reads, h.counts.reads, e.fills.stands.reads, m.reads) })

      module _ {u : Tally} (a : Got (run_of (a_txn key_limit) below_id top.active) s t.end u) where
        abbrev st : State
        st = read top a.val e.val

        reads_plain : (plain_form key_limit).read (drop 0 s) ≡ item st (drop u.end s)
        unfolding plain_form part_form entries_form active_form via bind
        reads_plain = rw (h.head.reads, h.counts.reads, e.fills.stands.reads, a.fills.stands.reads)

        counts : (length e.val ≡ top.entries) × (length a.val ≡ top.active)
        counts = ((run_row (entry_form key_limit) any_order top.entries e.fills).1, (run_row (txn_form key_limit) below_id top.active a.fills).1)

        middle_is : t.end ≡ entries_at + length ((run (entry_form key_limit) any_order top.entries).write e.val)
        middle_is = fills_end (run (entry_form key_limit) any_order top.entries) e.fills

        marks_are : t.marks + u.marks ≡ marks st
        marks_are = ap₂ (λ (i j : ℕ). i + j) e.marks a.marks ∙ add_comm (sum entry_marks e.val) (sum txn_marks a.val)

        bytes_are : t.bytes + u.bytes ≡ key_bytes st
        bytes_are = ap₂ (λ (i j : ℕ). i + j) e.bytes a.bytes ∙ add_comm (sum entry_bytes e.val) (sum txn_bytes a.val)

        verdict : soundly top (plus t u) ≡ sound base st
        verdict = sound_by top a.val e.val top.entries top.active (t.marks + u.marks) (t.bytes + u.bytes) (max t.high u.high) (sym counts.0) (sym counts.1) marks_are bytes_are (ap₂ (λ (i j : ℕ). max i j) e.high a.high)

        module _ (all : Tally) (is : all ≡ plus t u) where
          judged : (b : Bool) → soundly top all ≡ b → sound base st ≡ b
          judged b v = sym verdict ∙ (rw is at v)

          pub not_sound : soundly top all ≡ false → HoldsNone s
          unfolding state_form only
          not_sound v = no_state (record { reads = rw (reads_plain, judged false v) })

          seen_plus : soundly top all ≡ true
              → Seen s (record { last = top.last; entries = top.entries; active = top.active; middle = t.end; used = u.end; marks = t.marks + u.marks; bytes = t.bytes + u.bytes })
          unfolding state_form only run
          seen_plus v = record {
            state = st;
            whole = record { reads = rw (reads_plain, judged true v) };
            inside = a.fills.inside;
            size = size;
            last = refl;
            entries = sym counts.0;
            active = sym counts.1;
            middle = middle_is;
            marks = marks_are;
            bytes = bytes_are;
          }

          pub seen : soundly top all ≡ true
              → Seen s (record { last = top.last; entries = top.entries; active = top.active; middle = t.end; used = all.end; marks = all.marks; bytes = all.bytes })
          seen v = rw is (seen_plus v)
