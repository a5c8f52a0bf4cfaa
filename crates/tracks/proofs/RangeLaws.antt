-- A track of a range, one law for each way it ends.
use Prim.Native.Nat.{ℕ, ◌+◌, ◌≤◌, ◌<◌}
use mathlib.Core.Path.{◌≡◌, refl, ap, ◌∙◌}
use mathlib.Core.Bool.{Bool, true, false, cond}
use mathlib.Core.List.{[], ◌∷◌, ◌++◌, append_assoc}
use mathlib.Core.Logic.{◌⊎◌, inl, inr}
use mathlib.Core.Option.{Option, none, some}
use native.Mathlib.Omega.{arith}
use lib.ListN.{length, get_or, length-append}
use Rattle.std.specs.Prelude.{Ok, Err}
use Rattle.fields.specs.declared.Span.{Span}
use Rattle.answers.specs.declared.Refusal.{Refusal}
use Rattle.answers.specs.Says.{refusal_number}
use Rattle.keys.specs.Limit.{key_limit}
use Rattle.bounds.specs.Ranges.{Range, not_empty}
use Rattle.fields.specs.Fields.{bounds_of}
use Rattle.machine.specs.Lists.{sum}
use Rattle.machine.specs.State.{Bytes, Txn, base, marks, key_bytes, range_bytes, txn_marks, txn_bytes}
use Rattle.machine.specs.Calls.{on, track_range, malformed, longKey, emptyRange, full}
use Rattle.machine.specs.Serve.{short_range, add_range, with_txn, track, answer}
use Rattle.machine.proofs.ListLaws.{sum_append}
use Rattle.layout.specs.Offsets.{id_size, entries_at, any_length}
use Rattle.layout.specs.Keys.{range_form, ranges_form}
use Rattle.layout.specs.Records.{txn_form}
use Rattle.layout.specs.States.{room_size}
use Rattle.layout.specs.Rooms.{Served}
use Rattle.layout.proofs.FillLaws.{fills_end}
use Rattle.layout.proofs.RowLaws.{row_inside}
use Rattle.layout.proofs.SizeLaws.{range_length, txn_bytes_lem}
use Rattle.layout.proofs.LoadLaws.{refuse, look_absent, change}
use Rattle.places.specs.Finds.{Found}
use Rattle.edits.specs.Laid.{write_entries, write_active}
use Rattle.answers.proofs.TrackLaws.{track_absent, track_full, track_done, range_malformed, range_long, range_empty, range_track}
use Rattle.answers.proofs.InsideLaws.{before_ranges, laid_range}
use Rattle.room.specs.declared.View.{View}
use Rattle.room.specs.Views.{Seen}
use Rattle.tracks.specs.declared.sets.Space.{Space}
use Rattle.tracks.specs.Sets.{Spent, Lacks}
use Rattle.tracks.specs.Ranges.{judged, Appendable, AppendedTo, Appended}
use Rattle.answers.proofs.SeenLaws.{seen_load, seen_held}
use Rattle.answers.proofs.FoundLaws.{space_left, not_found, here, found, place, laid, changed}
use Rattle.tracks.proofs.BoundsLaws.{bounds_record}

-- ---- what the verdict on bounds says of them

-- bounds that are refused do not read as a range, or have a key over the limit, or an empty range
bad_range : (P : Refusal → Type 0) (o : Option Range) (e : Refusal) → Err e ≡ judged o → (o ≡ none → P Refusal.Malformed) → ((r : Range) → o ≡ some r → short_range key_limit r ≡ false → P Refusal.LongKey)
    → ((r : Range) → o ≡ some r → short_range key_limit r ≡ true → not_empty r ≡ false → P Refusal.EmptyRange) → P e
bad_range P none e q m l y = let x : e ≡ Refusal.Malformed = cc in rw x (m refl)
bad_range P (some r) e q m l y = go (short_range key_limit r) refl (not_empty r) refl q
  where
    go : (a : Bool) → short_range key_limit r ≡ a → (b : Bool) → not_empty r ≡ b → Err e ≡ cond a (cond b (Ok (range_bytes r)) (Err Refusal.EmptyRange)) (Err Refusal.LongKey) → P e
    go true i true j q = cc
    go true i false j q = let x : e ≡ Refusal.EmptyRange = cc in rw x (y r refl i j)
    go false i b j q = let x : e ≡ Refusal.LongKey = cc in rw x (l r refl i)

-- a range that is not refused, with so many key bytes
record Good (o : Option Range) (n : ℕ) : Type 0 where
  r : Range
  is : o ≡ some r
  short : short_range key_limit r ≡ true
  full : not_empty r ≡ true
  size : n ≡ range_bytes r

good_range : (o : Option Range) (n : ℕ) → Ok n ≡ judged o → Good o n
good_range none n q = cc
good_range (some r) n q = go (short_range key_limit r) refl (not_empty r) refl q
  where
    go : (a : Bool) → short_range key_limit r ≡ a → (b : Bool) → not_empty r ≡ b → Ok n ≡ cond a (cond b (Ok (range_bytes r)) (Err Refusal.EmptyRange)) (Err Refusal.LongKey) → Good (some r) n
    go true i true j q = record { r = r; is = refl; short = i; full = j; size = cc }
    go true i false j q = cc
    go false i b j q = cc

-- ---- what a range adds to the totals, and where the ranges stand

one_mark : (r : Range) (t : Txn) → txn_marks (add_range r t) ≡ txn_marks t + 1
one_mark r t = omega (arith, length-append t.ranges (r ∷ []))

its_bytes : (r : Range) (t : Txn) → txn_bytes (add_range r t) ≡ txn_bytes t + range_bytes r
unfolding sum
its_bytes r t = omega (arith, sum_append range_bytes t.ranges (r ∷ []))

split_length : (t : Txn) → length ((txn_form any_length).write t) ≡ length (before_ranges t) + length ((ranges_form any_length).write t.ranges)
split_length t =
    let e : (txn_form any_length).write t ≡ before_ranges t ++ (ranges_form any_length).write t.ranges = txn_bytes_lem any_length t ∙ simp append_assoc in
    ap length e ∙ length-append (before_ranges t) ((ranges_form any_length).write t.ranges)

-- ---- the ways it ends

module _ {s : Bytes} {v : View} (n : Seen s v) (id bs : Bytes) where
  pub range_refused : (length id ≡ id_size → ⊥) → Served s (on (track_range id bs)) 2 0 s
  range_refused h = refuse s n.state (track_range id bs) (seen_load n) malformed (range_malformed base n.state id bs (inl h))

  module _ (h : length id ≡ id_size) where
    pub range_bad : (e : Refusal) → Err e ≡ judged (bounds_of bs) → Served s (on (track_range id bs)) (refusal_number e) 0 s
    range_bad e q =
        bad_range
        (λ x. Served s (on (track_range id bs)) (refusal_number x) 0 s)
        (bounds_of bs)
        e
        q
        (λ m. refuse s n.state (track_range id bs) (seen_load n) malformed (range_malformed base n.state id bs (inr m)))
        (λ r i l. refuse s n.state (track_range id bs) (seen_load n) longKey (range_long base n.state id bs h r i l))
        (λ r i l x. refuse s n.state (track_range id bs) (seen_load n) emptyRange (range_empty base n.state id bs h r i l x))

    module _ {k : ℕ} (g : Ok k ≡ judged (bounds_of bs)) where
      good : Good (bounds_of bs) k
      good = good_range (bounds_of bs) k g

      abbrev r : Range
      r = good.r

      tracks : answer base n.state (track_range id bs) ≡ track base n.state id (add_range r)
      tracks = range_track base n.state id bs h r good.is good.short good.full

      pub range_absent : {p : ℕ} → Found s v.middle v.active id (Err p) → Served s (on (track_range id bs)) 1 0 s
      range_absent f = look_absent s n.state (track_range id bs) (seen_load n) 0 (tracks ∙ track_absent base n.state id (add_range r) (not_found n f))

      module _ {p : Span} (f : Found s v.middle v.active id (Ok p)) where
        abbrev one : Txn
        one = (here n f).one

        module _ {space : Space} (lm : v.marks + space.marks ≡ base.marks) (lb : v.bytes + space.bytes ≡ base.bytes) where
          pub range_full : Lacks space k → Served s (on (track_range id bs)) 6 0 s
          range_full w =
              refuse s n.state (track_range id bs) (seen_load n) full
              (tracks ∙ track_full base n.state id (add_range r) one (add_range r one) 1 (range_bytes r) (found n f) refl refl (one_mark r one) (its_bytes r one) (seen_held n).kept (passed w.either))
            where
              passed : (space.marks ≡ 0) ⊎ (space.bytes < k) → (base.marks < marks n.state + 1) ⊎ (base.bytes < key_bytes n.state + range_bytes r)
              passed (inl x) = inl (omega (arith, x, n.marks))
              passed (inr x) = inr (omega (arith, x, n.bytes, good.size))

          module _ (small : (i : ℕ) → get_or bs i 0 < 256) {rest : Space} (m : Spent space k rest) where
            written : bs ≡ (range_form any_length).write r
            written = bounds_record any_length bs r small good.is

            fits : v.used + length bs ≤ room_size base
            fits = omega (arith, ap length written, range_length any_length r, space_left n, lm, lb, m, good.size)

            pub appendable : Appendable s v.used p bs
            appendable =
                record {
                  one = one;
                  fills = (here n f).fills;
                  within = (row_inside (txn_form any_length) s p.to (here n f).back v.used (here n f).after).0;
                  space = omega (arith, fits, n.size);
                }

            pub range_done : {s' : Bytes} → Appended s v.used p bs s' → Served s (on (track_range id bs)) 0 1 s'
            range_done {s'} a = ends (a.is one (here n f).fills)
              where
                ends : AppendedTo s v.used p.to bs s' one → Served s (on (track_range id bs)) 0 1 s'
                ends o =
                    let t' : Txn = add_range r one in
                    let e = track_done base n.state id (add_range r) one t' 1 (range_bytes r) (found n f) refl refl (one_mark r one) (its_bytes r one) (seen_held n).kept (omega (arith, n.marks, lm, m)) (omega (arith, n.bytes, lb, m, good.size)) in
                    let pe = fills_end (txn_form any_length) (here n f).fills in
                    let ee : p.to ≡ entries_at + (length (write_entries n.state.entries) + length (write_active (here n f).front)) + length ((txn_form any_length).write one) = omega (arith, pe, place n f) in
                    let ea : o.at ≡ entries_at + (length (write_entries n.state.entries) + length (write_active (here n f).front)) + length (before_ranges one) = omega (arith, ee, split_length one, fills_end (ranges_form any_length) o.ranges) in
                    let l = laid_range (here n f).front (here n f).back one r (laid n f) written ee ea o.spliced o.counted fits in
                    change s s' n.state (with_txn t' n.state) (track_range id bs) (seen_load n) (changed n f t' refl l) 1 (tracks ∙ e)
