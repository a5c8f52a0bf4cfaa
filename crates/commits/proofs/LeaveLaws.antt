-- The writes of a transaction that leaves become an entry.
use Prim.Native.Nat.{ℕ, ◌+◌, ◌-◌, ◌≤◌}
use mathlib.Core.Path.{◌≡◌, sym, ap, ◌∙◌, subst}
use mathlib.Core.List.{List, [], ◌++◌}
use native.Mathlib.Nat.{le_refl}
use native.Mathlib.Omega.{arith}
use lib.ListN.{length, take, drop, length-drop}
use lib.Seq.{paste, length-paste, take_all, take_at, length-take-le}
use Rattle.machine.specs.State.{Txn}
use Rattle.codec.specs.Formats.{number}
use Rattle.moves.specs.Splices.{Spliced}
use Rattle.moves.proofs.SpliceLaws.{drop_take}
use Rattle.layout.specs.Offsets.{number_size, writes_at, any_length}
use Rattle.layout.specs.Keys.{set_form}
use Rattle.layout.specs.Records.{txn_form}
use Rattle.layout.specs.Rows.{Fills, Ends}
use Rattle.layout.proofs.FillLaws.{fills_end, fills_slice}
use Rattle.layout.proofs.OpenLaws.{open_txn}
use Rattle.tracks.specs.Drafts.{set_size}
use Rattle.commits.specs.Commits.{Leaving, Entered}

-- where the writes stand
writes_fills : {s : List ℕ} {at end past : ℕ} (t : Txn) → Fills (txn_form any_length) s at t end → Ends (set_form any_length) s (at + writes_at) past → Fills (set_form any_length) s (at + writes_at) t.writes past
writes_fills {s} {at} t p x = let o = open_txn any_length p in subst (Fills (set_form any_length) s (at + writes_at) t.writes) (sym (x.is t.writes o.writes_end o.writes)) o.writes

pub record Span (s : List ℕ) (used middle at end past : ℕ) : Type 0 where
  pub after : middle ≤ at
  pub from : at + writes_at ≤ past
  pub to : past ≤ end
  pub within : end ≤ used
  pub inside : past ≤ length s
  pub room : used ≤ length s
  pub short : past - (at + writes_at) ≤ set_size

pub writes_span : {s : List ℕ} {used middle at end past : ℕ} → Leaving s used middle at end → Ends (set_form any_length) s (at + writes_at) past → Span s used middle at end past
writes_span l x =
    let p = writes_fills l.one l.fills x in
    let o = open_txn any_length l.fills in
    let e = x.is l.one.writes o.writes_end o.writes in
    record {
      after = l.after;
      from = p.from;
      to = omega (arith, e, o.reads.from, o.ranges.from);
      within = l.within;
      inside = p.inside;
      room = l.inside;
      short = omega (arith, fills_end (set_form any_length) p, l.short);
    }

module _ {s : List ℕ} {used middle at end past : ℕ} (w : Span s used middle at end past) (d : List ℕ) (long : length d ≡ set_size) where
  -- the writes as they are copied
  abbrev pub copy : List ℕ
  copy = take (past - (at + writes_at)) (drop (at + writes_at) s)

  copy_length : length copy ≡ past - (at + writes_at)
  copy_length = length-take-le (past - (at + writes_at)) (drop (at + writes_at) s) (rw length-drop (omega (arith, w.from, w.inside)))

  pub copy_fits : 0 + length copy ≤ length d
  copy_fits = omega (arith, copy_length, long, w.short)

  module _ {a : List ℕ} (e : a ≡ paste d 0 copy (length copy)) where
    pub copied_fits : past - (at + writes_at) ≤ length a
    copied_fits = omega (arith, w.short, long, ap length e, length-paste d 0 copy (length copy) copy_fits (le_refl _))

    pub entry_fits : {s1 : List ℕ} → Spliced s used at (end - at) [] s1 → (middle ≤ used - (end - at)) × (used - (end - at) + (number_size + length (take (past - (at + writes_at)) a)) ≤ length s1)
    entry_fits x =
        let n : length (take (past - (at + writes_at)) a) ≡ past - (at + writes_at) = length-take-le (past - (at + writes_at)) a (omega (arith, copied_fits)) in
        (omega (arith, w.after, w.from, w.to, w.within), omega (arith, n, x.size, w.from, w.to, w.within, w.room))

-- a copy at the front of a draft
front_of : (d a x : List ℕ) (n : ℕ) → a ≡ paste d 0 x (length x) → length x ≡ n → take n a ≡ x
front_of d a x n e l =
    let f : take (length x) x ≡ x = take_all (length x) x (omega arith) in
    ap (take n) (e ∙ ap (λ (y : List ℕ). y ++ drop (0 + length x) d) f) ∙ take_at x (drop (0 + length x) d) n l

pub entered : {s s1 s2 a : List ℕ} {used middle at end seq : ℕ} (past : ℕ) (d : List ℕ) → Ends (set_form any_length) s (at + writes_at) past → a ≡ paste d 0 (take (past - (at + writes_at)) (drop (at + writes_at) s)) (length (take (past - (at + writes_at)) (drop (at + writes_at) s)))
    → Spliced s used at (end - at) [] s1 → Spliced s1 (used - (end - at)) middle 0 ((number number_size).write seq ++ take (past - (at + writes_at)) a) s2 → Entered s used middle at end seq s2
entered {s} {s1} {s2} {a} {used} {middle} {at} {end} {seq} past d x e y z =
    record {
      is = λ t p. record { rest = s1; leaves = y; enters = subst (λ (k : List ℕ). Spliced s1 (used - (end - at)) middle 0 ((number number_size).write seq ++ k) s2) (copied t (writes_fills t p x)) z };
    }
  where
    copied : (t : Txn) → Fills (set_form any_length) s (at + writes_at) t.writes past → take (past - (at + writes_at)) a ≡ (set_form any_length).write t.writes
    copied t p =
        let b : take (past - (at + writes_at)) (drop (at + writes_at) s) ≡ (set_form any_length).write t.writes = sym (drop_take (at + writes_at) past s) ∙ fills_slice (set_form any_length) p in
        let l : length (take (past - (at + writes_at)) (drop (at + writes_at) s)) ≡ past - (at + writes_at) = ap length b ∙ omega (arith, fills_end (set_form any_length) p) in
        front_of d a (take (past - (at + writes_at)) (drop (at + writes_at) s)) (past - (at + writes_at)) e l ∙ b
