-- The verdict on bounds, from the places of their keys.
use Prim.Native.Nat.{ℕ, ◌+◌, ◌-◌, ◌≤◌, ◌<◌}
use mathlib.Core.Path.{◌≡◌, sym, ap, ◌∙◌}
use mathlib.Core.Bool.{Bool, true, false, cond, and-eq-true_iff}
use mathlib.Core.Logic.{◌⊎◌, inl, inr}
use native.Mathlib.Omega.{arith}
use borrow.Author.Tests.{le-leb, leb-true}
use lib.Dec.{leb}
use lib.ListN.{length, take, drop, get_or}
use lib.Seq.{slice, length-slice}
use Rattle.std.specs.Prelude.{Ok, Err}
use Rattle.keys.specs.Limit.{key_limit}
use Rattle.kinds.specs.Bounds.{bound}
use Rattle.kinds.specs.declared.kind.Kind.{Kind}
use Rattle.kinds.specs.declared.kind.Kind.TheVariants.{Unbounded, Included, Excluded}
use Rattle.bounds.specs.declared.comparable_range.ComparableRange.{ComparableRange}
use Rattle.bounds.specs.Ranges.{Range, range, range_of, not_empty}
use Rattle.ranges.specs.Made.{key_of}
use Rattle.fields.specs.declared.BoundPlaces.{BoundPlaces}
use Rattle.fields.specs.Fields.{bounds_of}
use Rattle.fields.specs.Forms.{BoundsAt}
use Rattle.machine.specs.State.{Bytes, range_bytes}
use Rattle.machine.specs.Serve.{short_range}
use Rattle.moves.proofs.SpliceLaws.{drop_take}
use Rattle.layout.specs.Offsets.{mark_size, any_length}
use Rattle.layout.proofs.SizeLaws.{range_length}
use Rattle.answers.proofs.StateLaws.{not_true}
use Rattle.answers.specs.declared.Refusal.{Refusal}
use Rattle.tracks.specs.Ranges.{judged}
use Rattle.tracks.proofs.BoundsLaws.{bounds_record}

-- an unbounded kind has no key, whatever stands beside it
key_most : (k : Kind) (x : Bytes) → length (key_of (bound k x)) ≤ length x
key_most Unbounded x = omega arith
key_most Included x = omega arith
key_most Excluded x = omega arith

both_short : (n : ℕ) (r : Range) → length (key_of r.start) ≤ n → length (key_of r.end) ≤ n → short_range n r ≡ true
both_short n r a b = rw (le-leb _ _ a, le-leb _ _ b)

one_long : (n : ℕ) (r : Range) → (n < length (key_of r.start)) ⊎ (n < length (key_of r.end)) → short_range n r ≡ false
one_long n r h = not_true (short_range n r) (λ e. no h ((and-eq-true_iff (leb (length (key_of r.start)) n) (leb (length (key_of r.end)) n)).0 e))
  where
    no : (n < length (key_of r.start)) ⊎ (n < length (key_of r.end)) → (leb (length (key_of r.start)) n ≡ true) × (leb (length (key_of r.end)) n ≡ true) → ⊥
    no (inl a) e = omega (arith, a, leb-true (length (key_of r.start)) n e.0)
    no (inr a) e = omega (arith, a, leb-true (length (key_of r.end)) n e.1)

module _ {bs : Bytes} {p : BoundPlaces} (b : BoundsAt bs p) where
  -- where the keys stand
  pub record Within : Type 0 where
    pub start : p.start.key.from ≤ p.start.key.to
    pub middle : p.start.key.to ≤ p.end.key.from
    pub end : p.end.key.from ≤ p.end.key.to
    pub whole : p.end.key.to ≡ length bs

  pub keys_within : Within
  keys_within =
      record {
        start = omega (arith, b.start_ends);
        middle = omega (arith, b.end_begins);
        end = omega (arith, b.end_ends);
        whole = b.whole;
      }

  abbrev said : Range
  said = range (bound p.start.kind (slice p.start.key.from p.start.key.to bs)) (bound p.end.kind (slice p.end.key.from p.end.key.to bs))

  module _ (small : (i : ℕ) → get_or bs i 0 < 256) where
    sizes : (length (key_of said.start) ≡ p.start.key.to - p.start.key.from) × (length (key_of said.end) ≡ p.end.key.to - p.end.key.from)
    sizes =
        let l : length bs ≡ mark_size + range_bytes said = ap length (bounds_record any_length bs said small b.reads) ∙ range_length any_length said in
        let x = key_most p.start.kind (slice p.start.key.from p.start.key.to bs) in
        let y = key_most p.end.kind (slice p.end.key.from p.end.key.to bs) in
        let u = length-slice p.start.key.from p.start.key.to bs (omega (arith, keys_within)) in
        let v = length-slice p.end.key.from p.end.key.to bs (omega (arith, keys_within)) in
        (omega (arith, l, x, y, u, v, b.start_begins, b.end_begins, keys_within), omega (arith, l, x, y, u, v, b.start_begins, b.end_begins, keys_within))

    pub judged_long : (key_limit < p.start.key.to - p.start.key.from) ⊎ (key_limit < p.end.key.to - p.end.key.from) → Err Refusal.LongKey ≡ judged (bounds_of bs)
    judged_long h = sym (ap judged b.reads ∙ ap (λ (x : Bool). cond x (cond (not_empty said) (Ok (range_bytes said)) (Err Refusal.EmptyRange)) (Err Refusal.LongKey)) (one_long key_limit said (long h)))
      where
        long : (key_limit < p.start.key.to - p.start.key.from) ⊎ (key_limit < p.end.key.to - p.end.key.from) → (key_limit < length (key_of said.start)) ⊎ (key_limit < length (key_of said.end))
        long (inl x) = inl (omega (arith, x, sizes))
        long (inr x) = inr (omega (arith, x, sizes))

    module _ (q : ComparableRange) (k : (q.start ≡ p.start.kind) × (q.end ≡ p.end.kind)) (hs : p.start.key.to - p.start.key.from ≤ key_limit) (he : p.end.key.to - p.end.key.from ≤ key_limit) where
      abbrev lent : Range
      lent = range_of q (take (p.start.key.to - p.start.key.from) (drop p.start.key.from bs)) (take (p.end.key.to - p.end.key.from) (drop p.end.key.from bs))

      lent_said : lent ≡ said
      lent_said = rw (k.0, k.1, drop_take p.start.key.from p.start.key.to bs, drop_take p.end.key.from p.end.key.to bs)

      short : judged (bounds_of bs) ≡ cond (not_empty said) (Ok (range_bytes said)) (Err Refusal.EmptyRange)
      short = ap judged b.reads ∙ ap (λ (x : Bool). cond x (cond (not_empty said) (Ok (range_bytes said)) (Err Refusal.EmptyRange)) (Err Refusal.LongKey)) (both_short key_limit said (omega (arith, sizes)) (omega (arith, sizes)))

      pub judged_good : not_empty lent ≡ true → Ok (p.start.key.to - p.start.key.from + (p.end.key.to - p.end.key.from)) ≡ judged (bounds_of bs)
      judged_good e =
          let n : range_bytes said ≡ p.start.key.to - p.start.key.from + (p.end.key.to - p.end.key.from) = omega (arith, sizes) in
          sym (short ∙ ap (λ (x : Bool). cond x (Ok (range_bytes said)) (Err Refusal.EmptyRange)) (ap not_empty (sym lent_said) ∙ e) ∙ ap Ok n)

      pub judged_empty : not_empty lent ≡ false → Err Refusal.EmptyRange ≡ judged (bounds_of bs)
      judged_empty e = sym (short ∙ ap (λ (x : Bool). cond x (Ok (range_bytes said)) (Err Refusal.EmptyRange)) (ap not_empty (sym lent_said) ∙ e))
