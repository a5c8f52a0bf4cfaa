-- A bound stands where its tag and its key do, a range where two bounds do that are not empty together; for any key limit.
use Rattle.std.specs.Prelude.{Some, None, Result, Ok, Err}
use Rattle.std.specs.Result.{result_ok}
use Rattle.std.proofs.lemmas.Option.{same_Some}
use mir.Syntax.{w8}
use mir.Val.{Fits}
use Prim.Native.Nat.{ℕ, ◌+◌, ◌-◌, ◌≤◌, ◌<◌}
use mathlib.Core.Path.{◌≡◌, refl, sym, ap, ap₂, ◌∙◌}
use mathlib.Core.Bool.{Bool, true, false}
use mathlib.Core.List.{List}
use native.Mathlib.Omega.{arith}
use borrow.Author.Tests.{ne_eqb}
use lib.ListN.{length, drop, get_or, length-drop}
use lib.Seq.{length-take-le}
use Rattle.kinds.specs.Bounds.{included, excluded, bound, bound_tag, NoKind, TagRead}
use Rattle.kinds.specs.declared.kind.UnknownTag.{UnknownTag}
use Rattle.kinds.specs.declared.kind.Kind.{Kind}
use Rattle.kinds.specs.declared.kind.Kind.TheVariants.{Unbounded, Included, Excluded}
use Rattle.ranges.specs.Made.{key_of}
use Rattle.bounds.specs.declared.comparable_range.ComparableRange.{ComparableRange}
use Rattle.bounds.specs.Ranges.{Range, range, range_of, not_empty, not_empty_pair}
use Rattle.machine.specs.State.{Bytes}
use Rattle.codec.specs.Codec.{item}
use Rattle.codec.specs.Formats.{number, bind, only, via}
use Rattle.codec.specs.Stands.{Stands}
use Rattle.codec.proofs.NumberLaws.{stands_number}
use Rattle.layout.specs.Offsets.{length_size, tag_size, bound_key_at}
use Rattle.layout.specs.Keys.{key_form, bound_form, pair_form, range_form}
use Rattle.layout.proofs.OpenLaws.{open_key}
use Rattle.room.specs.declared.tally.Tally.{Tally}
use Rattle.room.specs.Counts.{a_key, a_range}
use Rattle.room.specs.Walks.{Got, Missing, between}
use Rattle.room.specs.Links.{key_labelled}
use Rattle.room.specs.BoundWalks.{BoundEnds, longest_key}
use Rattle.room.proofs.KeyLaws.{number_short}

-- ---- bounds

pub tag_of : {tag : ℕ} {k : Kind} (r : Result Kind UnknownTag) → TagRead tag r → result_ok r ≡ Some k → tag ≡ bound_tag k
tag_of (Ok l) t e = t ∙ ap bound_tag (same_Some _ _ e)
tag_of {tag} {k} (Err u) t e = absurd (let z : ◌≡◌ {A = ℕ} 0 1 = cc in omega arith)

pub tag_of_none : {tag : ℕ} (r : Result Kind UnknownTag) → TagRead tag r → result_ok r ≡ None → NoKind tag
tag_of_none (Ok l) t e = absurd (let z : ◌≡◌ {A = ℕ} 0 1 = cc in omega arith)
tag_of_none (Err u) t e = t.1

module _ (limit : ℕ) (s : List ℕ) (at : ℕ) where
  pub bound_short : length s - at < tag_size → Missing (bound_form limit) s at
  unfolding bound_form via bind only
  bound_short h = record { reads = rw (number_short tag_size s at h) }

  module _ (h : at + tag_size ≤ length s) (small : (i : ℕ) → Fits w8 (get_or s i 0)) where
    tag_stands : (tag : ℕ) → get_or s at 0 ≡ tag → Stands (number tag_size) s at tag (at + tag_size)
    tag_stands tag e = stands_number tag_size s at tag h (λ i. omega (arith, small i)) (sym e)

    pub tag_unknown : NoKind (get_or s at 0) → Missing (bound_form limit) s at
    unfolding bound_form via bind only
    tag_unknown n =
        let tag = get_or s at 0 in
        record { reads = rw ((tag_stands tag refl).reads, ne_eqb tag (bound_tag Unbounded) n.not_unbounded, ne_eqb tag (bound_tag Included) n.not_included, ne_eqb tag (bound_tag Excluded) n.not_excluded) }

    -- the key behind a tag is missing
    pub key_missing : (k : Kind) → get_or s at 0 ≡ bound_tag k → Missing (key_form (longest_key limit k)) s (at + tag_size) → Missing (bound_form limit) s at
    unfolding bound_form via bind only
    key_missing Unbounded e m = record { reads = rw ((tag_stands (bound_tag Unbounded) e).reads, m.reads) }
    key_missing Included e m = record { reads = rw ((tag_stands (bound_tag Included) e).reads, m.reads) }
    key_missing Excluded e m = record { reads = rw ((tag_stands (bound_tag Excluded) e).reads, m.reads) }

    -- a key that stands is the bytes behind its length
    module _ (m : ℕ) {t : Tally} (g : Got (a_key m) s (at + tag_size) t) where
      key_is : g.val ≡ between s (at + bound_key_at) t.end
      key_is =
          let j : at + tag_size + length_size ≡ at + bound_key_at = omega arith in
          (key_labelled m s (at + tag_size) t.end g.val g.fills).1 ∙ ap (λ (p : ℕ). between s p t.end) j

      key_ends : (at + bound_key_at ≤ t.end) × (length (between s (at + bound_key_at) t.end) ≡ t.end - (at + bound_key_at))
      key_ends =
          let f : at + bound_key_at ≤ t.end = omega (arith, (key_labelled m s (at + tag_size) t.end g.val g.fills).0) in
          let i : t.end ≤ length s = g.fills.inside in
          (f, length-take-le (t.end - (at + bound_key_at)) (drop (at + bound_key_at) s) (rw (length-drop (at + bound_key_at) s) (omega arith)))

      key_stands : (k : Kind) → length (key_of (bound k (between s (at + bound_key_at) t.end))) ≡ t.end - (at + bound_key_at)
          → Stands (bound_form limit) s at (bound k (between s (at + bound_key_at) t.end)) t.end → BoundEnds limit s at k t.end
      key_stands k size r = record { fills = record { stands = r; from = omega (arith, g.fills.from); inside = g.fills.inside }; far = key_ends.0; size = size }

    -- the bound of a kind whose key stands
    pub key_behind : (k : Kind) → get_or s at 0 ≡ bound_tag k → {t : Tally} → Got (a_key (longest_key limit k)) s (at + tag_size) t → BoundEnds limit s at k t.end
    unfolding bound_form via bind only
    key_behind Unbounded e {t} g =
        let z = open_key 0 g.fills in
        key_stands _ g Unbounded (omega (arith, z.ends, z.short)) (record { reads = rw ((tag_stands (bound_tag Unbounded) e).reads, g.fills.stands.reads) })
    key_behind Included e {t} g =
        key_stands _ g Included (key_ends _ g).1 (record { reads = rw ((tag_stands (bound_tag Included) e).reads, g.fills.stands.reads) (ap (λ (k : Bytes). item (included k) (drop t.end s)) (key_is _ g)) })
    key_behind Excluded e {t} g =
        key_stands _ g Excluded (key_ends _ g).1 (record { reads = rw ((tag_stands (bound_tag Excluded) e).reads, g.fills.stands.reads) (ap (λ (k : Bytes). item (excluded k) (drop t.end s)) (key_is _ g)) })

-- ---- ranges

pub no_start : (limit : ℕ) {s : List ℕ} {at : ℕ} → Missing (bound_form limit) s at → Missing (range_form limit) s at
unfolding range_form pair_form only via bind
no_start limit h = record { reads = rw h.reads }

module _ (limit : ℕ) {s : List ℕ} {at m : ℕ} {k : Kind} (a : BoundEnds limit s at k m) where
  pub no_end : Missing (bound_form limit) s m → Missing (range_form limit) s at
  unfolding range_form pair_form only via bind
  no_end h = record { reads = rw (a.fills.stands.reads, h.reads) }

  module _ {e : ℕ} {l : Kind} (b : BoundEnds limit s m l e) where
    abbrev pub found : Range
    found = range (bound k (between s (at + bound_key_at) m)) (bound l (between s (m + bound_key_at) e))

    pub judged : (x : ComparableRange) (t : Bool) → (x.start ≡ k) × (x.end ≡ l) → not_empty (range_of x (between s (at + bound_key_at) m) (between s (m + bound_key_at) e)) ≡ t → not_empty found ≡ t
    judged x t n is = sym (ap₂ (λ (p q : Kind). not_empty_pair (bound p (between s (at + bound_key_at) m)) (bound q (between s (m + bound_key_at) e))) n.0 n.1) ∙ is

    pub range_empty : not_empty found ≡ false → Missing (range_form limit) s at
    unfolding range_form pair_form only via bind
    range_empty h = record { reads = rw (a.fills.stands.reads, b.fills.stands.reads, h) }

    pub range_got : not_empty found ≡ true → Got (a_range limit) s at (record { end = e; marks = 1; bytes = m - (at + bound_key_at) + (e - (m + bound_key_at)); high = 0 })
    unfolding range_form pair_form only via bind
    range_got h = record {
      val = found;
      fills = record { stands = record { reads = rw (a.fills.stands.reads, b.fills.stands.reads, h) }; from = omega (arith, a.far, b.far); inside = b.fills.inside };
      marks = refl;
      bytes = sym (ap₂ (λ (x y : ℕ). x + y) a.size b.size);
      high = refl;
      fits = omega (arith, a.far, b.far);
    }
