-- Keys and bounds where they stand: what the bytes there say of them.
use Prim.Native.Nat.{ℕ, ◌+◌, ◌-◌, ◌≤◌, ◌<◌}
use mathlib.Core.Path.{◌≡◌, refl, sym, ap, ap₂, ◌∙◌}
use mathlib.Core.Bool.{Bool}
use mathlib.Core.List.{List}
use native.Mathlib.Omega.{arith}
use lib.ListN.{length, get_or, take, drop}
use Rattle.std.specs.Prelude.{Result, Ok, Err, IsOk}
use Rattle.kinds.specs.Bounds.{Bound, bound, bound_tag, NoKind, TagRead}
use Rattle.kinds.specs.declared.kind.UnknownTag.{UnknownTag}
use Rattle.bounds.specs.Ranges.{Range, range, range_of, holds}
use Rattle.bounds.specs.declared.comparable_range.ComparableRange.{ComparableRange}
use Rattle.kinds.specs.declared.kind.Kind.{Kind}
use Rattle.kinds.specs.declared.kind.Kind.TheVariants.{Unbounded, Included, Excluded}
use Rattle.ranges.specs.Made.{key_of, kind_of}
use Rattle.machine.specs.State.{Bytes}
use Rattle.machine.specs.Sets.{equal}
use Rattle.layout.specs.Offsets.{length_size, tag_size, bound_key_at, any_length}
use Rattle.codec.proofs.NumberLaws.{stands_number}
use Rattle.ranges.proofs.MadeLaws.{bound_back}
use Rattle.moves.proofs.SpliceLaws.{drop_take}
use Rattle.layout.specs.Keys.{key_form, bound_form, range_form}
use Rattle.layout.specs.Rows.{Fills, Here, Ends}
use Rattle.layout.proofs.FillLaws.{number_read_is}
use Rattle.layout.proofs.OpenLaws.{open_key, open_bound, open_range}
use Rattle.places.specs.declared.cursor.Cursor.{Cursor}
use Rattle.places.specs.Cursors.{KindAt, IsKey, Holds}

module _ (s : List ℕ) (at : ℕ) where
  -- a key, as the part of the room that is lent
  pub key_ends : (r : ℕ) → Here (key_form any_length) s at → Ends (key_form any_length) s at r → (at + length_size ≤ r) × (r ≤ length s)
  key_ends r h n =
      let k = open_key any_length h.fills in
      let e = n.is h.val h.end h.fills in
      (omega (arith, k.ends), omega (arith, k.inside))

  pub key_room : Here (key_form any_length) s at → at + length_size ≤ length s
  key_room h = (open_key any_length h.fills).length_at.inside

  pub key_part : (r : ℕ) (m : Bytes) (e : ℕ) → Ends (key_form any_length) s at r → Fills (key_form any_length) s at m e → take (r - (at + length_size)) (drop (at + length_size) s) ≡ m
  key_part r m e n p = sym (drop_take (at + length_size) r s) ∙ rw (n.is m e p) (open_key any_length p).bytes

  -- a bound
  pub bound_ends : (r : ℕ) → Here (bound_form any_length) s at → Ends (bound_form any_length) s at r → (at + bound_key_at ≤ r) × (r ≤ length s)
  bound_ends r h n =
      let k = open_key _ (open_bound any_length h.fills).key in
      let e = n.is h.val h.end h.fills in
      (omega (arith, k.ends), omega (arith, k.inside))

  pub bound_room : Here (bound_form any_length) s at → at < length s
  bound_room h =
      let k = open_key _ (open_bound any_length h.fills).key in
      omega (arith, k.ends, k.inside)

  bound_key : (r : ℕ) (b : Bound) (e : ℕ) → Ends (bound_form any_length) s at r → Fills (bound_form any_length) s at b e → take (r - (at + bound_key_at)) (drop (at + bound_key_at) s) ≡ key_of b
  bound_key r b e n p =
      let from : at + bound_key_at ≡ at + tag_size + length_size = omega arith in
      sym (drop_take (at + bound_key_at) r s) ∙ rw (n.is b e p, from) (open_key _ (open_bound any_length p).key).bytes

pub is_key : (s : List ℕ) (c : Cursor) (r : ℕ) (k : Bytes) (b : Bool) → Ends (key_form any_length) s c.at r → b ≡ equal k (take (r - (c.at + length_size)) (drop (c.at + length_size) s)) → IsKey s c k b
is_key s c r k b n h = record { is = λ m e p. h ∙ ap (equal k) (key_part s c.at r m e n p) }

-- the tag of a bound is one of the three, and tells its kind
tag_is : (s : List ℕ) (at : ℕ) (b : Bound) (e : ℕ) → ((i : ℕ) → get_or s i 0 < 256) → Fills (bound_form any_length) s at b e → get_or s at 0 ≡ bound_tag (kind_of b)
tag_is s at b e small p = let o = open_bound any_length p in number_read_is tag_size o.tag_at (stands_number tag_size s at _ o.tag_at.inside small refl)

one_kind : (a b : Kind) → bound_tag a ≡ bound_tag b → a ≡ b
one_kind Unbounded Unbounded e = refl
one_kind Unbounded Included e = absurd (omega arith)
one_kind Unbounded Excluded e = absurd (omega arith)
one_kind Included Unbounded e = absurd (omega arith)
one_kind Included Included e = refl
one_kind Included Excluded e = absurd (omega arith)
one_kind Excluded Unbounded e = absurd (omega arith)
one_kind Excluded Included e = absurd (omega arith)
one_kind Excluded Excluded e = refl

no_kind : (k : Kind) {t : ℕ} → NoKind t → t ≡ bound_tag k → ⊥
no_kind Unbounded n e = n.not_unbounded e
no_kind Included n e = n.not_included e
no_kind Excluded n e = n.not_excluded e

module _ (s : List ℕ) (at : ℕ) (small : (i : ℕ) → get_or s i 0 < 256) where
  pub kind_read : (r : Result Kind UnknownTag) → Here (bound_form any_length) s at → TagRead (get_or s at 0) r → IsOk r
  kind_read (Ok k) h t = refl
  kind_read (Err u) h t = absurd (no_kind (kind_of h.val) t.1 (tag_is s at h.val h.end small h.fills))

  pub kind_is : (r : Result Kind UnknownTag) (k : Kind) → TagRead (get_or s at 0) r → r ≡ Ok k → KindAt s at k
  kind_is r k t e = record { is = λ b f p. one_kind k (kind_of b) (sym (rw e at t) ∙ tag_is s at b f small p) }

-- the two bounds of a range
module _ (s : List ℕ) (at : ℕ) where
  pub start_here : Here (range_form any_length) s at → Here (bound_form any_length) s at
  start_here h = let o = open_range any_length h.fills in record { val = h.val.start; end = o.middle; fills = o.start }

  pub end_here : (m : ℕ) → Here (range_form any_length) s at → Ends (bound_form any_length) s at m → Here (bound_form any_length) s m
  end_here m h n = let o = open_range any_length h.fills in record { val = h.val.end; end = h.end; fills = rw (n.is _ _ o.start) o.end }

  -- both keys lie in the room, behind their tags and lengths
  pub record Spans (m r : ℕ) : Type 0 where
    pub start : at + bound_key_at ≤ m
    pub end : m + bound_key_at ≤ r
    pub inside : r ≤ length s

  pub spans : (m r : ℕ) → Here (range_form any_length) s at → Ends (bound_form any_length) s at m → Ends (bound_form any_length) s m r → Spans m r
  spans m r h one two =
      let a = bound_ends s at m (start_here h) one in
      let b = bound_ends s m r (end_here m h one) two in
      record { start = a.0; end = b.0; inside = b.1 }

module _ (s : List ℕ) (c : Cursor) where
  pub in_range : (m r : ℕ) (k : Bytes) (p : ComparableRange) (ks ke : Kind) (b : Bool) → Ends (bound_form any_length) s c.at m → Ends (bound_form any_length) s m r
      → KindAt s c.at ks → KindAt s m ke → (p.start ≡ ks) × (p.end ≡ ke)
      → b ≡ holds (range_of p (take (m - (c.at + bound_key_at)) (drop (c.at + bound_key_at) s)) (take (r - (m + bound_key_at)) (drop (m + bound_key_at) s))) k → Holds s c k b
  in_range m r k p ks ke b one two a z f h = record { is = held }
    where
      held : (g : Range) (e : ℕ) → Fills (range_form any_length) s c.at g e → b ≡ holds g k
      held g e q =
          let o = open_range any_length q in
          let end : Fills (bound_form any_length) s m g.end e = rw (one.is _ _ o.start) o.end in
          let x = ap₂ bound (f.0 ∙ a.is _ _ o.start) (bound_key s c.at m g.start o.middle one o.start) ∙ bound_back g.start in
          let y = ap₂ bound (f.1 ∙ z.is _ _ end) (bound_key s m r g.end e two end) ∙ bound_back g.end in
          h ∙ ap₂ (λ (u v : Bound). holds (range u v) k) x y
