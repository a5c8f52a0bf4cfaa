-- Bounds: Rust's `Bound`, the two orders of document 01, and the keys that a bound admits.
use Rattle.std.specs.Prelude.{ℕ, ◌≡◌, ◌≢◌, Bool, true, false, List, Result, Ok, Err}
use mathlib.Core.Ordering.{Ordering, lt, eq, gt, swap, then}
use Rattle.keys.specs.Order.{order, is_less, not_more}
use Rattle.kinds.specs.declared.kind.Kind.{Kind}
use Rattle.kinds.specs.declared.kind.Kind.TheVariants.{Unbounded, Included, Excluded}
use Rattle.kinds.specs.declared.kind.UnknownTag.{UnknownTag}

-- Rust's page on `Bound`, "An endpoint of a range of keys": an inclusive bound, an exclusive bound, an infinite endpoint
pub data Bound : Type 0 where
  unbounded : Bound
  included : List ℕ → Bound
  excluded : List ℕ → Bound

-- "a kind, with the key's place beside it"; what stands beside an unbounded kind says nothing
abbrev pub bound : Kind → List ℕ → Bound
bound Unbounded k = unbounded
bound Included k = included k
bound Excluded k = excluded k

-- "tag 10 unbounded (length 0), 11 included, 12 excluded"
abbrev pub bound_tag : Kind → ℕ
bound_tag Unbounded = 0x10
bound_tag Included = 0x11
bound_tag Excluded = 0x12

-- no kind has this tag
pub record NoKind (tag : ℕ) : Type 0 where
  pub not_unbounded : tag ≢ bound_tag Unbounded
  pub not_included : tag ≢ bound_tag Included
  pub not_excluded : tag ≢ bound_tag Excluded

-- a tag is read as the kind whose tag it is, and one that no kind has is handed back
abbrev pub TagRead : ℕ → Result Kind UnknownTag → Type 0
TagRead tag (Ok kind) = tag ≡ bound_tag kind
TagRead tag (Err e) = (e.0 ≡ tag) × NoKind tag

abbrev pub is_bounded : Kind → Bool
is_bounded Unbounded = false
is_bounded Included = true
is_bounded Excluded = true

-- a start's kind against another's at equal keys
abbrev pub tie : Kind → Kind → Ordering
tie Unbounded Unbounded = eq
tie Unbounded Included = lt
tie Unbounded Excluded = lt
tie Included Unbounded = gt
tie Included Included = eq
tie Included Excluded = lt
tie Excluded Unbounded = gt
tie Excluded Included = gt
tie Excluded Excluded = eq

-- "Starts: unbounded is least; at equal keys included comes before excluded."
abbrev pub start_order : Bound → Bound → Ordering
start_order unbounded unbounded = eq
start_order unbounded (included b) = lt
start_order unbounded (excluded b) = lt
start_order (included a) unbounded = gt
start_order (excluded a) unbounded = gt
start_order (included a) (included b) = order a b
start_order (excluded a) (excluded b) = order a b
start_order (included a) (excluded b) = then (order a b) lt
start_order (excluded a) (included b) = then (order a b) gt

-- "Ends: unbounded is greatest; at equal keys excluded comes before included."
abbrev pub end_order : Bound → Bound → Ordering
end_order unbounded unbounded = eq
end_order unbounded (included b) = gt
end_order unbounded (excluded b) = gt
end_order (included a) unbounded = lt
end_order (excluded a) unbounded = lt
end_order (included a) (included b) = order a b
end_order (excluded a) (excluded b) = order a b
end_order (included a) (excluded b) = then (order a b) gt
end_order (excluded a) (included b) = then (order a b) lt

-- either order, by whether the bounds are starts
abbrev pub bound_order : Bool → Bound → Bound → Ordering
bound_order true a b = start_order a b
bound_order false a b = end_order a b

-- an end's tie is the negated start's tie
abbrev pub tie_of : Bool → Kind → Kind → Ordering
tie_of true k l = tie k l
tie_of false k l = swap (tie k l)

-- Rust's page on `RangeBounds::contains`: included(start) is start <= item, excluded(start) is start < item, unbounded
-- is true; included(end) is item <= end, excluded(end) is item < end, unbounded is true
abbrev pub start_admits : Bound → List ℕ → Bool
start_admits unbounded k = true
start_admits (included b) k = not_more (order b k)
start_admits (excluded b) k = is_less (order b k)

abbrev pub end_admits : Bound → List ℕ → Bool
end_admits unbounded k = true
end_admits (included b) k = not_more (order k b)
end_admits (excluded b) k = is_less (order k b)
