-- Made keys as bytes, and the three ways of a bound with a made key.
use Prim.Native.Nat.{ℕ, zero, suc, ◌+◌, ◌-◌, ◌≤◌, ◌<◌}
use mathlib.Core.Path.{◌≡◌, refl, sym, ap, ◌∙◌}
use mathlib.Core.Bool.{true}
use mathlib.Core.List.{List, [], ◌++◌}
use native.Mathlib.Omega.{arith}
use native.Mathlib.Numerals.{unary_clauses}
use borrow.Author.Tests.{le-ltb}
use lib.ListN.{length, get_or, get_or-append, take, drop, set, replicate, length-append, length-replicate, length-set}
use lib.Seq.{paste, take-append_seam, take-length, drop-append-add, set-append_left}
use Rattle.keys.specs.Limit.{key_limit}
use Rattle.kinds.specs.declared.kind.Kind.{Kind}
use Rattle.kinds.specs.declared.kind.Kind.TheVariants.{Unbounded, Included, Excluded}
use Rattle.kinds.specs.Bounds.{Bound, unbounded, included, excluded, bound, is_bounded}
use Rattle.std.specs.Prelude.{Ok}
use Rattle.ranges.specs.declared.made.MadeBound.{MadeBound}
use Rattle.ranges.specs.Made.{kind_of, key_of, padded, made_of, made_bound}

drop_replicate : (n m : ℕ) → drop {A = ℕ} n (replicate m 0) ≡ replicate (m - n) 0
drop_replicate zero m = simp unary_clauses
drop_replicate (suc n) zero = let e : 0 - suc n ≡ 0 = omega arith in rw e
drop_replicate (suc n) (suc m) = simp unary_clauses (drop_replicate n m)

-- more bytes after a made key make a longer one
pub put_after : (k s : List ℕ) → length k + length s ≤ key_limit → paste (padded k) (length k) s (length s) ≡ padded (k ++ s)
unfolding padded
put_after k s h =
    let e : key_limit - length k - length s ≡ key_limit - length (k ++ s) = omega (arith, length-append k s) in
    rw (take-append_seam k, take-length s, drop-append-add k, drop_replicate (length s) (key_limit - length k), e)

-- a byte of a made key changed
pub put_within : (k : List ℕ) (i v : ℕ) → i < length k → set (padded k) i v ≡ padded (set k i v)
unfolding padded
put_within k i v h = rw (set-append_left k _ i v h, length-set)

pub get_padded : (k : List ℕ) (i : ℕ) → i < length k → get_or (padded k) i 0 ≡ get_or k i 0
unfolding padded
get_padded k i h = get_or-append k _ 0 i h

pub take_padded : (k : List ℕ) → take (length k) (padded k) ≡ k
unfolding padded
take_padded k = take-append_seam k _

pub length_padded : (k : List ℕ) → length k ≤ key_limit → length (padded k) ≡ key_limit
unfolding padded
length_padded k h = simp (length-append, length-replicate) (omega arith)

-- a bound with a made key within the limit
pub made_short : (k : Kind) (x : List ℕ) → is_bounded k ≡ true → length x ≤ key_limit → Ok (made_of (bound k x)) ≡ made_bound (bound k x)
made_short Unbounded x e h = cc
made_short Included x e h = rw (le-ltb key_limit (length x) h)
made_short Excluded x e h = rw (le-ltb key_limit (length x) h)

-- a made bound as the struct that code fills
abbrev pub filled : Kind → ℕ → List ℕ → MadeBound
filled k n z = record { kind = k; len = n; bytes = z }

pub bytes_of : (k : Kind) (x : List ℕ) → is_bounded k ≡ true → filled k (length x) (padded x) ≡ made_of (bound k x)
unfolding made_of
bytes_of Unbounded x e = cc
bytes_of Included x e = refl
bytes_of Excluded x e = refl

pub front_bytes : (p : List ℕ) {y z : List ℕ} → length p ≤ key_limit → y ≡ padded [] → z ≡ paste y 0 p (length p) → z ≡ padded p
front_bytes p h hy hz = hz ∙ ap (λ w. paste w 0 p (length p)) hy ∙ put_after [] p (omega arith)

pub joined_bytes : (k : Kind) (p s : List ℕ) {y z : List ℕ} → is_bounded k ≡ true → length p + length s ≤ key_limit → y ≡ padded p → z ≡ paste y (length p) s (length s) → Ok (filled k (length p + length s) z) ≡ made_bound (bound k (p ++ s))
joined_bytes k p s e h hy hz =
    let b = hz ∙ ap (λ w. paste w (length p) s (length s)) hy ∙ put_after p s h in
    let n = sym (length-append p s) in
    ap Ok ((λ i. filled k (n i) (b i)) ∙ bytes_of k (p ++ s) e) ∙ made_short k (p ++ s) e (omega (arith, length-append p s))

-- a bound is its kind with its key
pub bound_back : (b : Bound) → bound (kind_of b) (key_of b) ≡ b
bound_back unbounded = refl
bound_back (included k) = refl
bound_back (excluded k) = refl
