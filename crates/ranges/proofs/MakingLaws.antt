-- The bytes of an increment, and the answers of `new` by what code tested.
use Prim.Native.Nat.{ℕ, ◌+◌, ◌-◌, ◌<◌}
use mathlib.Core.Path.{◌≡◌, refl, sym, ap, ◌∙◌}
use mathlib.Core.Bool.{Bool, cond, ◌||◌}
use mathlib.Core.List.{List}
use native.Mathlib.Omega.{arith}
use lib.ListN.{length, get_or, set, length-set}
use Rattle.kinds.specs.declared.kind.Kind.{Kind}
use Rattle.kinds.specs.declared.kind.Kind.TheVariants.{Unbounded, Included, Excluded}
use Rattle.kinds.specs.Bounds.{bound}
use Rattle.bounds.specs.Ranges.{Range, not_empty}
use Rattle.ranges.specs.declared.made.RangeError.TheVariants.{LongKey, EmptyRange}
use Rattle.std.specs.Prelude.{Ok, Err}
use Rattle.ranges.specs.Made.{kind_of, too_long, padded, made_of}
use Rattle.ranges.proofs.MadeLaws.{filled, bytes_of, put_within, get_padded}
use Rattle.ranges.specs.Making.{kinds_of, new_of}
use Rattle.ranges.specs.Prefixes.{increment, end_at}
use Rattle.ranges.proofs.IncrementLaws.{increment_here}

pub raised_bytes : (p : List ℕ) {z : List ℕ} → 0 < length p → get_or p (length p - 1) 0 < 255 → z ≡ padded p → filled Excluded (length p) (set z (length p - 1) (get_or z (length p - 1) 0 + 1)) ≡ made_of (end_at (increment p))
raised_bytes p h l hz =
    let k = length p - 1 in
    let v = get_or p k 0 + 1 in
    let b = (λ i. set (hz i) k (get_or (hz i) k 0 + 1)) ∙ ap (λ u. set (padded p) k (u + 1)) (get_padded p k (omega arith)) ∙ put_within p k v (omega arith) in
    let n = sym (length-set p k v) in
    (λ i. filled Excluded (n i) (b i)) ∙ bytes_of Excluded (set p k v) refl ∙ ap (λ o. made_of (end_at o)) (sym (increment_here p h (λ e. omega arith)))

pub kind_back : (k : Kind) (x : List ℕ) → k ≡ kind_of (bound k x)
kind_back Unbounded x = refl
kind_back Included x = refl
kind_back Excluded x = refl

-- an answer of `new` by its three tests
pub new_by : (r : Range) {a b t : Bool} → too_long r.start ≡ a → too_long r.end ≡ b → not_empty r ≡ t → cond (a || b) (Err LongKey) (cond t (Ok (kinds_of r)) (Err EmptyRange)) ≡ new_of r
unfolding new_of
new_by r ha hb ht = sym (λ i. cond (ha i || hb i) (Err LongKey) (cond (ht i) (Ok (kinds_of r)) (Err EmptyRange)))
