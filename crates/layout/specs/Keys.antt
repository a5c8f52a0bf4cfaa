-- Keys, sets and ranges as bytes.
use Rattle.std.specs.Prelude.{ℕ, ◌≤◌, ◌≡◌, refl, Bool, true, false, cond, ◌||◌, List, [], ◌∷◌, leb, eqb, length}
use Rattle.std.proofs.Common.{sym, ap, ap₂, arith, eqb-true, leb-true}
use Rattle.keys.specs.Order.{order, is_less}
use Rattle.kinds.specs.Bounds.{Bound, unbounded, included, excluded}
use Rattle.bounds.specs.Ranges.{Range, range, not_empty}
use Rattle.ranges.specs.Made.{key_of, kind_of}
use Rattle.kinds.specs.declared.kind.Kind.TheVariants.{Unbounded, Included, Excluded}
use Rattle.fields.specs.Forms.{bound_tag}
use Rattle.machine.specs.State.{Bytes}
use Rattle.codec.specs.Codec.{Codec}
use Rattle.codec.specs.Formats.{number, raw, bind, only, via, run}
use Rattle.layout.specs.Offsets.{count_size, length_size, tag_size}

-- a key of at most m bytes: its length, and its bytes
abbrev pub key_raw : ℕ → Codec (ℕ × Bytes)
key_raw m = bind (only (number length_size) (λ n. leb n m)) raw

pub key_same : (m : ℕ) (p : ℕ × Bytes) → (key_raw m).Ok p → (length p.1, p.1) ≡ p
unfolding bind raw
key_same m p o = ap (λ (n : ℕ). (n, p.1)) o.1

unfoldable pub key_form : ℕ → Codec Bytes
key_form m = via (key_raw m) (λ p. p.1) (λ k. (length k, k)) (λ b. refl) (key_same m)

-- a list of records: their count, and one after another
abbrev pub list_raw : {A : Type 0} → Codec A → (A → A → Bool) → Codec (ℕ × List A)
list_raw C before = bind (number count_size) (run C before)

pub list_same : {A : Type 0} (C : Codec A) (before : A → A → Bool) (p : ℕ × List A) → (list_raw C before).Ok p → (length p.1, p.1) ≡ p
unfolding bind run
list_same C before p o = ap (λ (n : ℕ). (n, p.1)) o.1.1

unfoldable pub list_form : {A : Type 0} → Codec A → (A → A → Bool) → Codec (List A)
list_form C before = via (list_raw C before) (λ p. p.1) (λ xs. (length xs, xs)) (λ b. refl) (list_same C before)

abbrev pub any_order : {A : Type 0} → A → A → Bool
any_order a b = true

-- "no key twice in a set": each key is above the one before
abbrev pub below : Bytes → Bytes → Bool
below a b = is_less (order a b)

unfoldable pub set_form : ℕ → Codec (List Bytes)
set_form m = list_form (key_form m) below

-- a bound as document 01's field: its tag, and its key; an unbounded one has length 0
abbrev pub is_tag : ℕ → Bool
is_tag t = eqb t (bound_tag Unbounded) || (eqb t (bound_tag Included) || eqb t (bound_tag Excluded))

abbrev pub tag_limit : ℕ → ℕ → ℕ
tag_limit m t = cond (eqb t (bound_tag Unbounded)) 0 m

abbrev pub bound_as : ℕ → Bytes → Bound
bound_as t k = cond (eqb t (bound_tag Unbounded)) unbounded (cond (eqb t (bound_tag Included)) (included k) (excluded k))

abbrev pub tagged : Bound → ℕ × Bytes
tagged b = (bound_tag (kind_of b), key_of b)

abbrev pub bound_raw : ℕ → Codec (ℕ × Bytes)
bound_raw m = bind (only (number tag_size) is_tag) (λ t. key_form (tag_limit m t))

pub bound_back : (b : Bound) → bound_as (bound_tag (kind_of b)) (key_of b) ≡ b
bound_back unbounded = refl
bound_back (included k) = refl
bound_back (excluded k) = refl

no_bytes : (k : Bytes) → length k ≤ 0 → [] ≡ k
no_bytes [] h = refl
no_bytes (x ∷ k) h = absurd (omega arith)

bound_cases : (m t : ℕ) (k : Bytes) (a b c : Bool) → eqb t (bound_tag Unbounded) ≡ a → eqb t (bound_tag Included) ≡ b → eqb t (bound_tag Excluded) ≡ c → (a || (b || c)) ≡ true → length k ≤ cond a 0 m
    → tagged (cond a unbounded (cond b (included k) (excluded k))) ≡ (t, k)
bound_cases m t k true b c ea eb ec o l = ap₂ (λ (n : ℕ) (y : Bytes). (n, y)) (sym (eqb-true t (bound_tag Unbounded) ea)) (no_bytes k l)
bound_cases m t k false true c ea eb ec o l = ap (λ (n : ℕ). (n, k)) (sym (eqb-true t (bound_tag Included) eb))
bound_cases m t k false false true ea eb ec o l = ap (λ (n : ℕ). (n, k)) (sym (eqb-true t (bound_tag Excluded) ec))
bound_cases m t k false false false ea eb ec o l = absurd (let z : ◌≡◌ {A = ℕ} 0 1 = cc in omega arith)

pub bound_same : (m : ℕ) (p : ℕ × Bytes) → (bound_raw m).Ok p → tagged (bound_as p.0 p.1) ≡ p
unfolding bind only number key_form via raw
bound_same m p o = bound_cases m p.0 p.1 (eqb p.0 (bound_tag Unbounded)) (eqb p.0 (bound_tag Included)) (eqb p.0 (bound_tag Excluded)) refl refl refl o.0.1 (leb-true _ _ o.1.0.1)

unfoldable pub bound_form : ℕ → Codec Bound
bound_form m = via (bound_raw m) (λ p. bound_as p.0 p.1) tagged bound_back (bound_same m)

-- "no empty range"
abbrev pub range_raw : ℕ → Codec (Bound × Bound)
range_raw m = bind (bound_form m) (λ s. bound_form m)

unfoldable pub pair_form : ℕ → Codec Range
pair_form m = via (range_raw m) (λ p. range p.0 p.1) (λ r. (r.start, r.end)) (λ b. refl) (λ a o. refl)

unfoldable pub range_form : ℕ → Codec Range
range_form m = only (pair_form m) not_empty

unfoldable pub ranges_form : ℕ → Codec (List Range)
ranges_form m = list_form (range_form m) any_order
