-- Bounds that can be read are the record of the range that they say.
use Prim.Native.Nat.{ℕ, suc, ◌/◌, ◌%◌, ◌<◌}
use mathlib.Core.Path.{◌≡◌, refl, sym, ap, ◌∙◌}
use mathlib.Core.Bool.{Bool, true, false, cond}
use mathlib.Core.List.{List, [], ◌∷◌, ◌++◌, append-nil}
use mathlib.Core.Option.{Option, none, some, none-ne-some, some-injective}
use native.Mathlib.Omega.{arith}
use borrow.Author.Tests.{eqb-true}
use lib.Dec.{eqb}
use lib.ListN.{length, get_or}
use Rattle.kinds.specs.Bounds.{Bound, unbounded, included, excluded}
use Rattle.bounds.specs.Ranges.{Range, range}
use Rattle.ranges.specs.Bytes.{Bytes}
use Rattle.ranges.specs.Made.{key_of, kind_of}
use Rattle.fields.specs.Fields.{Field, before, on_some, each, fields, encode, fields_as, as_bound, pair_of, bounds_of, Writable, AllWritable}
use Rattle.kinds.specs.declared.kind.Kind.TheVariants.{Unbounded, Included, Excluded}
use Rattle.fields.specs.Forms.{bound_tag}
use Rattle.fields.proofs.Writing.{written_read, read_writable}
use Rattle.codec.specs.Codec.{write_number}
use Rattle.codec.specs.Formats.{number, raw, bind, only, via}
use Rattle.layout.specs.Keys.{key_form, bound_form, pair_form, range_form}

all_bytes : (bs : List ℕ) → ((i : ℕ) → get_or bs i 0 < 256) → Bytes bs
unfolding Bytes
all_bytes [] h = tt
all_bytes (x ∷ bs) h = (h 0, all_bytes bs (λ i. h (suc i)))

-- the tag and the payload of a field that is read as a bound
as_bound_lem : (f : Field) (b : Bound) → as_bound f ≡ some b → (f.tag ≡ bound_tag (kind_of b)) × (f.payload ≡ key_of b)
unfolding as_bound
as_bound_lem f b e = go (eqb f.tag (bound_tag Unbounded)) refl (eqb f.tag (bound_tag Included)) refl (eqb f.tag (bound_tag Excluded)) refl (eqb (length f.payload) 0) refl e
  where
    no_bytes : (p : List ℕ) → length p ≡ 0 → p ≡ []
    no_bytes [] h = refl
    no_bytes (x ∷ p) h = absurd (omega arith)

    is : (c : Bound) → some c ≡ some b → (f.tag ≡ bound_tag (kind_of c)) × (f.payload ≡ key_of c) → (f.tag ≡ bound_tag (kind_of b)) × (f.payload ≡ key_of b)
    is c q x = rw (some-injective c b q) at x

    go : (x : Bool) → eqb f.tag (bound_tag Unbounded) ≡ x → (y : Bool) → eqb f.tag (bound_tag Included) ≡ y → (z : Bool) → eqb f.tag (bound_tag Excluded) ≡ z → (n : Bool) → eqb (length f.payload) 0 ≡ n
        → cond x (cond n (some unbounded) none) (cond y (some (included f.payload)) (cond z (some (excluded f.payload)) none)) ≡ some b → (f.tag ≡ bound_tag (kind_of b)) × (f.payload ≡ key_of b)
    go true hx y hy z hz true hn q = is unbounded q (eqb-true _ _ hx, no_bytes f.payload (eqb-true _ _ hn))
    go true hx y hy z hz false hn q = absurd (none-ne-some b q)
    go false hx true hy z hz n hn q = is (included f.payload) q (eqb-true _ _ hy, refl)
    go false hx false hy true hz n hn q = is (excluded f.payload) q (eqb-true _ _ hz, refl)
    go false hx false hy false hz n hn q = absurd (none-ne-some b q)

-- a field that can be written and is read as a bound is the bound's record
bound_bytes : (m : ℕ) (f : Field) (b : Bound) (rest : List ℕ) → Writable f → as_bound f ≡ some b
    → f.tag ∷ length f.payload / 256 ∷ length f.payload % 256 ∷ (f.payload ++ rest) ≡ (bound_form m).write b ++ rest
unfolding bound_form via bind only key_form raw number write_number
bound_bytes m f b rest w e =
    let x = as_bound_lem f b e in
    let t : f.tag % 256 ≡ f.tag = omega (arith, w.tag) in
    let n : length f.payload / 256 % 256 ≡ length f.payload / 256 = omega (arith, w.size) in
    rw (← x.0, ← x.1, t, n)

-- two fields, and the bounds that they are read as
record Two (o : Option (List Field)) (r : Range) : Type 0 where
  first : Field
  second : Field
  is : o ≡ some (first ∷ second ∷ [])
  start : as_bound first ≡ some r.start
  end : as_bound second ≡ some r.end

module _ (r : Range) where
  one_more : (f : Field) (fs : List Field) (x : Option Bound) → as_bound f ≡ x → on_some (on_some x (λ b. before b (each as_bound fs))) pair_of ≡ some r → Two (some (f ∷ fs)) r
  unfolding each
  one_more f [] none e h = absurd (none-ne-some r h)
  one_more f [] (some b) e h = absurd (none-ne-some r h)
  one_more f (g ∷ fs) none e h = absurd (none-ne-some r h)
  one_more f (g ∷ fs) (some b) e h = last fs (as_bound g) refl (h)
    where
      last : (fs : List Field) (y : Option Bound) → as_bound g ≡ y → on_some (before b (on_some y (λ c. before c (each as_bound fs)))) pair_of ≡ some r → Two (some (f ∷ g ∷ fs)) r
      last fs none d h = absurd (none-ne-some r h)
      last [] (some c) d h =
          let q : range b c ≡ r = some-injective (range b c) r h in
          record { first = f; second = g; is = refl; start = e ∙ ap (λ (x : Range). some x.start) q; end = d ∙ ap (λ (x : Range). some x.end) q }
      last (k ∷ fs) (some c) d h = absurd (many (on_some (as_bound k) (λ a. before a (each as_bound fs))) (third (as_bound k) (each as_bound fs)) h)
        where
          third : (y : Option Bound) (o : Option (List Bound)) → on_some y (λ a. before a o) ≡ some [] → ⊥
          third none o z = none-ne-some [] z
          third (some a) none z = none-ne-some [] z
          third (some a) (some as') z = let w = some-injective (a ∷ as') [] z in absurd (let y : ◌≡◌ {A = ℕ} 0 1 = cc in omega arith)

          many : (o : Option (List Bound)) → (o ≡ some [] → ⊥) → on_some (before b (before c o)) pair_of ≡ some r → ⊥
          many none n z = none-ne-some r z
          many (some []) n z = n refl
          many (some (a ∷ as')) n z = none-ne-some r z

  two : (o : Option (List Field)) → on_some (on_some o (each as_bound)) pair_of ≡ some r → Two o r
  unfolding each
  two none h = absurd (none-ne-some r h)
  two (some []) h = absurd (none-ne-some r h)
  two (some (f ∷ fs)) h = one_more f fs (as_bound f) refl h

pub bounds_record : (m : ℕ) (bs : List ℕ) (r : Range) → ((i : ℕ) → get_or bs i 0 < 256) → bounds_of bs ≡ some r → bs ≡ (range_form m).write r
unfolding bounds_of fields_as range_form pair_form only via bind encode AllWritable
bounds_record m bs r h e =
    let b : Bytes bs = all_bytes bs h in
    let t = two r (fields bs) e in
    let w = read_writable (t.first ∷ t.second ∷ []) bs b t.is in
    let last = bound_bytes m t.second r.end [] w.1.0 t.end in
    sym (written_read (t.first ∷ t.second ∷ []) bs b t.is)
    ∙ bound_bytes m t.first r.start (encode (t.second ∷ [])) w.0 t.start
    ∙ ap (λ (x : List ℕ). (bound_form m).write r.start ++ x) (last ∙ append-nil ((bound_form m).write r.end))
