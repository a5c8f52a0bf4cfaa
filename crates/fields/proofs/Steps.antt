-- The fields of a byte string, one at a time.
use Prim.Native.Nat.{ℕ, zero, suc, ◌≤◌, ◌<◌}
use mathlib.Core.Path.{◌≡◌, refl, sym, ap, ◌∙◌}
use mathlib.Core.Bool.{Bool, true, false, cond}
use mathlib.Core.List.{List, [], ◌∷◌, cons-ne-nil}
use mathlib.Core.Option.{Option, none, some, none-ne-some, some-injective}
use native.Mathlib.Omega.{arith}
use lib.Dec.{leb}
use lib.ListN.{length, take, drop, length-drop}
use Rattle.fields.specs.Fields.{field_head, size_of, Field, field, cut, first, headed, before, fields_from, fields_in, fields}

-- a field, if the payload has the length that its head says, before what follows it
abbrev after_head : ℕ → ℕ → List ℕ → Option (List Field) → Option (List Field)
after_head t n bs rest = cond (leb n (length bs)) (before (field t (take n bs)) rest) none

from_headed : (t n : ℕ) (bs : List ℕ) (rest : List ℕ → Option (List Field)) → fields_from (headed t n bs) rest ≡ after_head t n bs (rest (drop n bs))
from_headed t n bs rest = go (leb n (length bs))
  where
    go : (b : Bool) → fields_from (cond b (first (field t (take n bs)) (drop n bs)) (cut t n)) rest ≡ cond b (before (field t (take n bs)) (rest (drop n bs))) none
    go true = refl
    go false = refl

-- any two bounds that are no less than the length give the same
enough : (m n : ℕ) (bs : List ℕ) → length bs ≤ m → length bs ≤ n → fields_in m bs ≡ fields_in n bs
unfolding fields_in
enough zero zero [] h k = refl
enough zero (suc n) [] h k = refl
enough (suc m) zero [] h k = refl
enough (suc m) (suc n) [] h k = refl
enough zero n (t ∷ bs) h k = absurd (omega arith)
enough (suc m) zero (t ∷ bs) h k = absurd (omega arith)
enough (suc m) (suc n) (t ∷ []) h k = refl
enough (suc m) (suc n) (t ∷ x ∷ []) h k = refl
enough (suc m) (suc n) (t ∷ x ∷ l ∷ bs) h k =
    from_headed t (size_of x l) bs (fields_in m)
    ∙ ap (after_head t (size_of x l) bs) (enough m n (drop (size_of x l) bs) (simp length-drop (omega arith)) (simp length-drop (omega arith)))
    ∙ sym (from_headed t (size_of x l) bs (fields_in n))

pub fields_nil : fields [] ≡ some []
unfolding fields fields_in
fields_nil = refl

pub fields_short : (bs : List ℕ) → 0 < length bs → length bs < field_head → fields bs ≡ none
unfolding fields fields_in
fields_short [] h k = absurd (omega arith)
fields_short (t ∷ []) h k = refl
fields_short (t ∷ x ∷ []) h k = refl
fields_short (t ∷ x ∷ l ∷ bs) h k = absurd (omega arith)

pub fields_step : (t h l : ℕ) (bs : List ℕ)
    → fields (t ∷ h ∷ l ∷ bs)
    ≡ cond
    (leb (size_of h l) (length bs))
    (before (field t (take (size_of h l) bs)) (fields (drop (size_of h l) bs)))
    none
unfolding fields fields_in
fields_step t h l bs =
    from_headed t (size_of h l) bs (fields_in (suc (suc (length bs))))
    ∙ ap
    (after_head t (size_of h l) bs)
    (enough (suc (suc (length bs))) (length (drop (size_of h l) bs)) (drop (size_of h l) bs) (simp length-drop (omega arith)) (omega arith))

pub before_some : {A : Type 0} (a : A) (o : Option (List A)) → before a o ≡ some [] → ⊥
before_some a none e = none-ne-some [] e
before_some a (some xs) e = cons-ne-nil a xs (some-injective (a ∷ xs) [] e)

-- bytes that are left are no end
pub fields_more : (bs : List ℕ) → 0 < length bs → fields bs ≡ some [] → ⊥
fields_more [] h e = absurd (omega arith)
fields_more (t ∷ []) h e = none-ne-some [] (sym (fields_short (t ∷ []) h (omega arith)) ∙ e)
fields_more (t ∷ x ∷ []) h e = none-ne-some [] (sym (fields_short (t ∷ x ∷ []) h (omega arith)) ∙ e)
fields_more (t ∷ x ∷ l ∷ bs) h e = go (leb (size_of x l) (length bs)) (sym (fields_step t x l bs) ∙ e)
  where
    go : (b : Bool) → cond b (before (field t (take (size_of x l) bs)) (fields (drop (size_of x l) bs))) none ≡ some [] → ⊥
    go true z = before_some (field t (take (size_of x l) bs)) (fields (drop (size_of x l) bs)) z
    go false z = none-ne-some [] z
