-- A transaction tracks a key exactly when the key meets one of its marks.
use mathlib.Core.Path.{◌≡◌, refl, sym, ap, ap₂, ◌∙◌}
use mathlib.Core.Bool.{Bool, ◌||◌, or_assoc}
use mathlib.Core.List.{List, [], ◌∷◌, ◌++◌, map}
use Rattle.bounds.specs.Ranges.{holds}
use Rattle.machine.specs.Lists.{any}
use Rattle.machine.specs.State.{Bytes, Txn}
use Rattle.machine.specs.Sets.{equal, tracks}
use Rattle.search.specs.Marks.{key, range, meets, marks_of}

any_append : {A : Type 0} (p : A → Bool) (xs ys : List A) → any p (xs ++ ys) ≡ (any p xs || any p ys)
unfolding any
any_append p [] ys = refl
any_append p (x ∷ xs) ys = ap (λ (b : Bool). p x || b) (any_append p xs ys) ∙ sym (or_assoc (p x) (any p xs) (any p ys))

any_map : {A B : Type 0} (p : B → Bool) (f : A → B) (xs : List A) → any p (map f xs) ≡ any (λ x. p (f x)) xs
unfolding any
any_map p f [] = refl
any_map p f (x ∷ xs) = ap (λ (b : Bool). p (f x) || b) (any_map p f xs)

pub tracks_marks : (t : Txn) (k : Bytes) → tracks t k ≡ any (meets k) (marks_of t)
unfolding tracks
tracks_marks t k =
    let w = any_map (meets k) key t.writes in
    let r = any_map (meets k) key t.reads in
    let g = any_map (meets k) range t.ranges in
    let rest = any_append (meets k) (map key t.reads) (map range t.ranges) ∙ ap₂ (λ (a b : Bool). a || b) r g in
    sym (any_append (meets k) (map key t.writes) (map key t.reads ++ map range t.ranges) ∙ ap₂ (λ (a b : Bool). a || b) w rest ∙ sym (or_assoc (any (equal k) t.writes) (any (equal k) t.reads) (any (λ x. holds x k) t.ranges)))
