-- What follows from both laws of any format: one value for some bytes, where a record ends, and how long it is.
use Prim.Native.Nat.{ℕ, ◌+◌, ◌-◌, ◌≤◌, ◌<◌}
use mathlib.Core.Path.{◌≡◌, refl, sym, ap, ◌∙◌}
use mathlib.Core.List.{List, [], ◌∷◌, ◌++◌}
use native.Mathlib.Omega.{arith}
use lib.ListN.{length, drop, length-append, length-drop}
use lib.Seq.{drop-append_seam, drop-append-add}
use Rattle.codec.specs.Codec.{Item, item, cut, Codec, write_run}
use Rattle.codec.specs.Formats.{bind}
use Rattle.codec.specs.Stands.{Stands}

module _ {A : Type 0} (C : Codec A) where
  -- some bytes begin with the record of at most one value
  pub one_value : (a b : A) (r r' : List ℕ) → C.Ok a → C.Ok b → C.write a ++ r ≡ C.write b ++ r' → (a ≡ b) × (r ≡ r')
  one_value a b r r' oa ob e =
      let f : item a r ≡ item b r' = sym (C.write_is a r oa) ∙ ap C.read e ∙ C.write_is b r' ob in
      (cc, cc)

  -- a record that stands among others is read there
  pub written_stands : (s p q : List ℕ) (a : A) → C.Ok a → s ≡ p ++ (C.write a ++ q) → Stands C s (length p) a (length p + length (C.write a))
  written_stands s p q a o e =
      let x : drop (length p) s ≡ C.write a ++ q = ap (drop (length p)) e ∙ drop-append_seam p (C.write a ++ q) in
      let y : drop (length p + length (C.write a)) s ≡ q =
      ap (drop (length p + length (C.write a))) e ∙ drop-append-add p (C.write a ++ q) (length (C.write a)) ∙ drop-append_seam (C.write a) q in
      record { reads = rw (x, y) (C.write_is a q o) }

  -- two readings at a place agree
  pub stands_one : {s : List ℕ} {at e f : ℕ} {a b : A} → Stands C s at a e → Stands C s at b f → a ≡ b
  stands_one {s} {at} {e} {f} {a} {b} p q = let g : item a (drop e s) ≡ item b (drop f s) = sym p.reads ∙ q.reads in cc g

  pub stands_length : {s : List ℕ} {at e : ℕ} {a : A} → Stands C s at a e → at ≤ length s → e ≤ length s → e ≡ at + length (C.write a)
  stands_length {s} {at} {e} {a} w h k =
      let x = C.read_is (drop at s) a (drop e s) w.reads in
      let l : length s - at ≡ length (C.write a) + (length s - e) = sym (length-drop at s) ∙ ap length x.0 ∙ length-append (C.write a) (drop e s) ∙ rw (length-drop e s) in
      omega arith

  -- bytes that are too few for any record hold none
  pub too_short : (k : ℕ) → ((a : A) → C.Ok a → k ≤ length (C.write a)) → (bs : List ℕ) → length bs < k → C.read bs ≡ cut
  too_short k least bs h = go (C.read bs) refl
    where
      go : (x : Item A) → C.read bs ≡ x → x ≡ cut
      go cut e = refl
      go (item a r) e =
          let x = C.read_is bs a r e in
          absurd (omega (arith, least a x.1, length-append (C.write a) r, ap length x.0))

pub length_bind : {A B : Type 0} (C : Codec A) (D : A → Codec B) (p : A × B) → length ((bind C D).write p) ≡ length (C.write p.0) + length ((D p.0).write p.1)
unfolding bind
length_bind C D p = length-append (C.write p.0) ((D p.0).write p.1)

-- the lengths of all records of a run together
abbrev pub lengths : {A : Type 0} → Codec A → List A → ℕ
lengths C [] = 0
lengths C (a ∷ xs) = length (C.write a) + lengths C xs

pub length_run : {A : Type 0} (C : Codec A) (xs : List A) → length (write_run C xs) ≡ lengths C xs
unfolding write_run
length_run C [] = refl
length_run C (a ∷ xs) = length-append (C.write a) (write_run C xs) ∙ rw (length_run C xs)
