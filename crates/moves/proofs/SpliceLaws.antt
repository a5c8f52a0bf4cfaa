-- The algebra of splices: a shift and a copy make one, and what stands in the used bytes after one.
use Prim.Native.Nat.{ℕ, ◌+◌, ◌-◌, ◌≤◌}
use mathlib.Core.Path.{◌≡◌, refl, sym, ap, ◌∙◌}
use mathlib.Core.List.{List, ◌++◌, append_assoc}
use native.Mathlib.Omega.{arith}
use Rattle.std.proofs.lemmas.List.Edits.{paste-paste}
use Rattle.std.proofs.lemmas.Slice.{between_is}
use lib.ListN.{length, take, drop, length-append, length-drop, take-append-drop}
use lib.Seq.{paste, length-take-le, take-length, take-append-le, take-take, take_at, drop_at, drop-drop}
use Rattle.moves.specs.Splices.{Spliced, used_after}

-- a move that goes nowhere changes nothing
pub stays : (d : List ℕ) (from to n : ℕ) → from ≡ to → d ≡ paste d to (drop from d) n
stays d from to n e =
    rw e
    (sym
    (append_assoc (take to d) (take n (drop to d)) (drop (to + n) d)
    ∙ rw (← drop-drop n to d, take-append-drop n (drop to d)) (take-append-drop to d)))

pub drop_take : (a b : ℕ) (l : List ℕ) → drop a (take b l) ≡ take (b - a) (drop a l)
drop_take a b l = sym (between_is l a b)

-- the same bytes from a place on, so from every later one
pub later : (s r : List ℕ) (a b : ℕ) → a ≤ b → drop a r ≡ drop a s → drop b r ≡ drop b s
later s r a b h e =
    let k : a + (b - a) ≡ b = omega arith in
    ap (λ (x : ℕ). drop x r) (sym k) ∙ sym (drop-drop (b - a) a r) ∙ ap (drop (b - a)) e ∙ drop-drop (b - a) a s ∙ ap (λ (x : ℕ). drop x s) k

module _ (s src : List ℕ) (used at gone : ℕ) (h : at + gone ≤ used) (k : used ≤ length s) (f : used_after used gone src ≤ length s) where
  -- the used bytes after the part that goes
  tail : List ℕ
  tail = take (used - (at + gone)) (drop (at + gone) s)

  moves_are : paste (paste s (at + length src) (drop (at + gone) s) (used - (at + gone))) at src (length src) ≡ (take at s ++ (src ++ tail)) ++ drop (used_after used gone src) s
  unfolding tail
  moves_are =
      let n : ℕ = used - (at + gone) in
      let to : ℕ = at + length src in
      let moved : List ℕ = paste s to (drop (at + gone) s) n in
      let lt : length (take to s) ≡ to = length-take-le to s (omega arith) in
      let e : to + n ≡ used - gone + length src = omega arith in
      let a : moved ≡ take to s ++ (tail ++ drop (to + n) s) = append_assoc (take to s) tail (drop (to + n) s) in
      let b : take at moved ≡ take at s = rw a (take-append-le at (take to s) _ (omega arith) ∙ take-take at to s (omega arith)) in
      let c : drop to moved ≡ tail ++ drop (used_after used gone src) s = rw (a, ← e) (drop_at (take to s) (tail ++ drop (to + n) s) to lt) in
      rw (b, c, take-length src) (simp append_assoc)

  length_front : length (take at s ++ (src ++ tail)) ≡ used_after used gone src
  unfolding tail
  length_front =
      let a : length (take at s) ≡ at = length-take-le at s (omega arith) in
      let b : length tail ≡ used - (at + gone) = length-take-le _ (drop (at + gone) s) (rw length-drop (omega arith)) in
      simp length-append (rw (a, b) (omega arith))

  pub spliced : (moved s' : List ℕ) → moved ≡ paste s (at + length src) (drop (at + gone) s) (used - (at + gone)) → s' ≡ paste moved at src (length src) → Spliced s used at gone src s'
  unfolding tail
  spliced moved s' e1 e2 =
      let new : ℕ = used_after used gone src in
      let e : s' ≡ (take at s ++ (src ++ tail)) ++ drop new s = e2 ∙ rw e1 moves_are in
      record {
        bytes = rw (e, drop_take) (take_at (take at s ++ (src ++ tail)) (drop new s) new length_front);
        after = rw e (drop_at (take at s ++ (src ++ tail)) (drop new s) new length_front);
        size = ap length e ∙ length-append (take at s ++ (src ++ tail)) (drop new s) ∙ rw (length_front, length-drop) (omega arith);
      }

module _ {s : List ℕ} {used at gone : ℕ} {src s' : List ℕ} (w : Spliced s used at gone src s') where
  -- no byte past the new end is touched; so none past the larger of both ends
  pub untouched : (m : ℕ) → used_after used gone src ≤ m → drop m s' ≡ drop m s
  untouched m h = later s s' (used_after used gone src) m h w.after

  -- where the used bytes are three parts, the middle one is replaced
  pub replaces : (p old q : List ℕ) → take used s ≡ p ++ (old ++ q) → at ≡ length p → gone ≡ length old → at ≤ used → take (used_after used gone src) s' ≡ p ++ (src ++ q)
  replaces p old q e ea eg h =
      let a : take at s ≡ p = sym (take-take at used s h) ∙ ap (take at) e ∙ take_at p (old ++ q) at (sym ea) in
      let b : length (p ++ old) ≡ at + gone = length-append p old ∙ rw (ea, eg) in
      let c : drop (at + gone) (take used s) ≡ q = ap (drop (at + gone)) (e ∙ sym (append_assoc p old q)) ∙ drop_at (p ++ old) q (at + gone) b in
      w.bytes ∙ rw (a, c)

-- bytes written over as many others are a splice
pub written_over : (s src : List ℕ) (used at : ℕ) → at + length src ≤ used → used ≤ length s → Spliced s used at (length src) src (paste s at src (length src))
written_over s src used at h k =
    spliced s src used at (length src) h k (omega arith) s (paste s at src (length src)) (stays s (at + length src) (at + length src) (used - (at + length src)) refl) refl

-- two splices, the second right after what the first put, are one
pub splice_on : {s : List ℕ} {used at gone : ℕ} {a s1 b s2 : List ℕ} → at + gone ≤ used → used ≤ length s
    → Spliced s used at gone a s1 → Spliced s1 (used_after used gone a) (at + length a) 0 b s2 → Spliced s used at gone (a ++ b) s2
splice_on {s} {used} {at} {gone} {a} {s1} {b} {s2} h k v w =
    let new : ℕ = used_after used gone a in
    let rest : List ℕ = drop (at + gone) (take used s) in
    let la : length (take at s) ≡ at = length-take-le at s (omega arith) in
    let lf : length (take at s ++ a) ≡ at + length a = length-append (take at s) a ∙ rw la in
    let e : used_after used gone (a ++ b) ≡ used_after new 0 b = rw (length-append a b) (omega arith) in
    let p : take (at + length a) s1 ≡ take at s ++ a =
    sym (take-take (at + length a) new s1 (omega arith)) ∙ ap (take (at + length a)) (v.bytes ∙ sym (append_assoc (take at s) a rest)) ∙ take_at (take at s ++ a) rest (at + length a) lf in
    let z : at + length a + 0 ≡ at + length a = omega arith in
    let q : drop (at + length a + 0) (take new s1) ≡ rest =
    rw z (ap (drop (at + length a)) (v.bytes ∙ sym (append_assoc (take at s) a rest)) ∙ drop_at (take at s ++ a) rest (at + length a) lf) in
    record {
      bytes = rw e (w.bytes ∙ rw (p, q) (simp append_assoc));
      after = rw e (w.after ∙ untouched v (used_after new 0 b) (omega arith));
      size = w.size ∙ v.size;
    }

-- two copies, one right after the other, are one
pub paste_on : (d : List ℕ) (at : ℕ) (a b : List ℕ) → at + length a + length b ≤ length d
    → paste (paste d at a (length a)) (at + length a) b (length b) ≡ paste d at (a ++ b) (length (a ++ b))
paste_on d at a b h = rw (length-append a b) (paste-paste d at a b (length a) (length b) refl refl (omega arith))
