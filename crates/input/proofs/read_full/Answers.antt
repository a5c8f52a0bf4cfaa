-- What one read gives stands behind what was read before it.
use Rattle.std.proofs.Common.{ℕ, ◌+◌, ◌≤◌, ◌≡◌, List, ◌++◌, length, take, ap, sym, ◌∙◌, append_assoc, arith}
use Rattle.std.specs.Prelude.{Option, Some, None}
use Rattle.std.specs.Io.KnownBytes.{Consumes}
use Rattle.std.proofs.Math.Seq.{take-append-add}
use Rattle.std.proofs.lemmas.List.{take-append-le, length-take-le}
use Rattle.std.proofs.lemmas.Grind.{common_steps}
use Rattle.input.proofs.read_full.Goals as goal

consumes_on : (old now left : Option (List ℕ)) (x y : List ℕ) {z : List ℕ} → Consumes old now x → Consumes now left y → z ≡ x ++ y → Consumes old left z
consumes_on None now left x y a b e = tt
consumes_on (Some xs) None left x y a b e = absurd a
consumes_on (Some xs) (Some ys) None x y a b e = absurd b
consumes_on (Some xs) (Some ys) (Some zs) x y {z} a b e =
    a ∙ ap (λ (l : List ℕ). x ++ l) b ∙ sym (append_assoc x y zs) ∙ ap (λ (l : List ℕ). l ++ zs) (sym e)

front_on : (d n : ℕ) (s b t : List ℕ) → d ≤ length s → n ≤ length b → take (d + n) (take d s ++ (b ++ t)) ≡ take d s ++ take n b
front_on d n s b t h k =
    ap (λ (m : ℕ). take (m + n) (take d s ++ (b ++ t))) (sym (length-take-le d s h))
    ∙ take-append-add (take d s) (b ++ t) n
    ∙ ap (λ (l : List ℕ). take d s ++ l) (take-append-le n b t k)

pub loop-done-preserved : goal.loop-done-preserved
loop-done-preserved g c = record {
  inside = grind (arith, common_steps);
  size = grind (arith, common_steps);
  read = consumes_on _ _ _ _ _ c.loop-done.invariant.read c.in_ok-n.ensures.bytes.0 (front_on _ _ _ _ _ c.loop-done.invariant.inside (c.in_ok-n.ensures.bound.0));
}
