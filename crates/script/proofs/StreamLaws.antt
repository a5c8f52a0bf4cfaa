-- What has been decided of the front of some bytes stays, whatever bytes come behind them.
use Prim.Native.Nat.{ℕ, ◌≤◌}
use mathlib.Core.Path.{◌≡◌, refl, sym, ap, ◌∙◌}
use mathlib.Core.Bool.{Bool, true, false, cond, false≢true}
use mathlib.Core.List.{List, [], ◌∷◌, ◌++◌}
use native.Mathlib.Omega.{arith}
use borrow.Author.Tests.{le-leb, leb-true}
use lib.Dec.{leb}
use lib.ListN.{length, take, drop, length-append, length-drop}
use lib.Seq.{take-append-le, drop-append-le}
use Rattle.fields.specs.Fields.{size_of}
use Rattle.script.proofs.RecordLaws.{sized, next_headed, next_unknown}
use Rattle.script.specs.Stream.{Next, whole, more, stop, known, next, payload_limit}

abbrev decided : Next → Bool
decided (whole tag p rest) = true
decided more = false
decided stop = true

abbrev behind : List ℕ → Next → Next
behind c (whole tag p rest) = whole tag p (rest ++ c)
behind c more = more
behind c stop = stop

sized_stays : (c : List ℕ) (tag n : ℕ) (bs : List ℕ) → decided (sized tag n bs) ≡ true → sized tag n (bs ++ c) ≡ behind c (sized tag n bs)
sized_stays c tag n bs = go (leb n payload_limit) (leb n (length bs)) refl
  where
    at : Bool → Bool → List ℕ → Next
    at u v l = cond u (cond v (whole tag (take n l) (drop n l)) more) stop

    go : (u v : Bool) → leb n (length bs) ≡ v → decided (at u v bs) ≡ true → at u (leb n (length (bs ++ c))) (bs ++ c) ≡ behind c (at u v bs)
    go false v e d = refl
    go true false e d = absurd (false≢true d)
    go true true e d =
        let h : n ≤ length bs = leb-true n (length bs) e in
        rw (le-leb n (length (bs ++ c)) (rw (length-append bs c) (omega (arith, h))), take-append-le n bs c h, drop-append-le n bs c h)

short_stays : (t : ℕ) (c l : List ℕ) → decided (cond (known t) more stop) ≡ true → next (t ∷ l) ≡ behind c (cond (known t) more stop)
short_stays t c l = go (known t) refl
  where
    go : (b : Bool) → known t ≡ b → decided (cond b more stop) ≡ true → next (t ∷ l) ≡ behind c (cond b more stop)
    go true e d = absurd (false≢true d)
    go false e d = next_unknown t l e

stays : (c bs : List ℕ) → decided (next bs) ≡ true → next (bs ++ c) ≡ behind c (next bs)
stays c [] d = absurd (false≢true d)
stays c (t ∷ []) d = short_stays t c c d
stays c (t ∷ h ∷ []) d = short_stays t c (h ∷ c) d
stays c (t ∷ h ∷ l ∷ bs) d =
    let e = next_headed t h l bs in
    next_headed t h l (bs ++ c) ∙ go (known t) (ap decided (sym e) ∙ d) ∙ ap (behind c) (sym e)
  where
    go : (b : Bool) → decided (cond b (sized t (size_of h l) bs) stop) ≡ true → cond b (sized t (size_of h l) (bs ++ c)) stop ≡ behind c (cond b (sized t (size_of h l) bs) stop)
    go true d = sized_stays c t (size_of h l) bs d
    go false d = refl

pub whole_stays : (bs c : List ℕ) {p rest : List ℕ} {tag : ℕ} → next bs ≡ whole tag p rest → next (bs ++ c) ≡ whole tag p (rest ++ c)
whole_stays bs c e = stays c bs (ap decided e) ∙ ap (behind c) e

pub stop_stays : (bs c : List ℕ) → next bs ≡ stop → next (bs ++ c) ≡ stop
stop_stays bs c e = stays c bs (ap decided e) ∙ ap (behind c) e

abbrev after : Next → List ℕ
after (whole tag p rest) = rest
after more = []
after stop = []

-- what follows a record is no longer than what it stood at the front of
shrinks : (bs : List ℕ) → length (after (next bs)) ≤ length bs
shrinks [] = omega arith
shrinks (t ∷ []) = go (known t)
  where
    go : (b : Bool) → length (after (cond b more stop)) ≤ 1
    go true = omega arith
    go false = omega arith
shrinks (t ∷ h ∷ []) = go (known t)
  where
    go : (b : Bool) → length (after (cond b more stop)) ≤ 2
    go true = omega arith
    go false = omega arith
shrinks (t ∷ h ∷ l ∷ bs) = rw (next_headed t h l bs) (go (known t) (leb (size_of h l) payload_limit) (leb (size_of h l) (length bs)))
  where
    go : (u v w : Bool) → length (after (cond u (cond v (cond w (whole t (take (size_of h l) bs) (drop (size_of h l) bs)) more) stop) stop)) ≤ length (t ∷ h ∷ l ∷ bs)
    go false v w = omega arith
    go true false w = omega arith
    go true true false = omega arith
    go true true true = omega (arith, length-drop (size_of h l) bs)

pub whole_shrinks : (bs : List ℕ) {p rest : List ℕ} {tag : ℕ} → next bs ≡ whole tag p rest → length rest ≤ length bs
whole_shrinks bs e = omega (arith, shrinks bs, ap (λ (n : Next). length (after n)) e)
