-- A search over a list by what is left of it: the verdict of the whole is the verdict of the rest.
use Prim.Native.Nat.{ℕ, ◌≤◌, ◌<◌}
use mathlib.Core.Path.{◌≡◌, ap, ◌∙◌}
use mathlib.Core.Bool.{Bool, true, false, ◌||◌}
use mathlib.Core.List.{List, [], ◌∷◌}
use native.Mathlib.Omega.{arith}
use lib.ListN.{length}
use Rattle.machine.specs.Lists.{any}
use Rattle.machine.proofs.ListLaws.{or_left}
use Rattle.codec.specs.Codec.{Codec}
use Rattle.layout.specs.Rows.{Here, Ends}
use Rattle.places.specs.declared.cursor.Cursor.{Cursor}
use Rattle.places.specs.Cursors.{past, Before}
use Rattle.places.proofs.CursorLaws.{before_here, before_next}

module _ {A : Type 0} where
  pub record Walk (stands : List A → Type 0) (test : A → Bool) (whole : Bool) : Type 0 where
    pub rest : List A
    pub here : stands rest
    pub says : whole ≡ any test rest

  -- the same where something is left
  pub record Head (stands : List A → Type 0) (test : A → Bool) (whole : Bool) : Type 0 where
    pub first : A
    pub rest : List A
    pub here : stands (first ∷ rest)
    pub says : whole ≡ (test first || any test rest)

  pub walk_head : {stands : List A → Type 0} {test : A → Bool} {whole : Bool} (w : Walk stands test whole) → 0 < length w.rest → Head stands test whole
  unfolding any
  walk_head {stands} {test} {whole} w h = go w.rest w.here w.says h
    where
      go : (xs : List A) → stands xs → whole ≡ any test xs → 0 < length xs → Head stands test whole
      go [] p e n = absurd (omega (arith, n))
      go (x ∷ xs) p e n = record { first = x; rest = xs; here = p; says = e }

  pub walk_over : {stands : List A → Type 0} {test : A → Bool} {whole : Bool} (w : Walk stands test whole) → length w.rest ≤ 0 → whole ≡ false
  unfolding any
  walk_over {stands} {test} {whole} w h = go w.rest w.says h
    where
      go : (xs : List A) → whole ≡ any test xs → length xs ≤ 0 → whole ≡ false
      go [] e n = e
      go (x ∷ xs) e n = absurd (omega (arith, n))

  pub head_hit : {stands : List A → Type 0} {test : A → Bool} {whole : Bool} (h : Head stands test whole) → test h.first ≡ true → whole ≡ true
  head_hit {stands} {test} h e = h.says ∙ or_left (test h.first) (any test h.rest) e

  pub head_miss : {stands : List A → Type 0} {test : A → Bool} {whole : Bool} (h : Head stands test whole) → test h.first ≡ false → whole ≡ any test h.rest
  head_miss {stands} {test} h e = h.says ∙ ap (λ (b : Bool). b || any test h.rest) e

-- the records before which a cursor stands
module _ {A : Type 0} {C : Codec A} {s : List ℕ} {c : Cursor} {test : A → Bool} {whole : Bool} where
  pub cursor_head : Walk (Before C s c) test whole → 0 < c.left → Head (Before C s c) test whole
  cursor_head w h = walk_head w (omega (arith, w.here.count))

  pub cursor_over : Walk (Before C s c) test whole → c.left ≤ 0 → whole ≡ false
  cursor_over w h = walk_over w (omega (arith, w.here.count))

  pub cursor_here : Walk (Before C s c) test whole → 0 < c.left → Here C s c.at
  cursor_here w h = let x = cursor_head w h in before_here C s c x.first x.rest x.here

  pub cursor_next : (d : Cursor) (e : ℕ) (h : Head (Before C s c) test whole) → test h.first ≡ false → Ends C s c.at e → d ≡ past c e → Walk (Before C s d) test whole
  cursor_next d e h m n q = record { rest = h.rest; here = before_next C s c h.first h.rest d e h.here n q; says = head_miss h m }
