-- Which call a record is, from what the code sees of its payload.
use Prim.Native.Nat.{ℕ, ◌+◌, ◌-◌, ◌≤◌, ◌<◌, min}
use mathlib.Core.Bool.{true, false}
use mathlib.Core.Logic.{◌⊎◌, inl, inr}
use Rattle.std.proofs.lemmas.Bool.{cases_order}
use Rattle.script.specs.Stream.{known}
use mathlib.Core.Path.{◌≡◌, refl, sym, ap, ap₂, ◌∙◌}
use mathlib.Core.List.{List, [], ◌∷◌}
use mathlib.Core.Option.{some}
use native.Mathlib.Omega.{arith}
use borrow.Author.Tests.{ne_eqb}
use lib.ListN.{length, take, drop, length-append, length-drop, drop_of_length-le}
use lib.Seq.{take_all}
use borrow.Author.Rules.{part_to_end}
use Rattle.codec.specs.Codec.{Item, item, cut}
use Rattle.codec.specs.Formats.{number}
use Rattle.codec.specs.Stands.{Stands}
use Rattle.codec.proofs.NumberLaws.{length_number}
use Rattle.machine.specs.State.{State, Ceilings, id_size}
use Rattle.machine.specs.Calls.{Op, commit, batch, minimum, Call, on, holding, replied}
use Rattle.machine.specs.Serve.{serve, answer}
use Rattle.layout.specs.Offsets.{number_size}
use Rattle.layout.specs.Rooms.{Served}
use Rattle.script.specs.Script.{with_number, when_empty, commit_of, batch_of, refused_call, as_call, called, IdEnds}

-- a payload that is no call's is status 2, value 0, in every state
pub refused_two : (L : Ceilings) (s : State) → serve L (holding s) refused_call ≡ replied 2 0 (holding s)
unfolding serve answer
refused_two L s = refl

-- ---- the id

pub id_ends : (p : List ℕ) {r : ℕ} → r ≡ min (length p) id_size → IdEnds p r
id_ends p {r} e = go (cases_order (length p) id_size)
  where
    few : length p ≤ id_size → IdEnds p r
    few h =
        record {
          inside = omega (arith, e);
          id = take_all id_size p (omega arith) ∙ sym (take_all r p (omega (arith, e)));
          rest = drop_of_length-le p {i = id_size} (omega arith) ∙ sym (drop_of_length-le p {i = r} (omega (arith, e)));
        }

    go : (length p ≡ id_size) ⊎ ((length p < id_size) ⊎ (id_size < length p)) → IdEnds p r
    go (inl h) = few (omega (arith, h))
    go (inr (inl h)) = few (omega (arith, h))
    go (inr (inr h)) = let k : r ≡ id_size = omega (arith, e, h) in rw k (record { inside = omega (arith, h); id = refl; rest = refl })

-- an answer for one call is an answer for the same call
pub served_as : {s s' : List ℕ} {a b : Call} {n v : ℕ} → a ≡ b → Served s a n v s' → Served s b n v s'
served_as e w = rw (← e) w

-- a payload cut where its id ends
pub split_as : (f : List ℕ → List ℕ → Op) {p x y : List ℕ} {r : ℕ} → IdEnds p r → x ≡ take r p → y ≡ drop r p → on (f x y) ≡ on (f (take id_size p) (drop id_size p))
split_as f w ex ey = ap₂ (λ (x y : List ℕ). on (f x y)) (ex ∙ sym w.id) (ey ∙ sym w.rest)

-- ---- the sequence

-- a sequence and what follows it are as long as the bytes that they are read from
seq_length : (p : List ℕ) (n : ℕ) (rest : List ℕ) → (number number_size).read p ≡ item n rest → length p ≡ number_size + length rest
seq_length p n rest e =
    ap length ((number number_size).read_is p n rest e).0
    ∙ length-append ((number number_size).write n) rest
    ∙ ap (λ (k : ℕ). k + length rest) (length_number number_size n)

pub commit_is : {p : List ℕ} {n : ℕ} → length p ≡ id_size + number_size → Stands (number number_size) p id_size n (id_size + number_size)
    → on (commit (take id_size p) n) ≡ as_call (commit_of p)
commit_is {p} {n} e w =
    let d : drop (id_size + number_size) p ≡ [] = drop_of_length-le p {i = id_size + number_size} (omega arith) in
    let r : (number number_size).read (drop id_size p) ≡ item n [] = w.reads ∙ ap (item n) d in
    sym (ap (λ (x : Item ℕ). as_call (with_number x λ m rest. when_empty (commit (take id_size p) m) rest)) r)

pub commit_none : (p : List ℕ) → (length p ≡ id_size + number_size → ⊥) → refused_call ≡ as_call (commit_of p)
commit_none p h = go ((number number_size).read (drop id_size p)) refl
  where
    go : (x : Item ℕ) → (number number_size).read (drop id_size p) ≡ x → refused_call ≡ as_call (with_number x λ m rest. when_empty (commit (take id_size p) m) rest)
    go cut e = refl
    go (item n []) e = let l : length (drop id_size p) ≡ number_size + 0 = seq_length (drop id_size p) n [] e in absurd (h (omega (arith, l, length-drop id_size p)))
    go (item n (b ∷ bs)) e = refl

pub batch_is : {p : List ℕ} {n : ℕ} → Stands (number number_size) p 0 n number_size
    → on (batch n (take (length p - number_size) (drop number_size p))) ≡ as_call (batch_of p)
batch_is {p} {n} w =
    ap (λ (l : List ℕ). on (batch n l)) (part_to_end p number_size)
    ∙ sym (ap (λ (x : Item ℕ). as_call (with_number x λ m list. some (batch m list))) w.reads)

pub batch_none : (p : List ℕ) → length p < number_size → refused_call ≡ as_call (batch_of p)
batch_none p h = go ((number number_size).read p) refl
  where
    go : (x : Item ℕ) → (number number_size).read p ≡ x → refused_call ≡ as_call (with_number x λ m list. some (batch m list))
    go cut e = refl
    go (item n rest) e = absurd (omega (arith, seq_length p n rest e))

-- ---- nothing

pub minimum_is : (p : List ℕ) → length p ≤ 0 → on minimum ≡ as_call (when_empty minimum p)
minimum_is [] h = refl
minimum_is (b ∷ bs) h = absurd (omega arith)

pub minimum_none : (p : List ℕ) → 0 < length p → refused_call ≡ as_call (when_empty minimum p)
minimum_none [] h = absurd (omega arith)
minimum_none (b ∷ bs) h = refl

-- ---- the tag

-- a tag is known to be a number, or to be none of the nine
pub tag_as : (p : List ℕ) {t k : ℕ} → t ≡ k → called k p ≡ called t p
tag_as p {t} {k} e = ap (λ (x : ℕ). called x p) (sym e)

pub tag_none : (t : ℕ) (p : List ℕ) → known t ≡ false → refused_call ≡ called t p
tag_none t p h =
    rw (
      ne_eqb t 1 (other 1 refl),
      ne_eqb t 2 (other 2 refl),
      ne_eqb t 3 (other 3 refl),
      ne_eqb t 4 (other 4 refl),
      ne_eqb t 5 (other 5 refl),
      ne_eqb t 6 (other 6 refl),
      ne_eqb t 7 (other 7 refl),
      ne_eqb t 8 (other 8 refl),
      ne_eqb t 9 (other 9 refl),
    )
  where
    other : (k : ℕ) → known k ≡ true → t ≡ k → ⊥
    other k y e = let z : true ≡ false = sym y ∙ ap known (sym e) ∙ h in grind arith
