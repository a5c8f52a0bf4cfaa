-- Formats as values: the record of a value is the bytes that it is written as.
use Rattle.std.specs.Prelude.{ℕ, zero, suc, ◌+◌, ◌*◌, ◌/◌, ◌%◌, ◌≡◌, Bool, true, false, List, [], ◌∷◌, ◌++◌, leb, ltb, length, take, drop}
use Rattle.std.proofs.Math.Option.{Option, none, some}

-- what stands at the front of some bytes: a value and the bytes after its record, or no whole record
pub data Item (A : Type 0) : Type 0 where
  item : A → List ℕ → Item A
  cut : Item A

-- a format: `read` answers a value exactly for its record followed by anything; `Ok` says which values have a record
pub record Codec (A : Type 0) : Type 1 where
  pub write : A → List ℕ
  pub read : List ℕ → Item A
  pub Ok : A → Type 0
  pub read_is : (bs : List ℕ) (a : A) (rest : List ℕ) → read bs ≡ item a rest → (bs ≡ write a ++ rest) × Ok a
  pub write_is : (a : A) (rest : List ℕ) → Ok a → read (write a ++ rest) ≡ item a rest

abbrev pub on_item : {A B : Type 0} → Item A → (A → List ℕ → Item B) → Item B
on_item (item a rest) f = f a rest
on_item cut f = cut

abbrev pub guard : {A : Type 0} → Bool → Item A → Item A
guard true m = m
guard false m = cut

-- a byte is a number below 256
abbrev pub read_byte : List ℕ → Item ℕ
read_byte [] = cut
read_byte (b ∷ bs) = guard (ltb b 256) (item b bs)

-- a number of k bytes, the highest first
unfoldable pub read_number : ℕ → List ℕ → Item ℕ
read_number zero bs = item 0 bs
read_number (suc k) bs = on_item (read_number k bs) (λ n r. on_item (read_byte r) (λ b r'. item (n * 256 + b) r'))

unfoldable pub write_number : ℕ → ℕ → List ℕ
write_number zero n = []
write_number (suc k) n = write_number k (n / 256) ++ (n % 256 ∷ [])

-- n bytes as they are
abbrev pub read_raw : ℕ → List ℕ → Item (List ℕ)
read_raw n bs = guard (leb n (length bs)) (item (take n bs) (drop n bs))

-- one record, and then another whose format the first one's value chooses
module _ {A B : Type 0} (C : Codec A) (D : A → Codec B) where
  abbrev pub read_both : List ℕ → Item (A × B)
  read_both bs = on_item (C.read bs) (λ a r. on_item ((D a).read r) (λ b r'. item (a, b) r'))

  abbrev pub write_both : A × B → List ℕ
  write_both p = C.write p.0 ++ (D p.0).write p.1

  abbrev pub BothOk : A × B → Type 0
  BothOk p = C.Ok p.0 × (D p.0).Ok p.1

-- those values alone that pass a test
abbrev pub read_only : {A : Type 0} → Codec A → (A → Bool) → List ℕ → Item A
read_only C test bs = on_item (C.read bs) (λ a r. guard (test a) (item a r))

-- the same bytes for another form of the value
abbrev pub read_as : {A B : Type 0} → Codec A → (A → B) → List ℕ → Item B
read_as C to bs = on_item (C.read bs) (λ a r. item (to a) r)

-- n records, each fine after the one before
module _ {A : Type 0} (C : Codec A) (before : A → A → Bool) where
  abbrev pub fine : Option A → A → Bool
  fine none a = true
  fine (some p) a = before p a

  unfoldable pub read_run : Option A → ℕ → List ℕ → Item (List A)
  read_run p zero bs = item [] bs
  read_run p (suc n) bs = on_item (C.read bs) (λ a r. guard (fine p a) (on_item (read_run (some a) n r) (λ xs r'. item (a ∷ xs) r')))

  abbrev pub RunOk : Option A → List A → Type 0
  RunOk p [] = Unit {0}
  RunOk p (a ∷ xs) = (fine p a ≡ true) × (C.Ok a × RunOk (some a) xs)

unfoldable pub write_run : {A : Type 0} → Codec A → List A → List ℕ
write_run C [] = []
write_run C (a ∷ xs) = C.write a ++ write_run C xs
