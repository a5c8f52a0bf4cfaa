-- The table's conditions as tests are its conditions in plain words: rows 2, 4, 5, 3 and 1.
use Prim.Native.Nat.{ℕ, ◌<◌}
use mathlib.Core.Path.{◌≡◌, refl, sym, ap, ◌∙◌}
use mathlib.Core.Bool.{Bool, true, false, not, ◌&&◌, ◌||◌, false≢true, and-eq-true_iff}
use mathlib.Core.List.Memᴰ
use mathlib.Core.List.{List, [], ◌∷◌, Memᴰ}
use mathlib.Core.Logic.Iff
use mathlib.Core.Logic.{◌↔◌, ◌⊎◌, inl, inr}
use mathlib.Core.Option.{Option, none, some}
use native.Mathlib.Omega.{arith}
use borrow.Author.Tests.{ltb-true, leb-true, leb-false, lt-ltb, lt-leb, eqb-true, eq-eqb, not-true}
use lib.Dec.{leb, ltb}
use lib.ListN.{length}
use Rattle.bounds.specs.Ranges.{Range, not_empty}
use Rattle.ranges.specs.Made.{key_of}
use Rattle.fields.specs.Fields.{key_list, bounds_of}
use Rattle.fields.specs.Forms.{short_keys}
use Rattle.machine.specs.Lists.{is_nil}
use Rattle.machine.specs.State.{Bytes, Txn, State, Ceilings, id_size}
use Rattle.machine.specs.Sets.{find}
use Rattle.machine.specs.Calls.{Op, takes, of_some}
use Rattle.machine.specs.Serve.{is_id, is_new, short_range}
use Rattle.machine.specs.Table.{is_none, is_malformed, long_keys, long_bound, is_long_key, empty_bounds, is_empty_range, is_again, is_absent}
use Rattle.machine.specs.Words.{Has, BadId, BadList, BadBounds, Malformed, HasLongKey, HasLongBound, LongKey, IsEmpty, EmptyRange, IsActive, Again, NotActive, Absent}
use Rattle.machine.proofs.ListLaws.{or_cases, or_left, or_right}

-- ---------------------------------------------------------------- tests and words

-- a test says what the words say
abbrev pub Says : Bool → Type 0 → Type 0
Says b P = (b ≡ true) ↔ P

pub says_nothing : Says false ⊥
says_nothing = (λ e. false≢true e, λ z. absurd z)

pub says_or : (a b : Bool) (P Q : Type 0) → Says a P → Says b Q → Says (a || b) (P ⊎ Q)
says_or a b P Q p q = (λ e. out (or_cases a b e), back)
  where
    out : (a ≡ true) ⊎ (b ≡ true) → P ⊎ Q
    out (inl e) = inl (p.0 e)
    out (inr e) = inr (q.0 e)

    back : P ⊎ Q → (a || b) ≡ true
    back (inl x) = or_left a b (p.1 x)
    back (inr x) = or_right a b (q.1 x)

pub says_and : (a b : Bool) (P Q : Type 0) → Says a P → Says b Q → Says (a && b) (P × Q)
says_and a b P Q p q =
    (λ e. let d = (and-eq-true_iff a b).0 e in (p.0 d.0, q.0 d.1), λ x. (and-eq-true_iff a b).1 (p.1 x.0, q.1 x.1))

-- something is there that passes a test
pub some_means : {A : Type 0} (o : Option A) (p : A → Bool) → Says (of_some o p) ((a : A) × (o ≡ some a) × (p a ≡ true))
some_means none p = (λ e. absurd (false≢true e), λ z. absurd (let y : ◌≡◌ {A = ℕ} 0 1 = (let x = z.1 in cc) in omega arith))
some_means {A} (some a) p = (λ e. (a, refl, e), back)
  where
    back : (b : A) × (some a ≡ some b) × (p b ≡ true) → p a ≡ true
    back z = let q : z.0 ≡ a = (let y = z.1 in cc) in ap p (sym q) ∙ z.2

-- what a call takes passes the test exactly when the words hold of it
has_means : {A : Type 0} (o : Option A) (p : A → Bool) (P : A → Type 0) → ((a : A) → Says (p a) (P a)) → Says (of_some o p) (Has o P)
has_means none p P f = says_nothing
has_means (some a) p P f = f a

true_means : (b : Bool) → Says b (b ≡ true)
true_means b = (λ e. e, λ e. e)

none_means : {A : Type 0} (o : Option A) → Says (is_none o) (o ≡ none)
none_means none = (λ e. refl, λ e. refl)
none_means (some a) = (λ e. absurd (false≢true e), λ e. absurd (let y : ◌≡◌ {A = ℕ} 0 1 = cc in omega arith))

above_means : (a b : ℕ) → Says (ltb a b) (a < b)
above_means a b = (ltb-true a b, lt-ltb a b)

over_means : (a b : ℕ) → Says (not (leb a b)) (b < a)
over_means a b = (λ e. leb-false a b (not-true (leb a b) e), λ h. ap not (lt-leb a b h))

-- ---------------------------------------------------------------- rows 2, 4 and 5

id_means : (i : Bytes) → Says (not (is_id i)) (BadId i)
id_means i = (out, λ h. back h (is_id i) refl)
  where
    out : not (is_id i) ≡ true → BadId i
    out e q = false≢true (sym (ap not (eq-eqb (length i) id_size q)) ∙ e)

    back : BadId i → (b : Bool) → is_id i ≡ b → not b ≡ true
    back h true e = absurd (h (eqb-true (length i) id_size e))
    back h false e = refl

pub malformed_means : (c : Op) → Says (is_malformed c) (Malformed c)
malformed_means c =
    says_or _ _ _ _
    (says_or _ _ _ _ (has_means (takes c).new _ BadId id_means) (has_means (takes c).id _ BadId id_means))
    (says_or _ _ _ _
    (has_means (takes c).list _ BadList λ bs. none_means (key_list bs))
    (has_means (takes c).bounds _ BadBounds λ bs. none_means (bounds_of bs)))

abbrev LongOf : ℕ → List Bytes → Type 0
LongOf n ks = (k : Bytes) × Memᴰ k ks × (n < length k)

long_of_means : (n : ℕ) (ks : List Bytes) → Says (not (short_keys n ks)) (LongOf n ks)
unfolding short_keys
long_of_means n [] = (λ e. absurd (false≢true e), λ z. absurd (Memᴰ.not-nil z.1))
long_of_means n (x ∷ ks) = step (leb (length x) n) refl (long_of_means n ks)
  where
    step : (b : Bool) → leb (length x) n ≡ b → Says (not (short_keys n ks)) (LongOf n ks) → Says (not (b && short_keys n ks)) (LongOf n (x ∷ ks))
    step false e ih = (λ q. (x, Memᴰ.head refl, leb-false (length x) n e), λ z. refl)
    step true e ih = (λ q. let z = ih.0 q in (z.0, Memᴰ.tail z.1, z.2), back)
      where
        back : LongOf n (x ∷ ks) → not (short_keys n ks) ≡ true
        back z = go (Memᴰ.cases_cons z.1)
          where
            go : (z.0 ≡ x) ⊎ Memᴰ z.0 ks → not (short_keys n ks) ≡ true
            go (inl q) = absurd (omega (arith, leb-true (length x) n e, z.2, ap length q))
            go (inr m) = ih.1 (z.0, m, z.2)

keys_long : (L : Ceilings) (bs : Bytes) → Says (long_keys L bs) (HasLongKey L bs)
keys_long L bs = Iff.trans (some_means (key_list bs) (λ ks. not (short_keys L.key ks))) (out, back)
  where
    out : (ks : List Bytes) × (key_list bs ≡ some ks) × (not (short_keys L.key ks) ≡ true) → HasLongKey L bs
    out z =
        let k = (long_of_means L.key z.0).0 z.2 in
        record { keys = z.0; listed = z.1; key = k.0; among = k.1; long = k.2 }

    back : HasLongKey L bs → (ks : List Bytes) × (key_list bs ≡ some ks) × (not (short_keys L.key ks) ≡ true)
    back k = (k.keys, k.listed, (long_of_means L.key k.keys).1 (k.key, k.among, k.long))

says_nand : (a b : Bool) (P Q : Type 0) → Says (not a) P → Says (not b) Q → Says (not (a && b)) (P ⊎ Q)
says_nand false b P Q p q = (λ e. inl (p.0 refl), λ z. refl)
says_nand true b P Q p q = (λ e. inr (q.0 e), back)
  where
    back : P ⊎ Q → not b ≡ true
    back (inl x) = absurd (false≢true (p.1 x))
    back (inr x) = q.1 x

bounds_long : (L : Ceilings) (bs : Bytes) → Says (long_bound L bs) (HasLongBound L bs)
bounds_long L bs =
    Iff.trans (some_means (bounds_of bs) (λ r. not (short_range L.key r)))
    (λ z. record { range = z.0; read = z.1; long = (either z.0).0 z.2 }, λ k. (k.range, k.read, (either k.range).1 k.long))
  where
    either : (r : Range) → Says (not (short_range L.key r)) ((L.key < length (key_of r.start)) ⊎ (L.key < length (key_of r.end)))
    either r = says_nand (leb (length (key_of r.start)) L.key) (leb (length (key_of r.end)) L.key) (L.key < length (key_of r.start)) (L.key < length (key_of r.end)) (over_means (length (key_of r.start)) L.key) (over_means (length (key_of r.end)) L.key)

pub long_means : (L : Ceilings) (c : Op) → Says (is_long_key L c) (LongKey L c)
long_means L c =
    says_or _ _ _ _
    (has_means (takes c).list (long_keys L) (HasLongKey L) (keys_long L)) (has_means (takes c).bounds (long_bound L) (HasLongBound L) (bounds_long L))

range_empty : (bs : Bytes) → Says (empty_bounds bs) (IsEmpty bs)
range_empty bs =
    Iff.trans (some_means (bounds_of bs) (λ r. not (not_empty r)))
    (λ z. record { range = z.0; read = z.1; empty = not-true (not_empty z.0) z.2 }, λ k. (k.range, k.read, ap not k.empty))

pub empty_means : (c : Op) → Says (is_empty_range c) (EmptyRange c)
empty_means c = has_means (takes c).bounds empty_bounds IsEmpty range_empty

-- ---------------------------------------------------------------- rows 3 and 1

active_means : (s : State) (i : Bytes) → Says (not (is_new (find i s.active))) (IsActive s i)
active_means s i = (λ e. out (find i s.active) refl e, λ k. rw k.found)
  where
    out : (o : Option Txn) → find i s.active ≡ o → not (is_new o) ≡ true → IsActive s i
    out none p e = absurd (false≢true e)
    out (some t) p e = record { txn = t; found = p }

new_means : (o : Option Txn) → Says (is_new o) (o ≡ none)
new_means none = (λ e. refl, λ e. refl)
new_means (some t) = (λ e. absurd (false≢true e), λ e. absurd (let y : ◌≡◌ {A = ℕ} 0 1 = cc in omega arith))

nil_means : {A : Type 0} (xs : List A) → Says (is_nil xs) (xs ≡ [])
nil_means [] = (λ e. refl, λ e. refl)
nil_means (x ∷ xs) = (λ e. absurd (false≢true e), λ e. absurd (let y : ◌≡◌ {A = ℕ} 0 1 = cc in omega arith))

pub again_means : (s : State) (c : Op) → Says (is_again s c) (Again s c)
again_means s c = has_means (takes c).new _ (IsActive s) (active_means s)

pub absent_means : (s : State) (c : Op) → Says (is_absent s c) (Absent s c)
absent_means s c =
    says_or _ _ _ _
    (has_means (takes c).id _ (NotActive s) λ i. new_means (find i s.active))
    (says_and _ _ _ _ (true_means (takes c).anyone) (nil_means s.active))
