-- Both laws of each format, proved once: reading is exactly writing followed by anything.
use Prim.Native.Nat.{ℕ, zero, suc, ◌+◌, ◌*◌, ◌/◌, ◌%◌, ◌^◌, ◌≤◌, ◌<◌}
use Rattle.std.proofs.Common.{pow-suc, sym, ap, ◌∙◌, arith, ltb-true, lt-ltb, leb-true, le-leb, take-append-drop, length-append, length-take-le}
use Rattle.std.specs.Prelude.{◌≡◌, Bool, true, false, leb, ltb, length, take, drop}
use Rattle.std.proofs.Math.Path.{refl}
use mathlib.Core.List.{List, [], ◌∷◌, ◌++◌, append_assoc}
use Rattle.std.proofs.Math.Option.{Option, some}
use Rattle.std.proofs.Math.Seq.{take-append_seam, drop-append_seam}
use Rattle.codec.specs.Codec.{Item, item, cut, Codec, on_item, guard, read_byte, read_number, write_number, read_raw, read_both, write_both, BothOk, read_only, read_as, fine, read_run, RunOk, write_run}

-- the value that was read first, where two reads one after the other answer b
pub record Came {A B : Type 0} (x : Item A) (f : A → List ℕ → Item B) (b : B) (rest : List ℕ) : Type 0 where
  pub a : A
  pub r : List ℕ
  pub from : x ≡ item a r
  pub into : f a r ≡ item b rest

pub came : {A B : Type 0} (x : Item A) (f : A → List ℕ → Item B) (b : B) (rest : List ℕ) → on_item x f ≡ item b rest → Came x f b rest
came (item a r) f b rest e = record { a = a; r = r; from = refl; into = e }
came cut f b rest e = absurd (let z : ◌≡◌ {A = ℕ} 0 1 = cc in omega arith)

pub guarded : {A : Type 0} (t : Bool) (x : Item A) (b : A) (rest : List ℕ) → guard t x ≡ item b rest → (t ≡ true) × (x ≡ item b rest)
guarded true x b rest e = (refl, e)
guarded false x b rest e = absurd (let z : ◌≡◌ {A = ℕ} 0 1 = cc in omega arith)

-- ---- a number of k bytes

byte_is : (bs : List ℕ) (b : ℕ) (rest : List ℕ) → read_byte bs ≡ item b rest → (bs ≡ b ∷ rest) × (b < 256)
byte_is [] b rest e = absurd (let z : ◌≡◌ {A = ℕ} 0 1 = cc in omega arith)
byte_is (x ∷ bs) b rest e =
    let g = guarded (ltb x 256) (item x bs) b rest e in
    let p : x ≡ b = cc g.1 in
    let q : bs ≡ rest = cc g.1 in
    (cc, omega (arith, ltb-true x 256 g.0))

number_step : (k : ℕ) (bs r rest : List ℕ) (m b n : ℕ) → bs ≡ write_number k m ++ r → m < 256 ^ k → r ≡ b ∷ rest → b < 256 → m * 256 + b ≡ n
    → (bs ≡ write_number (suc k) n ++ rest) × (n < 256 ^ suc k)
unfolding write_number
number_step k bs r rest m b n e l f h q =
    let x : n % 256 ≡ b = omega arith in
    let y : n / 256 ≡ m = omega arith in
    (e ∙ rw (f, x, y, append_assoc), rw (pow-suc 256 k) (omega arith))

pub number_read : (k : ℕ) (bs : List ℕ) (n : ℕ) (rest : List ℕ) → read_number k bs ≡ item n rest → (bs ≡ write_number k n ++ rest) × (n < 256 ^ k)
unfolding read_number write_number
number_read zero bs n rest e =
    let x : 0 ≡ n = cc in
    let y : bs ≡ rest = cc in
    (y, omega arith)
number_read (suc k) bs n rest e =
    let w = came (read_number k bs) (λ m r. on_item (read_byte r) (λ b r'. item (m * 256 + b) r')) n rest e in
    let v = came (read_byte w.r) (λ b r'. item (w.a * 256 + b) r') n rest w.into in
    let i = number_read k bs w.a w.r w.from in
    let j = byte_is w.r v.a v.r v.from in
    let y : v.r ≡ rest = cc v.into in
    number_step k bs w.r rest w.a v.a n i.0 i.1 (j.0 ∙ ap (λ (l : List ℕ). v.a ∷ l) y) j.1 (cc v.into)

pub number_write : (k n : ℕ) (rest : List ℕ) → n < 256 ^ k → read_number k (write_number k n ++ rest) ≡ item n rest
unfolding read_number write_number
number_write zero n rest h = let z : n ≡ 0 = omega arith in rw z
number_write (suc k) n rest h =
    let b : n % 256 < 256 = omega arith in
    let m : n / 256 * 256 + n % 256 ≡ n = omega arith in
    let l : n / 256 < 256 ^ k = omega (arith, pow-suc 256 k) in
    rw (append_assoc, number_write k (n / 256) (n % 256 ∷ rest) l, lt-ltb (n % 256) 256 b, m)

-- ---- bytes as they are

pub raw_read : (n : ℕ) (bs a rest : List ℕ) → read_raw n bs ≡ item a rest → (bs ≡ a ++ rest) × (length a ≡ n)
raw_read n bs a rest e =
    let g = guarded (leb n (length bs)) (item (take n bs) (drop n bs)) a rest e in
    let x : take n bs ≡ a = cc g.1 in
    let y : drop n bs ≡ rest = cc g.1 in
    (rw (← x, ← y) (sym (take-append-drop n bs)), ap length (sym x) ∙ length-take-le n bs (leb-true n (length bs) g.0))

pub raw_write : (n : ℕ) (a rest : List ℕ) → length a ≡ n → read_raw n (a ++ rest) ≡ item a rest
raw_write n a rest e =
    let m : length a ≤ length (a ++ rest) = rw (length-append a rest) (omega arith) in
    rw (← e, le-leb _ _ m, take-append_seam a rest, drop-append_seam a rest)

-- ---- one record and then another

module _ {A B : Type 0} (C : Codec A) (D : A → Codec B) where
  pub both_read : (bs : List ℕ) (p : A × B) (rest : List ℕ) → read_both C D bs ≡ item p rest → (bs ≡ write_both C D p ++ rest) × BothOk C D p
  both_read bs p rest e = go p rest w.a w.r w.from v.a v.r v.from (cc v.into) (cc v.into)
    where
      w : Came (C.read bs) (λ a r. on_item ((D a).read r) (λ b r'. item (a, b) r')) p rest
      w = came (C.read bs) (λ a r. on_item ((D a).read r) (λ b r'. item (a, b) r')) p rest e

      v : Came ((D w.a).read w.r) (λ b r'. item (w.a, b) r') p rest
      v = came ((D w.a).read w.r) (λ b r'. item (w.a, b) r') p rest w.into

      go : (p : A × B) (rest : List ℕ) (a : A) (r : List ℕ) → C.read bs ≡ item a r → (b : B) (r' : List ℕ) → (D a).read r ≡ item b r' → (a, b) ≡ p → r' ≡ rest
          → (bs ≡ write_both C D p ++ rest) × BothOk C D p
      go p rest a r ea b r' eb ep er =
          let x = C.read_is bs a r ea in
          let y = (D a).read_is r b r' eb in
          rw (← ep, ← er) (x.0 ∙ rw (y.0, append_assoc), (x.1, y.1))

  pub both_write : (p : A × B) (rest : List ℕ) → BothOk C D p → read_both C D (write_both C D p ++ rest) ≡ item p rest
  both_write p rest o = rw (append_assoc, C.write_is p.0 ((D p.0).write p.1 ++ rest) o.0, (D p.0).write_is p.1 rest o.1)

-- ---- those that pass a test

module _ {A : Type 0} (C : Codec A) (test : A → Bool) where
  pub only_read : (bs : List ℕ) (a : A) (rest : List ℕ) → read_only C test bs ≡ item a rest → (bs ≡ C.write a ++ rest) × (C.Ok a × (test a ≡ true))
  only_read bs a rest e = go w.a w.r w.from g.0 (cc g.1) (cc g.1)
    where
      w : Came (C.read bs) (λ a r. guard (test a) (item a r)) a rest
      w = came (C.read bs) (λ a r. guard (test a) (item a r)) a rest e

      g : (test w.a ≡ true) × (item w.a w.r ≡ item a rest)
      g = guarded (test w.a) (item w.a w.r) a rest w.into

      go : (x : A) (r : List ℕ) → C.read bs ≡ item x r → test x ≡ true → x ≡ a → r ≡ rest → (bs ≡ C.write a ++ rest) × (C.Ok a × (test a ≡ true))
      go x r ex t ea er = let y = C.read_is bs x r ex in rw (← ea, ← er) (y.0, (y.1, t))

  pub only_write : (a : A) (rest : List ℕ) → C.Ok a × (test a ≡ true) → read_only C test (C.write a ++ rest) ≡ item a rest
  only_write a rest o = rw (C.write_is a rest o.0, o.1)

-- ---- another form of the value

module _ {A B : Type 0} (C : Codec A) (to : A → B) (from : B → A) (back : (b : B) → to (from b) ≡ b) (same : (a : A) → C.Ok a → from (to a) ≡ a) where
  pub as_read : (bs : List ℕ) (b : B) (rest : List ℕ) → read_as C to bs ≡ item b rest → (bs ≡ C.write (from b) ++ rest) × C.Ok (from b)
  as_read bs b rest e = go w.a w.r w.from (cc w.into) (cc w.into)
    where
      w : Came (C.read bs) (λ a r. item (to a) r) b rest
      w = came (C.read bs) (λ a r. item (to a) r) b rest e

      go : (a : A) (r : List ℕ) → C.read bs ≡ item a r → to a ≡ b → r ≡ rest → (bs ≡ C.write (from b) ++ rest) × C.Ok (from b)
      go a r ea eb er = let y = C.read_is bs a r ea in rw (← eb, ← er, same a y.1) (y.0, y.1)

  pub as_write : (b : B) (rest : List ℕ) → C.Ok (from b) → read_as C to (C.write (from b) ++ rest) ≡ item b rest
  as_write b rest o = rw (C.write_is (from b) rest o, back b)

-- ---- a run of records

module _ {A : Type 0} (C : Codec A) (before : A → A → Bool) where
  pub run_read : (p : Option A) (n : ℕ) (bs : List ℕ) (xs : List A) (rest : List ℕ) → read_run C before p n bs ≡ item xs rest
      → (bs ≡ write_run C xs ++ rest) × (RunOk C before p xs × (length xs ≡ n))
  unfolding read_run write_run
  run_read p zero bs xs rest e =
      let ea : [] ≡ xs = cc in
      let er : bs ≡ rest = cc in
      rw (← ea, ← er) (refl, (tt, refl))
  run_read p (suc n) bs xs rest e = go (λ q. run_read q n) w.a w.r w.from g.0 v.a v.r v.from (cc v.into) (cc v.into)
    where
      w : Came (C.read bs) (λ a r. guard (fine C before p a) (on_item (read_run C before (some a) n r) (λ xs r'. item (a ∷ xs) r'))) xs rest
      w = came (C.read bs) (λ a r. guard (fine C before p a) (on_item (read_run C before (some a) n r) (λ xs r'. item (a ∷ xs) r'))) xs rest e

      g : (fine C before p w.a ≡ true) × (on_item (read_run C before (some w.a) n w.r) (λ xs r'. item (w.a ∷ xs) r') ≡ item xs rest)
      g = guarded (fine C before p w.a) (on_item (read_run C before (some w.a) n w.r) (λ xs r'. item (w.a ∷ xs) r')) xs rest w.into

      v : Came (read_run C before (some w.a) n w.r) (λ xs r'. item (w.a ∷ xs) r') xs rest
      v = came (read_run C before (some w.a) n w.r) (λ xs r'. item (w.a ∷ xs) r') xs rest g.1

      go : ((q : Option A) (bs : List ℕ) (xs : List A) (rest : List ℕ) → read_run C before q n bs ≡ item xs rest → (bs ≡ write_run C xs ++ rest) × (RunOk C before q xs × (length xs ≡ n)))
          → (a : A) (r : List ℕ) → C.read bs ≡ item a r → fine C before p a ≡ true → (ys : List A) (r' : List ℕ) → read_run C before (some a) n r ≡ item ys r' → a ∷ ys ≡ xs → r' ≡ rest
          → (bs ≡ write_run C xs ++ rest) × (RunOk C before p xs × (length xs ≡ suc n))
      go ih a r ea t ys r' ey ex er =
          let x = C.read_is bs a r ea in
          let y = ih (some a) r ys r' ey in
          rw (← ex, ← er) (x.0 ∙ rw (y.0, append_assoc), ((t, (x.1, y.1.0)), ap suc y.1.1))

  pub run_write : (p : Option A) (n : ℕ) (xs : List A) (rest : List ℕ) → RunOk C before p xs × (length xs ≡ n) → read_run C before p n (write_run C xs ++ rest) ≡ item xs rest
  unfolding read_run write_run
  run_write p zero [] rest o = refl
  run_write p (suc n) [] rest o = absurd (omega (arith, o.1))
  run_write p zero (a ∷ xs) rest o = absurd (omega (arith, o.1))
  run_write p (suc n) (a ∷ xs) rest o = rw (append_assoc, C.write_is a (write_run C xs ++ rest) o.0.1.0, o.0.0, run_write (some a) n xs rest (o.0.1.1, omega (arith, o.1)))
