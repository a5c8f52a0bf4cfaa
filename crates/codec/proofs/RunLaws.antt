-- A walk over a run of records: what each turn shows of what the whole run reads as.
use Prim.Native.Nat.{ℕ, zero, suc, ◌-◌, ◌≤◌, ◌<◌}
use mathlib.Core.Path.{◌≡◌, refl, sym, ap, ◌∙◌}
use mathlib.Core.Bool.{Bool, true, false}
use mathlib.Core.List.{List, [], ◌∷◌, ◌++◌, append_assoc, append-nil}
use mathlib.Core.Option.{Option, none, some}
use native.Mathlib.Omega.{arith}
use lib.ListN.{drop}
use Rattle.codec.specs.Codec.{Item, item, cut, Codec, on_item, guard, fine, read_run}
use Rattle.codec.specs.Formats.{run}
use Rattle.codec.specs.Stands.{Stands}

-- the values that were read already, before those that are still to be read
abbrev pub behind : {A : Type 0} → List A → Item (List A) → Item (List A)
behind done (item xs r) = item (done ++ xs) r
behind done cut = cut

module _ {A : Type 0} (C : Codec A) (before : A → A → Bool) where
  pub read_more : (p : Option A) (n : ℕ) (bs : List ℕ) → 0 < n
      → read_run C before p n bs ≡ on_item (C.read bs) (λ a r. guard (fine C before p a) (on_item (read_run C before (some a) (n - 1) r) (λ xs r'. item (a ∷ xs) r')))
  unfolding read_run
  read_more p zero bs h = absurd (omega arith)
  read_more p (suc n) bs h = let e : suc n - 1 ≡ n = omega arith in rw e

  read_none : (p : Option A) (n : ℕ) (bs : List ℕ) → n ≤ 0 → read_run C before p n bs ≡ item [] bs
  unfolding read_run
  read_none p zero bs h = refl
  read_none p (suc n) bs h = absurd (omega arith)

  pub behind_none : (x : Item (List A)) → x ≡ behind [] x
  behind_none (item xs r) = refl
  behind_none cut = refl

  pub behind_one : (done : List A) (a : A) (x : Item (List A)) → behind done (on_item x (λ xs r. item (a ∷ xs) r)) ≡ behind (done ++ (a ∷ [])) x
  behind_one done a (item xs r) = ap (λ (l : List A). item l r) (sym (append_assoc done (a ∷ []) xs))
  behind_one done a cut = refl

  -- of n records from at on those up to e are read, p the last of them, and `left` are still to be read
  pub record Walk (s : List ℕ) (at n : ℕ) (p : Option A) (e left : ℕ) : Type 0 where
    pub done : List A
    pub same : read_run C before none n (drop at s) ≡ behind done (read_run C before p left (drop e s))

  abbrev pub walk_start : (s : List ℕ) (at n : ℕ) → Walk s at n none at n
  walk_start s at n = record { done = []; same = behind_none (read_run C before none n (drop at s)) }

  module _ {s : List ℕ} {at n : ℕ} {p : Option A} {e left : ℕ} (v : Walk s at n p e left) where
    abbrev pub walk_next : 0 < left → (a : A) (next : ℕ) → Stands C s e a next → fine C before p a ≡ true → Walk s at n (some a) next (left - 1)
    walk_next h a next w f =
        record {
          done = v.done ++ (a ∷ []);
          same = v.same ∙ rw (read_more p left (drop e s) h, w.reads, f) (behind_one v.done a (read_run C before (some a) (left - 1) (drop next s)));
        }

    -- no record stands where one is due
    pub walk_cut : 0 < left → C.read (drop e s) ≡ cut → (run C before n).read (drop at s) ≡ cut
    unfolding run
    walk_cut h w = v.same ∙ rw (read_more p left (drop e s) h, w)

    -- the next record is not fine after the one before
    pub walk_unfit : 0 < left → (a : A) (next : ℕ) → Stands C s e a next → fine C before p a ≡ false → (run C before n).read (drop at s) ≡ cut
    unfolding run
    walk_unfit h a next w f = v.same ∙ rw (read_more p left (drop e s) h, w.reads, f)

    pub walk_end : left ≤ 0 → Stands (run C before n) s at v.done e
    unfolding run
    walk_end h = record { reads = v.same ∙ rw (read_none p left (drop e s) h, append-nil v.done) }
