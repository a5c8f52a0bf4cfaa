-- A record does not say which limit its keys kept to: it is written alike under every limit, and what is read under one is read under the
-- widest.
use Prim.Native.Nat.{ℕ, ◌≤◌}
use mathlib.Core.Path.{◌≡◌, refl, sym, ap, ap₂, ◌∙◌}
use mathlib.Core.List.{List, [], ◌∷◌, ◌++◌}
use mathlib.Core.Bool.{Bool, true, and-eq-true_iff}
use mathlib.Core.Option.{Option, none, some}
use native.Mathlib.Omega.{arith}
use lib.ListN.{length, drop}
use lib.Dec.{leb}
use Rattle.kinds.specs.Bounds.{Bound, unbounded, included, excluded}
use Rattle.bounds.specs.Ranges.{Range}
use Rattle.fields.specs.Forms.{short_keys}
use Rattle.machine.specs.State.{Bytes, Txn, Entry, State, Ceilings}
use Rattle.codec.specs.Codec.{Codec, RunOk, write_run}
use Rattle.codec.specs.Formats.{number, bind, only, via, run}
use Rattle.codec.specs.Stands.{Stands}
use Rattle.layout.specs.Offsets.{number_size, count_size, any_length}
use Rattle.layout.specs.Keys.{key_form, list_form, set_form, below, any_order, bound_form, pair_form, range_form, ranges_form}
use Rattle.layout.specs.Records.{entry_form, txn_form, entries_form, active_form, below_id, part_form}
use Rattle.layout.specs.States.{plain_form, write_heads, heads_of, state_form}
use Rattle.layout.proofs.SizeLaws.{state_bytes}
use Rattle.layout.proofs.HoldLaws.{Small}
use borrow.Author.Tests.{leb-true, le-leb}

-- ---- written alike under every limit

run_alike : {A : Type 0} (C D : Codec A) → ((a : A) → C.write a ≡ D.write a) → (xs : List A) → write_run C xs ≡ write_run D xs
unfolding write_run
run_alike C D h [] = refl
run_alike C D h (x ∷ xs) = ap₂ ◌++◌ (h x) (run_alike C D h xs)

module _ (m n : ℕ) where
  key_alike : (k : Bytes) → (key_form m).write k ≡ (key_form n).write k
  unfolding key_form via bind only
  key_alike k = refl

  pub set_alike : (ks : List Bytes) → (set_form m).write ks ≡ (set_form n).write ks
  unfolding set_form list_form via bind run
  set_alike ks = ap (λ (l : List ℕ). (number count_size).write (length ks) ++ l) (run_alike (key_form m) (key_form n) key_alike ks)

  bound_alike : (b : Bound) → (bound_form m).write b ≡ (bound_form n).write b
  unfolding bound_form key_form via bind only
  bound_alike b = refl

  pub range_alike : (r : Range) → (range_form m).write r ≡ (range_form n).write r
  unfolding range_form pair_form only via bind
  range_alike r = ap₂ ◌++◌ (bound_alike r.start) (bound_alike r.end)

  ranges_alike : (rs : List Range) → (ranges_form m).write rs ≡ (ranges_form n).write rs
  unfolding ranges_form list_form via bind run
  ranges_alike rs = ap (λ (l : List ℕ). (number count_size).write (length rs) ++ l) (run_alike (range_form m) (range_form n) range_alike rs)

  entry_alike : (e : Entry) → (entry_form m).write e ≡ (entry_form n).write e
  unfolding entry_form via bind
  entry_alike e = ap (λ (l : List ℕ). (number number_size).write e.seq ++ l) (set_alike e.keys)

  txn_alike : (t : Txn) → (txn_form m).write t ≡ (txn_form n).write t
  unfolding txn_form via bind
  txn_alike t = rw (set_alike t.writes, set_alike t.reads, ranges_alike t.ranges)

  pub entries_alike : (es : List Entry) → write_run (entry_form m) es ≡ write_run (entry_form n) es
  entries_alike = run_alike (entry_form m) (entry_form n) entry_alike

  pub active_alike : (ts : List Txn) → write_run (txn_form m) ts ≡ write_run (txn_form n) ts
  active_alike = run_alike (txn_form m) (txn_form n) txn_alike

  pub state_alike : (s : State) → (plain_form m).write s ≡ (plain_form n).write s
  state_alike s = state_bytes m s ∙ ap₂ (λ (x y : List ℕ). write_heads (heads_of s) ++ (x ++ y)) (entries_alike s.entries) (active_alike s.active) ∙ sym (state_bytes n s)

-- ---- read under a wider one

run_wide : {A : Type 0} (C D : Codec A) (before : A → A → Bool) → ((a : A) → C.Ok a → D.Ok a) → (p : Option A) (xs : List A) → RunOk C before p xs → RunOk D before p xs
run_wide C D before f p [] o = tt
run_wide C D before f none (x ∷ xs) o = (o.0, (f x o.1.0, run_wide C D before f (some x) xs o.1.1))
run_wide C D before f (some q) (x ∷ xs) o = (o.0, (f x o.1.0, run_wide C D before f (some x) xs o.1.1))

module _ (m n : ℕ) (h : m ≤ n) where
  key_wide : (k : Bytes) → (key_form m).Ok k → (key_form n).Ok k
  unfolding key_form via bind only
  key_wide k o = ((o.0.0, le-leb (length k) n (omega (arith, leb-true (length k) m o.0.1, h))), o.1)

  set_wide : (ks : List Bytes) → (set_form m).Ok ks → (set_form n).Ok ks
  unfolding set_form list_form via bind run
  set_wide ks o = (o.0, (run_wide (key_form m) (key_form n) below key_wide none ks o.1.0, o.1.1))

  bound_wide : (b : Bound) → (bound_form m).Ok b → (bound_form n).Ok b
  unfolding bound_form via bind
  bound_wide unbounded o = o
  bound_wide (included k) o = (o.0, key_wide k o.1)
  bound_wide (excluded k) o = (o.0, key_wide k o.1)

  range_wide : (r : Range) → (range_form m).Ok r → (range_form n).Ok r
  unfolding range_form pair_form only via bind
  range_wide r o = ((bound_wide r.start o.0.0, bound_wide r.end o.0.1), o.1)

  ranges_wide : (rs : List Range) → (ranges_form m).Ok rs → (ranges_form n).Ok rs
  unfolding ranges_form list_form via bind run
  ranges_wide rs o = (o.0, (run_wide (range_form m) (range_form n) any_order range_wide none rs o.1.0, o.1.1))

  entry_wide : (e : Entry) → (entry_form m).Ok e → (entry_form n).Ok e
  unfolding entry_form via bind
  entry_wide e o = (o.0, set_wide e.keys o.1)

  txn_wide : (t : Txn) → (txn_form m).Ok t → (txn_form n).Ok t
  unfolding txn_form via bind
  txn_wide t o = (o.0, (set_wide t.writes o.1.0, (set_wide t.reads o.1.1.0, ranges_wide t.ranges o.1.1.1)))

  state_wide : (s : State) → (plain_form m).Ok s → (plain_form n).Ok s
  unfolding plain_form part_form entries_form active_form via bind run
  state_wide s o =
      let b = o.1.1 in
      (o.0, (o.1.0, ((run_wide (entry_form m) (entry_form n) any_order entry_wide none s.entries b.0.0, b.0.1), (run_wide (txn_form m) (txn_form n) below_id txn_wide none s.active b.1.0, b.1.1))))

-- a state's record is one under the widest limit too
pub stands_wide : (L : Ceilings) → Small L → {s : List ℕ} {at e : ℕ} {st : State} → Stands (state_form L) s at st e → Stands (plain_form any_length) s at st e
unfolding state_form only
stands_wide L small {s} {at} {e} {st} w =
    let r = (state_form L).read_is (drop at s) st (drop e s) w.reads in
    let same : drop at s ≡ (plain_form any_length).write st ++ drop e s = r.0 ∙ ap (λ (l : List ℕ). l ++ drop e s) (state_alike L.key any_length st) in
    let ok = state_wide L.key any_length (omega (arith, small.key)) st r.1.0 in
    record { reads = ap (plain_form any_length).read same ∙ (plain_form any_length).write_is st (drop e s) ok }

-- so are keys that a list was found to keep under a limit
pub short_wide : (n : ℕ) → n ≤ any_length → (ks : List Bytes) → short_keys n ks ≡ true → short_keys any_length ks ≡ true
unfolding short_keys
short_wide n h [] e = refl
short_wide n h (k ∷ ks) e =
    let b = (and-eq-true_iff (leb (length k) n) (short_keys n ks)).0 e in
    let l : length k ≤ any_length = omega (arith, h, leb-true (length k) n b.0) in
    rw (le-leb (length k) any_length l) (short_wide n h ks b.1)
