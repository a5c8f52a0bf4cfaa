-- Row 6 in plain words, and the whole table: every call on a machine state gets the number of the first row that holds.
use Prim.Native.Nat.{ℕ, suc, ◌+◌, ◌≤◌}
use mathlib.Core.Path.{◌≡◌, refl, sym, ap, ◌∙◌, subst}
use mathlib.Core.Bool.{Bool, true, false, cond, not, ◌||◌, false≢true, true≢false}
use mathlib.Core.List.Memᴰ
use mathlib.Core.List.{List, [], ◌∷◌, Memᴰ}
use mathlib.Core.Logic.Iff
use mathlib.Core.Logic.{◌↔◌, ◌⊎◌, inl, inr}
use mathlib.Core.Option.{some}
use native.Mathlib.Omega.{arith}
use native.Mathlib.Nat.{le_antisymm}
use borrow.Author.Tests.{ltb-true, leb-true, lt-ltb, le-leb, not-true}
use lib.Dec.{leb, ltb}
use lib.ListN.{length, length-append}
use Rattle.bounds.specs.Ranges.{Range}
use Rattle.fields.specs.Fields.{key_list, bounds_of}
use Rattle.machine.specs.declared.Which.{Which}
use Rattle.machine.specs.Lists.{is_nil, sum}
use Rattle.machine.specs.State.{Bytes, Txn, State, Ceilings, set_of, MachineState, marks, key_bytes, range_bytes, txn_marks, txn_bytes, entry_marks, entry_bytes}
use Rattle.machine.specs.Sets.{equal, insert_all, find, without}
use Rattle.machine.specs.Calls.{Op, begin, track_keys, track_range, check, commit, batch, drop_txn, minimum, of_some, on, holding}
use Rattle.machine.specs.Serve.{entry, add_keys, add_range, with_txn, with_entry, serve}
use Rattle.machine.specs.Table.{is_malformed, is_long_key, is_empty_range, is_again, is_absent, is_full, passes_total, track_passes}
use Rattle.machine.specs.Words.{Malformed, LongKey, EmptyRange, Again, Absent, PassesTotal, new_marks, new_bytes, KeysPass, RangePasses, BatchPasses, Other, Full, First, Status}
use Rattle.machine.proofs.ListLaws.{not_nil, keep_holds, sum_append}
use Rattle.machine.proofs.SetLaws.{equal_refl, equal_eq, insert_all_longer, insert_all_bytes}
use Rattle.machine.proofs.WhichLaws.{set_marks, set_bytes_lem}
use Rattle.machine.proofs.EntryLaws.{entry_sum}
use Rattle.machine.proofs.ActiveLaws.{find_id, put_known_sum}
use Rattle.machine.proofs.Rows.{rows}
use Rattle.machine.proofs.WordLaws.{Says, says_nothing, says_or, says_and, some_means, malformed_means, long_means, empty_means, again_means, absent_means}

-- ---------------------------------------------------------------- row 6

-- a total is passed with so many marks and key bytes more
total_means : (L : Ceilings) (s u : State) (m b : ℕ) → marks u ≡ marks s + m → key_bytes u ≡ key_bytes s + b
    → Says (passes_total L u) (PassesTotal L s m b)
total_means L s u m b p q =
    says_or _ _ _ _
    (λ e. omega (arith, ltb-true L.marks (marks u) e, p), λ h. lt-ltb L.marks (marks u) (omega (arith, h, p)))
    (λ e. omega (arith, ltb-true L.bytes (key_bytes u) e, q), λ h. lt-ltb L.bytes (key_bytes u) (omega (arith, h, q)))

at_most : (L n : ℕ) → n ≤ L → Says (leb L n) (n ≡ L)
at_most L n h = (λ e. le_antisymm h (leb-true L n e), λ e. le-leb L n (omega (arith, e)))

module _ (L : Ceilings) (s : State) (ok : MachineState L s) where
  -- what a transaction stores more, the state stores more
  grow_means : (i : Bytes) (t t' : Txn) (m b : ℕ) → find i s.active ≡ some t → t'.id ≡ t.id
      → txn_marks t' ≡ txn_marks t + m → txn_bytes t' ≡ txn_bytes t + b
      → Says (passes_total L (with_txn t' s)) (PassesTotal L s m b)
  grow_means i t t' m b f q p r =
      let k = ap (λ j. find j s.active) (q ∙ sym (find_id i s.active t f)) ∙ f in
      total_means L s (with_txn t' s) m b
      (omega (arith, put_known_sum txn_marks t' s.active t k ok.distinct, p))
      (omega (arith, put_known_sum txn_bytes t' s.active t k ok.distinct, r))

  keys_full : (w : Which) (i bs : Bytes) → Says (of_some (key_list bs) λ ks. track_passes L s i (add_keys w ks)) (KeysPass L s i bs w)
  keys_full w i bs = Iff.trans (some_means (key_list bs) (λ ks. track_passes L s i (add_keys w ks))) (out, back)
    where
      grown : (ks : List Bytes) (t : Txn) → find i s.active ≡ some t
          → Says (passes_total L (with_txn (add_keys w ks t) s)) (PassesTotal L s (new_marks ks (set_of w t)) (new_bytes ks (set_of w t)))
      grown ks t f =
          let set = set_of w t in
          grow_means i t (add_keys w ks t) (new_marks ks set) (new_bytes ks set) f refl
          (set_marks w (insert_all ks set) t (new_marks ks set) (omega (arith, insert_all_longer ks set)))
          (set_bytes_lem w (insert_all ks set) t (new_bytes ks set) (omega (arith, insert_all_bytes ks set)))

      one : (ks : List Bytes)
          → Says (track_passes L s i (add_keys w ks)) ((t : Txn) × (find i s.active ≡ some t) × (passes_total L (with_txn (add_keys w ks t) s) ≡ true))
      one ks = some_means (find i s.active) (λ t. passes_total L (with_txn (add_keys w ks t) s))

      out : (ks : List Bytes) × (key_list bs ≡ some ks) × (track_passes L s i (add_keys w ks) ≡ true) → KeysPass L s i bs w
      out z =
          let t = (one z.0).0 z.2 in
          record { keys = z.0; listed = z.1; active = record { txn = t.0; found = t.1 }; passes = (grown z.0 t.0 t.1).0 t.2 }

      back : KeysPass L s i bs w → (ks : List Bytes) × (key_list bs ≡ some ks) × (track_passes L s i (add_keys w ks) ≡ true)
      back k =
          let a = k.active in
          (k.keys, k.listed, (one k.keys).1 (a.txn, a.found, (grown k.keys a.txn a.found).1 k.passes))

  range_full : (i bs : Bytes) → Says (of_some (bounds_of bs) λ r. track_passes L s i (add_range r)) (RangePasses L s i bs)
  unfolding sum
  range_full i bs = Iff.trans (some_means (bounds_of bs) (λ r. track_passes L s i (add_range r))) (out, back)
    where
      grown : (r : Range) (t : Txn) → find i s.active ≡ some t → Says (passes_total L (with_txn (add_range r t) s)) (PassesTotal L s 1 (range_bytes r))
      grown r t f =
          grow_means i t (add_range r t) 1 (range_bytes r) f refl
          (omega (arith, length-append t.ranges (r ∷ [])))
          (omega (arith, sum_append range_bytes t.ranges (r ∷ [])))

      one : (r : Range) → Says (track_passes L s i (add_range r)) ((t : Txn) × (find i s.active ≡ some t) × (passes_total L (with_txn (add_range r t) s) ≡ true))
      one r = some_means (find i s.active) (λ t. passes_total L (with_txn (add_range r t) s))

      out : (r : Range) × (bounds_of bs ≡ some r) × (track_passes L s i (add_range r) ≡ true) → RangePasses L s i bs
      out z =
          let t = (one z.0).0 z.2 in
          record { range = z.0; read = z.1; active = record { txn = t.0; found = t.1 }; passes = (grown z.0 t.0 t.1).0 t.2 }

      back : RangePasses L s i bs → (r : Range) × (bounds_of bs ≡ some r) × (track_passes L s i (add_range r) ≡ true)
      back k =
          let a = k.active in
          (k.range, k.read, (one k.range).1 (a.txn, a.found, (grown k.range a.txn a.found).1 k.passes))

-- someone else is active
others_mean : (i : Bytes) (us : List Txn) → Says (not (is_nil (without i us))) (Other i us)
others_mean i us = (λ e. out (without i us) refl e, λ k. back k (without i us) refl)
  where
    left : (u : Txn) → Memᴰ u (without i us) ↔ (Memᴰ u us × (not (equal i u.id) ≡ true))
    left u = unfold without in keep_holds (λ v. not (equal i v.id)) us u

    out : (ws : List Txn) → without i us ≡ ws → not (is_nil ws) ≡ true → Other i us
    out [] p e = absurd (false≢true e)
    out (w ∷ ws) p e =
        let k = (left w).0 (rw p (Memᴰ.head refl)) in
        let differs = not-true (equal i w.id) k.1 in
        record { who = w; active = k.0; another = λ q. true≢false (sym (equal_refl i) ∙ (rw q at differs)) }

    back : Other i us → (ws : List Txn) → without i us ≡ ws → not (is_nil ws) ≡ true
    back k [] p = absurd (Memᴰ.not-nil (rw p at ((left k.who).1 (k.active, go (equal i k.who.id) refl))))
      where
        go : (b : Bool) → equal i k.who.id ≡ b → not b ≡ true
        go true e = absurd (k.another (sym (equal_eq i k.who.id e)))
        go false e = refl
    back k (w ∷ ws) p = refl

someone_means : (ts : List Txn) → Says (not (is_nil ts)) (ts ≡ [] → ⊥)
someone_means [] = (λ e q. false≢true e, λ h. absurd (h refl))
someone_means (t ∷ ts) = (λ e. not_nil t ts, λ h. refl)

module _ (L : Ceilings) (s : State) (ok : MachineState L s) where
  abbrev after : ℕ → List Bytes → State
  after n ks = with_entry (entry n (insert_all ks [])) s

  abbrev passing : ℕ → List Bytes → Bool
  passing n ks = ltb L.entries (suc (length s.entries)) || passes_total L (after n ks)

  batch_full : (n : ℕ) (bs : Bytes) → Says (is_full L s (batch n bs)) (BatchPasses L s bs)
  unfolding sum
  batch_full n bs =
      Iff.trans (says_and _ _ _ _ (someone_means s.active) (some_means (key_list bs) (passing n))) (out, back)
    where
      passed : (ks : List Bytes) → (s.active ≡ [] → ⊥)
          → Says (passing n ks) ((length s.entries ≡ L.entries) ⊎ PassesTotal L s (new_marks ks []) (new_bytes ks []))
      passed ks h =
          says_or _ _ _ _
          (λ e. omega (arith, ltb-true L.entries (suc (length s.entries)) e, ok.ceilings.entries), λ e. lt-ltb L.entries (suc (length s.entries)) (omega (arith, e)))
          (total_means L s (after n ks) (new_marks ks []) (new_bytes ks [])
          (omega (arith, entry_sum entry_marks s.active s.entries (entry n (insert_all ks [])) h))
          (omega (arith, entry_sum entry_bytes s.active s.entries (entry n (insert_all ks [])) h)))

      out : (s.active ≡ [] → ⊥) × ((ks : List Bytes) × (key_list bs ≡ some ks) × (passing n ks ≡ true)) → BatchPasses L s bs
      out z = record { keys = z.1.0; listed = z.1.1; someone = z.0; passes = (passed z.1.0 z.0).0 z.1.2 }

      back : BatchPasses L s bs → (s.active ≡ [] → ⊥) × ((ks : List Bytes) × (key_list bs ≡ some ks) × (passing n ks ≡ true))
      back k = (k.someone, (k.keys, k.listed, (passed k.keys k.someone).1 k.passes))

  full_means : (c : Op) → Says (is_full L s c) (Full L s c)
  full_means (begin i) = at_most L.active (length s.active) ok.ceilings.active
  full_means (track_keys w i bs) = keys_full L s ok w i bs
  full_means (track_range i bs) = range_full L s ok i bs
  full_means (check i) = says_nothing
  full_means (commit i n) =
      says_and _ _ _ _ (at_most L.entries (length s.entries) ok.ceilings.entries) (others_mean i s.active)
  full_means (batch n bs) = batch_full n bs
  full_means (drop_txn i) = says_nothing
  full_means minimum = says_nothing

-- ---------------------------------------------------------------- the first row

-- a test that fails: its row does not hold
fails : {P : Type 0} → Says false P → P → ⊥
fails p x = false≢true (p.1 x)

-- the first test that holds gives the number of the first row
module _ (A B D E F G : Type 0) where
  first_test : (a b d e f g : Bool) → Says a A → Says b B → Says d D → Says e E → Says f F → Says g G
      → First 2 A (First 4 B (First 5 D (First 3 E (First 1 F (First 6 G (λ n. n ≡ 0))))))
      (cond a 2 (cond b 4 (cond d 5 (cond e 3 (cond f 1 (cond g 6 0))))))
  first_test true b d e f g p q r t u v = inl (p.0 refl, refl)
  first_test false true d e f g p q r t u v = inr (fails p, inl (q.0 refl, refl))
  first_test false false true e f g p q r t u v = inr (fails p, inr (fails q, inl (r.0 refl, refl)))
  first_test false false false true f g p q r t u v = inr (fails p, inr (fails q, inr (fails r, inl (t.0 refl, refl))))
  first_test false false false false true g p q r t u v =
      inr (fails p, inr (fails q, inr (fails r, inr (fails t, inl (u.0 refl, refl)))))
  first_test false false false false false true p q r t u v =
      inr (fails p, inr (fails q, inr (fails r, inr (fails t, inr (fails u, inl (v.0 refl, refl))))))
  first_test false false false false false false p q r t u v =
      inr (fails p, inr (fails q, inr (fails r, inr (fails t, inr (fails u, inr (fails v, refl))))))

-- one number at most
pub first_one : (k : ℕ) (P : Type 0) (after : ℕ → Type 0) → ((a b : ℕ) → after a → after b → a ≡ b)
    → (a b : ℕ) → First k P after a → First k P after b → a ≡ b
first_one k P after one a b (inl p) (inl q) = p.1 ∙ sym q.1
first_one k P after one a b (inl p) (inr q) = absurd (q.0 p.0)
first_one k P after one a b (inr p) (inl q) = absurd (p.0 q.0)
first_one k P after one a b (inr p) (inr q) = one a b p.1 q.1

pub one_status : (L : Ceilings) (s : State) (c : Op) (a b : ℕ) → Status L s c a → Status L s c b → a ≡ b
one_status L s c =
    first_one _ _ _ (first_one _ _ _ (first_one _ _ _ (first_one _ _ _ (first_one _ _ _ (first_one _ _ _ λ a b p q. p ∙ sym q)))))

-- every call on a machine state gets the number of the first row that holds
pub status_is : (L : Ceilings) (s : State) (c : Op) → MachineState L s → Status L s c (serve L (holding s) (on c)).status
status_is L s c ok =
    subst (Status L s c) (sym (rows L s c ok))
    (first_test (Malformed c) (LongKey L c) (EmptyRange c) (Again s c) (Absent s c) (Full L s c)
    (is_malformed c) (is_long_key L c) (is_empty_range c) (is_again s c) (is_absent s c) (is_full L s c)
    (malformed_means c) (long_means L c) (empty_means c) (again_means s c) (absent_means s c) (full_means L s ok c))

-- a batch with nobody active is never refused for lack of room
pub idle_batch : (L : Ceilings) (s : State) (n : ℕ) (bs : Bytes) → MachineState L s → s.active ≡ []
    → (serve L (holding s) (on (batch n bs))).status ≡ 6 → ⊥
idle_batch L s n bs ok q e =
    go (is_malformed (batch n bs)) (is_long_key L (batch n bs)) (is_full L s (batch n bs)) (rw q) (sym (rows L s (batch n bs) ok) ∙ e)
  where
    go : (a b c : Bool) → c ≡ false → ◌≡◌ {A = ℕ} (cond a 2 (cond b 4 (cond c 6 0))) 6 → ⊥
    go true b c f z = omega (arith, z)
    go false true c f z = omega (arith, z)
    go false false true f z = true≢false f
    go false false false f z = omega (arith, z)
