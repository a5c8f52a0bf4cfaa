-- What the machine answers to a commit, a batch and a drop, from plain facts on the state.
use Prim.Native.Nat.{ℕ, suc, ◌+◌, ◌≤◌, ◌<◌, max}
use mathlib.Core.Path.{◌≡◌, sym, ap, ◌∙◌, subst}
use mathlib.Core.Bool.{true, false}
use mathlib.Core.List.{List, [], ◌∷◌, ◌++◌}
use mathlib.Core.Option.{none, some}
use mathlib.Core.Logic.{◌⊎◌, inl, inr}
use native.Mathlib.Omega.{arith}
use lib.ListN.{length, length-append}
use Rattle.fields.specs.Fields.{key_list}
use Rattle.fields.specs.Forms.{short_keys}
use Rattle.machine.specs.Lists.{keep, sum}
use Rattle.machine.specs.State.{Bytes, Txn, Entry, State, Ceilings, with_active, with_entries, advanced, Fits, MachineState, marks, key_bytes, txn_marks, txn_bytes, entry_marks, entry_bytes, set_bytes, id_size}
use Rattle.machine.specs.Sets.{insert_all, find, without, pruned, any_active, emptied_if_idle, emptied}
use Rattle.machine.specs.Calls.{commit, batch, drop_txn, malformed, longKey, full, done, absent, refused}
use Rattle.machine.specs.Serve.{entry, enter, answer, settle, entered}
use Rattle.machine.proofs.Kept.{fits_means}
use Rattle.machine.proofs.ListLaws.{sum_one}
use Rattle.machine.proofs.EntryLaws.{anyone_keeps, emptied_is}
use Rattle.machine.proofs.ActiveLaws.{without_sum, without_length, without_same}
use Rattle.answers.proofs.StateLaws.{is_id_lem, no_id, fits_not}

some_left : (left : List Txn) (es : List Entry) → 0 < length left → keep (any_active left) es ≡ es
some_left left es h = anyone_keeps left es (λ e. omega (arith, h, ap (length {A = Txn}) e))

one_more : (es : List Entry) (e : Entry) → length (es ++ (e ∷ [])) ≡ suc (length es)
one_more es e = length-append es (e ∷ []) ∙ omega arith

nothing_fits : (L : Ceilings) (s : State) → Fits L (emptied s)
unfolding sum
nothing_fits L s =
    subst (Fits L) (sym (emptied_is s)) (record { active = omega arith; entries = omega arith; marks = omega arith; bytes = omega arith })

-- the state after an entry while others are active: nothing is emptied
abbrev pub joined : List Txn → ℕ → List Bytes → State → State
joined left n ks s = with_entries (s.entries ++ (entry n ks ∷ [])) (with_active left (advanced n s))

-- with nobody active nothing is left of an entry
pub entry_gone : (n : ℕ) (ks : List Bytes) (s : State) → emptied (joined [] n ks s) ≡ emptied (advanced n s)
entry_gone n ks s = emptied_is (joined [] n ks s) ∙ sym (emptied_is (advanced n s))

module _ (L : Ceilings) (s : State) (left : List Txn) (n : ℕ) (ks : List Bytes) where
  abbrev listed : List Entry
  listed = s.entries ++ (entry n ks ∷ [])

  -- where nobody is left, the list is emptied, the new entry with it
  entered_idle : left ≡ [] → entered left n ks s ≡ emptied (joined [] n ks s)
  entered_idle e = ap (λ (ts : List Txn). emptied_if_idle (joined ts n ks s)) e

  enter_idle : left ≡ [] → enter L s left n ks ≡ done (max s.last n) (emptied (joined [] n ks s))
  enter_idle e = ap (settle L (max s.last n)) (entered_idle e) ∙ rw ((fits_means L (emptied (joined [] n ks s))).1 (nothing_fits L (joined [] n ks s)))

  enter_full : 0 < length left → (Fits L (joined left n ks s) → ⊥) → enter L s left n ks ≡ refused full
  enter_full h k = rw (some_left left listed h, fits_not L (joined left n ks s) k)

  enter_done : 0 < length left → Fits L (joined left n ks s) → enter L s left n ks ≡ done (max s.last n) (joined left n ks s)
  enter_done h f = rw (some_left left listed h, (fits_means L (joined left n ks s)).1 f)

module _ (L : Ceilings) (s : State) (i : Bytes) (n : ℕ) where
  pub commit_malformed : (length i ≡ id_size → ⊥) → answer L s (commit i n) ≡ refused malformed
  unfolding answer
  commit_malformed h = rw (no_id i h)

  pub commit_absent : length i ≡ id_size → find i s.active ≡ none → answer L s (commit i n) ≡ absent (max s.last n) (advanced n s)
  unfolding answer
  commit_absent h e = rw (is_id_lem i h, e)

  module _ (t : Txn) (h : length i ≡ id_size) (e : find i s.active ≡ some t) where
    commit_enters : answer L s (commit i n) ≡ enter L s (without i s.active) n t.writes
    unfolding answer
    commit_enters = rw (is_id_lem i h, e)

    pub commit_alone : without i s.active ≡ [] → answer L s (commit i n) ≡ done (max s.last n) (emptied (joined [] n t.writes s))
    commit_alone k = commit_enters ∙ enter_idle L s (without i s.active) n t.writes k

    pub commit_full : 0 < length (without i s.active) → L.entries ≤ length s.entries → answer L s (commit i n) ≡ refused full
    commit_full k l =
        commit_enters ∙ enter_full L s (without i s.active) n t.writes k (λ f. omega (arith, f.entries, one_more s.entries (entry n t.writes)))

    pub commit_done : 0 < length (without i s.active) → length s.entries < L.entries → MachineState L s → answer L s (commit i n) ≡ done (max s.last n) (joined (without i s.active) n t.writes s)
    commit_done k l o =
        let x : Entry = entry n t.writes in
        let f = o.ceilings in
        commit_enters
        ∙ enter_done L s (without i s.active) n t.writes k
        (record {
          active = omega (arith, f.active, without_length i s.active t e o.distinct);
          entries = omega (arith, one_more s.entries x);
          marks = omega (arith, f.marks, without_sum txn_marks i s.active t e o.distinct, sum_one entry_marks s.entries x);
          bytes = omega (arith, f.bytes, without_sum txn_bytes i s.active t e o.distinct, sum_one entry_bytes s.entries x);
        })

module _ (L : Ceilings) (s : State) (n : ℕ) (bs : Bytes) where
  pub batch_malformed : key_list bs ≡ none → answer L s (batch n bs) ≡ refused malformed
  unfolding answer
  batch_malformed e = rw e

  module _ (ks : List Bytes) (e : key_list bs ≡ some ks) where
    pub batch_long : short_keys L.key ks ≡ false → answer L s (batch n bs) ≡ refused longKey
    unfolding answer
    batch_long k = rw (e, k)

    module _ (k : short_keys L.key ks ≡ true) where
      batch_enters : answer L s (batch n bs) ≡ enter L s s.active n (insert_all ks [])
      unfolding answer
      batch_enters = rw (e, k)

      pub batch_idle : s.active ≡ [] → answer L s (batch n bs) ≡ done (max s.last n) (emptied (joined [] n (insert_all ks []) s))
      batch_idle q = batch_enters ∙ enter_idle L s s.active n (insert_all ks []) q

      -- an entry too many, or a total that would be passed
      pub batch_full : 0 < length s.active
          → (L.entries ≤ length s.entries) ⊎ ((L.marks < marks s + length (insert_all ks [])) ⊎ (L.bytes < key_bytes s + set_bytes (insert_all ks [])))
          → answer L s (batch n bs) ≡ refused full
      batch_full q w = batch_enters ∙ enter_full L s s.active n (insert_all ks []) q (λ f. passes f w)
        where
          x : Entry
          x = entry n (insert_all ks [])

          passes : Fits L (joined s.active n (insert_all ks []) s) → (L.entries ≤ length s.entries) ⊎ ((L.marks < marks s + length (insert_all ks [])) ⊎ (L.bytes < key_bytes s + set_bytes (insert_all ks []))) → ⊥
          passes f (inl a) = omega (arith, f.entries, one_more s.entries x)
          passes f (inr (inl a)) = omega (arith, f.marks, sum_one entry_marks s.entries x)
          passes f (inr (inr a)) = omega (arith, f.bytes, sum_one entry_bytes s.entries x)

      pub batch_done : 0 < length s.active → length s.entries < L.entries → marks s + length (insert_all ks []) ≤ L.marks → key_bytes s + set_bytes (insert_all ks []) ≤ L.bytes → MachineState L s
          → answer L s (batch n bs) ≡ done (max s.last n) (joined s.active n (insert_all ks []) s)
      batch_done q l a b o =
          let x : Entry = entry n (insert_all ks []) in
          batch_enters
          ∙ enter_done L s s.active n (insert_all ks []) q
          (record {
            active = o.ceilings.active;
            entries = omega (arith, one_more s.entries x);
            marks = omega (arith, sum_one entry_marks s.entries x);
            bytes = omega (arith, sum_one entry_bytes s.entries x);
          })

module _ (L : Ceilings) (s : State) (i : Bytes) where
  pub drop_malformed : (length i ≡ id_size → ⊥) → answer L s (drop_txn i) ≡ refused malformed
  unfolding answer
  drop_malformed h = rw (no_id i h)

  pub drop_absent : length i ≡ id_size → find i s.active ≡ none → answer L s (drop_txn i) ≡ absent (length (pruned s).entries) (pruned s)
  unfolding answer
  drop_absent h e = rw (is_id_lem i h, e, without_same i s.active e)

  pub drop_done : (t : Txn) (left : List Txn) → length i ≡ id_size → find i s.active ≡ some t → without i s.active ≡ left
      → answer L s (drop_txn i) ≡ done (length (pruned (with_active left s)).entries) (pruned (with_active left s))
  unfolding answer
  drop_done t left h e w = rw (is_id_lem i h, e, w)
