-- Document 01's table: every call's status is the first row of the table, in its order, that fits the call.
use Prim.Native.Nat.{ℕ, suc, ◌-◌, ◌≤◌, max}
use mathlib.Core.Path.{◌≡◌, refl, sym, ap, ap₂, ◌∙◌}
use mathlib.Core.Bool.{Bool, true, false, cond, not, ◌&&◌, ◌||◌, and-true, and-false, or-false}
use mathlib.Core.List.{List, [], ◌∷◌, ◌++◌}
use mathlib.Core.Option.{Option, none, some}
use native.Mathlib.Omega.{arith}
use borrow.Author.Tests.{ltb-true, ltb-false, leb-true, leb-false, lt-ltb, le-ltb, le-leb, lt-leb}
use lib.Dec.{leb, ltb}
use lib.ListN.{length}
use Rattle.bounds.specs.Ranges.{Range, not_empty}
use Rattle.fields.specs.Fields.{key_list, bounds_of}
use Rattle.fields.specs.Forms.{short_keys}
use Rattle.machine.specs.declared.Which.{Which}
use Rattle.machine.specs.Lists.{is_nil, keep, sum}
use Rattle.machine.specs.State.{Bytes, Txn, Entry, State, Ceilings, new_txn, MachineState, marks, key_bytes, txn_marks, txn_bytes, entry_marks, entry_bytes, fits}
use Rattle.machine.specs.Sets.{insert_all, find, without, any_active}
use Rattle.machine.specs.Calls.{Op, begin, track_keys, track_range, check, commit, batch, drop_txn, minimum, on, holding, full, done, reply, ◌>>◌, need}
use Rattle.machine.specs.Serve.{entry, is_id, is_new, short_range, add_keys, add_range, with_txn, begun, entered, settle, track, answer, serve}
use Rattle.machine.specs.Table.{passes_total, track_passes, status_of}
use Rattle.machine.proofs.ListLaws.{not_nil}
use Rattle.machine.proofs.EntryLaws.{empty_rule, rule_idle, entry_sum, entry_length}
use Rattle.machine.proofs.ActiveLaws.{find_id, put_new_sum, put_new_length, put_known_length, without_sum, without_length}

-- ---------------------------------------------------------------- what a state passes

leb_not : (a b : ℕ) → leb a b ≡ not (ltb b a)
leb_not a b = go (ltb b a) refl
  where
    go : (c : Bool) → ltb b a ≡ c → leb a b ≡ not c
    go true e = lt-leb a b (ltb-true b a e)
    go false e = le-leb a b (ltb-false b a e)

ltb_suc : (a b : ℕ) → ltb a (suc b) ≡ leb a b
ltb_suc a b = go (leb a b) refl
  where
    go : (c : Bool) → leb a b ≡ c → ltb a (suc b) ≡ c
    go true e = let z = leb-true a b e in lt-ltb a (suc b) (omega arith)
    go false e = le-ltb a (suc b) (leb-false a b e)

-- "all ceilings .. kept", the other way round
abbrev passes : Ceilings → State → Bool
passes L u = ltb L.active (length u.active) || (ltb L.entries (length u.entries) || passes_total L u)

not_or : (a b c d : Bool) → (not a && not b && not c && not d) ≡ not (a || (b || (c || d)))
not_or true b c d = refl
not_or false true c d = refl
not_or false false true d = refl
not_or false false false d = refl

fits_not : (L : Ceilings) (u : State) → fits L u ≡ not (passes L u)
fits_not L u =
    rw (
      leb_not (length u.active) L.active,
      leb_not (length u.entries) L.entries,
      leb_not (marks u) L.marks,
      leb_not (key_bytes u) L.bytes,
    )
    (not_or
    (ltb L.active (length u.active)) (ltb L.entries (length u.entries))
    (ltb L.marks (marks u)) (ltb L.bytes (key_bytes u)))

passes_no_total : (L : Ceilings) (u : State) → marks u ≤ L.marks → key_bytes u ≤ L.bytes → passes_total L u ≡ false
passes_no_total L u a b = rw (le-ltb L.marks (marks u) a, le-ltb L.bytes (key_bytes u) b)

-- a call that would leave this state has status 6 or 0
settle_status : (L : Ceilings) (s : State) (v : ℕ) (u : State) (b : Bool) → passes L u ≡ b
    → (reply s (settle L v u)).status ≡ cond b 6 0
settle_status L s v u b e = rw (fits_not L u, e) (go b)
  where
    go : (b : Bool) → (reply s (need (not b) full >> done v u)).status ≡ cond b 6 0
    go true = refl
    go false = refl

-- ---------------------------------------------------------------- row 6, call by call

nothing_passes : (L : Ceilings) (u : State) → u.active ≡ [] → u.entries ≡ [] → passes L u ≡ false
unfolding sum
nothing_passes L u a b =
    ap₂ ◌||◌ (le-ltb L.active _ (omega (arith, ap (length {A = Txn}) a)))
    (ap₂ ◌||◌ (le-ltb L.entries _ (omega (arith, ap (length {A = Entry}) b)))
    (passes_no_total L u
    (omega (arith, ap (sum txn_marks) a, ap (sum entry_marks) b)) (omega (arith, ap (sum txn_bytes) a, ap (sum entry_bytes) b))))

module _ (L : Ceilings) (s : State) (ok : MachineState L s) where
  few_active : (n : ℕ) → n ≤ length s.active → ltb L.active n ≡ false
  few_active n h = le-ltb L.active n (omega (arith, ok.ceilings.active))

  same_entries : ltb L.entries (length s.entries) ≡ false
  same_entries = le-ltb L.entries (length s.entries) ok.ceilings.entries

  emptied_passes : (left : List Txn) (n : ℕ) (ks : List Bytes) → left ≡ [] → passes L (entered left n ks s) ≡ false
  emptied_passes left n ks q = nothing_passes L (entered left n ks s) q (rule_idle any_active empty_rule left _ q)

  one_entry_more : (left : List Txn) (e : Entry) → (left ≡ [] → ⊥)
      → ltb L.entries (length (keep (any_active left) (s.entries ++ (e ∷ [])))) ≡ ltb L.entries (suc (length s.entries))
  one_entry_more left e h = ap (ltb L.entries) (entry_length left s.entries e h)

  -- begin adds one active and no mark
  begin_passes : (i : Bytes) → find i s.active ≡ none → passes L (begun i s) ≡ leb L.active (length s.active)
  unfolding sum
  begin_passes i e =
      let t = new_txn i s.last in
      ap₂ ◌||◌ (ap (ltb L.active) (put_new_length t s.active e) ∙ ltb_suc L.active (length s.active))
      (ap₂ ◌||◌ same_entries
      (passes_no_total L (begun i s)
      (omega (arith, put_new_sum txn_marks t s.active e, ok.ceilings.marks))
      (omega (arith, put_new_sum txn_bytes t s.active e, ok.ceilings.bytes))))
      ∙ or-false (leb L.active (length s.active))

  -- a track changes no number of active ones or entries
  track_passes_lem : (t u : Txn) → find u.id s.active ≡ some t → passes L (with_txn u s) ≡ passes_total L (with_txn u s)
  track_passes_lem t u e =
      ap₂ ◌||◌ (few_active _ (omega (arith, put_known_length u s.active t e ok.distinct)))
      (ap (λ b. b || passes_total L (with_txn u s)) same_entries)

  -- commit passes no total: keys move, reads and ranges go
  commit_passes : (i : Bytes) (n : ℕ) (t : Txn) → find i s.active ≡ some t
      → (left : List Txn) → without i s.active ≡ left
      → passes L (entered left n t.writes s) ≡ (leb L.entries (length s.entries) && not (is_nil left))
  commit_passes i n t e [] q = emptied_passes [] n t.writes refl ∙ sym (and-false (leb L.entries (length s.entries)))
  commit_passes i n t e (u ∷ us) q =
      let moved = entry n t.writes in
      let fewer = rw q at (without_length i s.active t e ok.distinct) in
      let fewer_marks = rw q at (without_sum txn_marks i s.active t e ok.distinct) in
      let fewer_bytes = rw q at (without_sum txn_bytes i s.active t e ok.distinct) in
      ap₂ ◌||◌ (few_active _ (omega (arith, fewer)))
      (ap₂ ◌||◌ (one_entry_more (u ∷ us) moved (not_nil u us) ∙ ltb_suc L.entries (length s.entries))
      (passes_no_total L (entered (u ∷ us) n t.writes s)
      (omega (arith, entry_sum entry_marks (u ∷ us) s.entries moved (not_nil u us), fewer_marks, ok.ceilings.marks))
      (omega (arith, entry_sum entry_bytes (u ∷ us) s.entries moved (not_nil u us), fewer_bytes, ok.ceilings.bytes))))
      ∙ or-false (leb L.entries (length s.entries))
      ∙ sym (and-true (leb L.entries (length s.entries)))

  -- a batch adds one entry, if someone is active
  batch_passes : (n : ℕ) (ks : List Bytes) (active : List Txn) → s.active ≡ active
      → passes L (entered active n ks s)
      ≡ (not (is_nil active)
      && (ltb L.entries (suc (length s.entries)) || passes_total L (entered active n ks s)))
  batch_passes n ks [] q = emptied_passes [] n ks refl
  batch_passes n ks (u ∷ us) q =
      ap₂ ◌||◌ (few_active _ (omega (arith, ap (length {A = Txn}) q)))
      (ap (λ b. b || passes_total L (entered (u ∷ us) n ks s)) (one_entry_more (u ∷ us) (entry n ks) (not_nil u us)))

-- ---------------------------------------------------------------- every call

module _ (L : Ceilings) (s : State) (ok : MachineState L s) where
  abbrev Row : Op → Type 0
  Row c = (serve L (holding s) (on c)).status ≡ status_of L s c

  track_status : (i : Bytes) (f : Txn → Txn) → ((t : Txn) → (f t).id ≡ t.id) → (o : Option Txn) → find i s.active ≡ o
      → (reply s (track L s i f)).status ≡ cond (is_new (find i s.active) || false) 1 (cond (track_passes L s i f) 6 0)
  track_status i f h none e = rw e
  track_status i f h (some t) e =
      rw e
      (settle_status L s (txn_marks (f t) - txn_marks t) (with_txn (f t) s) _
      (track_passes_lem L s ok t (f t) (ap (λ j. find j s.active) (h t ∙ sym (find_id i s.active t e)) ∙ e)))

  begin_row : (i : Bytes) (b : Bool) → is_id i ≡ b → (o : Option Txn) → find i s.active ≡ o → Row (begin i)
  unfolding serve answer
  begin_row i false p o e = rw p
  begin_row i true p (some t) e = rw (p, e)
  begin_row i true p none e =
      rw (p, e) (settle_status L s s.last (begun i s) _ (begin_passes L s ok i e))

  keys_row : (w : Which) (i bs : Bytes) (b : Bool) → is_id i ≡ b → (o : Option (List Bytes)) → key_list bs ≡ o → Row (track_keys w i bs)
  unfolding serve answer
  keys_row w i bs false p o e = rw p
  keys_row w i bs true p none e = rw (p, e)
  keys_row w i bs true p (some ks) e = go (short_keys L.key ks) refl
    where
      go : (c : Bool) → short_keys L.key ks ≡ c → Row (track_keys w i bs)
      go true g = rw (p, e, g) (track_status i (add_keys w ks) (λ t. refl) (find i s.active) refl)
      go false g = rw (p, e, g)

  range_row : (i bs : Bytes) (b : Bool) → is_id i ≡ b → (o : Option Range) → bounds_of bs ≡ o → Row (track_range i bs)
  unfolding serve answer
  range_row i bs false p o e = rw p
  range_row i bs true p none e = rw (p, e)
  range_row i bs true p (some r) e = go (short_range L.key r) refl (not_empty r) refl
    where
      go : (c : Bool) → short_range L.key r ≡ c → (d : Bool) → not_empty r ≡ d → Row (track_range i bs)
      go true g true h = rw (p, e, g, h) (track_status i (add_range r) (λ t. refl) (find i s.active) refl)
      go true g false h = rw (p, e, g, h)
      go false g d h = rw (p, e, g)

  commit_row : (i : Bytes) (n : ℕ) (b : Bool) → is_id i ≡ b → (o : Option Txn) → find i s.active ≡ o → Row (commit i n)
  unfolding serve answer
  commit_row i n false p o e = rw p
  commit_row i n true p none e = rw (p, e)
  commit_row i n true p (some t) e =
      let left = without i s.active in
      rw (p, e)
      (settle_status L s (max s.last n) (entered left n t.writes s) _ (commit_passes L s ok i n t e left refl))

  batch_row : (n : ℕ) (bs : Bytes) (o : Option (List Bytes)) → key_list bs ≡ o → Row (batch n bs)
  unfolding serve answer
  batch_row n bs none e = rw e
  batch_row n bs (some ks) e = go (short_keys L.key ks) refl
    where
      go : (b : Bool) → short_keys L.key ks ≡ b → Row (batch n bs)
      go true p =
          let set = insert_all ks [] in
          rw (e, p)
          (settle_status L s (max s.last n) (entered s.active n set s) _
          (batch_passes L s ok n set s.active refl))
      go false p = rw (e, p)

  check_row : (i : Bytes) (b : Bool) → is_id i ≡ b → (o : Option Txn) → find i s.active ≡ o → Row (check i)
  unfolding serve answer
  check_row i false p o e = rw p
  check_row i true p none e = rw (p, e)
  check_row i true p (some t) e = rw (p, e)

  drop_row : (i : Bytes) (b : Bool) → is_id i ≡ b → (o : Option Txn) → find i s.active ≡ o → Row (drop_txn i)
  unfolding serve answer
  drop_row i false p o e = rw p
  drop_row i true p none e = rw (p, e)
  drop_row i true p (some t) e = rw (p, e)

  minimum_row : (active : List Txn) → s.active ≡ active → Row minimum
  unfolding serve answer
  minimum_row [] e = rw e
  minimum_row (t ∷ ts) e = rw e

-- "Status numbers": what serve answers is what the table says
pub rows : (L : Ceilings) (s : State) (c : Op) → MachineState L s → (serve L (holding s) (on c)).status ≡ status_of L s c
unfolding serve answer
rows L s (begin i) ok = begin_row L s ok i (is_id i) refl (find i s.active) refl
rows L s (track_keys w i bs) ok = keys_row L s ok w i bs (is_id i) refl (key_list bs) refl
rows L s (track_range i bs) ok = range_row L s ok i bs (is_id i) refl (bounds_of bs) refl
rows L s (check i) ok = check_row L s ok i (is_id i) refl (find i s.active) refl
rows L s (commit i n) ok = commit_row L s ok i n (is_id i) refl (find i s.active) refl
rows L s (batch n bs) ok = batch_row L s ok n bs (key_list bs) refl
rows L s (drop_txn i) ok = drop_row L s ok i (is_id i) refl (find i s.active) refl
rows L s minimum ok = minimum_row L s ok s.active refl
