-- Every call leaves a machine state where it found one.
use Prim.Native.Nat.{ℕ, ◌≤◌, max}
use mathlib.Core.Path.{◌≡◌, refl}
use mathlib.Core.Bool.{Bool, true, ◌&&◌, not, and-eq-true_iff}
use mathlib.Core.List.{List, [], ◌∷◌}
use mathlib.Core.Logic.{◌↔◌, ◌⊎◌, inl, inr}
use mathlib.Core.Option.{some}
use native.Mathlib.Omega.{arith}
use lib.Dec.{leb}
use lib.ListN.{length}
use borrow.Author.Tests.{leb-true, le-leb, eqb-true}
use Rattle.bounds.specs.Ranges.{Range, not_empty}
use Rattle.ranges.specs.Made.{key_of}
use Rattle.fields.specs.Forms.{short_keys}
use Rattle.machine.specs.Lists.{sum, All}
use Rattle.machine.specs.declared.Which.{Which}
use Rattle.machine.specs.declared.Which.TheVariants.{Writes, Reads}
use Rattle.machine.specs.State.{Bytes, Txn, Entry, State, Ceilings, new_txn, fresh_state, advanced, txn_marks, txn_bytes, entry_marks, entry_bytes, marks, key_bytes, fits, Fits, Ascends, ids, SetOk, RangeOk, TxnOk, EntryOk, MachineState}
use Rattle.machine.specs.Sets.{equal, insert_all, find, without, in_reach, any_active}
use Rattle.machine.specs.Calls.{Op, Call, fresh, on, Room, short, broken, holding, Refusal, malformed, again, longKey, emptyRange, full, refusal_status, Answer, done, absent, refused, reply}
use Rattle.machine.specs.Serve.{is_id, short_range, add_keys, with_txn, entered, dropped, answer, serve}
use Rattle.machine.proofs.ListLaws.{all_map, all_append, all_of, keep_all, keep_sum, keep_length}
use Rattle.machine.proofs.SetLaws.{insert_all_ascends, insert_all_all}
use Rattle.machine.proofs.ActiveLaws.{find_holds, put_ascends, put_all, put_some, without_ascends, without_all}
use Rattle.machine.proofs.EntryLaws.{prune_rule, empty_rule, rule_idle}
use Rattle.machine.proofs.Effects as E
use Rattle.machine.proofs.Effects.{Adds, Effect, effect}

-- ---------------------------------------------------------------- ceilings

pub fits_means : (L : Ceilings) (s : State) → (fits L s ≡ true) ↔ Fits L s
fits_means L s = (out, λ f. rw (le-leb _ _ f.active, le-leb _ _ f.entries, le-leb _ _ f.marks, le-leb _ _ f.bytes))
  where
    out : fits L s ≡ true → Fits L s
    out e =
        let a = leb (length s.active) L.active in
        let b = leb (length s.entries) L.entries in
        let c = leb (marks s) L.marks in
        let d = leb (key_bytes s) L.bytes in
        let abc = (and-eq-true_iff (a && b && c) d).0 e in
        let ab = (and-eq-true_iff (a && b) c).0 abc.0 in
        let both = (and-eq-true_iff a b).0 ab.0 in
        record {
          active = leb-true _ _ both.0;
          entries = leb-true _ _ both.1;
          marks = leb-true _ _ ab.1;
          bytes = leb-true _ _ abc.1;
        }

drop_fits : (L : Ceilings) (s : State) (i : Bytes) → Fits L s → Fits L (dropped i s)
unfolding without
drop_fits L s i f =
    let others : Txn → Bool = λ u. not (equal i u.id) in
    let reached = in_reach (without i s.active) in
    record {
      active = omega (arith, f.active, keep_length others s.active);
      entries = omega (arith, f.entries, keep_length reached s.entries);
      marks = omega (arith, f.marks, keep_sum txn_marks others s.active, keep_sum entry_marks reached s.entries);
      bytes = omega (arith, f.bytes, keep_sum txn_bytes others s.active, keep_sum entry_bytes reached s.entries);
    }

-- ---------------------------------------------------------------- sets, transactions, entries

short_keys_lem : (n : ℕ) (ks : List Bytes) → short_keys n ks ≡ true → All (λ k. length k ≤ n) ks
unfolding short_keys
short_keys_lem n [] e = tt
short_keys_lem n (k ∷ ks) e =
    let b = (and-eq-true_iff (leb (length k) n) (short_keys n ks)).0 e in
    (leb-true _ _ b.0, short_keys_lem n ks b.1)

module _ (L : Ceilings) where
  no_keys : SetOk L []
  no_keys = record { short = tt; once = tt }

  insert_all_ok : (ks set : List Bytes) → short_keys L.key ks ≡ true → SetOk L set → SetOk L (insert_all ks set)
  insert_all_ok ks set h ok =
      record {
        short = insert_all_all _ ks set (short_keys_lem L.key ks h) ok.short;
        once = insert_all_ascends ks set ok.once;
      }

  range_ok : (r : Range) → short_range L.key r ≡ true → not_empty r ≡ true → RangeOk L r
  range_ok r h k =
      let b = (and-eq-true_iff (leb (length (key_of r.start)) L.key) (leb (length (key_of r.end)) L.key)).0 h in
      record { short_start = leb-true _ _ b.0; short_end = leb-true _ _ b.1; not_empty_lem = k }

  new_ok : (n : ℕ) (i : Bytes) → is_id i ≡ true → TxnOk L n (new_txn i n)
  new_ok n i h = record { id_length = eqb-true _ _ h; started = omega arith; writes = no_keys; reads = no_keys; ranges = tt }

  adds_ok : (n : ℕ) (i : Bytes) (t : Txn) (c : Op) (t' : Txn) → Adds L i t c t' → TxnOk L n t → TxnOk L n t'
  adds_ok n i t _ _ (E.adds_keys w bs ks e h) ok = grown w
    where
      grown : (w : Which) → TxnOk L n (add_keys w ks t)
      grown Writes =
          record {
            id_length = ok.id_length;
            started = ok.started;
            writes = insert_all_ok ks _ h ok.writes;
            reads = ok.reads;
            ranges = ok.ranges;
          }
      grown Reads =
          record {
            id_length = ok.id_length;
            started = ok.started;
            writes = ok.writes;
            reads = insert_all_ok ks _ h ok.reads;
            ranges = ok.ranges;
          }
  adds_ok n i t _ _ (E.adds_range bs r e h k) ok =
      record {
        id_length = ok.id_length;
        started = ok.started;
        writes = ok.writes;
        reads = ok.reads;
        ranges = all_append _ t.ranges (r ∷ []) ok.ranges (range_ok r h k, tt);
      }

  -- the last number never falls
  txn_later : (m n : ℕ) (t : Txn) → TxnOk L m t → TxnOk L (max m n) t
  txn_later m n t ok =
      record { id_length = ok.id_length; started = omega arith; writes = ok.writes; reads = ok.reads; ranges = ok.ranges }

  entry_later : (m n : ℕ) (e : Entry) → EntryOk L m e → EntryOk L (max m n) e
  entry_later m n e ok = record { committed = omega arith; keys = ok.keys }

-- ---------------------------------------------------------------- machine states

module _ (L : Ceilings) (s : State) (ok : MachineState L s) where
  found_ok : (i : Bytes) (t : Txn) → find i s.active ≡ some t → TxnOk L s.last t
  found_ok i t e = all_of _ s.active t (find_holds i s.active t e) ok.txns

  put_ok : (t : Txn) (u : State) → u ≡ with_txn t s → fits L u ≡ true → TxnOk L s.last t → MachineState L u
  put_ok t u e f p =
      rw e
      (record {
        ceilings = rw e at ((fits_means L u).0 f);
        distinct = put_ascends t _ ok.distinct;
        txns = put_all _ t _ p ok.txns;
        entries = ok.entries;
        idle = λ z. absurd (put_some _ _ z);
      })

  joined_ok : (left : List Txn) (n : ℕ) (ks : List Bytes) (u : State) → u ≡ entered left n ks s → fits L u ≡ true
      → Ascends (ids left) → All (TxnOk L s.last) left → SetOk L ks → MachineState L u
  joined_ok left n ks u e f a b c =
      let before = all_map _ _ (entry_later L s.last n) s.entries ok.entries in
      rw e
      (record {
        ceilings = rw e at ((fits_means L u).0 f);
        distinct = a;
        txns = all_map _ _ (txn_later L s.last n) left b;
        entries = keep_all _ (any_active left) _ (all_append _ s.entries _ before (record { committed = omega arith; keys = c }, tt));
        idle = rule_idle any_active empty_rule left _;
      })

  dropped_ok : (i : Bytes) (u : State) → u ≡ dropped i s → MachineState L u
  dropped_ok i u e =
      let left = without i s.active in
      rw e
      (record {
        ceilings = drop_fits L s i ok.ceilings;
        distinct = without_ascends i _ ok.distinct;
        txns = without_all i _ _ ok.txns;
        entries = keep_all _ (in_reach left) s.entries ok.entries;
        idle = rule_idle in_reach prune_rule left s.entries;
      })

  advanced_ok : (n : ℕ) → MachineState L (advanced n s)
  advanced_ok n =
      let f = ok.ceilings in
      record {
        ceilings = record { active = f.active; entries = f.entries; marks = f.marks; bytes = f.bytes };
        distinct = ok.distinct;
        txns = all_map _ _ (txn_later L s.last n) s.active ok.txns;
        entries = all_map _ _ (entry_later L s.last n) s.entries ok.entries;
        idle = ok.idle;
      }

abbrev AnswerOk : Ceilings → Answer → Type 0
AnswerOk L (done v s) = MachineState L s
AnswerOk L (absent v s) = MachineState L s
AnswerOk L (refused r) = Unit {0}

kept : (L : Ceilings) (s : State) (ok : MachineState L s) (c : Op) (x : Answer) → Effect L s c x → AnswerOk L x
kept L s ok c _ (E.refuses r) = tt
kept L s ok c _ (E.misses i q e) = ok
kept L s ok _ _ (E.nobody e) = ok
kept L s ok _ _ (E.advances i n e) = advanced_ok L s ok n
kept L s ok _ _ (E.prunes i u q e) = dropped_ok L s ok i u q
kept L s ok _ _ (E.checks i t e) = ok
kept L s ok _ _ (E.sees_least m e) = ok
kept L s ok _ _ (E.begins i u q h e f) = put_ok L s ok _ u q f (new_ok L s.last i h)
kept L s ok c _ (E.tracks i t t' u w q e a f) = put_ok L s ok t' u q f (adds_ok L _ i t c t' a (found_ok L s ok i t e))
kept L s ok _ _ (E.commits i n t u q e f) =
    joined_ok L s ok _ n t.writes u q f (without_ascends i _ ok.distinct) (without_all i _ _ ok.txns)
    (found_ok L s ok i t e).writes
kept L s ok _ _ (E.batches n bs ks u q e h f) =
    joined_ok L s ok _ n _ u q f ok.distinct ok.txns (insert_all_ok L ks [] h (no_keys L))
kept L s ok _ _ (E.drops i t u q e) = dropped_ok L s ok i u q

-- ---------------------------------------------------------------- rooms

abbrev pub RoomOk : Ceilings → Room → Type 0
RoomOk L short = Unit {0}
RoomOk L broken = Unit {0}
RoomOk L (holding s) = MachineState L s

reply_ok : (L : Ceilings) (s : State) (x : Answer) → MachineState L s → AnswerOk L x → RoomOk L (reply s x).room
reply_ok L s (done v u) p q = q
reply_ok L s (absent v u) p q = q
reply_ok L s (refused r) p q = p

pub fresh_ok : (L : Ceilings) (n : ℕ) → MachineState L (fresh_state n)
unfolding sum
fresh_ok L n =
    record {
      ceilings = record { active = omega arith; entries = omega arith; marks = omega arith; bytes = omega arith };
      distinct = tt;
      txns = tt;
      entries = tt;
      idle = λ e. refl;
    }

pub serve_keeps : (L : Ceilings) (room : Room) (c : Call) → RoomOk L room → RoomOk L (serve L room c).room
unfolding serve
serve_keeps L short c ok = tt
serve_keeps L broken (fresh n) ok = fresh_ok L n
serve_keeps L (holding s) (fresh n) ok = fresh_ok L n
serve_keeps L broken (on c) ok = tt
serve_keeps L (holding s) (on c) ok = reply_ok L s (answer L s c) ok (kept L s ok c _ (effect L s c))

-- ---------------------------------------------------------------- refusals

-- statuses 2 to 7 give value 0 and leave the room as it was
pub refuses : (L : Ceilings) (room : Room) (c : Call) → 2 ≤ (serve L room c).status
    → ((serve L room c).value ≡ 0) × ((serve L room c).room ≡ room)
unfolding serve
refuses L short c h = (refl, refl)
refuses L broken (fresh n) h = absurd (omega arith)
refuses L broken (on c) h = (refl, refl)
refuses L (holding s) (fresh n) h = absurd (omega arith)
refuses L (holding s) (on c) h = of_answer (answer L s c) h
  where
    of_answer : (x : Answer) → 2 ≤ (reply s x).status → ((reply s x).value ≡ 0) × ((reply s x).room ≡ holding s)
    of_answer (done v u) k = absurd (omega arith)
    of_answer (absent v u) k = absurd (omega arith)
    of_answer (refused r) k = (refl, refl)

-- a refusal's status is neither 0, 1 nor 7
pub refusal_number : (r : Refusal) → (2 ≤ refusal_status r) × (refusal_status r ≡ 7 → ⊥)
refusal_number malformed = (omega arith, λ e. omega (arith, e))
refusal_number again = (omega arith, λ e. omega (arith, e))
refusal_number longKey = (omega arith, λ e. omega (arith, e))
refusal_number emptyRange = (omega arith, λ e. omega (arith, e))
refusal_number full = (omega arith, λ e. omega (arith, e))

-- a room that holds a machine state never gets 7
pub not_7 : (L : Ceilings) (s : State) (c : Call) → (serve L (holding s) c).status ≡ 7 → ⊥
unfolding serve
not_7 L s (fresh n) = λ e. omega (arith, e)
not_7 L s (on c) = of_answer (answer L s c)
  where
    of_answer : (x : Answer) → (reply s x).status ≡ 7 → ⊥
    of_answer (done v u) = λ e. omega (arith, e)
    of_answer (absent v u) = λ e. omega (arith, e)
    of_answer (refused r) = (refusal_number r).1

-- "7: room too short or, save for fresh, not the record of a machine state"
pub row_7 : (L : Ceilings) (room : Room) (c : Call)
    → ((serve L room c).status ≡ 7) ↔ ((room ≡ short) ⊎ ((room ≡ broken) × ((n : ℕ) → c ≡ fresh n → ⊥)))
unfolding serve
row_7 L short c = (λ e. inl refl, λ z. refl)
row_7 L broken (fresh n) = (λ e. absurd (omega arith), back)
  where
    back : (broken ≡ short) ⊎ ((broken ≡ broken) × ((m : ℕ) → fresh n ≡ fresh m → ⊥)) → ◌≡◌ {A = ℕ} 0 7
    back (inl q) = cc
    back (inr z) = absurd (z.1 n refl)
row_7 L broken (on c) = (λ e. inr (refl, λ n q. let z : ◌≡◌ {A = ℕ} 0 1 = cc in omega arith), λ z. refl)
row_7 L (holding s) c = (λ e. absurd (not_7 L s c e), back)
  where
    back : (holding s ≡ short) ⊎ ((holding s ≡ broken) × ((n : ℕ) → c ≡ fresh n → ⊥)) → (serve L (holding s) c).status ≡ 7
    back (inl q) = cc
    back (inr z) = cc
