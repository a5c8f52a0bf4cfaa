-- What a room may hold is exactly a machine state whose last number fits eight bytes: the whole state.
use Prim.Native.Nat.{ℕ, ◌≤◌, ◌<◌, ◌^◌}
use mathlib.Core.Path.{◌≡◌, refl, ap}
use mathlib.Core.Bool.{true, ◌&&◌, and-eq-true_iff}
use mathlib.Core.List.{List, [], ◌∷◌}
use mathlib.Core.Option.{Option, none, some}
use native.Mathlib.Omega.{arith}
use borrow.Author.Tests.{leb-true, le-leb}
use lib.Dec.{leb}
use lib.ListN.{length}
use Rattle.keys.specs.Order.{order, is_less}
use Rattle.keys.proofs.OrderLaws.{less_is}
use Rattle.machine.specs.Lists.{sum, All}
use Rattle.machine.specs.State.{Txn, Entry, State, Ceilings, base, fits, Above, Ascends, ids, TxnOk, EntryOk, MachineState, txn_marks, entry_marks}
use Rattle.machine.proofs.Kept.{fits_means}
use Rattle.codec.specs.Codec.{RunOk}
use Rattle.codec.specs.Formats.{number, bind, only, via, run}
use Rattle.layout.specs.Offsets.{number_size, count_size, length_size}
use Rattle.layout.specs.Keys.{any_order}
use Rattle.layout.specs.Records.{entry_form, txn_form, entries_form, active_form, below_id, head_form, counts_form, part_form}
use Rattle.layout.specs.States.{plain_form, highest, seq_of, start_of, in_time, idle, sound, state_form}
use Rattle.layout.proofs.MachineLaws.{entry_ok, ok_entry, txn_ok, ok_txn}

-- the greatest of a list is at most n exactly when each is
highest_below : {A : Type 0} (f : A → ℕ) (n : ℕ) (xs : List A) → All (λ x. f x ≤ n) xs → highest f xs ≤ n
unfolding highest
highest_below f n [] a = omega arith
highest_below f n (x ∷ xs) a = omega (arith, a.0, highest_below f n xs a.1)

below_highest : {A : Type 0} (f : A → ℕ) (n : ℕ) (xs : List A) → highest f xs ≤ n → All (λ x. f x ≤ n) xs
unfolding highest
below_highest f n [] h = tt
below_highest f n (x ∷ xs) h = (omega arith, below_highest f n xs (omega arith))

module _ (L : Ceilings) (n : ℕ) where
  entries_run : (p : Option Entry) (es : List Entry) → L.key < 256 ^ length_size → n < 256 ^ number_size → sum entry_marks es < 256 ^ count_size → All (EntryOk L n) es → RunOk (entry_form L.key) any_order p es
  unfolding sum
  entries_run p [] h l k a = tt
  entries_run none (e ∷ es) h l k a = (refl, (entry_ok L n e h l (omega arith) a.0, entries_run (some e) es h l (omega arith) a.1))
  entries_run (some q) (e ∷ es) h l k a = (refl, (entry_ok L n e h l (omega arith) a.0, entries_run (some e) es h l (omega arith) a.1))

  run_entries : (p : Option Entry) (es : List Entry) → All (λ e. seq_of e ≤ n) es → RunOk (entry_form L.key) any_order p es → All (EntryOk L n) es
  run_entries p [] b o = tt
  run_entries p (e ∷ es) b o = (ok_entry L n e b.0 o.1.0, run_entries (some e) es b.1 o.1.1)

  after_run : (p : Txn) (ts : List Txn) → L.key < 256 ^ length_size → n < 256 ^ number_size → sum txn_marks ts < 256 ^ count_size → All (TxnOk L n) ts → Above p.id (ids ts) → RunOk (txn_form L.key) below_id (some p) ts
  unfolding sum
  after_run p [] h l k a b = tt
  after_run p (t ∷ ts) h l k a b = (ap is_less b.0, (txn_ok L n t h l (omega arith) a.0, after_run t ts h l (omega arith) a.1 b.1))

  active_run : (ts : List Txn) → L.key < 256 ^ length_size → n < 256 ^ number_size → sum txn_marks ts < 256 ^ count_size → All (TxnOk L n) ts → Ascends (ids ts) → RunOk (txn_form L.key) below_id none ts
  unfolding sum
  active_run [] h l k a b = tt
  active_run (t ∷ ts) h l k a b = (refl, (txn_ok L n t h l (omega arith) a.0, after_run t ts h l (omega arith) a.1 b))

  run_active : (p : Option Txn) (ts : List Txn) → All (λ t. start_of t ≤ n) ts → RunOk (txn_form L.key) below_id p ts → All (TxnOk L n) ts
  run_active p [] b o = tt
  run_active p (t ∷ ts) b o = (ok_txn L n t b.0 o.1.0, run_active (some t) ts b.1 o.1.1)

  run_after : (p : Txn) (ts : List Txn) → RunOk (txn_form L.key) below_id (some p) ts → Above p.id (ids ts)
  run_after p [] o = tt
  run_after p (t ∷ ts) o = (less_is (order p.id t.id) o.0, run_after t ts o.1.1)

  run_distinct : (ts : List Txn) → RunOk (txn_form L.key) below_id none ts → Ascends (ids ts)
  run_distinct [] o = tt
  run_distinct (t ∷ ts) o = run_after t ts o.1.1

idle_true : (ts : List Txn) (es : List Entry) → (ts ≡ [] → es ≡ []) → idle ts es ≡ true
idle_true [] [] h = refl
idle_true [] (e ∷ es) h = absurd (let z : e ∷ es ≡ [] = h refl in omega (arith, ap length z))
idle_true (t ∷ ts) es h = refl

true_idle : (ts : List Txn) (es : List Entry) → idle ts es ≡ true → ts ≡ [] → es ≡ []
true_idle [] [] h e = refl
true_idle [] (x ∷ es) h e = absurd (let z : ◌≡◌ {A = ℕ} 0 1 = cc in omega arith)
true_idle (t ∷ ts) es h e = absurd (omega (arith, ap length e))

-- counts and the key limit fit two bytes
pub record Small (L : Ceilings) : Type 0 where
  pub active : L.active < 256 ^ count_size
  pub entries : L.entries < 256 ^ count_size
  pub marks : L.marks < 256 ^ count_size
  pub key : L.key < 256 ^ length_size

pub base_small : Small base
base_small = record { active = omega arith; entries = omega arith; marks = omega arith; key = omega arith }

-- every machine state has a record, if its last number fits
pub machine_holds : (L : Ceilings) (s : State) → Small L → MachineState L s → s.last < 256 ^ number_size → (state_form L).Ok s
unfolding state_form only plain_form part_form via bind head_form counts_form number entries_form active_form run sound in_time
machine_holds L s w o l =
    let f = o.ceilings in
    let me : sum entry_marks s.entries < 256 ^ count_size = omega (arith, f.marks, w.marks) in
    let mt : sum txn_marks s.active < 256 ^ count_size = omega (arith, f.marks, w.marks) in
    let he : highest seq_of s.entries ≤ s.last = highest_below seq_of s.last s.entries (mapped_entries s.entries o.entries) in
    let ht : highest start_of s.active ≤ s.last = highest_below start_of s.last s.active (mapped_active s.active o.txns) in (
      (
        ((omega arith, refl), l),
        ((omega (arith, f.entries, w.entries), omega (arith, f.active, w.active)), ((entries_run L s.last none s.entries w.key l me o.entries, refl), (active_run L s.last s.active w.key l mt o.txns o.distinct, refl))),
      ),
      rw ((fits_means L s).1 f, le-leb _ _ he, le-leb _ _ ht) (idle_true s.active s.entries o.idle),
    )
  where
    mapped_entries : (es : List Entry) → All (EntryOk L s.last) es → All (λ e. seq_of e ≤ s.last) es
    mapped_entries [] a = tt
    mapped_entries (e ∷ es) a = (a.0.committed, mapped_entries es a.1)

    mapped_active : (ts : List Txn) → All (TxnOk L s.last) ts → All (λ t. start_of t ≤ s.last) ts
    mapped_active [] a = tt
    mapped_active (t ∷ ts) a = (a.0.started, mapped_active ts a.1)

-- what has a record is a machine state
pub holds_machine : (L : Ceilings) (s : State) → (state_form L).Ok s → MachineState L s × (s.last < 256 ^ number_size)
unfolding state_form only plain_form part_form via bind head_form counts_form number entries_form active_form run sound in_time
holds_machine L s o =
    let b = (and-eq-true_iff (fits L s) (in_time s && idle s.active s.entries)).0 o.1 in
    let c = (and-eq-true_iff (in_time s) (idle s.active s.entries)).0 b.1 in
    let d = (and-eq-true_iff (leb (highest seq_of s.entries) s.last) (leb (highest start_of s.active) s.last)).0 c.0 in
    let he = below_highest seq_of s.last s.entries (leb-true _ _ d.0) in
    let ht = below_highest start_of s.last s.active (leb-true _ _ d.1) in (
      record {
        ceilings = (fits_means L s).0 b.0;
        distinct = run_distinct L s.last s.active o.0.1.1.1.0;
        txns = run_active L s.last none s.active ht o.0.1.1.1.0;
        entries = run_entries L s.last none s.entries he o.0.1.1.0.0;
        idle = true_idle s.active s.entries c.1;
      },
      o.0.0.1,
    )
