-- Keys, sets, ranges, entries and transactions have records exactly where they keep what a machine state asks of them.
use Prim.Native.Nat.{ℕ, ◌≤◌, ◌<◌, ◌^◌}
use mathlib.Core.Path.{◌≡◌, refl, ap}
use mathlib.Core.List.{List, [], ◌∷◌}
use mathlib.Core.Option.{Option, none, some}
use native.Mathlib.Omega.{arith}
use borrow.Author.Tests.{leb-true, le-leb}
use lib.ListN.{length}
use Rattle.keys.specs.Order.{order, is_less}
use Rattle.keys.proofs.OrderLaws.{less_is}
use Rattle.kinds.specs.Bounds.{Bound, unbounded, included, excluded}
use Rattle.bounds.specs.Ranges.{Range}
use Rattle.ranges.specs.Made.{key_of}
use Rattle.machine.specs.Lists.{All}
use Rattle.machine.specs.State.{Bytes, Txn, Entry, Ceilings, Above, Ascends, SetOk, RangeOk, TxnOk, EntryOk, txn_marks, entry_marks}
use Rattle.codec.specs.Codec.{RunOk}
use Rattle.codec.specs.Formats.{number, raw, bind, only, via, run}
use Rattle.layout.specs.Offsets.{number_size, count_size, length_size, id_size}
use Rattle.layout.specs.Keys.{key_form, list_form, set_form, below, any_order, bound_form, pair_form, range_form, ranges_form}
use Rattle.layout.specs.Records.{entry_form, TxnHead, txn_head_form, head_of, txn_form}

-- ---- keys and sets

pub key_ok : (m : ℕ) (k : Bytes) → m < 256 ^ length_size → length k ≤ m → (key_form m).Ok k
unfolding key_form via bind only number raw
key_ok m k h l = ((omega arith, le-leb (length k) m l), refl)

key_short : (m : ℕ) (k : Bytes) → (key_form m).Ok k → length k ≤ m
unfolding key_form via bind only number raw
key_short m k o = leb-true (length k) m o.0.1

above_run : (m : ℕ) (p : Bytes) (ks : List Bytes) → m < 256 ^ length_size → All (λ k. length k ≤ m) ks → Above p ks → RunOk (key_form m) below (some p) ks
above_run m p [] h s a = tt
above_run m p (k ∷ ks) h s a = (ap is_less a.0, (key_ok m k h s.0, above_run m k ks h s.1 a.1))

ascends_run : (m : ℕ) (ks : List Bytes) → m < 256 ^ length_size → All (λ k. length k ≤ m) ks → Ascends ks → RunOk (key_form m) below none ks
ascends_run m [] h s a = tt
ascends_run m (k ∷ ks) h s a = (refl, (key_ok m k h s.0, above_run m k ks h s.1 a))

run_short : (m : ℕ) (p : Option Bytes) (ks : List Bytes) → RunOk (key_form m) below p ks → All (λ k. length k ≤ m) ks
run_short m p [] o = tt
run_short m p (k ∷ ks) o = (key_short m k o.1.0, run_short m (some k) ks o.1.1)

run_above : (m : ℕ) (p : Bytes) (ks : List Bytes) → RunOk (key_form m) below (some p) ks → Above p ks
run_above m p [] o = tt
run_above m p (k ∷ ks) o = (less_is (order p k) o.0, run_above m k ks o.1.1)

run_ascends : (m : ℕ) (ks : List Bytes) → RunOk (key_form m) below none ks → Ascends ks
run_ascends m [] o = tt
run_ascends m (k ∷ ks) o = run_above m k ks o.1.1

pub id_long : (h : TxnHead) → txn_head_form.Ok h → length h.id ≡ id_size
unfolding txn_head_form via bind raw
id_long h o = o.0

module _ (L : Ceilings) where
  pub set_ok : (ks : List Bytes) → L.key < 256 ^ length_size → length ks < 256 ^ count_size → SetOk L ks → (set_form L.key).Ok ks
  unfolding set_form list_form via bind number run
  set_ok ks h l s = (l, (ascends_run L.key ks h s.short s.once, refl))

  pub ok_set : (ks : List Bytes) → (set_form L.key).Ok ks → SetOk L ks
  unfolding set_form list_form via bind number run
  ok_set ks o = record { short = run_short L.key none ks o.1.0; once = run_ascends L.key ks o.1.0 }

  -- ---- ranges

  bound_ok : (b : Bound) → L.key < 256 ^ length_size → length (key_of b) ≤ L.key → (bound_form L.key).Ok b
  unfolding bound_form via bind only number
  bound_ok unbounded h l = ((omega arith, refl), key_ok 0 [] (omega arith) (omega arith))
  bound_ok (included k) h l = ((omega arith, refl), key_ok L.key k h l)
  bound_ok (excluded k) h l = ((omega arith, refl), key_ok L.key k h l)

  ok_bound : (b : Bound) → (bound_form L.key).Ok b → length (key_of b) ≤ L.key
  unfolding bound_form via bind only number
  ok_bound unbounded o = omega arith
  ok_bound (included k) o = key_short L.key k o.1
  ok_bound (excluded k) o = key_short L.key k o.1

  pub range_ok : (r : Range) → L.key < 256 ^ length_size → RangeOk L r → (range_form L.key).Ok r
  unfolding range_form pair_form only via bind
  range_ok r h o = ((bound_ok r.start h o.short_start, bound_ok r.end h o.short_end), o.not_empty_lem)

  ok_range : (r : Range) → (range_form L.key).Ok r → RangeOk L r
  unfolding range_form pair_form only via bind
  ok_range r o = record { short_start = ok_bound r.start o.0.0; short_end = ok_bound r.end o.0.1; not_empty_lem = o.1 }

  ranges_run : (p : Option Range) (rs : List Range) → L.key < 256 ^ length_size → All (RangeOk L) rs → RunOk (range_form L.key) any_order p rs
  ranges_run p [] h a = tt
  ranges_run none (r ∷ rs) h a = (refl, (range_ok r h a.0, ranges_run (some r) rs h a.1))
  ranges_run (some q) (r ∷ rs) h a = (refl, (range_ok r h a.0, ranges_run (some r) rs h a.1))

  run_ranges : (p : Option Range) (rs : List Range) → RunOk (range_form L.key) any_order p rs → All (RangeOk L) rs
  run_ranges p [] o = tt
  run_ranges p (r ∷ rs) o = (ok_range r o.1.0, run_ranges (some r) rs o.1.1)

  ranges_ok : (rs : List Range) → L.key < 256 ^ length_size → length rs < 256 ^ count_size → All (RangeOk L) rs → (ranges_form L.key).Ok rs
  unfolding ranges_form list_form via bind number run
  ranges_ok rs h l a = (l, (ranges_run none rs h a, refl))

  ok_ranges : (rs : List Range) → (ranges_form L.key).Ok rs → All (RangeOk L) rs
  unfolding ranges_form list_form via bind number run
  ok_ranges rs o = run_ranges none rs o.1.0

  -- ---- entries and transactions

  pub entry_ok : (n : ℕ) (e : Entry) → L.key < 256 ^ length_size → n < 256 ^ number_size → entry_marks e < 256 ^ count_size → EntryOk L n e → (entry_form L.key).Ok e
  unfolding entry_form via bind number
  entry_ok n e h l k o = (omega (arith, o.committed), set_ok e.keys h k o.keys)

  pub ok_entry : (n : ℕ) (e : Entry) → e.seq ≤ n → (entry_form L.key).Ok e → EntryOk L n e
  unfolding entry_form via bind number
  ok_entry n e l o = record { committed = l; keys = ok_set e.keys o.1 }

  txn_head_ok : (n : ℕ) (t : Txn) → n < 256 ^ number_size → TxnOk L n t → txn_head_form.Ok (head_of t)
  unfolding txn_head_form via bind raw number
  txn_head_ok n t l o = (o.id_length, omega (arith, o.started))

  pub txn_ok : (n : ℕ) (t : Txn) → L.key < 256 ^ length_size → n < 256 ^ number_size → txn_marks t < 256 ^ count_size → TxnOk L n t → (txn_form L.key).Ok t
  unfolding txn_form via bind
  txn_ok n t h l k o =
      (txn_head_ok n t l o, (set_ok t.writes h (omega arith) o.writes, (set_ok t.reads h (omega arith) o.reads, ranges_ok t.ranges h (omega arith) o.ranges)))

  pub ok_txn : (n : ℕ) (t : Txn) → t.start ≤ n → (txn_form L.key).Ok t → TxnOk L n t
  unfolding txn_form via bind
  ok_txn n t l o = record { id_length = id_long (head_of t) o.0; started = l; writes = ok_set t.writes o.1.0; reads = ok_set t.reads o.1.1.0; ranges = ok_ranges t.ranges o.1.1.1 }
