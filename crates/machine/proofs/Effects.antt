-- What a call can do to a state: one case for each outcome, with what is known then. The theorems go by these cases.
use Prim.Native.Nat.{ℕ, ◌-◌, max}
use mathlib.Core.Path.{◌≡◌, refl}
use mathlib.Core.Bool.{Bool, true, false}
use mathlib.Core.List.{List, []}
use mathlib.Core.Option.{Option, none, some}
use lib.ListN.{length}
use Rattle.bounds.specs.Ranges.{Range, not_empty}
use Rattle.fields.specs.Fields.{key_list, bounds_of}
use Rattle.fields.specs.Forms.{short_keys}
use Rattle.machine.specs.declared.Which.{Which}
use Rattle.machine.specs.State.{Bytes, Txn, State, Ceilings, advanced, txn_marks, fits}
use Rattle.machine.specs.Sets.{insert_all, find, without, least, conflict}
use Rattle.machine.specs.Calls.{Op, begin, track_keys, track_range, check, commit, batch, drop_txn, minimum, Refusal, malformed, again, longKey, emptyRange, full, Answer, done, absent, refused, ◌>>=◌, ◌>>◌, need, given}
use Rattle.machine.specs.Serve.{is_id, is_new, short_range, verdict, add_keys, add_range, with_txn, begun, entered, dropped, settle, answer}
use Rattle.machine.specs.History.{written}

-- what a call makes of the transaction with this id, if it tracks
pub data Adds (L : Ceilings) (i : Bytes) (t : Txn) : Op → Txn → Type 0 where
  adds_keys :
      (w : Which) (bs : Bytes) (ks : List Bytes) → key_list bs ≡ some ks → short_keys L.key ks ≡ true
      → Adds L i t (track_keys w i bs) (add_keys w ks t)
  adds_range :
      (bs : Bytes) (r : Range) → bounds_of bs ≡ some r → short_range L.key r ≡ true → not_empty r ≡ true
      → Adds L i t (track_range i bs) (add_range r t)

-- the calls that do nothing but miss, if nobody active has this id
pub data Seeks (i : Bytes) : Op → Type 0 where
  seeks_keys : (w : Which) (bs : Bytes) → Seeks i (track_keys w i bs)
  seeks_range : (bs : Bytes) → Seeks i (track_range i bs)
  seeks_check : Seeks i (check i)

-- a refusal, then those of status 1, then those of status 0
pub data Effect (L : Ceilings) (s : State) : Op → Answer → Type 0 where
  refuses : {c : Op} (r : Refusal) → Effect L s c (refused r)
  misses : {c : Op} (i : Bytes) → Seeks i c → find i s.active ≡ none → Effect L s c (absent 0 s)
  nobody : least s.active ≡ none → Effect L s minimum (absent 0 s)
  advances :
      (i : Bytes) (n : ℕ) → find i s.active ≡ none
      → Effect L s (commit i n) (absent (max s.last n) (advanced n s))
  prunes :
      (i : Bytes) (u : State) → u ≡ dropped i s → find i s.active ≡ none
      → Effect L s (drop_txn i) (absent (length u.entries) u)
  checks :
      (i : Bytes) (t : Txn) → find i s.active ≡ some t
      → Effect L s (check i) (done (verdict (conflict t s.entries)) s)
  sees_least : (m : ℕ) → least s.active ≡ some m → Effect L s minimum (done m s)
  begins :
      (i : Bytes) (u : State) → u ≡ begun i s → is_id i ≡ true → find i s.active ≡ none → fits L u ≡ true
      → Effect L s (begin i) (done s.last u)
  tracks :
      {c : Op} (i : Bytes) (t t' : Txn) (u : State) → written s c ≡ [] → u ≡ with_txn t' s → find i s.active ≡ some t
      → Adds L i t c t' → fits L u ≡ true → Effect L s c (done (txn_marks t' - txn_marks t) u)
  commits :
      (i : Bytes) (n : ℕ) (t : Txn) (u : State) → u ≡ entered (without i s.active) n t.writes s
      → find i s.active ≡ some t → fits L u ≡ true → Effect L s (commit i n) (done (max s.last n) u)
  batches :
      (n : ℕ) (bs : Bytes) (ks : List Bytes) (u : State) → u ≡ entered s.active n (insert_all ks []) s
      → key_list bs ≡ some ks → short_keys L.key ks ≡ true → fits L u ≡ true
      → Effect L s (batch n bs) (done (max s.last n) u)
  drops :
      (i : Bytes) (t : Txn) (u : State) → u ≡ dropped i s → find i s.active ≡ some t
      → Effect L s (drop_txn i) (done (length u.entries) u)

-- ---------------------------------------------------------------- each call has one of these outcomes

module _ {L : Ceilings} {s : State} {c : Op} where
  on_need : (b : Bool) (r : Refusal) (x : Answer) → (b ≡ true → Effect L s c x) → Effect L s c (need b r >> x)
  on_need true r x q = q refl
  on_need false r x q = refuses r

  on_given : {A : Type 0} (o : Option A) (x : Answer) (f : A → Answer) → (o ≡ none → Effect L s c x)
      → ((a : A) → o ≡ some a → Effect L s c (f a)) → Effect L s c (given o x >>= f)
  on_given none x f p q = p refl
  on_given (some a) x f p q = q a refl

  on_settle : (v : ℕ) (u : State) → (fits L u ≡ true → Effect L s c (done v u)) → Effect L s c (settle L v u)
  on_settle v u q = on_need (fits L u) full (done v u) q

is_new_lem : (o : Option Txn) → is_new o ≡ true → o ≡ none
is_new_lem none e = refl
is_new_lem (some t) e = cc

pub effect : (L : Ceilings) (s : State) (c : Op) → Effect L s c (answer L s c)
unfolding answer written
effect L s (begin i) =
    on_need (is_id i) malformed _ λ e.
    on_need (is_new (find i s.active)) again _ λ f.
    on_settle _ _ λ g.
    begins i _ refl e (is_new_lem _ f) g
effect L s (track_keys w i bs) =
    on_need (is_id i) malformed _ λ e.
    on_given (key_list bs) _ _ (λ z. refuses malformed) λ ks f.
    on_need (short_keys L.key ks) longKey _ λ g.
    on_given (find i s.active) _ _ (misses i (seeks_keys w bs)) λ t h.
    on_settle _ _ λ k.
    tracks i t (add_keys w ks t) _ refl refl h (adds_keys w bs ks f g) k
effect L s (track_range i bs) =
    on_need (is_id i) malformed _ λ e.
    on_given (bounds_of bs) _ _ (λ z. refuses malformed) λ r f.
    on_need (short_range L.key r) longKey _ λ g.
    on_need (not_empty r) emptyRange _ λ g'.
    on_given (find i s.active) _ _ (misses i (seeks_range bs)) λ t h.
    on_settle _ _ λ k.
    tracks i t (add_range r t) _ refl refl h (adds_range bs r f g g') k
effect L s (check i) =
    on_need (is_id i) malformed _ λ e.
    on_given (find i s.active) _ _ (misses i seeks_check) λ t h.
    checks i t h
effect L s (commit i n) =
    on_need (is_id i) malformed _ λ e.
    on_given (find i s.active) _ _ (advances i n) λ t h.
    on_settle _ _ λ k.
    commits i n t _ refl h k
effect L s (batch n bs) =
    on_given (key_list bs) _ _ (λ z. refuses malformed) λ ks f.
    on_need (short_keys L.key ks) longKey _ λ g.
    on_settle _ _ λ k.
    batches n bs ks _ refl f g k
effect L s (drop_txn i) =
    on_need (is_id i) malformed _ λ e.
    on_given (find i s.active) _ _ (prunes i _ refl) λ t h.
    drops i t _ refl h
effect L s minimum =
    on_given (least s.active) _ _ nobody λ m h.
    sees_least m h
