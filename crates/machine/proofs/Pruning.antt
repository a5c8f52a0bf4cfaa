-- Pruning never changes a verdict of anyone active or of anyone who begins later.
use Prim.Native.Nat.{ℕ, ◌≤◌, max}
use mathlib.Core.Path.{◌≡◌, refl, sym, ap, ◌∙◌}
use mathlib.Core.Bool.{Bool, ◌||◌, or_assoc}
use mathlib.Core.List.{List, [], ◌∷◌, ◌++◌, Memᴰ}
use native.Mathlib.Omega.{arith}
use lib.Dec.{ltb}
use borrow.Author.Tests.{ltb-true, le-ltb}
use Rattle.machine.specs.Lists.{any, keep, All}
use Rattle.machine.specs.State.{Bytes, Txn, Entry, State, Ceilings, EntryOk, MachineState}
use Rattle.machine.specs.Sets.{prune, in_reach, any_active, tracks, conflict}
use Rattle.machine.specs.Serve.{entry}
use Rattle.machine.proofs.ListLaws.{any_keep, all_map, all_append, keep_all, keep_append, keep_keep, keep_none}
use Rattle.machine.proofs.EntryLaws.{Rule, prune_rule}

-- ---------------------------------------------------------------- the entries that a start sees

abbrev is_above : ℕ → Entry → Bool
is_above n e = ltb n e.seq

abbrev pub above : ℕ → List Entry → List Entry
above n es = keep (is_above n) es

-- a verdict looks at nothing else
pub same_verdict : (t : Txn) (es fs : List Entry) → above t.start es ≡ above t.start fs → conflict t es ≡ conflict t fs
unfolding conflict
same_verdict t es fs q = seen es ∙ ap (any wrote) q ∙ sym (seen fs)
  where
    wrote : Entry → Bool
    wrote e = any (tracks t) e.keys

    seen : (ds : List Entry) → conflict t ds ≡ any wrote (above t.start ds)
    seen ds = any_keep (is_above t.start) wrote ds

pub above_more : (n : ℕ) (es fs more : List Entry) → above n es ≡ above n fs → above n (es ++ more) ≡ above n (fs ++ more)
above_more n es fs more q =
    keep_append (is_above n) es more ∙ ap (λ z. z ++ above n more) q ∙ sym (keep_append (is_above n) fs more)

-- every sequence is at most n
abbrev pub UpTo : ℕ → List Entry → Type 0
UpTo n es = All (λ e. e.seq ≤ n) es

pub up_to_none : (n : ℕ) (es : List Entry) → UpTo n es → above n es ≡ []
up_to_none n es a = keep_none (is_above n) es (all_map _ _ (λ e. le-ltb n e.seq) es a)

pub up_to_larger : (m n : ℕ) (es : List Entry) → m ≤ n → UpTo m es → UpTo n es
up_to_larger m n es h a = all_map (λ e. e.seq ≤ m) (λ e. e.seq ≤ n) (λ e q. omega arith) es a

pub up_to_last : (L : Ceilings) (s : State) → MachineState L s → UpTo s.last s.entries
up_to_last L s ok = all_map (EntryOk L s.last) _ (λ e q. q.committed) s.entries ok.entries

-- ---------------------------------------------------------------- who is active

-- whatever rule the entries leave by
pub rule_above : (stays : List Txn → Entry → Bool) → Rule stays → (ts : List Txn) (es : List Entry) (t : Txn) → Memᴰ t ts
    → above t.start (keep (stays ts) es) ≡ above t.start es
rule_above stays r ts es t m = keep_keep (is_above t.start) (stays ts) (λ e h. r.spares ts t m e (ltb-true t.start e.seq h)) es

-- the active ones that a drop leaves, or any others
pub prune_active : (ts : List Txn) (es : List Entry) (t : Txn) → Memᴰ t ts → conflict t (prune ts es) ≡ conflict t es
prune_active ts es t m = same_verdict t (prune ts es) es (rule_above in_reach prune_rule ts es t m)

-- ---------------------------------------------------------------- who begins later

-- whatever leaves the list, who starts at the greatest sequence or above did not see it
leaving_later : (stays : Entry → Bool) (es : List Entry) (t : Txn) → UpTo t.start es → conflict t (keep stays es) ≡ conflict t es
leaving_later stays es t a = same_verdict t (keep stays es) es (up_to_none _ _ (keep_all _ stays es a) ∙ sym (up_to_none _ es a))

module _ (L : Ceilings) (s : State) (ok : MachineState L s) (ts : List Txn) (t : Txn) where
  -- who begins later starts at the last number or above
  pub prune_later : s.last ≤ t.start → conflict t (prune ts s.entries) ≡ conflict t s.entries
  prune_later h = leaving_later (in_reach ts) s.entries t (up_to_larger _ t.start s.entries h (up_to_last L s ok))

  -- the list is emptied by a commit or a batch too, where nobody is left active
  pub empty_later :
      (n : ℕ) (ks : List Bytes)
      → max s.last n ≤ t.start
      → conflict t (keep (any_active ts) (s.entries ++ (entry n ks ∷ []))) ≡ conflict t (s.entries ++ (entry n ks ∷ []))
  empty_later n ks h =
      let a = up_to_larger _ t.start s.entries (omega arith) (up_to_last L s ok) in
      leaving_later (any_active ts) _ t (all_append _ s.entries (entry n ks ∷ []) a (omega arith, tt))

-- ---------------------------------------------------------------- and afterwards

any_append : {A : Type 0} (p : A → Bool) (xs ys : List A) → any p (xs ++ ys) ≡ any p xs || any p ys
unfolding any
any_append p [] ys = refl
any_append p (x ∷ xs) ys = ap (λ z. p x || z) (any_append p xs ys) ∙ sym (or_assoc (p x) (any p xs) (any p ys))

-- equal verdicts stay equal, whatever is entered after the pruning
pub same_after : (t : Txn) (es fs more : List Entry) → conflict t es ≡ conflict t fs → conflict t (es ++ more) ≡ conflict t (fs ++ more)
unfolding conflict
same_after t es fs more q = any_append _ es more ∙ ap (λ z. z || conflict t more) q ∙ sym (any_append _ fs more)
