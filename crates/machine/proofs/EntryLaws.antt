-- What a rule for leaving the list of entries must keep to, and that pruning and emptying do: where nobody is active all leave, and
-- what someone active sees stays.
use Prim.Native.Nat.{ℕ, suc, ◌+◌, ◌<◌}
use mathlib.Core.Path.{◌≡◌, refl, sym, ap, ap₂, ◌∙◌}
use mathlib.Core.Bool.{Bool, true, false}
use mathlib.Core.List.Memᴰ
use mathlib.Core.List.{List, [], ◌∷◌, ◌++◌, Memᴰ}
use native.Mathlib.Omega.{arith}
use lib.ListN.{length, length-append}
use borrow.Author.Tests.{le-leb}
use Rattle.machine.specs.Lists.{keep, sum}
use Rattle.machine.specs.State.{Txn, Entry, State, with_active, with_entries}
use Rattle.machine.specs.Sets.{least_of, in_reach, any_active, pruned, emptied}
use Rattle.machine.proofs.Minimum.{least_is}
use Rattle.machine.proofs.ListLaws.{all_from, keep_none, keep_whole, sum_append}

pub record Rule (stays : List Txn → Entry → Bool) : Type 0 where
  pub idle : (e : Entry) → stays [] e ≡ false
  pub spares : (ts : List Txn) (t : Txn) → Memᴰ t ts → (e : Entry) → t.start < e.seq → stays ts e ≡ true

pub prune_rule : Rule in_reach
unfolding in_reach
prune_rule = record { idle = λ e. refl; spares = spares }
  where
    spares : (ts : List Txn) (t : Txn) → Memᴰ t ts → (e : Entry) → t.start < e.seq → in_reach ts e ≡ true
    spares [] t m e h = absurd (Memᴰ.not-nil m)
    spares (u ∷ us) t m e h = le-leb (least_of u us) e.seq (omega (arith, h, (least_is u us).below t m))

pub empty_rule : Rule any_active
unfolding any_active
empty_rule = record { idle = λ e. refl; spares = spares }
  where
    spares : (ts : List Txn) (t : Txn) → Memᴰ t ts → (e : Entry) → t.start < e.seq → any_active ts e ≡ true
    spares [] t m e h = absurd (Memᴰ.not-nil m)
    spares (u ∷ us) t m e h = refl

pub rule_idle : (stays : List Txn → Entry → Bool) → Rule stays → (ts : List Txn) (es : List Entry) → ts ≡ [] → keep (stays ts) es ≡ []
rule_idle stays r ts es h = ap (λ us. keep (stays us) es) h ∙ keep_none (stays []) es (all_from _ es λ e m. r.idle e)

-- with someone active nothing is emptied
pub anyone_keeps : (ts : List Txn) (es : List Entry) → (ts ≡ [] → ⊥) → keep (any_active ts) es ≡ es
unfolding any_active
anyone_keeps [] es h = absurd (h refl)
anyone_keeps (t ∷ ts) es h = keep_whole (any_active (t ∷ ts)) es (all_from _ es λ e m. refl)

pub entry_sum : (f : Entry → ℕ) (ts : List Txn) (es : List Entry) (e : Entry) → (ts ≡ [] → ⊥)
    → sum f (keep (any_active ts) (es ++ (e ∷ []))) ≡ sum f es + f e
unfolding sum
entry_sum f ts es e h = ap (sum f) (anyone_keeps ts (es ++ (e ∷ [])) h) ∙ sum_append f es (e ∷ []) ∙ (omega arith)

pub entry_length : (ts : List Txn) (es : List Entry) (e : Entry) → (ts ≡ [] → ⊥)
    → length (keep (any_active ts) (es ++ (e ∷ []))) ≡ suc (length es)
entry_length ts es e h = ap (length {A = Entry}) (anyone_keeps ts (es ++ (e ∷ [])) h) ∙ length-append es (e ∷ []) ∙ (omega arith)

-- an emptied state has nobody active and no entries
pub emptied_is : (s : State) → emptied s ≡ with_entries [] (with_active [] s)
emptied_is s = ap (λ (es : List Entry). with_entries es (with_active [] s)) (rule_idle any_active empty_rule [] s.entries refl)

-- with nobody active pruning is emptying
pub idle_pruned : (s : State) → s.active ≡ [] → pruned s ≡ emptied s
idle_pruned s a =
    ap₂ (λ (ts : List Txn) (es : List Entry). with_entries es (with_active ts s)) a (rule_idle in_reach prune_rule s.active s.entries a)
    ∙ sym (emptied_is s)
