-- The tests behind a check mean what demand 3 says in plain words.
use mathlib.Core.Path.{◌≡◌}
use mathlib.Core.Bool.{Bool, true, ◌&&◌, ◌||◌, and-eq-true_iff}
use mathlib.Core.List.{List, Memᴰ}
use mathlib.Core.Logic.{◌⊎◌, inl, inr, ◌↔◌}
use lib.Dec.{ltb}
use borrow.Author.Tests.{ltb-true, lt-ltb}
use Rattle.bounds.specs.Ranges.{holds}
use Rattle.machine.specs.Lists.{any}
use Rattle.machine.specs.State.{Bytes, Txn, Entry}
use Rattle.machine.specs.Sets.{equal, tracks, conflict}
use Rattle.machine.specs.History.{InTracked, in_writes_lem, in_reads_lem, in_range, Conflict}
use Rattle.machine.proofs.ListLaws.{or_cases, or_left, or_right, any_some, any_of}
use Rattle.machine.proofs.SetLaws.{equal_refl, equal_eq}

pub set_means : (k : Bytes) (ks : List Bytes) → (any (equal k) ks ≡ true) ↔ Memᴰ k ks
set_means k ks =
    (λ e. let r = any_some (equal k) ks e in rw (equal_eq k r.0 r.2) r.1, λ m. any_of (equal k) ks k m (equal_refl k))

module _ (t : Txn) (k : Bytes) where
  abbrev in_writes : Bool
  in_writes = any (equal k) t.writes

  abbrev in_reads : Bool
  in_reads = any (equal k) t.reads

  abbrev in_ranges : Bool
  in_ranges = any (λ r. holds r k) t.ranges

  tracked : ((in_writes || in_reads) ≡ true) ⊎ (in_ranges ≡ true) → InTracked t k
  tracked (inl e) = by_set (or_cases in_writes in_reads e)
    where
      by_set : (in_writes ≡ true) ⊎ (in_reads ≡ true) → InTracked t k
      by_set (inl e) = in_writes_lem ((set_means k t.writes).0 e)
      by_set (inr e) = in_reads_lem ((set_means k t.reads).0 e)
  tracked (inr e) = let r = any_some (λ r. holds r k) t.ranges e in in_range r.0 r.1 r.2

  tests : InTracked t k → (in_writes || in_reads || in_ranges) ≡ true
  tests (in_writes_lem m) = or_left (in_writes || in_reads) in_ranges (or_left in_writes in_reads ((set_means k t.writes).1 m))
  tests (in_reads_lem m) = or_left (in_writes || in_reads) in_ranges (or_right in_writes in_reads ((set_means k t.reads).1 m))
  tests (in_range r m e) = or_right (in_writes || in_reads) in_ranges (any_of (λ r. holds r k) t.ranges r m e)

  pub tracks_means : (tracks t k ≡ true) ↔ InTracked t k
  unfolding tracks
  tracks_means = (λ e. tracked (or_cases (in_writes || in_reads) in_ranges e), tests)

module _ (t : Txn) (es : List Entry) where
  abbrev overlaps : Entry → Bool
  overlaps e = ltb t.start e.seq && any (tracks t) e.keys

  pub conflict_means : (conflict t es ≡ true) ↔ Conflict t es
  unfolding conflict
  conflict_means = (λ h. found (any_some overlaps es h), λ c. any_of overlaps es c.by c.recorded (both c))
    where
      found : (e : Entry) × Memᴰ e es × (overlaps e ≡ true) → Conflict t es
      found (e, m, h) =
          let b = (and-eq-true_iff (ltb t.start e.seq) (any (tracks t) e.keys)).0 h in
          let k = any_some (tracks t) e.keys b.1 in
          record { by = e; recorded = m; later = ltb-true _ _ b.0; key = k.0; wrote = k.1; tracked = (tracks_means t k.0).0 k.2 }

      both : (c : Conflict t es) → overlaps c.by ≡ true
      both c =
          (and-eq-true_iff _ _).1
          (lt-ltb _ _ c.later, any_of (tracks t) _ c.key c.wrote ((tracks_means t c.key).1 c.tracked))
