-- A list stands where its count does and so many of its chain; the lists of keys and of ranges count one mark each.
use Rattle.std.specs.Prelude.{Option, Some, None}
use Prim.Native.Nat.{ℕ, ◌+◌, ◌-◌, ◌<◌}
use mathlib.Core.Path.{◌≡◌, refl, sym, ◌∙◌}
use mathlib.Core.List.{List, [], ◌∷◌}
use native.Mathlib.Omega.{arith}
use lib.ListN.{length}
use Rattle.machine.proofs.ListLaws.{length_sum}
use Rattle.codec.specs.Formats.{number, bind, via}
use Rattle.codec.specs.Stands.{Stands}
use Rattle.layout.specs.Offsets.{count_size}
use Rattle.layout.specs.Keys.{list_form, set_form, ranges_form}
use Rattle.layout.specs.States.{highest}
use Rattle.room.specs.declared.tally.Tally.{Tally}
use Rattle.room.specs.Counts.{a_range, a_set, some_ranges}
use Rattle.room.specs.Walks.{Got, Missing, Walks}
use Rattle.room.specs.Chains.{Chain, loose, the_keys, chain_of, list_of}
use Rattle.room.proofs.KeyLaws.{number_short}

module _ (C : Chain) (s : List ℕ) (at : ℕ) where
  pub list_short : length s - at < count_size → Missing (list_of C).form s at
  unfolding list_form via bind
  list_short h = record { reads = rw (number_short count_size s at h) }

  pub list_ends : (n : ℕ) → Stands (number count_size) s at n (at + count_size) → (w : Option Tally)
      → Walks (chain_of C n) s (at + count_size) w → Walks (list_of C) s at w
  unfolding list_form via bind
  list_ends n r (Some t) g = record {
    val = g.val;
    fills = record { stands = record { reads = rw (r.reads, g.fills.stands.reads) }; from = omega (arith, g.fills.from); inside = g.fills.inside };
    marks = g.marks;
    bytes = g.bytes;
    high = g.high;
    fits = omega (arith, g.fits);
  }
  list_ends n r None m = record { reads = rw (r.reads, m.reads) }

none_high : {A : Type 0} (xs : List A) → highest (λ x. 0) xs ≡ 0
unfolding highest
none_high [] = refl
none_high (x ∷ xs) = omega (arith, none_high xs)

module _ (m : ℕ) {s : List ℕ} {at : ℕ} {t : Tally} where
  pub as_set : Got (list_of (the_keys m)) s at t → Got (a_set m) s at t
  unfolding set_form
  as_set g = record { val = g.val; fills = g.fills; marks = g.marks ∙ sym (length_sum g.val); bytes = g.bytes; high = g.high ∙ none_high g.val; fits = g.fits }

  pub as_ranges : Got (list_of (loose (a_range m))) s at t → Got (some_ranges m) s at t
  unfolding ranges_form
  as_ranges g = record { val = g.val; fills = g.fills; marks = g.marks ∙ sym (length_sum g.val); bytes = g.bytes; high = g.high ∙ none_high g.val; fits = g.fits }
