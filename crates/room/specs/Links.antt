-- The bytes of each chain tell what may follow what: in any order anything may, and labels that ascend are found in the bytes.
use Rattle.std.specs.Prelude.{ℕ, ◌+◌, ◌≤◌, ◌<◌, ◌≡◌, refl, List}
use mathlib.Core.Path.{sym, ◌∙◌}
use native.Mathlib.Omega.{arith}
use borrow.Author.Tests.{eq-eqb, ne_eqb}
use Rattle.machine.specs.State.{Bytes}
use Rattle.moves.proofs.SpliceLaws.{drop_take}
use Rattle.layout.specs.Offsets.{id_size, length_size}
use Rattle.layout.specs.Rows.{Fills}
use Rattle.layout.proofs.OpenLaws.{open_key, open_txn}
use Rattle.room.specs.Counts.{Counted, a_key, a_txn}
use Rattle.room.specs.Chains.{Linked, loose, ascending, key_from, the_keys, id_from, the_txns}

pub loose_linked : {A : Type 0} (K : Counted A) → Linked (loose K)
loose_linked {A} K = record {
  takes = λ s at e a w. omega (arith, w.from);
  first = λ s at e. refl;
  is = λ s p e next a b v w. refl;
}

module _ {A : Type 0} (K : Counted A) (label : A → Bytes) (label_at : List ℕ → ℕ → ℕ → Bytes) (k : ℕ) where
  -- what a record shows of itself
  abbrev pub Labelled : Type 0
  Labelled = (s : List ℕ) (at e : ℕ) (a : A) → Fills K.form s at a e → (at + k ≤ e) × (label a ≡ label_at s at e)

  ascending_linked : 0 < k → Labelled → Linked (ascending K label label_at k)
  ascending_linked h labelled = record {
    takes = λ s at e a w. (labelled s at e a w).0;
    first = λ s at e. rw (eq-eqb at at refl);
    is = λ s p e next a b v w.
        let l = labelled s p e a v in
        let d : p ≡ e → ⊥ = λ q. omega (arith, l.0) in
        rw (ne_eqb p e d, l.1, (labelled s e next b w).1);
  }

pub key_labelled : (m : ℕ) → Labelled (a_key m) (λ k. k) key_from length_size
key_labelled m s at e k w = let o = open_key m w in (omega (arith, o.ends), sym o.bytes ∙ drop_take (at + length_size) e s)

pub keys_linked : (m : ℕ) → Linked (the_keys m)
keys_linked m = ascending_linked (a_key m) (λ k. k) key_from length_size (omega arith) (key_labelled m)

txn_labelled : (m : ℕ) → Labelled (a_txn m) (λ t. t.id) id_from id_size
txn_labelled m s at e t w =
    let o = open_txn m w in
    (omega (arith, o.writes.from, o.reads.from, o.ranges.from), sym o.head.id_at_lem ∙ drop_take at (at + id_size) s)

pub txns_linked : (m : ℕ) → Linked (the_txns m)
txns_linked m = ascending_linked (a_txn m) (λ t. t.id) id_from id_size (omega arith) (txn_labelled m)
