-- The least start: as far as the search has come, and that it is the machine's.
use Prim.Native.Nat.{ℕ, ◌+◌, ◌≤◌, min}
use mathlib.Core.Path.{◌≡◌, refl, sym, ap, ◌∙◌}
use mathlib.Core.List.Memᴰ
use mathlib.Core.List.{List, [], ◌∷◌, ◌++◌, append_assoc}
use native.Mathlib.Omega.{arith}
use Rattle.codec.specs.Formats.{number}
use Rattle.codec.specs.Stands.{Stands}
use Rattle.machine.specs.State.{Txn}
use Rattle.machine.specs.Sets.{least_of}
use Rattle.machine.proofs.Minimum.{least_is}
use Rattle.layout.specs.Offsets.{number_size, start_at, any_length}
use Rattle.layout.specs.Records.{txn_form}
use Rattle.layout.specs.Rows.{Rows, Ends}
use Rattle.layout.proofs.FillLaws.{number_read_is}
use Rattle.layout.proofs.OpenLaws.{open_txn}
use Rattle.places.specs.declared.cursor.Cursor.{Cursor}
use Rattle.places.specs.Cursors.{past}
use Rattle.places.specs.Finds.{lowest, LowestIs}
use Rattle.places.proofs.SplitLaws.{split_one, Search, Turn, search_start, search_over, search_next}

abbrev pub Lower : ℕ → ℕ → List Txn → List Txn → Type 0
Lower most low front rest = lowest most (front ++ rest) ≡ lowest low rest

abbrev pub Low : List ℕ → ℕ → ℕ → ℕ → Cursor → ℕ → Type 0
Low s at n most c low = Search (txn_form any_length) (Lower most low) s at n c

pub low_start : {s : List ℕ} {at n : ℕ} {c : Cursor} (most : ℕ) → Rows (txn_form any_length) s at n → (c.at ≡ at) × (c.left ≡ n) → Low s at n most c most
low_start most x q = search_start (txn_form any_length) (Lower most most) (λ xs. refl) x q

pub low_next : {s : List ℕ} {at n r : ℕ} {c d : Cursor} (most low v l : ℕ) → Turn (txn_form any_length) (Lower most low) s at n c → Ends (txn_form any_length) s c.at r → Stands (number number_size) s (c.at + start_at) v (c.at + start_at + number_size) → l ≡ min low v
    → d ≡ past c r → Low s at n most d l
unfolding lowest
low_next most low v l t p w q z =
    let i : v ≡ t.one.start = number_read_is number_size (open_txn any_length t.walk.after.row.first).head.start_at_lem w in
    let j : min low t.one.start ≡ l = ap (min low) (sym i) ∙ sym q in
    search_next (txn_form any_length) (Lower most low) (Lower most l) t p z (rw append_assoc (t.holds ∙ ap (λ (m : ℕ). lowest m t.back) j))

pub low_end : {s : List ℕ} {at n : ℕ} {c : Cursor} (most low : ℕ) → Low s at n most c low → c.left ≤ 0 → LowestIs s at n most low
unfolding lowest
low_end most low x h =
    let t = search_over (txn_form any_length) (Lower most low) x h in
    record { is = λ ts f r l. sym t.holds ∙ ap (lowest most) (sym (split_one (txn_form any_length) t.walk ts f r l).0) }

lowest_min : (m : ℕ) (t : Txn) (ts : List Txn) → lowest m (t ∷ ts) ≡ min m (least_of t ts)
unfolding lowest least_of
lowest_min m t [] = refl
lowest_min m t (u ∷ us) = lowest_min (min m t.start) u us ∙ omega arith

-- where `most` is no less than the first start, it is the machine's least start
pub lowest_least : (most : ℕ) (t : Txn) (ts : List Txn) → t.start ≤ most → lowest most (t ∷ ts) ≡ least_of t ts
lowest_least most t ts h = lowest_min most t ts ∙ omega (arith, (least_is t ts).below t (Memᴰ.head refl))
