-- The bytes that the changes of a room put in and take out.
use Prim.Native.Nat.{ℕ, ◌+◌, ◌≤◌}
use mathlib.Core.Path.{◌≡◌, refl, ap, ◌∙◌}
use mathlib.Core.List.{List, [], ◌++◌, append_assoc, append-nil}
use native.Mathlib.Omega.{arith}
use lib.ListN.{length, length-append, length-replicate, replicate}
use lib.Seq.{paste, take_all}
use Rattle.machine.specs.Serve.{new_txn}
use Rattle.codec.specs.Codec.{write_run, write_number}
use Rattle.codec.specs.Formats.{number, raw, bind, only, via, run}
use Rattle.codec.proofs.NumberLaws.{length_number}
use Rattle.moves.specs.Splices.{Spliced, used_after}
use Rattle.moves.proofs.SpliceLaws.{splice_on, paste_on}
use Rattle.layout.specs.Offsets.{number_size, count_size, id_size, last_at, entry_count_at, active_count_at, entries_at, keys_at, start_at, writes_at, txn_size, any_length}
use Rattle.layout.specs.Keys.{set_form, ranges_form, list_form}
use Rattle.layout.specs.Records.{head_form, counts_form, entries_form, active_form, part_form, txn_head_form, txn_form, stamp}
use Rattle.layout.specs.States.{plain_form}
use Rattle.edits.specs.Edits.{Freshened, HeadsEmptied}

length_two : (a b : List ℕ) (n m : ℕ) → length a ≡ n → length b ≡ m → length (a ++ b) ≡ n + m
length_two a b n m ea eb = length-append a b ∙ rw (ea, eb)

-- two copies, one right after the other
paste_two : (d : List ℕ) (at : ℕ) (a b : List ℕ) (n m : ℕ) (x y : List ℕ) → length a ≡ n → length b ≡ m → at + n + m ≤ length d
    → x ≡ paste d at a n → y ≡ paste x (at + n) b m → y ≡ paste d at (a ++ b) (n + m)
paste_two d at a b n m x y ea eb h ex ey =
    let k : at + length a + length b ≤ length d = omega arith in
    ey
    ∙ ap (λ (z : List ℕ). paste z (at + n) b m) ex
    ∙ rw (← ea, ← eb, ← length-append a b) (paste_on d at a b k)

-- the number and the two counts, one right behind the other
pub heads_emptied : (s a b c : List ℕ) (n : ℕ) → entries_at ≤ length s → a ≡ paste s last_at ((number number_size).write n) number_size
    → b ≡ paste a entry_count_at ((number count_size).write 0) count_size → c ≡ paste b active_count_at ((number count_size).write 0) count_size → HeadsEmptied s n c
heads_emptied s a b c n h ea eb ec =
    let N : List ℕ = (number number_size).write n in
    let Z : List ℕ = (number count_size).write 0 in
    let l1 : length N ≡ number_size = length_number number_size n in
    let l2 : length Z ≡ count_size = length_number count_size 0 in
    let p1 = paste_two s last_at N Z number_size count_size a b l1 l2 (omega arith) ea eb in
    let p2 = paste_two s last_at (N ++ Z) Z (number_size + count_size) count_size b c (length_two N Z number_size count_size l1 l2) l2 (omega arith) p1 ec in
    let e : (N ++ Z) ++ Z ≡ N ++ (Z ++ Z) = simp append_assoc in
    record { bytes = p2 ∙ ap (λ (x : List ℕ). paste s last_at x (number_size + (count_size + count_size))) e }

pub fresh_written : (s a b : List ℕ) (n : ℕ) → entries_at ≤ length s → a ≡ paste s 0 ((number number_size).write stamp) number_size → HeadsEmptied a n b → Freshened s n b
unfolding plain_form part_form head_form counts_form entries_form active_form run write_run via bind only
fresh_written s a b n h ea w =
    let S : List ℕ = (number number_size).write stamp in
    let N : List ℕ = (number number_size).write n in
    let Z : List ℕ = (number count_size).write 0 in
    let l1 : length S ≡ number_size = length_number number_size stamp in
    let l2 : length N ≡ number_size = length_number number_size n in
    let l3 : length Z ≡ count_size = length_number count_size 0 in
    let l4 = length_two N (Z ++ Z) number_size (count_size + count_size) l2 (length_two Z Z count_size count_size l3 l3) in
    let p = paste_two s 0 S (N ++ (Z ++ Z)) number_size (number_size + (count_size + count_size)) a b l1 l4 (omega arith) ea w.bytes in
    let e : S ++ (N ++ (Z ++ Z)) ≡ (S ++ N) ++ ((Z ++ Z) ++ ([] ++ [])) = simp (append_assoc, append-nil) in
    record { bytes = p ∙ ap (λ (x : List ℕ). paste s 0 x entries_at) e }

pub entry_put : (s s1 s2 head set : List ℕ) (used at n : ℕ) → at ≤ used → used ≤ length s → head ≡ (number number_size).write n
    → Spliced s used at 0 head s1 → Spliced s1 (used + keys_at) (at + keys_at) 0 set s2 → Spliced s used at 0 ((number number_size).write n ++ set) s2
entry_put s s1 s2 head set used at n h k e v w =
    let l : length head ≡ keys_at = ap length e ∙ length_number number_size n in
    let u : used + keys_at ≡ used_after used 0 head = omega arith in
    let a : at + keys_at ≡ at + length head = omega arith in
    rw (← e) (splice_on (omega arith) k v (rw (u, a) at w))

zeros_written : (d a b : List ℕ) (id : List ℕ) (n : ℕ) → d ≡ replicate txn_size 0 → length id ≡ id_size → a ≡ paste d 0 id (length id) → b ≡ paste a start_at ((number number_size).write n) number_size
    → b ≡ (id ++ (number number_size).write n) ++ replicate (count_size + count_size + count_size) 0
zeros_written d a b id n ed li ea eb =
    let l : length ((number number_size).write n) ≡ number_size = length_number number_size n in
    let ld : length d ≡ txn_size = ap length ed ∙ length-replicate {A = ℕ} txn_size 0 in
    let x = paste_two d 0 id ((number number_size).write n) id_size number_size a b li l (omega arith) (ea ∙ ap (λ (k : ℕ). paste d 0 id k) li) eb in
    let f : length (id ++ (number number_size).write n) ≡ writes_at = length_two id ((number number_size).write n) id_size number_size li l in
    x ∙ rw (take_all writes_at (id ++ (number number_size).write n) (omega arith), ed)

-- three empty lists
zeros : replicate (count_size + count_size + count_size) 0 ≡ ((number count_size).write 0 ++ []) ++ (((number count_size).write 0 ++ []) ++ ((number count_size).write 0 ++ []))
unfolding number write_number
zeros = refl

pub txn_put : (s s' d a b : List ℕ) (used at : ℕ) (id : List ℕ) (n : ℕ) → d ≡ replicate txn_size 0 → length id ≡ id_size → a ≡ paste d 0 id (length id) → b ≡ paste a start_at ((number number_size).write n) number_size
    → Spliced s used at 0 b s' → Spliced s used at 0 ((txn_form any_length).write (new_txn id n)) s'
unfolding txn_form txn_head_form via bind raw set_form ranges_form list_form run write_run
txn_put s s' d a b used at id n ed li ea eb w =
    let e : b ≡ (txn_form any_length).write (new_txn id n) = zeros_written d a b id n ed li ea eb ∙ ap (λ (z : List ℕ). (id ++ (number number_size).write n) ++ z) zeros in
    rw (← e) w
