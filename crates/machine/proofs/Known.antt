-- "A key already in that set costs nothing": a track of known keys only is done with value 0, in a full room too.
use Prim.Native.Nat.{ℕ, suc, ◌≤◌}
use mathlib.Core.Path.{◌≡◌, refl, sym, ap, ◌∙◌}
use mathlib.Core.Bool.{true, cond}
use mathlib.Core.List.{List, [], ◌∷◌, Memᴰ}
use mathlib.Core.Option.{some}
use mathlib.Core.Ordering.{Ordering, lt, eq, gt}
use native.Mathlib.Omega.{arith}
use native.Mathlib.Nat.{sub_self}
use borrow.Author.Tests.{le-leb, eq-eqb}
use lib.ListN.{length}
use Rattle.keys.specs.Order.{order, is_same}
use Rattle.fields.specs.Fields.{key_list}
use Rattle.fields.specs.Forms.{short_keys}
use Rattle.machine.specs.declared.Which.{Which}
use Rattle.machine.specs.declared.Which.TheVariants.{Writes, Reads}
use Rattle.machine.specs.Lists.{All}
use Rattle.machine.specs.State.{Bytes, Txn, State, Ceilings, set_of, MachineState, TxnOk, SetOk, Ascends, ids, txn_marks, id_size}
use Rattle.machine.specs.Sets.{stands, insert_all, put, find}
use Rattle.machine.specs.Calls.{track_keys, on, holding, done, replied}
use Rattle.machine.specs.Serve.{add_keys, track, answer, serve}
use Rattle.machine.proofs.ListLaws.{all_map, all_of}
use Rattle.machine.proofs.SetLaws.{above_ascends, insert_all_known}
use Rattle.machine.proofs.WhichLaws.{set_same}
use Rattle.machine.proofs.ActiveLaws.{find_id, find_holds, put_known_length}
use Rattle.machine.proofs.Kept.{fits_means}

-- to put an active one in its own place changes nothing
put_same : (t : Txn) (us : List Txn) → find t.id us ≡ some t → Ascends (ids us) → put t us ≡ us
unfolding put find
put_same t [] e a = cc
put_same t (u ∷ us) e a =
    step (λ q. put_same t us q (above_ascends u.id (ids us) a)) (order t.id u.id) refl e
    (put_known_length t (u ∷ us) t e a)
  where
    step : (find t.id us ≡ some t → put t us ≡ us) → (o : Ordering) → order t.id u.id ≡ o
        → cond (is_same o) (some u) (find t.id us) ≡ some t
        → length (stands o (t ∷ u ∷ us) (t ∷ us) (u ∷ put t us)) ≡ suc (length us)
        → stands o (t ∷ u ∷ us) (t ∷ us) (u ∷ put t us) ≡ u ∷ us
    step ih lt f q l = absurd (omega arith)
    step ih eq f q l = let h : u ≡ t = cc in ap (λ v. v ∷ us) (sym h)
    step ih gt f q l = ap (λ vs. u ∷ vs) (ih q)

short_of : (n : ℕ) (ks : List Bytes) → All (λ k. length k ≤ n) ks → short_keys n ks ≡ true
unfolding short_keys
short_of n [] a = refl
short_of n (k ∷ ks) a = rw (le-leb (length k) n a.0) (short_of n ks a.1)

known_short : (L : Ceilings) (set ks : List Bytes) → SetOk L set → All (λ k. Memᴰ k set) ks
    → short_keys L.key ks ≡ true
known_short L set ks o a = short_of L.key ks (all_map _ _ (λ k m. all_of _ set k m o.short) ks a)

module _ (L : Ceilings) (s : State) (ok : MachineState L s) (i : Bytes) (t : Txn) (e : find i s.active ≡ some t) where
  track_same : (f : Txn → Txn) → f t ≡ t → track L s i f ≡ done 0 s
  track_same f h =
      let found = ap (λ j. find j s.active) (sym (find_id i s.active t e)) ∙ e in
      rw (e, h, put_same t s.active found ok.distinct, (fits_means L s).1 ok.ceilings, sub_self (txn_marks t))

-- both sets of a transaction are in order
its_set : (L : Ceilings) (n : ℕ) (t : Txn) (w : Which) → TxnOk L n t → SetOk L (set_of w t)
its_set L n t Writes o = o.writes
its_set L n t Reads o = o.reads

pub known_keys : (L : Ceilings) (s : State) (w : Which) (i bs : Bytes) (t : Txn) (ks : List Bytes) → MachineState L s → length i ≡ id_size
    → find i s.active ≡ some t → key_list bs ≡ some ks → All (λ k. Memᴰ k (set_of w t)) ks
    → serve L (holding s) (on (track_keys w i bs)) ≡ replied 0 0 (holding s)
unfolding serve answer
known_keys L s w i bs t ks ok d e g a =
    let own = its_set L s.last t w (all_of (TxnOk L s.last) s.active t (find_holds i s.active t e) ok.txns) in
    let same = set_same w (insert_all ks (set_of w t)) t (insert_all_known ks (set_of w t) a own.once) in
    rw (eq-eqb (length i) id_size d, g, known_short L (set_of w t) ks own a, track_same L s ok i t e (add_keys w ks) same)
