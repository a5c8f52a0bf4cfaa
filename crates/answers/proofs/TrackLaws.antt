-- What the machine answers to a track, from plain facts on the state.
use Prim.Native.Nat.{ℕ, ◌+◌, ◌-◌, ◌≤◌, ◌<◌}
use mathlib.Core.Path.{◌≡◌, refl, sym, ap, ◌∙◌}
use mathlib.Core.Bool.{Bool, true, false}
use mathlib.Core.List.{List}
use mathlib.Core.Option.{none, some}
use mathlib.Core.Logic.{◌⊎◌, inl, inr}
use native.Mathlib.Omega.{arith}
use lib.ListN.{length}
use Rattle.bounds.specs.Ranges.{Range, not_empty}
use Rattle.fields.specs.Fields.{key_list, bounds_of}
use Rattle.fields.specs.Forms.{short_keys}
use Rattle.machine.specs.declared.Which.{Which}
use Rattle.machine.specs.State.{Bytes, Txn, State, Ceilings, Fits, MachineState, marks, key_bytes, txn_marks, txn_bytes, id_size}
use Rattle.machine.specs.Sets.{find}
use Rattle.machine.specs.Calls.{track_keys, track_range, malformed, longKey, emptyRange, full, done, absent, refused}
use Rattle.machine.specs.Serve.{is_id, short_range, add_keys, add_range, with_txn, track, answer}
use Rattle.machine.proofs.Kept.{fits_means}
use Rattle.machine.proofs.ActiveLaws.{find_id, put_known_sum, put_known_length}
use Rattle.answers.proofs.StateLaws.{is_id_lem, no_id, fits_not}

-- ---- once the list or the bounds are read, each track is one: i gets what f adds

module _ (L : Ceilings) (s : State) (i : Bytes) (f : Txn → Txn) where
  pub track_absent : find i s.active ≡ none → track L s i f ≡ absent 0 s
  track_absent e = rw e

  module _ (t t' : Txn) (m b : ℕ) (e : find i s.active ≡ some t) (ft : f t ≡ t') (same : t'.id ≡ t.id) (em : txn_marks t' ≡ txn_marks t + m) (eb : txn_bytes t' ≡ txn_bytes t + b) (o : MachineState L s) where
    known : find t'.id s.active ≡ some t
    known = ap (λ (x : Bytes). find x s.active) (same ∙ sym (find_id i s.active t e)) ∙ e

    pub track_full : (L.marks < marks s + m) ⊎ (L.bytes < key_bytes s + b) → track L s i f ≡ refused full
    track_full w = rw (e, ft, fits_not L (with_txn t' s) (λ g. passes g w))
      where
        passes : Fits L (with_txn t' s) → (L.marks < marks s + m) ⊎ (L.bytes < key_bytes s + b) → ⊥
        passes g (inl a) = omega (arith, g.marks, em, put_known_sum txn_marks t' s.active t known o.distinct)
        passes g (inr a) = omega (arith, g.bytes, eb, put_known_sum txn_bytes t' s.active t known o.distinct)

    pub track_done : marks s + m ≤ L.marks → key_bytes s + b ≤ L.bytes → track L s i f ≡ done m (with_txn t' s)
    track_done hm hb =
        let g : Fits L (with_txn t' s) =
        record {
          active = omega (arith, o.ceilings.active, put_known_length t' s.active t known o.distinct);
          entries = o.ceilings.entries;
          marks = omega (arith, em, put_known_sum txn_marks t' s.active t known o.distinct);
          bytes = omega (arith, eb, put_known_sum txn_bytes t' s.active t known o.distinct);
        } in
        let v : txn_marks t' - txn_marks t ≡ m = omega (arith, em) in
        rw (e, ft, (fits_means L (with_txn t' s)).1 g, v)

-- ---- the forms of the arguments

module _ (L : Ceilings) (s : State) (i bs : Bytes) where
  pub keys_malformed : (w : Which) → ((length i ≡ id_size → ⊥) ⊎ (key_list bs ≡ none)) → answer L s (track_keys w i bs) ≡ refused malformed
  unfolding answer
  keys_malformed w (inl h) = rw (no_id i h)
  keys_malformed w (inr e) = go (is_id i) refl
    where
      go : (b : Bool) → is_id i ≡ b → answer L s (track_keys w i bs) ≡ refused malformed
      go true q = rw (q, e)
      go false q = rw q

  pub range_malformed : ((length i ≡ id_size → ⊥) ⊎ (bounds_of bs ≡ none)) → answer L s (track_range i bs) ≡ refused malformed
  unfolding answer
  range_malformed (inl h) = rw (no_id i h)
  range_malformed (inr e) = go (is_id i) refl
    where
      go : (b : Bool) → is_id i ≡ b → answer L s (track_range i bs) ≡ refused malformed
      go true q = rw (q, e)
      go false q = rw q

  module _ (h : length i ≡ id_size) where
    pub keys_long : (w : Which) (ks : List Bytes) → key_list bs ≡ some ks → short_keys L.key ks ≡ false → answer L s (track_keys w i bs) ≡ refused longKey
    unfolding answer
    keys_long w ks e k = rw (is_id_lem i h, e, k)

    pub range_long : (r : Range) → bounds_of bs ≡ some r → short_range L.key r ≡ false → answer L s (track_range i bs) ≡ refused longKey
    unfolding answer
    range_long r e k = rw (is_id_lem i h, e, k)

    pub range_empty : (r : Range) → bounds_of bs ≡ some r → short_range L.key r ≡ true → not_empty r ≡ false → answer L s (track_range i bs) ≡ refused emptyRange
    unfolding answer
    range_empty r e k n = rw (is_id_lem i h, e, k, n)

    pub keys_track : (w : Which) (ks : List Bytes) → key_list bs ≡ some ks → short_keys L.key ks ≡ true → answer L s (track_keys w i bs) ≡ track L s i (add_keys w ks)
    unfolding answer
    keys_track w ks e k = rw (is_id_lem i h, e, k)

    pub range_track : (r : Range) → bounds_of bs ≡ some r → short_range L.key r ≡ true → not_empty r ≡ true → answer L s (track_range i bs) ≡ track L s i (add_range r)
    unfolding answer
    range_track r e k n = rw (is_id_lem i h, e, k, n)
