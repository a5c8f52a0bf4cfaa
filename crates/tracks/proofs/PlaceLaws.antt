-- The search for a key's place in a set: the key belongs behind all keys that have been passed.
use Prim.Native.Nat.{ℕ, ◌+◌, ◌≤◌, ◌<◌}
use mathlib.Core.Path.{◌≡◌, refl, sym, ap, ◌∙◌}
use mathlib.Core.List.{List, [], ◌∷◌, ◌++◌, append_assoc}
use mathlib.Core.Ordering.{Ordering, lt, eq, gt}
use native.Mathlib.Omega.{arith}
use lib.ListN.{length}
use lib.Seq.{slice}
use Rattle.std.specs.Prelude.{Some, None}
use Rattle.keys.specs.Order.{order}
use Rattle.machine.specs.State.{Bytes}
use Rattle.machine.specs.Sets.{insert, stands}
use Rattle.moves.proofs.SpliceLaws.{drop_take}
use Rattle.layout.specs.Offsets.{length_size, any_length}
use Rattle.layout.specs.Rows.{Rows, Here, Ends}
use Rattle.layout.proofs.OpenLaws.{open_key}
use Rattle.places.specs.declared.cursor.Cursor.{Cursor}
use Rattle.places.proofs.SplitLaws.{to_go, one_less, Split, split_one, Search, Turn, turn, turn_here, search_start, search_over, search_next}
use Rattle.tracks.specs.Sets.{key_codec, KeyPlaceIs}
use Rattle.tracks.proofs.KeyLaws.{lent}

abbrev pub Behind : Bytes → List Bytes → List Bytes → Type 0
Behind key less more = insert key (less ++ more) ≡ less ++ insert key more

-- at turn i of n, at a place
pub record KeySeek (d : Bytes) (n : ℕ) (key : Bytes) (at i : ℕ) : Type 0 where
  now : Search key_codec (Behind key) d 0 n (to_go n i at)

pub key_seek_start : {d : Bytes} {n : ℕ} (key : Bytes) → Rows key_codec d 0 n → KeySeek d n key 0 0
key_seek_start key x = record { now = search_start key_codec (Behind key) (λ ks. refl) x (refl, omega arith) }

module _ {d : Bytes} {n : ℕ} (key : Bytes) where
  found_before : {c : Cursor} {less more : List Bytes} → Split key_codec d 0 n less c more → Behind key less more → insert key more ≡ key ∷ more → KeyPlaceIs d n key (Some c.at)
  found_before {c} {less} {more} w b h =
      record {
        is = λ ks e r l.
            let o = split_one key_codec w ks e r l in
            record {
              less = less;
              more = more;
              whole = o.0;
              with_key = ap (insert key) o.0 ∙ b ∙ ap (λ (x : List Bytes). less ++ x) h;
              before = w.before;
              after = rw o.1 w.after.row;
            };
      }

  pub key_seek_end : {at i : ℕ} → KeySeek d n key at i → n ≤ i → KeyPlaceIs d n key (Some at)
  unfolding insert
  key_seek_end x h = let t = search_over key_codec (Behind key) x.now (omega (arith, h)) in found_before t.walk t.holds refl

  module _ {at i : ℕ} (x : KeySeek d n key at i) (h : i < n) where
    t : Turn key_codec (Behind key) d 0 n (to_go n i at)
    t = turn key_codec (Behind key) x.now (omega arith)

    pub key_here : Here key_codec d at
    key_here = turn_here key_codec (Behind key) t

    module _ {to : ℕ} (y : Ends key_codec d at to) where
      end_is : to ≡ t.walk.after.row.end
      end_is = y.is t.one t.walk.after.row.end t.walk.after.row.first

      pub key_inside : (at + length_size ≤ to) × (to ≤ length d)
      key_inside = let o = open_key any_length t.walk.after.row.first in (omega (arith, end_is, o.ends), omega (arith, end_is, o.inside))

      -- the key as it is lent is the key whose turn it is
      lent_is : lent d (at + length_size) to ≡ t.one
      lent_is =
          sym (drop_take (at + length_size) to d)
          ∙ ap (λ (e : ℕ). slice (at + length_size) e d) end_is
          ∙ (open_key any_length t.walk.after.row.first).bytes

      insert_now : (o : Ordering) → order key (lent d (at + length_size) to) ≡ o → insert key (t.one ∷ t.back) ≡ stands o (key ∷ t.one ∷ t.back) (t.one ∷ t.back) (t.one ∷ insert key t.back)
      unfolding insert
      insert_now o q = let f : order key t.one ≡ o = ap (order key) (sym lent_is) ∙ q in rw f

      pub key_seek_before : order key (lent d (at + length_size) to) ≡ lt → KeyPlaceIs d n key (Some at)
      key_seek_before q = found_before t.walk t.holds (insert_now lt q)

      pub key_seek_there : order key (lent d (at + length_size) to) ≡ eq → KeyPlaceIs d n key None
      key_seek_there q =
          record {
            is = λ ks e r l.
                let o = split_one key_codec t.walk ks e r l in
                ap (insert key) o.0 ∙ t.holds ∙ ap (λ (z : List Bytes). t.front ++ z) (insert_now eq q) ∙ sym o.0;
          }

      still_behind : order key (lent d (at + length_size) to) ≡ gt → Behind key (t.front ++ (t.one ∷ [])) t.back
      still_behind q =
          ap (insert key) (append_assoc t.front (t.one ∷ []) t.back)
          ∙ t.holds
          ∙ ap (λ (z : List Bytes). t.front ++ z) (insert_now gt q)
          ∙ sym (append_assoc t.front (t.one ∷ []) (insert key t.back))

      pub key_seek_next : order key (lent d (at + length_size) to) ≡ gt → KeySeek d n key to (i + 1)
      key_seek_next q = record { now = search_next key_codec (Behind key) (Behind key) t y (one_less n i to) (still_behind q) }
