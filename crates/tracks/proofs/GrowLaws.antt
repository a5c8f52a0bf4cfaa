-- A set of a room is copied to a draft, where the keys are added, and put back.
use Prim.Native.Nat.{ℕ, ◌+◌, ◌-◌, ◌*◌, ◌≤◌}
use mathlib.Core.Path.{◌≡◌, refl, sym, ap, ◌∙◌, subst}
use mathlib.Core.List.{List, ◌++◌, append_assoc}
use mathlib.Core.Option.{none, some-injective}
use native.Mathlib.Omega.{arith}
use native.Mathlib.Nat.{le_refl}
use lib.ListN.{length, take, drop, length-drop}
use lib.Seq.{paste, length-paste, take-length, drop_at, length-take-le}
use Rattle.std.specs.Prelude.{Result, Ok, Err, IsErr}
use Rattle.machine.specs.State.{Bytes, base, set_bytes}
use Rattle.machine.specs.Sets.{insert_all}
use Rattle.machine.proofs.SetLaws.{insert_all_longer}
use Rattle.codec.specs.Codec.{write_run, RunOk}
use Rattle.codec.specs.Formats.{number, bind, via, run}
use Rattle.codec.specs.Stands.{Stands}
use Rattle.moves.specs.Splices.{Spliced, used_after}
use Rattle.moves.proofs.SpliceLaws.{drop_take}
use Rattle.layout.specs.Offsets.{count_size, length_size, any_length}
use Rattle.layout.specs.Keys.{set_form, list_form, below}
use Rattle.layout.specs.Rows.{Fills, Row, Ends}
use Rattle.layout.proofs.FillLaws.{fills_one, fills_ok, fills_end, number_read_is}
use Rattle.layout.proofs.RowLaws.{row_slice, row_of}
use Rattle.layout.proofs.OpenLaws.{OpenList, open_set}
use Rattle.layout.proofs.SizeLaws.{keys_length, set_length}
use Rattle.tracks.specs.Sets.{key_codec}
use Rattle.tracks.specs.declared.sets.Set.{Set}
use Rattle.tracks.specs.declared.sets.Space.{Space}
use Rattle.tracks.specs.declared.sets.Full.{Full}
use Rattle.tracks.specs.Drafts.{set_size, Begun, SetStands, DraftedIs}
use Rattle.tracks.proofs.DraftLaws.{zeros, zeros_long}
use Rattle.tracks.specs.Tracks.{Growable, GrownOutcome, GrownIs}

-- some bytes stand behind the first two of a draft
pub record Copied (d src : Bytes) : Type 0 where
  pub size : length d ≡ set_size
  pub rest : Bytes
  pub is : drop count_size d ≡ src ++ rest

copied_to : (d0 d src : Bytes) → length d0 ≡ set_size → count_size + length src ≤ set_size → d ≡ paste d0 count_size src (length src) → Copied d src
copied_to d0 d src z h e =
    let rest : Bytes = drop (count_size + length src) d0 in
    let f : d ≡ take count_size d0 ++ (src ++ rest) = e ∙ rw (take-length src) (append_assoc (take count_size d0) src rest) in
    record {
      size = ap length e ∙ length-paste d0 count_size src (length src) (omega arith) (le_refl _) ∙ z;
      rest = rest;
      is = ap (drop count_size) f ∙ drop_at (take count_size d0) (src ++ rest) count_size (length-take-le count_size d0 (omega arith));
    }

in_order : {s : Bytes} {at e : ℕ} (ks : List Bytes) → Fills (set_form any_length) s at ks e → RunOk key_codec below none ks
unfolding set_form list_form via bind run
in_order ks p = (fills_ok (set_form any_length) p).1.0

module _ {s list : Bytes} {used at : ℕ} {space : Space} (g : Growable s used at list space) where
  opened : OpenList key_codec below s at g.ks g.end
  opened = open_set any_length g.fills

  pub head_inside : at + count_size ≤ length s
  head_inside = opened.count_at.inside

  module _ {e : ℕ} (x : Ends (set_form any_length) s at e) where
    ends_there : e ≡ g.end
    ends_there = x.is g.ks g.end g.fills

    -- where the set stands
    pub record Inside : Type 0 where
      pub size : e ≡ at + (count_size + length_size * length g.ks + set_bytes g.ks)
      pub keys : e - (at + count_size) ≡ length_size * length g.ks + set_bytes g.ks
      pub few : e - (at + count_size) + length_size * space.marks + space.bytes ≤ length_size * base.marks + base.bytes
      pub within : e ≤ used
      pub inside : used ≤ length s

    pub set_inside : Inside
    set_inside =
        let l : e ≡ at + (count_size + length_size * length g.ks + set_bytes g.ks) = ends_there ∙ fills_end (set_form any_length) g.fills ∙ rw (set_length any_length g.ks) in
        record {
          size = l;
          keys = omega (arith, l);
          few = omega (arith, l, g.few, g.small);
          within = omega (arith, ends_there, g.within);
          inside = omega (arith, g.room);
        }

    -- the keys' bytes, as they are copied
    abbrev pub lent : Bytes
    lent = take (e - (at + count_size)) (drop (at + count_size) s)

    lent_keys : lent ≡ write_run key_codec g.ks
    lent_keys = sym (drop_take (at + count_size) e s) ∙ rw ends_there (row_slice key_codec s (at + count_size) g.ks g.end opened.row)

    lent_length : length lent ≡ e - (at + count_size)
    lent_length = ap length lent_keys ∙ keys_length any_length g.ks ∙ sym set_inside.keys

    draft_room : count_size + length lent ≤ set_size
    draft_room = omega (arith, lent_length, set_inside.few)

    pub fits_draft : count_size + length lent ≤ length zeros
    fits_draft = omega (arith, draft_room, zeros_long)

    module _ {n : ℕ} (q : Stands (number count_size) s at n (at + count_size)) {d1 : Bytes} (w : d1 ≡ paste zeros count_size lent (length lent)) where
      c : Copied d1 lent
      c = copied_to zeros d1 lent zeros_long draft_room w

      count_is : n ≡ length g.ks
      count_is = number_read_is count_size opened.count_at q

      draft_row : Row key_codec (drop count_size d1) 0 g.ks (e - (at + count_size))
      draft_row =
          let f : drop count_size d1 ≡ write_run key_codec g.ks ++ c.rest = c.is ∙ ap (λ (x : Bytes). x ++ c.rest) lent_keys in
          let l : 0 + length (write_run key_codec g.ks) ≡ e - (at + count_size) = omega (arith, ap length lent_keys, lent_length) in
          subst (Row key_codec (drop count_size d1) 0 g.ks) l (row_of key_codec below none (drop count_size d1) 0 g.ks c.rest (in_order g.ks g.fills) (omega arith) f)

      -- the set as it stands in the draft
      abbrev pub old : Set
      old = record { used = e - (at + count_size); count = n }

      pub begun : Begun d1 old list space
      begun =
          record {
            head = omega (arith, c.size);
            keys =
                record {
                  ks = g.ks;
                  row = draft_row;
                  count = sym count_is;
                  keys = g.keys;
                  listed = g.listed;
                  short = g.short;
                  room = omega (arith, set_inside.few, c.size, length-drop count_size d1);
                };
          }

      -- what holds of this set and these keys holds of all that the bytes can be read as
      for_every : {s' : Bytes} {r : Result ℕ Full} → GrownOutcome s used at g.ks e (insert_all g.keys g.ks) space s' r → GrownIs s used at list space s' r
      for_every {s'} {r} o = record { is = λ ks keys f p l. moved ks keys f (fills_one (set_form any_length) g.fills p) (some-injective g.keys keys (sym g.listed ∙ l)) }
        where
          moved : (ks keys : List Bytes) (f : ℕ) → (g.ks ≡ ks) × (g.end ≡ f) → g.keys ≡ keys → GrownOutcome s used at ks f (insert_all keys ks) space s' r
          moved ks keys f a b = rw (← a.0, ← b, ← a.1, ← ends_there) o

      pub not_grown : {d2 : Bytes} {x : Full} (r : Result ℕ Full) → DraftedIs d1 old list space d2 (Err x) → IsErr r → GrownIs s used at list space s r
      not_grown (Ok k) d z = cc
      not_grown (Err x) d z = for_every (record { same = refl; passes = d.is g.ks g.keys draft_row (sym count_is) g.listed })

      module _ {d2 : Bytes} {new : Set} (d : DraftedIs d1 old list space d2 (Ok new)) where
        drafted : SetStands d2 g.ks (insert_all g.keys g.ks) space new
        drafted = d.is g.ks g.keys draft_row (sym count_is) g.listed

        pub in_draft : new.used ≤ length d2
        in_draft = drafted.inside

        pub more_keys : n ≤ new.count
        more_keys = omega (arith, count_is, drafted.count, insert_all_longer g.keys g.ks)

        pub can_put : (at + (e - at) ≤ used) × (used ≤ length s) × (used_after used (e - at) (take new.used d2) ≤ length s)
        can_put =
            let l : length (take new.used d2) ≡ count_size + length_size * length (insert_all g.keys g.ks) + set_bytes (insert_all g.keys g.ks) = ap length drafted.whole ∙ set_length any_length (insert_all g.keys g.ks) in
            (omega (arith, set_inside.size, set_inside.within), omega (arith, g.room), omega (arith, l, set_inside.size, set_inside.within, drafted.few, drafted.small, g.room))

        pub grown : {s' : Bytes} → Spliced s used at (e - at) (take new.used d2) s' → GrownIs s used at list space s' (Ok (new.count - n))
        grown {s'} w =
            for_every
            (record {
              spliced = subst (λ (x : Bytes). Spliced s used at (e - at) x s') drafted.whole w;
              new = omega (arith, more_keys, count_is, drafted.count);
              few = drafted.few;
              small = drafted.small;
            })
