-- The keys of a list are added to a set, one at a time.
use Prim.Native.Nat.{ℕ, ◌+◌, ◌-◌, ◌≤◌, ◌<◌}
use mathlib.Core.Path.{◌≡◌, refl, sym, ap, ◌∙◌}
use mathlib.Core.Bool.{true, and-eq-true_iff}
use mathlib.Core.List.{List, [], ◌∷◌}
use mathlib.Core.Logic.{⊎_map}
use mathlib.Core.Option.{Option as Maybe, none, some, none-ne-some, some-injective}
use native.Mathlib.Omega.{arith}
use borrow.Author.Tests.{leb-true}
use lib.Dec.{leb}
use lib.ListN.{length, drop, get_or}
use lib.Seq.{slice}
use Rattle.std.specs.Prelude.{Option, Some, None, Result, Ok, Err, IsErr}
use Rattle.fields.specs.Fields.{before, key_tag, as_key, key_list}
use Rattle.fields.specs.declared.Malformed.{Malformed}
use Rattle.fields.specs.declared.Span.{Span}
use Rattle.fields.specs.Forms.{ItemAt, EndAt, NextIs, short_keys}
use Rattle.fields.proofs.Lists.{list_nil}
use Rattle.machine.specs.State.{Bytes, set_bytes}
use Rattle.machine.specs.Sets.{insert, insert_all}
use Rattle.machine.proofs.SetLaws.{insert_all_longer, insert_all_bytes}
use Rattle.layout.specs.Offsets.{length_size, any_length}
use Rattle.moves.specs.Splices.{Spliced, used_after}
use Rattle.moves.proofs.SpliceLaws.{drop_take}
use Rattle.layout.specs.Rows.{Row}
use Rattle.layout.proofs.RowLaws.{row_inside, row_one}
use Rattle.layout.proofs.OpenLaws.{open_key}
use Rattle.tracks.specs.declared.sets.Set.{Set}
use Rattle.tracks.specs.declared.sets.Space.{Space}
use Rattle.tracks.specs.declared.sets.Full.{Full}
use Rattle.tracks.specs.Sets.{key_codec, Between, KeyPlaceIs, Spent, Lacks, Ready, AllStand, InsertedOutcome, InsertedIs}
use Rattle.tracks.proofs.KeyLaws.{lent, key_record, lent_length}
use Rattle.layout.proofs.MachineLaws.{key_ok}
use Rattle.layout.proofs.SizeLaws.{key_length}
use Rattle.tracks.proofs.PutLaws.{row_put}
use Rattle.tracks.proofs.TotalLaws.{one_more, bytes_more}

-- of the set and the list at the start, what stands in the draft and what is left of the list, with the same outcome
pub record Adding (d₀ : Bytes) (set₀ : Set) (list : Bytes) (space₀ : Space) (d : Bytes) (set : Set) (space : Space) (at : ℕ) : Type 0 where
  pub start : Ready d₀ set₀ list space₀
  pub rest : Ready d set (drop at list) space
  pub same : insert_all start.keys start.ks ≡ insert_all rest.keys rest.ks
  pub few : length rest.ks + space.marks ≡ length start.ks + space₀.marks
  pub small : set_bytes rest.ks + space.bytes ≡ set_bytes start.ks + space₀.bytes
  pub size : length d ≡ length d₀

pub add_start : {d list : Bytes} {set : Set} {space : Space} → Ready d set list space → Adding d set list space d set space 0
add_start r = record { start = r; rest = r; same = refl; few = refl; small = refl; size = refl }

-- the first of the keys that are left
record Took (keys : List Bytes) (key : Bytes) (o : Maybe (List Bytes)) : Type 0 where
  more : List Bytes
  is : keys ≡ key ∷ more
  listed : o ≡ some more

took : (keys : List Bytes) (key : Bytes) (o : Maybe (List Bytes)) → some keys ≡ before key o → Took keys key o
took keys key none e = absurd (none-ne-some keys (sym e))
took keys key (some more) e = record { more = more; is = some-injective keys (key ∷ more) e; listed = refl }

short_both : (k : Bytes) (ks : List Bytes) → short_keys any_length (k ∷ ks) ≡ true → (length k ≤ any_length) × (short_keys any_length ks ≡ true)
unfolding short_keys
short_both k ks e = let b = (and-eq-true_iff (leb (length k) any_length) (short_keys any_length ks)).0 e in (leb-true _ _ b.0, b.1)

all_first : (k : Bytes) (keys more ks : List Bytes) → keys ≡ k ∷ more → insert_all keys ks ≡ insert_all more (insert k ks)
unfolding insert_all
all_first k keys more ks e = rw e

-- each key takes two bytes or more
row_long : (s : Bytes) (at : ℕ) (ks : List Bytes) (e : ℕ) → Row key_codec s at ks e → at + length ks ≤ e
row_long s at [] e r = omega (arith, r.0)
row_long s at (k ∷ ks) e r = omega (arith, (open_key any_length r.first).ends, row_long s r.end ks e r.rest)

module _ {d₀ : Bytes} {set₀ : Set} {list : Bytes} {space₀ : Space} {d : Bytes} {set : Set} {space : Space} {at : ℕ} (v : Adding d₀ set₀ list space₀ d set space at) where
  pub end_inside : (set.count ≤ set.used) × (set.used ≤ length d)
  end_inside = (omega (arith, row_long d 0 v.rest.ks set.used v.rest.row, v.rest.count), (row_inside key_codec d 0 v.rest.ks set.used v.rest.row).1)

  -- what holds of this set and these keys holds of all that the bytes can be read as
  for_every : (P : List Bytes → List Bytes → Type 0) → P v.start.ks (insert_all v.rest.keys v.rest.ks) → (ks keys : List Bytes) → Row key_codec d₀ 0 ks set₀.used → length ks ≡ set₀.count → key_list list ≡ some keys
      → P ks (insert_all keys ks)
  for_every P x ks keys r c l =
      let q = row_one key_codec d₀ 0 ks v.start.ks set₀.used set₀.used r v.start.row (c ∙ sym v.start.count) in
      let k : keys ≡ v.start.keys = some-injective keys v.start.keys (sym l ∙ v.start.listed) in
      rw (q.0, k, v.same) x

  module _ {r : Result (Option Span) Malformed} (next : NextIs list at r) where
    pub all_added : r ≡ Ok None → InsertedIs d₀ set₀ list space₀ d (Ok set)
    unfolding insert_all
    all_added q =
        let e : EndAt list at = rw q at next in
        let none_left : v.rest.keys ≡ [] = some-injective v.rest.keys [] (sym v.rest.listed ∙ ap key_list e.ends ∙ list_nil as_key) in
        let all : insert_all v.rest.keys v.rest.ks ≡ v.rest.ks = ap (λ (l : List Bytes). insert_all l v.rest.ks) none_left in
        record {
          is = for_every (λ ks all. AllStand d ks all space₀ set) (ends all);
          size = v.size;
        }
      where
        ends : {all : List Bytes} → all ≡ v.rest.ks → AllStand d v.start.ks all space₀ set
        ends e = rw e (record { row = v.rest.row; count = sym v.rest.count; few = omega (arith, v.few); small = omega (arith, v.small) })

  module _ {r : Result (Option Span) Malformed} {key : Span} (next : NextIs list at r) (q : r ≡ Ok (Some key)) where
    abbrev from : ℕ
    from = key.from

    abbrev to : ℕ
    to = key.to

    i : ItemAt key_list list at key_tag from to (slice from to list)
    i = rw q at next

    now_first : Took v.rest.keys (lent list from to) (key_list (drop to list))
    now_first = took v.rest.keys (lent list from to) (key_list (drop to list)) (sym v.rest.listed ∙ i.reads ∙ ap (λ (k : Bytes). before k (key_list (drop to list))) (drop_take from to list))

    all_now : insert_all v.rest.keys v.rest.ks ≡ insert_all now_first.more (insert (lent list from to) v.rest.ks)
    all_now = all_first (lent list from to) v.rest.keys now_first.more v.rest.ks now_first.is

    short_now : (length (lent list from to) ≤ any_length) × (short_keys any_length now_first.more ≡ true)
    short_now = short_both (lent list from to) now_first.more (ap (short_keys any_length) (sym now_first.is) ∙ v.rest.short)

    pub add_there : KeyPlaceIs d set.count (lent list from to) None → Adding d₀ set₀ list space₀ d set space to
    add_there f =
        record {
          start = v.start;
          rest =
              record {
                ks = v.rest.ks;
                row = v.rest.row;
                count = v.rest.count;
                keys = now_first.more;
                listed = now_first.listed;
                short = short_now.1;
                room = v.rest.room;
              };
          same = v.same ∙ all_now ∙ ap (insert_all now_first.more) (f.is v.rest.ks set.used v.rest.row v.rest.count);
          few = v.few;
          small = v.small;
          size = v.size;
        }

    module _ {place : ℕ} (f : KeyPlaceIs d set.count (lent list from to) (Some place)) where
      where_now : Between d (lent list from to) place v.rest.ks set.used
      where_now = f.is v.rest.ks set.used v.rest.row v.rest.count

      longer : length (insert (lent list from to) v.rest.ks) ≡ length v.rest.ks + 1
      longer = ap length where_now.with_key ∙ one_more where_now.less (lent list from to) where_now.more ∙ ap (λ (l : List Bytes). length l + 1) (sym where_now.whole)

      larger : set_bytes (insert (lent list from to) v.rest.ks) ≡ set_bytes v.rest.ks + (to - from)
      larger =
          ap set_bytes where_now.with_key
          ∙ bytes_more where_now.less (lent list from to) where_now.more
          ∙ ap (λ (l : List Bytes). set_bytes l + length (lent list from to)) (sym where_now.whole)
          ∙ ap (λ (x : ℕ). set_bytes v.rest.ks + x) (lent_length list from to i.within)

      -- "track that would pass a total": what is added later takes nothing back
      pub full : {r : Result Set Full} → Lacks space (to - from) → IsErr r → InsertedIs d₀ set₀ list space₀ d r
      full {r} h z =
          record {
            is = for_every (λ ks l. InsertedOutcome d ks l space₀ r) (go r z);
            size = v.size;
          }
        where
          all : List Bytes
          all = insert (lent list from to) v.rest.ks

          go : (r : Result Set Full) → IsErr r → InsertedOutcome d v.start.ks (insert_all v.rest.keys v.rest.ks) space₀ r
          go (Ok set) z = cc
          go (Err e) z =
              rw all_now
              (⊎_map
              (λ x. omega (arith, x, v.few, longer, insert_all_longer now_first.more all))
              (λ x. omega (arith, x, v.small, larger, insert_all_bytes now_first.more all))
              h.either)

      module _ {left : Space} (m : Spent space (to - from) left) where
        pub fits : set.used + length_size + (to - from) ≤ length d
        fits = omega (arith, v.rest.room, m)

        pub can_splice : (place + 0 ≤ set.used) × (set.used ≤ length d) × (used_after set.used 0 (lent list (from - length_size) to) ≤ length d)
        can_splice =
            let p = row_inside key_codec d place where_now.more set.used where_now.after in
            (omega (arith, p.0), p.1, omega (arith, fits, lent_length list (from - length_size) to i.within, i.begins, i.ends))

        pub add_put : {d' : Bytes} → ((j : ℕ) → get_or list j 0 < 256) → Spliced d set.used place 0 (lent list (from - length_size) to) d'
            → Adding d₀ set₀ list space₀ d' (record { used = set.used + length_size + (to - from); count = set.count + 1 }) left to
        add_put {d'} tiny w =
            let k : Bytes = lent list from to in
            let l : set.used + length (key_codec.write k) ≡ set.used + length_size + (to - from) = omega (arith, key_length any_length k, lent_length list from to i.within) in
            let w' : Spliced d set.used place 0 (key_codec.write k) d' = rw (key_record any_length i tiny) at w in
            let r = row_put key_codec d where_now.less where_now.more k place set.used d' where_now.before where_now.after w' (key_ok any_length k (omega arith) short_now.0) (omega (arith, l, fits)) in
            record {
              start = v.start;
              rest =
                  record {
                    ks = insert k v.rest.ks;
                    row = moved (sym where_now.with_key) l r;
                    count = longer ∙ ap (λ (x : ℕ). x + 1) v.rest.count;
                    keys = now_first.more;
                    listed = now_first.listed;
                    short = short_now.1;
                    room = omega (arith, v.rest.room, m, w.size);
                  };
              same = v.same ∙ all_now;
              few = omega (arith, v.few, longer, m);
              small = omega (arith, v.small, larger, m);
              size = w.size ∙ v.size;
            }
          where
            moved : {xs ys : List Bytes} {e f : ℕ} → xs ≡ ys → e ≡ f → Row key_codec d' 0 xs e → Row key_codec d' 0 ys f
            moved p q x = rw (← p, ← q) x
