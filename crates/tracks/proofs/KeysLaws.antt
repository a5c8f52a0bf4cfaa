-- A track of keys, one law for each way it ends.
use Prim.Native.Nat.{ℕ, ◌+◌, ◌-◌, ◌≤◌, ◌<◌}
use mathlib.Core.Path.{◌≡◌, refl, ◌∙◌}
use mathlib.Core.Bool.{true}
use mathlib.Core.List.{List, ◌∷◌, ◌++◌}
use mathlib.Core.Logic.{◌⊎◌, inl, inr}
use native.Mathlib.Omega.{arith}
use lib.ListN.{length}
use Rattle.std.specs.Prelude.{Ok, Err}
use Rattle.fields.specs.declared.FormError.{FormError}
use Rattle.fields.specs.declared.Span.{Span}
use Rattle.fields.specs.Fields.{key_list}
use Rattle.fields.specs.Forms.{form_of}
use Rattle.machine.specs.Lists.{sum}
use Rattle.machine.specs.declared.Which.{Which}
use Rattle.machine.specs.State.{Bytes, Txn, base, set_of, marks, key_bytes, set_bytes, txn_marks, txn_bytes}
use Rattle.machine.specs.Calls.{on, track_keys, malformed, longKey, full}
use Rattle.machine.specs.Sets.{insert_all}
use Rattle.machine.specs.Serve.{add_keys, with_txn, answer, track}
use Rattle.machine.proofs.ListLaws.{sum_append}
use Rattle.machine.proofs.SetLaws.{insert_all_longer, insert_all_bytes}
use Rattle.machine.proofs.WhichLaws.{set_marks, set_bytes_lem, set_counts}
use Rattle.layout.specs.Offsets.{id_size, entries_at, any_length}
use Rattle.moves.specs.Splices.{used_after}
use Rattle.layout.specs.Keys.{set_form}
use Rattle.layout.specs.Records.{txn_form}
use Rattle.layout.specs.States.{room_size}
use Rattle.layout.specs.Rooms.{Served}
use Rattle.layout.proofs.FillLaws.{fills_end}
use Rattle.layout.proofs.RowLaws.{row_inside}
use Rattle.layout.proofs.SizeLaws.{set_length}
use Rattle.layout.proofs.LoadLaws.{refuse, look_absent, change}
use Rattle.layout.proofs.WideLaws.{short_wide}
use Rattle.places.specs.Finds.{Found}
use Rattle.edits.specs.Laid.{write_entries, write_active}
use Rattle.answers.specs.Says.{refusal_number, form_refusal}
use Rattle.answers.proofs.FormLaws.{Listed, good_list, bad_list}
use Rattle.answers.proofs.TrackLaws.{track_absent, track_full, track_done, keys_malformed, keys_long, keys_track}
use Rattle.answers.proofs.InsideLaws.{laid_within}
use Rattle.room.specs.declared.View.{View}
use Rattle.room.specs.Views.{Seen}
use Rattle.tracks.specs.declared.sets.Space.{Space}
use Rattle.tracks.specs.declared.sets.Full.{Full}
use Rattle.tracks.specs.Sets.{PassesLimits}
use Rattle.tracks.specs.Tracks.{before_set, SetAt, Growable, SetGrown, NotGrown, GrownIs}
use Rattle.answers.proofs.SeenLaws.{seen_load, seen_held}
use Rattle.answers.proofs.FoundLaws.{space_left, not_found, here, found, place, laid, changed}
use Rattle.tracks.proofs.SetLaws.{SetIn, set_in, after_set, set_split, set_split_new}
use Rattle.keys.specs.Limit.{key_limit}

-- one of some counts no more than all
one_of : (f : Txn → ℕ) (ts front : List Txn) (t : Txn) (back : List Txn) → ts ≡ front ++ (t ∷ back) → f t ≤ sum f ts
unfolding sum
one_of f ts front t back e = rw e (omega (arith, sum_append f front (t ∷ back)))

module _ {s : Bytes} {v : View} (n : Seen s v) (w : Which) (id list : Bytes) where
  pub keys_refused : (length id ≡ id_size → ⊥) → Served s (on (track_keys w id list)) 2 0 s
  keys_refused h = refuse s n.state (track_keys w id list) (seen_load n) malformed (keys_malformed base n.state id list w (inl h))

  module _ (h : length id ≡ id_size) where
    pub keys_bad : (e : FormError) → Err e ≡ form_of (key_list list) → Served s (on (track_keys w id list)) (refusal_number (form_refusal e)) 0 s
    keys_bad e q =
        bad_list
        (λ x. Served s (on (track_keys w id list)) (refusal_number x) 0 s)
        (key_list list)
        e
        q
        (λ m. refuse s n.state (track_keys w id list) (seen_load n) malformed (keys_malformed base n.state id list w (inr m)))
        (λ l. refuse s n.state (track_keys w id list) (seen_load n) longKey (keys_long base n.state id list h w l.keys l.is l.short))

    module _ (g : Ok (tt {0}) ≡ form_of (key_list list)) where
      listed : Listed (key_list list) true
      listed = good_list (key_list list) g

      tracks_on : answer base n.state (track_keys w id list) ≡ track base n.state id (add_keys w listed.keys)
      tracks_on = keys_track base n.state id list h w listed.keys listed.is listed.short

      pub keys_absent : {p : ℕ} → Found s v.middle v.active id (Err p) → Served s (on (track_keys w id list)) 1 0 s
      keys_absent f = look_absent s n.state (track_keys w id list) (seen_load n) 0 (tracks_on ∙ track_absent base n.state id (add_keys w listed.keys) (not_found n f))

      module _ {p : Span} {at : ℕ} (f : Found s v.middle v.active id (Ok p)) (a : SetAt s p.from w at) where
        abbrev one : Txn
        one = (here n f).one

        abbrev ks : List Bytes
        ks = set_of w one

        abbrev all : List Bytes
        all = insert_all listed.keys ks

        stands : SetIn s w one at p.to
        stands = set_in w one (here n f).fills a

        few : (length ks ≤ v.marks) × (set_bytes ks ≤ v.bytes)
        few =
            let x = here n f in
            (omega (arith, set_counts w one, one_of txn_marks n.state.active x.front one x.back x.whole, n.marks), omega (arith, set_counts w one, one_of txn_bytes n.state.active x.front one x.back x.whole, n.bytes))

        end_within : stands.end ≤ v.used
        end_within = omega (arith, stands.within, row_inside (txn_form any_length) s p.to (here n f).back v.used (here n f).after)

        -- what the keys add to the totals
        abbrev b : ℕ
        b = set_bytes all - set_bytes ks

        bytes_added : txn_bytes (add_keys w listed.keys one) ≡ txn_bytes one + b
        bytes_added = set_bytes_lem w all one b (omega (arith, insert_all_bytes listed.keys ks))

        module _ {space : Space} (lm : v.marks + space.marks ≡ base.marks) (lb : v.bytes + space.bytes ≡ base.bytes) where
          pub growable : Growable s v.used at list space
          growable =
              record {
                ks = set_of w one;
                end = stands.end;
                fills = stands.fills;
                within = end_within;
                keys = listed.keys;
                listed = listed.is;
                short = short_wide key_limit (omega arith) listed.keys listed.short;
                few = omega (arith, few, lm);
                small = omega (arith, few, lb);
                room = omega (arith, space_left n, n.size, lm, lb);
              }

          pub keys_full : {s' : Bytes} {x : Full} → GrownIs s v.used at list space s' (Err x) → Served s (on (track_keys w id list)) 6 0 s'
          keys_full {s'} r = ends (r.is ks listed.keys stands.end stands.fills listed.is)
            where
              passed : PassesLimits ks all space → (base.marks < marks n.state + (length all - length ks)) ⊎ (base.bytes < key_bytes n.state + b)
              passed (inl x) = inl (omega (arith, x, n.marks, lm))
              passed (inr x) = inr (omega (arith, x, n.bytes, lb))

              ends : NotGrown s ks all space s' → Served s (on (track_keys w id list)) 6 0 s'
              ends o =
                  let em = set_marks w all one (length all - length ks) (omega (arith, insert_all_longer listed.keys ks)) in
                  let e = track_full base n.state id (add_keys w listed.keys) one (add_keys w listed.keys one) (length all - length ks) b (found n f) refl refl em bytes_added (seen_held n).kept (passed o.passes) in
                  rw o.same (refuse s n.state (track_keys w id list) (seen_load n) full (tracks_on ∙ e))

          pub keys_done : {s' : Bytes} {k : ℕ} → GrownIs s v.used at list space s' (Ok k) → Served s (on (track_keys w id list)) 0 k s'
          keys_done {s'} {k} r = ends (r.is ks listed.keys stands.end stands.fills listed.is)
            where
              ends : SetGrown s v.used at ks stands.end all space s' k → Served s (on (track_keys w id list)) 0 k s'
              ends o =
                  let t' : Txn = add_keys w listed.keys one in
                  let em = set_marks w all one k o.new in
                  let e = track_done base n.state id (add_keys w listed.keys) one t' k b (found n f) refl refl em bytes_added (seen_held n).kept (omega (arith, o.new, o.few, n.marks, lm)) (omega (arith, o.small, n.bytes, lb, insert_all_bytes listed.keys ks)) in
                  let gone : stands.end - at ≡ length ((set_form any_length).write ks) = omega (arith, fills_end (set_form any_length) stands.fills) in
                  let fits : used_after v.used (stands.end - at) ((set_form any_length).write all) ≤ room_size base =
                  omega (arith, gone, set_length any_length ks, set_length any_length all, o.few, o.small, space_left n, lm, lb, end_within, stands.fills.from) in
                  let at_is : at ≡ entries_at + (length (write_entries n.state.entries) + length (write_active (here n f).front)) + length (before_set w one) = omega (arith, a.is one p.to (here n f).fills, place n f) in
                  let l = laid_within (here n f).front (here n f).back one t' (before_set w one) ((set_form any_length).write ks) (after_set w one) (laid n f) (set_split w one) (set_split_new w listed.keys one) at_is gone o.spliced fits in
                  change s s' n.state (with_txn t' n.state) (track_keys w id list) (seen_load n) (changed n f t' refl l) k (tracks_on ∙ e)
