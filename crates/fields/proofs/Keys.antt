-- A key list, key by key: the key at a place, and the verdict on the whole.
use Prim.Native.Nat.{ℕ, ◌-◌, ◌≤◌, ◌<◌}
use mathlib.Core.Path.{◌≡◌, refl, ap, ◌∙◌}
use mathlib.Core.Bool.{Bool, true, false, cond, ◌&&◌, and-true, and-false}
use mathlib.Core.List.{List}
use mathlib.Core.Logic.{inl, inr}
use mathlib.Core.Option.{Option, none, some}
use native.Mathlib.Omega.{arith}
use borrow.Author.Tests.{eq-eqb, ne_eqb, le-leb, lt-leb}
use lib.Dec.{leb}
use lib.ListN.{length, drop}
use lib.Seq.{slice, length-slice}
use Rattle.keys.specs.Limit.{key_limit}
use Rattle.std.specs.Prelude.{Result, Ok, Err}
use Rattle.fields.specs.declared.FormError.{FormError}
use Rattle.fields.specs.Fields.{key_tag, field, before, fields, as_key, key_list}
use Rattle.fields.specs.Forms.{ItemAt, EndAt, CutAt, NoKeyAt, short_keys, form_of}
use Rattle.fields.proofs.Lists.{list_nil, list_cut, list_item, list_broken}

pub keys_cut : {bs : List ℕ} {at : ℕ} → CutAt bs at → NoKeyAt bs at
keys_cut b = record { left = b.left; wrong = inl b.passes; breaks = list_cut as_key b }

module _ {bs : List ℕ} {at tag from to : ℕ} (i : ItemAt fields bs at tag from to (field tag (slice from to bs))) where
  pub key_here : tag ≡ key_tag → ItemAt key_list bs at key_tag from to (slice from to bs)
  unfolding as_key
  key_here e = list_item as_key i key_tag (slice from to bs) e (rw (eq-eqb tag key_tag e))

  pub key_broken : (tag ≡ key_tag → ⊥) → NoKeyAt bs at
  unfolding as_key
  key_broken e =
      record {
        left = omega (arith, i.begins, i.ends, i.within);
        wrong = inr (λ z. e (i.tagged ∙ z));
        breaks = list_broken as_key i (rw (ne_eqb tag key_tag e));
      }

-- the verdict on what is left of a list, by whether the keys before it were short
abbrev pub form_after : Bool → Option (List (List ℕ)) → Result (Unit {0}) FormError
form_after short none = Err FormError.Malformed
form_after short (some ks) = cond (short && short_keys key_limit ks) (Ok tt) (Err FormError.LongKey)

pub form_start : (o : Option (List (List ℕ))) → form_of o ≡ form_after true o
form_start none = refl
form_start (some ks) = refl

form_before : (short : Bool) (k : List ℕ) (o : Option (List (List ℕ))) → form_after short (before k o) ≡ form_after (short && leb (length k) key_limit) o
unfolding short_keys
form_before short k none = refl
form_before true k (some ks) = refl
form_before false k (some ks) = refl

module _ (bs : List ℕ) (at : ℕ) (short : Bool) where
  pub form_end : EndAt bs at → form_after short (key_list (drop at bs)) ≡ cond short (Ok tt) (Err FormError.LongKey)
  unfolding short_keys
  form_end e = rw (e.ends, list_nil as_key) (ap (λ b. cond b (Ok tt) (Err FormError.LongKey)) (and-true short))

  pub form_bad : NoKeyAt bs at → form_after short (key_list (drop at bs)) ≡ Err FormError.Malformed
  form_bad b = rw b.breaks

  module _ (from to : ℕ) (i : ItemAt key_list bs at key_tag from to (slice from to bs)) where
    pub form_long : key_limit < to - from → form_after short (key_list (drop at bs)) ≡ form_after false (key_list (drop to bs))
    form_long h =
        let n : leb (length (slice from to bs)) key_limit ≡ false = lt-leb (length (slice from to bs)) key_limit (rw (length-slice from to bs i.within) h) in
        rw i.reads (form_before short (slice from to bs) (key_list (drop to bs)) ∙ rw (n, and-false short))

    pub form_short : to - from ≤ key_limit → form_after short (key_list (drop at bs)) ≡ form_after short (key_list (drop to bs))
    form_short h =
        let n : leb (length (slice from to bs)) key_limit ≡ true = le-leb (length (slice from to bs)) key_limit (rw (length-slice from to bs i.within) h) in
        rw i.reads (form_before short (slice from to bs) (key_list (drop to bs)) ∙ rw (n, and-true short))
