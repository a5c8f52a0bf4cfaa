-- What the verdict on a key list says of it.
use mathlib.Core.Path.{◌≡◌, refl}
use mathlib.Core.Bool.{Bool, true, false, cond}
use mathlib.Core.List.{List}
use mathlib.Core.Option.{Option, none, some}
use native.Mathlib.Omega.{arith}
use Rattle.std.specs.Prelude.{Ok, Err}
use Rattle.keys.specs.Limit.{key_limit}
use Rattle.fields.specs.declared.FormError.{FormError}
use Rattle.fields.specs.Forms.{short_keys, form_of}
use Rattle.machine.specs.State.{Bytes}
use Rattle.answers.specs.declared.Refusal.{Refusal}
use Rattle.answers.specs.Says.{form_refusal}

-- a list of keys, all within the limit or not
pub record Listed (o : Option (List Bytes)) (b : Bool) : Type 0 where
  pub keys : List Bytes
  pub is : o ≡ some keys
  pub short : short_keys key_limit keys ≡ b

pub good_list : (o : Option (List Bytes)) → Ok (tt {0}) ≡ form_of o → Listed o true
good_list none e = absurd (grind arith)
good_list (some ks) e = go (short_keys key_limit ks) refl e
  where
    go : (b : Bool) → short_keys key_limit ks ≡ b → Ok (tt {0}) ≡ cond b (Ok (tt {0})) (Err FormError.LongKey) → Listed (some ks) true
    go true p q = record { keys = ks; is = refl; short = p }
    go false p q = absurd (grind arith)

-- a list that is refused does not read as one, or has a key over the limit
pub bad_list : (P : Refusal → Type 0) (o : Option (List Bytes)) (e : FormError) → Err e ≡ form_of o → (o ≡ none → P Refusal.Malformed) → (Listed o false → P Refusal.LongKey) → P (form_refusal e)
bad_list P none FormError.Malformed e f g = f refl
bad_list P none FormError.LongKey e f g = absurd cc
bad_list P (some ks) x e f g = go (short_keys key_limit ks) refl x e
  where
    go : (b : Bool) → short_keys key_limit ks ≡ b → (x : FormError) → Err x ≡ cond b (Ok (tt {0})) (Err FormError.LongKey) → P (form_refusal x)
    go true p x q = absurd (grind arith)
    go false p FormError.LongKey q = g (record { keys = ks; is = refl; short = p })
    go false p FormError.Malformed q = absurd cc
