-- Lists of things that are read from fields: what a reader finds at a place, from the field there.
use Prim.Native.Nat.{ℕ, ◌<◌}
use mathlib.Core.Path.{◌≡◌, refl, sym, ◌∙◌}
use mathlib.Core.List.{List, [], ◌∷◌}
use mathlib.Core.Option.{Option, none, some, none-ne-some}
use lib.ListN.{length, drop}
use Rattle.fields.specs.Fields.{Field, before, on_some, fields, each, fields_as}
use Rattle.fields.specs.Forms.{ItemAt, CutAt}
use Rattle.fields.proofs.Steps.{before_some, fields_nil, fields_more}

module _ {A : Type 0} (read : Field → Option A) where
  each_before : (f : Field) (a : A) (o : Option (List Field)) → read f ≡ some a → on_some (before f o) (each read) ≡ before a (on_some o (each read))
  unfolding each
  each_before f a none e = refl
  each_before f a (some fs) e = rw e

  each_broken : (f : Field) (o : Option (List Field)) → read f ≡ none → on_some (before f o) (each read) ≡ none
  unfolding each
  each_broken f none e = refl
  each_broken f (some fs) e = rw e

  pub list_nil : fields_as read [] ≡ some []
  unfolding fields_as each
  list_nil = rw fields_nil

  -- bytes that are left are no end of a list
  pub list_more : (bs : List ℕ) → 0 < length bs → fields_as read bs ≡ some [] → ⊥
  unfolding fields_as each
  list_more bs h e = go (fields bs) refl e
    where
      first : (o : Option A) (rest : Option (List A)) → on_some o (λ a. before a rest) ≡ some [] → ⊥
      first none rest z = none-ne-some [] z
      first (some a) rest z = before_some a rest z

      go : (o : Option (List Field)) → fields bs ≡ o → on_some o (each read) ≡ some [] → ⊥
      go none f z = none-ne-some [] z
      go (some []) f z = fields_more bs h f
      go (some (f ∷ fs)) g z = first (read f) (each read fs) z

  module _ {bs : List ℕ} {at : ℕ} where
    pub list_cut : CutAt bs at → fields_as read (drop at bs) ≡ none
    unfolding fields_as
    list_cut b = rw b.breaks

    module _ {tag from to : ℕ} {f : Field} (i : ItemAt fields bs at tag from to f) where
      pub list_item : (t : ℕ) (a : A) → tag ≡ t → read f ≡ some a → ItemAt (fields_as read) bs at t from to a
      unfolding fields_as
      list_item t a d e =
          record {
            tagged = sym d ∙ i.tagged;
            begins = i.begins;
            ends = i.ends;
            within = i.within;
            reads = rw i.reads (each_before f a (fields (drop to bs)) e);
          }

      pub list_broken : read f ≡ none → fields_as read (drop at bs) ≡ none
      unfolding fields_as
      list_broken e = rw i.reads (each_broken f (fields (drop to bs)) e)
