-- What the readers of fields, key lists and bounds answer, case by case.
use Rattle.std.specs.Prelude.{ℕ, ◌+◌, ◌≤◌, ◌<◌, ◌≡◌, Bool, true, cond, ◌&&◌, List, [], ◌∷◌, ◌⊎◌, leb, length, drop, get_or, Option, Some, None, Result, Ok, Err}
use Rattle.std.proofs.Math.Option.{Option as Maybe, none, some}
use Rattle.std.proofs.Math.Seq.{slice}
use Rattle.keys.specs.Limit.{key_limit}
use Rattle.kinds.specs.Bounds.{Bound, bound}
use Rattle.bounds.specs.Ranges.{range}
use Rattle.fields.specs.declared.Span.{Span}
use Rattle.fields.specs.declared.Field.{Field}
use Rattle.fields.specs.declared.Malformed.{Malformed}
use Rattle.fields.specs.declared.FormError.{FormError}
use Rattle.fields.specs.declared.BoundPlace.{BoundPlace}
use Rattle.fields.specs.declared.BoundPlaces.{BoundPlaces}
use Rattle.fields.specs.Fields.{field_head, size_of, key_tag, field, fields, before, key_list, bound_list, bounds_of}
pub use Rattle.fields.specs.Fields.{bound_tag}

-- the length that the two bytes behind a tag say; bytes past the end count as 0
unfoldable pub size_at : List ℕ → ℕ → ℕ
size_at bs at = size_of (get_or bs (at + 1) 0) (get_or bs (at + 2) 0)

-- what a reader of lists finds at a place: a whole field with its tag, and its first item, whose payload ends where the
-- list goes on
pub record ItemAt {A : Type 0} (list : List ℕ → Maybe (List A)) (bs : List ℕ) (at tag from to : ℕ) (a : A) : Type 0 where
  pub tagged : tag ≡ get_or bs at 0
  pub begins : from ≡ at + field_head
  pub ends : to ≡ from + size_at bs at
  pub within : to ≤ length bs
  pub reads : list (drop at bs) ≡ before a (list (drop to bs))

pub record EndAt (bs : List ℕ) (at : ℕ) : Type 0 where
  pub ends : drop at bs ≡ []

-- the bytes end within the field at a place, in its head or in its payload
pub record CutAt (bs : List ℕ) (at : ℕ) : Type 0 where
  pub left : at < length bs
  pub passes : length bs < at + field_head + size_at bs at
  pub breaks : fields (drop at bs) ≡ none

abbrev pub FieldIs : List ℕ → ℕ → Result (Option Field) Malformed → Type 0
FieldIs bs at (Ok (Some f)) = ItemAt fields bs at f.tag f.payload.from f.payload.to (field f.tag (slice f.payload.from f.payload.to bs))
FieldIs bs at (Ok None) = EndAt bs at
FieldIs bs at (Err e) = CutAt bs at

-- the bytes end within the field at a place, or its tag is not a key's
pub record NoKeyAt (bs : List ℕ) (at : ℕ) : Type 0 where
  pub left : at < length bs
  pub wrong : (length bs < at + field_head + size_at bs at) ⊎ (get_or bs at 0 ≡ key_tag → ⊥)
  pub breaks : key_list (drop at bs) ≡ none

abbrev pub NextIs : List ℕ → ℕ → Result (Option Span) Malformed → Type 0
NextIs bs at (Ok (Some k)) = ItemAt key_list bs at key_tag k.from k.to (slice k.from k.to bs)
NextIs bs at (Ok None) = EndAt bs at
NextIs bs at (Err e) = NoKeyAt bs at

-- every key is within the limit
unfoldable pub short_keys : ℕ → List (List ℕ) → Bool
short_keys n [] = true
short_keys n (k ∷ ks) = leb (length k) n && short_keys n ks

-- the whole form first, then over-long keys
abbrev pub form_of : Maybe (List (List ℕ)) → Result (Unit {0}) FormError
form_of none = Err FormError.Malformed
form_of (some ks) = cond (short_keys key_limit ks) (Ok tt) (Err FormError.LongKey)

-- the first item of a list that can be read and has one
abbrev pub first_of : {A : Type 0} → Maybe (List A) → Maybe A
first_of none = none
first_of (some []) = none
first_of (some (a ∷ as')) = some a

pub record NoBoundAt (bs : List ℕ) (at : ℕ) : Type 0 where
  pub lacks : first_of (bound_list (drop at bs)) ≡ none

-- the bound whose key stands at a place
abbrev pub bound_in : List ℕ → BoundPlace → Bound
bound_in bs b = bound b.kind (slice b.key.from b.key.to bs)

abbrev pub BoundItem : List ℕ → ℕ → BoundPlace → Type 0
BoundItem bs at b = ItemAt bound_list bs at (bound_tag b.kind) b.key.from b.key.to (bound_in bs b)

abbrev pub BoundFieldIs : List ℕ → ℕ → Result BoundPlace Malformed → Type 0
BoundFieldIs bs at (Ok b) = BoundItem bs at b
BoundFieldIs bs at (Err e) = NoBoundAt bs at

-- the two bounds by the places of their keys: two fields, and nothing behind them
pub record BoundsAt (bs : List ℕ) (p : BoundPlaces) : Type 0 where
  pub start_begins : p.start.key.from ≡ field_head
  pub start_ends : p.start.key.to ≡ p.start.key.from + size_at bs 0
  pub end_begins : p.end.key.from ≡ p.start.key.to + field_head
  pub end_ends : p.end.key.to ≡ p.end.key.from + size_at bs p.start.key.to
  pub whole : p.end.key.to ≡ length bs
  pub reads : bounds_of bs ≡ some (range (bound_in bs p.start) (bound_in bs p.end))

pub record NoBoundsIn (bs : List ℕ) : Type 0 where
  pub breaks : bounds_of bs ≡ none

abbrev pub BoundsAre : List ℕ → Result BoundPlaces Malformed → Type 0
BoundsAre bs (Ok p) = BoundsAt bs p
BoundsAre bs (Err e) = NoBoundsIn bs
