-- Fields, key lists and bounds as bytes, in document 01's words.
use Rattle.std.specs.Prelude.{ℕ, zero, suc, ◌+◌, ◌*◌, ◌/◌, ◌%◌, ◌<◌, cond, List, [], ◌∷◌, ◌++◌, leb, eqb, length, take, drop}
use Rattle.std.proofs.Math.Option.{Option, none, some}
use Rattle.kinds.specs.Bounds.{Bound, unbounded, included, excluded}
pub use Rattle.kinds.specs.Bounds.{bound_tag}
use Rattle.kinds.specs.declared.kind.Kind.TheVariants.{Unbounded, Included, Excluded}
use Rattle.bounds.specs.Ranges.{Range, range}
use Rattle.ranges.specs.Bytes.{Bytes}

pub record Field : Type 0 where
  pub tag : ℕ
  pub payload : List ℕ

abbrev pub field : ℕ → List ℕ → Field
field t p = record { tag = t; payload = p }

-- a field's tag and length take so many bytes
abbrev pub field_head : ℕ
field_head = 3

-- the length that two bytes say, the high one first
abbrev pub size_of : ℕ → ℕ → ℕ
size_of h l = h * 256 + l

-- "Key list: fields of tag 4B"
abbrev pub key_tag : ℕ
key_tag = 0x4b

-- "Field: one-byte tag, two-byte big-endian length, payload": what stands at the front of some bytes. No bytes; a tag whose
-- length is not all there; a tag and the length that it says, whose payload is not all there; a field, and what follows it
pub data Front : Type 0 where
  empty : Front
  begun : ℕ → Front
  cut : ℕ → ℕ → Front
  first : Field → List ℕ → Front

abbrev pub headed : ℕ → ℕ → List ℕ → Front
headed t n bs = cond (leb n (length bs)) (first (field t (take n bs)) (drop n bs)) (cut t n)

abbrev pub front : List ℕ → Front
front [] = empty
front (t ∷ []) = begun t
front (t ∷ h ∷ []) = begun t
front (t ∷ h ∷ l ∷ bs) = headed t (size_of h l) bs

abbrev pub before : {A : Type 0} → A → Option (List A) → Option (List A)
before x none = none
before x (some xs) = some (x ∷ xs)

abbrev pub fields_from : Front → (List ℕ → Option (List Field)) → Option (List Field)
fields_from empty rest = some []
fields_from (begun t) rest = none
fields_from (cut t n) rest = none
fields_from (first f bs) rest = before f (rest bs)

-- all fields to the end, none where the bytes end within one; n is no less than the bytes left, so that it never runs out
unfoldable pub fields_in : ℕ → List ℕ → Option (List Field)
fields_in zero bs = fields_from (front bs) λ rest. none
fields_in (suc n) bs = fields_from (front bs) (fields_in n)

unfoldable pub fields : List ℕ → Option (List Field)
fields bs = fields_in (length bs) bs

-- the writer: tag, length and payload, one field after another
unfoldable pub encode : List Field → List ℕ
encode [] = []
encode (f ∷ fs) = f.tag ∷ length f.payload / 256 ∷ length f.payload % 256 ∷ (f.payload ++ encode fs)

-- a tag of one byte, a length of two bytes, a payload of bytes
pub record Writable (f : Field) : Type 0 where
  pub tag : f.tag < 256
  pub size : length f.payload < 65536
  pub payload : Bytes f.payload

unfoldable pub AllWritable : List Field → Type 0
AllWritable [] = Unit {0}
AllWritable (f ∷ fs) = Writable f × AllWritable fs

abbrev pub on_some : {A B : Type 0} → Option A → (A → Option B) → Option B
on_some none f = none
on_some (some a) f = f a

-- each field read as one thing, none where one cannot be
unfoldable pub each : {A : Type 0} → (Field → Option A) → List Field → Option (List A)
each read [] = some []
each read (f ∷ fs) = on_some (read f) λ a. before a (each read fs)

unfoldable pub fields_as : {A : Type 0} → (Field → Option A) → List ℕ → Option (List A)
fields_as read bs = on_some (fields bs) (each read)

unfoldable pub as_key : Field → Option (List ℕ)
as_key f = cond (eqb f.tag key_tag) (some f.payload) none

-- "Key list: fields of tag 4B, to the end."
abbrev pub key_list : List ℕ → Option (List (List ℕ))
key_list = fields_as as_key

-- "tag 10 unbounded (length 0), 11 included, 12 excluded"
unfoldable pub as_bound : Field → Option Bound
as_bound f =
    cond
    (eqb f.tag (bound_tag Unbounded))
    (cond (eqb (length f.payload) 0) (some unbounded) none)
    (cond
    (eqb f.tag (bound_tag Included))
    (some (included f.payload))
    (cond (eqb f.tag (bound_tag Excluded)) (some (excluded f.payload)) none))

abbrev pub bound_list : List ℕ → Option (List Bound)
bound_list = fields_as as_bound

abbrev pub pair_of : List Bound → Option Range
pair_of [] = none
pair_of (s ∷ []) = none
pair_of (s ∷ e ∷ []) = some (range s e)
pair_of (s ∷ e ∷ b ∷ bs) = none

-- "Bounds: two fields, start then end"
unfoldable pub bounds_of : List ℕ → Option Range
bounds_of bs = on_some (bound_list bs) pair_of
