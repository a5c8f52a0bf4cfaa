-- The reader and the writer of fields undo each other.
use Prim.Native.Nat.{ℕ, ◌+◌, ◌*◌, ◌/◌, ◌%◌, ◌≤◌}
use mathlib.Core.Path.{◌≡◌, refl, sym, ap, ◌∙◌}
use mathlib.Core.Bool.{Bool, true, false, cond}
use mathlib.Core.List.{List, [], ◌∷◌, ◌++◌, nil≢cons}
use mathlib.Core.Option.{Option, none, some, none-ne-some, some-injective}
use native.Mathlib.Nat.{div-add-mod'}
use native.Mathlib.Omega.{arith}
use borrow.Author.Tests.{leb-true, le-leb}
use lib.Dec.{leb}
use lib.ListN.{length, take, drop, length-append, take-append-drop}
use lib.Seq.{length-take-le, take-append_seam, drop-append_seam}
use Rattle.ranges.specs.Bytes.{Bytes}
use Rattle.fields.specs.Fields.{size_of, Field, field, before, fields, encode, AllWritable}
use Rattle.fields.proofs.Steps.{fields_nil, fields_short, fields_step, fields_more}

-- what the definition accepts is not refused: every list of fields is read back from its bytes
pub read_written : (fs : List Field) → fields (encode fs) ≡ some fs
unfolding encode
read_written [] = fields_nil
read_written (f ∷ fs) =
    let p = f.payload in
    let n : length p / 256 * 256 + length p % 256 ≡ length p = div-add-mod' (length p) 256 in
    let h : leb (length p) (length (p ++ encode fs)) ≡ true = le-leb (length p) (length (p ++ encode fs)) (rw length-append (omega arith)) in
    fields_step f.tag (length p / 256) (length p % 256) (p ++ encode fs)
    ∙ rw (n, h, take-append_seam p (encode fs), drop-append_seam p (encode fs), read_written fs)

-- the first of some fields, as it stands in the bytes
record First (bs : List ℕ) (f : Field) (fs : List Field) : Type 0 where
  high : ℕ
  low : ℕ
  rest : List ℕ
  stands : bs ≡ f.tag ∷ high ∷ low ∷ (f.payload ++ rest)
  sized : size_of high low ≡ length f.payload
  others : fields rest ≡ some fs

first_here : (t h l : ℕ) (bs : List ℕ) (f : Field) (fs : List Field)
    → size_of h l ≤ length bs
    → field t (take (size_of h l) bs) ≡ f
    → fields (drop (size_of h l) bs) ≡ some fs
    → First (t ∷ h ∷ l ∷ bs) f fs
first_here t h l bs f fs k e g =
    let n = size_of h l in
    record {
      high = h;
      low = l;
      rest = drop n bs;
      stands =
          ap {B = List ℕ} (λ r. t ∷ h ∷ l ∷ r) (sym (take-append-drop n bs))
          ∙ ap {B = List ℕ} (λ x. x.tag ∷ h ∷ l ∷ (x.payload ++ drop n bs)) e;
      sized = sym (length-take-le n bs k) ∙ ap (λ x. length x.payload) e;
      others = g;
    }

first : (bs : List ℕ) (f : Field) (fs : List Field) → fields bs ≡ some (f ∷ fs) → First bs f fs
first [] f fs e = absurd (nil≢cons (some-injective [] (f ∷ fs) (sym fields_nil ∙ e)))
first (t ∷ []) f fs e = absurd (none-ne-some (f ∷ fs) (sym (fields_short (t ∷ []) (omega arith) (omega arith)) ∙ e))
first (t ∷ h ∷ []) f fs e = absurd (none-ne-some (f ∷ fs) (sym (fields_short (t ∷ h ∷ []) (omega arith) (omega arith)) ∙ e))
first (t ∷ h ∷ l ∷ bs) f fs e = go (leb n (length bs)) refl (fields (drop n bs)) refl (sym (fields_step t h l bs) ∙ e)
  where
    n : ℕ
    n = size_of h l

    go : (b : Bool) → leb n (length bs) ≡ b → (o : Option (List Field)) → fields (drop n bs) ≡ o → cond b (before (field t (take n bs)) o) none ≡ some (f ∷ fs) → First (t ∷ h ∷ l ∷ bs) f fs
    go true k none g z = absurd (none-ne-some (f ∷ fs) z)
    go true k (some gs) g z = first_here t h l bs f fs (leb-true n (length bs) k) (cc) (cc)
    go false k o g z = absurd (none-ne-some (f ∷ fs) z)

bytes_join : (p r : List ℕ) → Bytes p → Bytes r → Bytes (p ++ r)
unfolding Bytes
bytes_join [] r b c = c
bytes_join (x ∷ p) r b c = (b.0, bytes_join p r b.1 c)

bytes_split : (p r : List ℕ) → Bytes (p ++ r) → Bytes p × Bytes r
unfolding Bytes
bytes_split [] r b = (tt, b)
bytes_split (x ∷ p) r b = let c = bytes_split p r b.1 in ((b.0, c.0), c.1)

-- what the reader accepts is just what the writer writes
pub written_read : (fs : List Field) (bs : List ℕ) → Bytes bs → fields bs ≡ some fs → encode fs ≡ bs
unfolding encode Bytes
written_read [] [] b e = refl
written_read [] (x ∷ bs) b e = absurd (fields_more (x ∷ bs) (omega arith) e)
written_read (f ∷ fs) bs b e =
    let i = first bs f fs e in
    let c = rw i.stands at b in
    let h : length f.payload / 256 ≡ i.high = omega (arith, i.sized, c.1.1.0) in
    let l : length f.payload % 256 ≡ i.low = omega (arith, i.sized, c.1.1.0) in
    rw (h, l, written_read fs i.rest (bytes_split f.payload i.rest c.1.1.1).1 i.others) (sym i.stands)

-- the fields of bytes can be written
pub read_writable : (fs : List Field) (bs : List ℕ) → Bytes bs → fields bs ≡ some fs → AllWritable fs
unfolding Bytes AllWritable
read_writable [] bs b e = tt
read_writable (f ∷ fs) bs b e =
    let i = first bs f fs e in
    let c = rw i.stands at b in
    let d = bytes_split f.payload i.rest c.1.1.1 in
    (record { tag = c.0; size = omega (arith, i.sized, c.1.0, c.1.1.0); payload = d.0 }, read_writable fs i.rest d.1 i.others)

-- fields that can be written are written in bytes
pub written_bytes : (fs : List Field) → AllWritable fs → Bytes (encode fs)
unfolding encode Bytes AllWritable
written_bytes [] w = tt
written_bytes (f ∷ fs) w = (w.0.tag, (omega (arith, w.0.size), (omega arith, bytes_join f.payload (encode fs) w.0.payload (written_bytes fs w.1))))
