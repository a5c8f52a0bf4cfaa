-- "Show that any two results allowed for one call are equal", for scripts: however a script is fed, it prints one text, and
-- feeding has one result wherever it does not end for want of place.
use Prim.Native.Nat.{ℕ, suc, ◌+◌, ◌-◌, ◌≤◌}
use mathlib.Core.Path.{◌≡◌, refl, sym, ap, ap₂, ◌∙◌}
use mathlib.Core.Bool.{Bool, true, false, false≢true}
use mathlib.Core.List.{List, [], ◌++◌}
use native.Mathlib.Omega.{arith}
use lib.ListN.{length, drop, length-drop, take-append-drop}
use lib.Seq.{length-take-le}
use Rattle.script.specs.Lines.{line_of}
use Rattle.script.specs.Stream.{Next, next, whole, more, stop, is_whole}
use Rattle.machine.specs.State.{base}
use Rattle.machine.specs.Calls.{Call, Room, Reply, replied}
use Rattle.machine.specs.Serve.{serve}
use Rattle.layout.specs.Rooms.{load, Served}
use Rattle.script.specs.Script.{called, refused_call}
use Rattle.script.specs.Played.{Played, still, onward, end_line, Prints, EndsAt, FedIs}
use Rattle.script.specs.declared.feed.End.{End}
use Rattle.script.specs.declared.feed.Fed.{Fed}

-- what two ways to serve the records of some bytes have in common
record Same (text rest left text' rest' left' : List ℕ) : Type 0 where
  texts : text ≡ text'
  rests : rest ≡ rest'
  states : load base left ≡ load base left'

abbrev call_in : Next → Call
call_in (whole tag p rest) = called tag p
call_in more = refused_call
call_in stop = refused_call

abbrev rest_in : Next → List ℕ
rest_in (whole tag p rest) = rest
rest_in more = []
rest_in stop = []

-- one record more on both
same_on : {text rest left p rest1 left1 text' rest' left' p' rest1' left1' : List ℕ} {tag status value tag' status' value' : ℕ} → Same text rest left text' rest' left'
    → next rest ≡ whole tag p rest1 → Served left (called tag p) status value left1
    → next rest' ≡ whole tag' p' rest1' → Served left' (called tag' p') status' value' left1'
    → Same (text ++ line_of status value) rest1 left1 (text' ++ line_of status' value') rest1' left1'
same_on {left1 = left1} {left1' = left1'} {status = status} {value = value} {status' = status'} {value' = value'} i e s e' s' =
    let w = sym e ∙ ap next i.rests ∙ e' in
    let a : replied status value (load base left1) ≡ replied status' value' (load base left1') =
    sym s.answers ∙ ap₂ (λ (r : Room) (c : Call). serve base r c) i.states (ap call_in w) ∙ s'.answers in
    record {
      texts = ap₂ (λ (t : List ℕ) (x : Reply). t ++ line_of x.status x.value) i.texts a;
      rests = ap rest_in w;
      states = ap (λ (x : Reply). x.room) a;
    }

-- how many records were served
unfoldable many : {room bs text rest left : List ℕ} → Played room bs text rest left → ℕ
many still = 0
many (onward p e s) = suc (many p)

module _ {room bs : List ℕ} where
  as_many : {text rest left text' rest' left' : List ℕ} (p : Played room bs text rest left) (q : Played room bs text' rest' left') → many p ≡ many q
      → Same text rest left text' rest' left'
  unfolding many
  as_many still still e = record { texts = refl; rests = refl; states = refl }
  as_many still (onward q f s) e = absurd (omega arith)
  as_many (onward p f s) still e = absurd (omega arith)
  as_many (onward p f s) (onward q f' s') e = same_on (as_many p q (omega arith)) f s f' s'

  -- where no whole record follows, no more were to be served
  most : {text rest left text' rest' left' : List ℕ} (p : Played room bs text rest left) → is_whole (next rest) ≡ false
      → (q : Played room bs text' rest' left') → many q ≤ many p
  unfolding many
  most p o still = omega arith
  most p o (onward q e s) = omega (arith, most p o q, short)
    where
      short : many q ≡ many p → ⊥
      short h = false≢true (sym o ∙ ap (λ (l : List ℕ). is_whole (next l)) (as_many p q (sym h)).rests ∙ ap is_whole e)

  same_end : {text rest left text' rest' left' : List ℕ} → Played room bs text rest left → is_whole (next rest) ≡ false
      → Played room bs text' rest' left' → is_whole (next rest') ≡ false → Same text rest left text' rest' left'
  same_end p o q o' = as_many p q (omega (arith, most p o q, most q o' p))

-- "For each record one line: status, space, value in decimal"; "ends the run with a line"
pub one_output : {offset : ℕ} {room bs text text' : List ℕ} → Prints offset room bs text → Prints offset room bs text' → text ≡ text'
one_output {offset} {room} {bs} p q =
    let s = same_end p.played p.over q.played q.over in
    p.all ∙ ap₂ (λ (t r : List ℕ). t ++ end_line (offset + (length bs - length r)) r) s.texts s.rests ∙ sym q.all

-- ---- feeding

abbrev pub is_full : End → Bool
is_full End.More = false
is_full End.Stop = false
is_full End.Full = true

abbrev end_of : Next → End
end_of (whole tag p rest) = End.Full
end_of more = End.More
end_of stop = End.Stop

full_whole : (n : Next) → is_full (end_of n) ≡ is_whole n
full_whole (whole tag p rest) = refl
full_whole more = refl
full_whole stop = refl

-- an end that is not for want of place is what the bytes say
told : (bs out : List ℕ) (at put : ℕ) (end : End) → EndsAt bs out at put end → is_full end ≡ false → end_of (next (drop at bs)) ≡ end
told bs out at put End.More e h = ap end_of e.reads
told bs out at put End.Stop e h = ap end_of e.reads
told bs out at put End.Full e h = absurd (false≢true (sym h))

-- two results of feeding: the same answer and the same lines, and rooms that hold the same
pub record SameFed (r : Fed) (left out : List ℕ) (r' : Fed) (left' out' : List ℕ) : Type 0 where
  pub answers : r ≡ r'
  pub lines : out ≡ out'
  pub states : load base left ≡ load base left'

pub one_feed : (room bs out : List ℕ) (r : Fed) (left out1 : List ℕ) (r' : Fed) (left' out2 : List ℕ) → FedIs room bs out r left out1 → is_full r.end ≡ false
    → FedIs room bs out r' left' out2 → is_full r'.end ≡ false → SameFed r left out1 r' left' out2
one_feed room bs out r left out1 r' left' out2 (f, e) h (f', e') h' =
    let t = told bs out r.at r.put r.end e h in
    let t' = told bs out r'.at r'.put r'.end e' h' in
    let s = same_end f.played (sym (full_whole (next (drop r.at bs))) ∙ ap is_full t ∙ h) f'.played (sym (full_whole (next (drop r'.at bs))) ∙ ap is_full t' ∙ h') in
    let a : r.at ≡ r'.at = omega (arith, length-drop r.at bs, length-drop r'.at bs, ap length s.rests, f.inside, f'.inside) in
    let p : r.put ≡ r'.put =
    sym (length-take-le r.put out1 (omega (arith, f.fits, f.size))) ∙ ap length s.texts ∙ length-take-le r'.put out2 (omega (arith, f'.fits, f'.size)) in
    let n : r.end ≡ r'.end = sym t ∙ ap (λ (l : List ℕ). end_of (next l)) s.rests ∙ t' in
    record {
      answers = λ i. record { at = a i; put = p i; end = n i };
      lines =
          sym (take-append-drop r.put out1)
          ∙ ap₂ (λ (x y : List ℕ). x ++ y) s.texts (f.kept ∙ ap (λ (k : ℕ). drop k out) p ∙ sym f'.kept)
          ∙ take-append-drop r'.put out2;
      states = s.states;
    }
