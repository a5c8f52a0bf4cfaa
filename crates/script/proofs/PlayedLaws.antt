-- Records served one after the other: a piece more, and pieces that follow each other.
use Prim.Native.Nat.{ℕ, ◌+◌, ◌-◌, ◌≤◌}
use mathlib.Core.Path.{◌≡◌, refl, sym, ap, ◌∙◌}
use mathlib.Core.Bool.{false}
use mathlib.Core.List.{List, ◌++◌, append_assoc, append-nil}
use native.Mathlib.Omega.{arith}
use lib.ListN.{length, take, drop, length-append, length-drop}
use Rattle.moves.proofs.SpliceLaws.{drop_take, later}
use Rattle.script.specs.Lines.{line_of, line_limit, Put}
use Rattle.script.proofs.LineLaws.{put_front, put_behind, put_size}
use Rattle.script.specs.Stream.{next, whole, is_whole}
use Rattle.script.specs.Records.{WholeAt}
use Rattle.script.proofs.StreamLaws.{whole_stays, whole_shrinks}
use Rattle.layout.specs.Rooms.{Served}
use Rattle.script.specs.Script.{called}
use Rattle.script.specs.Played.{Played, still, onward, end_line, Prints, FedTo}

-- nothing is served yet
pub fed_none : (room bs out : List ℕ) → FedTo room bs out 0 0 room out
fed_none room bs out = record { inside = omega arith; fits = omega arith; played = still; kept = refl; size = refl; rate = omega arith }

-- one record more
pub fed_on : {room bs out room1 out1 room2 out2 : List ℕ} {at put tag from to status value put2 : ℕ} → FedTo room bs out at put room1 out1
    → WholeAt bs at tag from to → Served room1 (called tag (take (to - from) (drop from bs))) status value room2 → Put out1 put (line_of status value) put2 out2
    → length (line_of status value) ≤ line_limit → put + line_limit ≤ length out1 → FedTo room bs out to put2 room2 out2
fed_on {room} {bs} {out} {room1} {out1} {room2} {out2} {at} {put} {tag} {from} {to} {status} {value} {put2} f w s p short fits =
    record {
      inside = w.inside;
      fits = omega (arith, f.size, p.ends, short, fits);
      played = rw (put_front p (omega (arith, short, fits))) (onward f.played (w.reads ∙ ap (λ (p : List ℕ). whole tag p (drop to bs)) (drop_take from to bs)) s);
      kept = put_behind p (omega (arith, short, fits)) ∙ later out out1 put put2 (omega (arith, p.ends)) f.kept;
      size = put_size p (omega (arith, short, fits)) ∙ f.size;
      rate = omega (arith, f.rate, w.begins, w.order, p.ends, short);
    }

-- what follows records that were served may be served on its own
pub played_on : {room bs text rest left text' rest' left' : List ℕ} → Played room bs text rest left → Played left rest text' rest' left'
    → Played room bs (text ++ text') rest' left'
played_on p still = rw append-nil p
played_on p (onward q e s) = rw (← append_assoc) (onward (played_on p q) e s)

-- bytes that come behind change nothing of what was served
pub played_stays : {room bs text rest left : List ℕ} (c : List ℕ) → Played room bs text rest left → Played room (bs ++ c) text (rest ++ c) left
played_stays c still = still
played_stays {room} {bs} c (onward {rest = r} p e s) = onward (played_stays c p) (whole_stays r c e) s

-- "However the bytes are cut": a piece, and then the bytes that it left with the next piece behind them, are both pieces at once
pub played_in_pieces : {room bs text rest left text' rest' left' : List ℕ} (c : List ℕ) → Played room bs text rest left
    → Played left (rest ++ c) text' rest' left' → Played room (bs ++ c) (text ++ text') rest' left'
played_in_pieces c p q = played_on (played_stays c p) q

-- ---- the whole output

played_shrinks : {room bs text rest left : List ℕ} → Played room bs text rest left → length rest ≤ length bs
played_shrinks still = omega arith
played_shrinks (onward {rest = r} p e s) = omega (arith, whole_shrinks r e, played_shrinks p)

-- a piece, and then all that the bytes which it left and those that come behind them print, the offset being moved on
pub prints_on : {room bs lines rest left text : List ℕ} (offset : ℕ) (c : List ℕ) → Played room bs lines rest left
    → Prints (offset + (length bs - length rest)) left (rest ++ c) text → Prints offset room (bs ++ c) (lines ++ text)
prints_on {room} {bs} {lines} {rest} {left} {text} offset c p q =
    let e : offset + (length bs - length rest) + (length (rest ++ c) - length q.rest) ≡ offset + (length (bs ++ c) - length q.rest) =
    omega (arith, played_shrinks p, played_shrinks q.played, length-append rest c, length-append bs c) in
    record {
      lines = lines ++ q.lines;
      rest = q.rest;
      left = q.left;
      played = played_in_pieces c p q.played;
      over = q.over;
      all =
          ap (λ (t : List ℕ). lines ++ t) q.all
          ∙ ap (λ (n : ℕ). lines ++ (q.lines ++ end_line n q.rest)) e
          ∙ sym (append_assoc lines q.lines (end_line (offset + (length (bs ++ c) - length q.rest)) q.rest));
    }

-- what was fed last, where nothing comes behind it
pub prints_end : {room bs out room' out' : List ℕ} {at put : ℕ} (offset : ℕ) → FedTo room bs out at put room' out' → is_whole (next (drop at bs)) ≡ false
    → Prints offset room bs (take put out' ++ end_line (offset + at) (drop at bs))
prints_end {room} {bs} {out} {room'} {out'} {at} {put} offset f o =
    let e : at ≡ length bs - length (drop at bs) = omega (arith, f.inside, length-drop at bs) in
    record {
      lines = take put out';
      rest = drop at bs;
      left = room';
      played = f.played;
      over = o;
      all = ap (λ (n : ℕ). take put out' ++ end_line (offset + n) (drop at bs)) e;
    }
