-- A prefix over the limit makes a start over the limit; otherwise the range lies between the two made bounds.
use mathlib.Core.Path.{◌≡◌, ap, ◌∙◌}
use native.Mathlib.Omega.{arith}
use Rattle.std.specs.Prelude.{Ok, Err}
use Rattle.std.proofs.lemmas.Result.{err_from_is_err_and}
use Rattle.kinds.specs.Bounds.{bound}
use Rattle.bounds.specs.Ranges.{range}
use Rattle.ranges.specs.Making.{new_of, answered}
use Rattle.ranges.specs.Prefixes.{sub_start, sub_end}
use Rattle.ranges.proofs.Between.{long_start, long_prefix, start_failed, end_failed, was_made, sized, read_back}
use Rattle.ranges.proofs.bytes_range.BytesRange.from_prefix_and_subrange.Goals as goal

pub returns-then-prefix-gt-KEY_LIMIT : goal.returns-then-prefix-gt-KEY_LIMIT
returns-then-prefix-gt-KEY_LIMIT c = long_start _ (sub_end c.args.prefix.now (bound c.args.subrange.end c.args.end_suffix.now)) (long_prefix c.args.prefix.now (bound c.args.subrange.start c.args.start_suffix.now) (omega arith))

pub returns-in-Err : goal.returns-in-Err
returns-in-Err c = start_failed (sub_start c.args.prefix.now (bound c.args.subrange.start c.args.start_suffix.now)) (sub_end c.args.prefix.now (bound c.args.subrange.end c.args.end_suffix.now)) c.in-Err.ensures

pub returns-in-Err-end_of : goal.returns-in-Err-end_of
returns-in-Err-end_of c = end_failed (sub_start c.args.prefix.now (bound c.args.subrange.start c.args.start_suffix.now)) (sub_end c.args.prefix.now (bound c.args.subrange.end c.args.end_suffix.now)) c.in-Err-end_of.ensures

pub key-requires : goal.key-requires
key-requires c = sized (sub_start c.args.prefix.now (bound c.args.subrange.start c.args.start_suffix.now)) c.in-Ok.ensures

pub key-requires-2 : goal.key-requires-2
key-requires-2 c = sized (sub_end c.args.prefix.now (bound c.args.subrange.end c.args.end_suffix.now)) c.in-Ok-end_of.ensures

-- the new range's verdict is that of the bounds that were made
pub returns-in_err-new : goal.returns-in_err-new
returns-in_err-new c = let p = err_from_is_err_and c.from_residual.result c.from_residual.ensures.1 in
    let s = (sub_start c.args.prefix.now (bound c.args.subrange.start c.args.start_suffix.now)) in
    let e = (sub_end c.args.prefix.now (bound c.args.subrange.end c.args.end_suffix.now)) in
    let verdict : Err c.in_err-new.field-0.0 ≡ new_of (range s e) = c.in_err-new.ensures ∙ (λ i. new_of (range (read_back s c.in-Ok.ensures c.key.ensures i) (read_back e c.in-Ok-end_of.ensures c.key-2.ensures i))) in
    rw (p.1, p.2) (ap (λ v. answered v (range s e)) verdict)

pub returns : goal.returns
returns c = let s = (sub_start c.args.prefix.now (bound c.args.subrange.start c.args.start_suffix.now)) in
    let e = (sub_end c.args.prefix.now (bound c.args.subrange.end c.args.end_suffix.now)) in
    let verdict : Ok c.in_ok-new.field-0 ≡ new_of (range s e) = c.in_ok-new.ensures ∙ (λ i. new_of (range (read_back s c.in-Ok.ensures c.key.ensures i) (read_back e c.in-Ok-end_of.ensures c.key-2.ensures i))) in
    (λ i. Ok (record { start = was_made s c.in-Ok.ensures i; end = was_made e c.in-Ok-end_of.ensures i })) ∙ ap (λ v. answered v (range s e)) verdict
