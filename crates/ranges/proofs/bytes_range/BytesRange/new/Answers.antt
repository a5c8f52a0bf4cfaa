-- The limit is judged before emptiness, the start before the end.
use mathlib.Core.Path.{refl, sym, ◌∙◌}
use Rattle.std.specs.Prelude.{Ok}
use Rattle.kinds.specs.Bounds.{bound}
use Rattle.bounds.specs.Ranges.{range, not_empty_pair}
use Rattle.ranges.proofs.MakingLaws.{new_by, kind_back}
use Rattle.ranges.proofs.bytes_range.BytesRange.new.Goals.{then-too_long-via-then-too_long, then-too_long-via-else-too_long+then-too_long-2}
use Rattle.ranges.proofs.bytes_range.BytesRange.new.Goals as goal

pub returns-then-too_long : goal.returns-then-too_long
returns-then-too_long c = elim c.then-too_long.branch [
  | then-too_long-via-then-too_long w ↦ new_by (range (bound c.args.start c.args.start_key.now) (bound c.args.end c.args.end_key.now)) (sym c.too_long.ensures ∙ w.if-too_long.true) refl refl
  | then-too_long-via-else-too_long+then-too_long-2 w ↦ new_by (range (bound c.args.start c.args.start_key.now) (bound c.args.end c.args.end_key.now)) (sym c.too_long.ensures ∙ w.if-too_long.false) (sym w.too_long-else-too_long.ensures ∙ w.if-too_long-2.true) refl
]

-- past the two tests neither key is over the limit, and emptiness is judged
pub returns-then-not-non_empty : goal.returns-then-not-non_empty
returns-then-not-non_empty c = let x = c.args in
    let n = c.new-inner.ensures in
    new_by (range (bound x.start x.start_key.now) (bound x.end x.end_key.now)) (sym c.too_long.ensures ∙ c.if-too_long.false) (sym c.too_long-else-too_long.ensures ∙ c.if-too_long-2.false)
    (sym (c.non_empty.ensures ∙ (λ i. not_empty_pair (bound (n.0 i) x.start_key.now) (bound (n.1 i) x.end_key.now))) ∙ c.if-not-non_empty.true)

pub returns : goal.returns
returns c = let x = c.args in
    let n = c.new-inner.ensures in
    (λ i. Ok (record { inner = record { start = (n.0 ∙ kind_back x.start x.start_key.now) i; end = (n.1 ∙ kind_back x.end x.end_key.now) i } }))
    ∙ new_by (range (bound x.start x.start_key.now) (bound x.end x.end_key.now)) (sym c.too_long.ensures ∙ c.if-too_long.false) (sym c.too_long-else-too_long.ensures ∙ c.if-too_long-2.false)
    (sym (c.non_empty.ensures ∙ (λ i. not_empty_pair (bound (n.0 i) x.start_key.now) (bound (n.1 i) x.end_key.now))) ∙ c.if-not-non_empty.false)
