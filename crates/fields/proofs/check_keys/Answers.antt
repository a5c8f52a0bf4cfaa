-- The verdict on the whole list is the verdict on what is left of it, by whether the keys so far were short.
use mathlib.Core.Path.{sym, ap, ◌∙◌}
use mathlib.Core.Bool.{cond}
use Rattle.std.specs.Prelude.{Ok, Err}
use Rattle.fields.specs.declared.FormError.{FormError}
use Rattle.fields.proofs.Keys.{form_end, form_long, form_short}
use Rattle.fields.proofs.check_keys.Goals as goal

pub loop-key-preserved-then-key-gt-KEY_LIMIT : goal.loop-key-preserved-then-key-gt-KEY_LIMIT
loop-key-preserved-then-key-gt-KEY_LIMIT c =
    c.loop-key.invariant ∙ form_long _ _ _ _ _ (rw c.in-Some.is at c.in_ok-key.ensures) c.if-key-gt-KEY_LIMIT.true

pub loop-key-preserved : goal.loop-key-preserved
loop-key-preserved c = c.loop-key.invariant ∙ form_short _ _ _ _ _ (rw c.in-Some.is at c.in_ok-key.ensures) c.if-key-gt-KEY_LIMIT.false

pub returns-then-short : goal.returns-then-short
returns-then-short c =
    sym (c.loop-key.invariant ∙ form_end _ _ _ (rw c.in_default.is at c.in_ok-key.ensures) ∙ ap (λ b. cond b (Ok tt) (Err FormError.LongKey)) c.if-short.true)

pub returns-else-short : goal.returns-else-short
returns-else-short c =
    sym (c.loop-key.invariant ∙ form_end _ _ _ (rw c.in_default.is at c.in_ok-key.ensures) ∙ ap (λ b. cond b (Ok tt) (Err FormError.LongKey)) c.if-short.false)
