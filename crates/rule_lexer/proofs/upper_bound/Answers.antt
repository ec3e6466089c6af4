-- Each return is a law of `Terms`. Assumes nothing.
use mathlib.Core.Path.{sym, ◌∙◌}
use Rattle.rule_text.proofs.Terms.{no_second, not_closed, crossed, far_first, far_second, interval_read}
use Rattle.rule_text.proofs.Laws.{by_bytes}
use Rattle.rule_lexer.proofs.upper_bound.Goals as goal

pub returns-then-upper-second : goal.returns-then-upper-second
returns-then-upper-second c = no_second _ _ _ _ c.requires _ _ _ c.number_at-upper.ensures c.if-upper-second.true c.unless_far.ensures

pub returns-then-byte_at-ne93 : goal.returns-then-byte_at-ne93
returns-then-byte_at-ne93 c = not_closed _ _ _ _ c.requires _ _ c.number_at-upper.ensures c.if-upper-second.false _ _ (λ e. c.if-byte_at-ne93.true (c.byte_at.ensures ∙ e)) c.unless_far-refusal.ensures c.unless_far-then-byte_at-ne93.ensures

pub returns-then-exceeds : goal.returns-then-exceeds
returns-then-exceeds c = crossed _ _ _ _ c.requires _ _ c.number_at-upper.ensures c.if-upper-second.false (sym c.byte_at.ensures ∙ c.if-byte_at-ne93.false) _ (by_bytes _ _ _ _ _ _ c.exceeds.ensures) c.if-exceeds.true

pub returns-then-lower-gt-MOST_BOUND : goal.returns-then-lower-gt-MOST_BOUND
returns-then-lower-gt-MOST_BOUND c = far_first _ _ _ _ c.requires _ _ c.number_at-upper.ensures c.if-upper-second.false (sym c.byte_at.ensures ∙ c.if-byte_at-ne93.false) _ (by_bytes _ _ _ _ _ _ c.exceeds.ensures) c.if-exceeds.false c.if-lower-gt-MOST_BOUND.true

pub returns-then-upper-gt-MOST_BOUND : goal.returns-then-upper-gt-MOST_BOUND
returns-then-upper-gt-MOST_BOUND c = far_second _ _ _ _ c.requires _ _ c.number_at-upper.ensures c.if-upper-second.false (sym c.byte_at.ensures ∙ c.if-byte_at-ne93.false) _ (by_bytes _ _ _ _ _ _ c.exceeds.ensures) c.if-exceeds.false c.if-lower-gt-MOST_BOUND.false c.if-upper-gt-MOST_BOUND.true

pub returns : goal.returns
returns c = interval_read _ _ _ _ c.requires _ _ c.number_at-upper.ensures c.if-upper-second.false (sym c.byte_at.ensures ∙ c.if-byte_at-ne93.false) _ (by_bytes _ _ _ _ _ _ c.exceeds.ensures) c.if-exceeds.false c.if-lower-gt-MOST_BOUND.false c.if-upper-gt-MOST_BOUND.false
