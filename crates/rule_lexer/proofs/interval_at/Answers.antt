-- Each return is a law of `Terms`. Assumes nothing.
use mathlib.Core.Path.{sym, ◌∙◌}
use Rattle.rule_text.proofs.Terms.{no_bracket, no_number, without_comma}
use Rattle.rule_lexer.proofs.interval_at.Goals as goal

pub returns-then-byte_at-ne91 : goal.returns-then-byte_at-ne91
returns-then-byte_at-ne91 c = no_bracket _ _ (λ e. c.if-byte_at-ne91.true (c.byte_at.ensures ∙ e))

pub returns-then-lower-first : goal.returns-then-lower-first
returns-then-lower-first c = no_number _ _ (sym c.byte_at.ensures ∙ c.if-byte_at-ne91.false) _ _ c.number_at-lower.ensures c.if-lower-first.true

pub returns-then-byte_at-ne44 : goal.returns-then-byte_at-ne44
returns-then-byte_at-ne44 c = without_comma _ _ (sym c.byte_at.ensures ∙ c.if-byte_at-ne91.false) _ _ _ c.number_at-lower.ensures c.if-lower-first.false (λ e. c.if-byte_at-ne44.true (c.byte_at-2.ensures ∙ e)) c.unless_far.ensures

pub returns : goal.returns
returns c = c.upper_bound.ensures
