-- A term, and nothing behind it. Assumes nothing.
use Rattle.std.proofs.lemmas.Result.{err_from_is_err_and}
use Rattle.rule_text.proofs.Descent.{rule_refused, rule_longer, rule_read}
use Rattle.rule_parser.proofs.Source.rule.Goals as goal

pub returns-in_err-end : goal.returns-in_err-end
returns-in_err-end c = let p = err_from_is_err_and c.from_residual.result c.from_residual.ensures.1 in rw (p.1, p.2) (rule_refused _ _ _ _ _ c.term.ensures _ c.in_err-end.was)

pub returns-then-end-self : goal.returns-then-end-self
returns-then-end-self c = rule_longer _ _ _ _ _ c.term.ensures _ c.in_ok-end.was c.if-end-self.true

pub returns : goal.returns
returns c = rule_read _ _ _ _ _ c.term.ensures _ c.in_ok-end.was c.if-end-self.false
