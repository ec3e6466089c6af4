-- Each turn one "not " more has been read (`Negations`). Assumes nothing.
use Rattle.rule_text.specs.Descent.{Negations}
use Rattle.rule_lexer.proofs.nots_at.Given as goal

abbrev pub invariant-loop-count : goal.invariant-loop-count
invariant-loop-count l = Negations l.text l.at l.started l.place l.count
