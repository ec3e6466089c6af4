-- Each turn one line more is stored (`Put`). Assumes nothing.
use Rattle.rule_text.specs.Descent.{Put}
use Rattle.rule_parser.proofs.negated.Given as goal

abbrev pub invariant-loop-i : goal.invariant-loop-i
invariant-loop-i l = Put l.initial.fields l.fields l.lines l.count l.i
