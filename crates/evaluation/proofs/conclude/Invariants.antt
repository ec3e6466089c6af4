-- `evaluation::conclude` meets its contract. The invariant of its loop: the verdicts of the rules among the first i lines are written and counted.
-- Assumes nothing.
use Rattle.evaluation.proofs.Concluding.{Concluded}
use Rattle.evaluation.proofs.conclude.Given as goal

abbrev pub invariant-loop-i : goal.invariant-loop-i
invariant-loop-i l =
    Concluded l.policy l.points l.valuation l.initial.verdicts l.i l.verdicts l.total l.at
