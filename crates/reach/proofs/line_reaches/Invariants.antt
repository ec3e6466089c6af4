-- Invariant: the first i lines are done. Assumes nothing.
use Rattle.reach.proofs.Filling.{Done}
use Rattle.reach.proofs.line_reaches.Given as goal

abbrev pub invariant-loop-i : goal.invariant-loop-i
invariant-loop-i l = Done l.policy l.reaches l.i
