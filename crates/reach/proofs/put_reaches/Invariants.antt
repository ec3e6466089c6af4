-- Invariant: the reaches of the rules among the first i lines are written. Assumes nothing.
use Rattle.reach.proofs.Putting.{Put}
use Rattle.reach.proofs.put_reaches.Given as goal

abbrev pub invariant-loop-i : goal.invariant-loop-i
invariant-loop-i l = Put l.policy l.initial.out l.i l.out l.at
