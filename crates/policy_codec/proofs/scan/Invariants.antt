-- Invariant: the first i lines are accepted and read (`UpTo`). A line that fails refuses all, since the answer of the lines keeps its first refusal. Assumes nothing.
use Rattle.policy_codec.proofs.Lines.{UpTo}
use Rattle.policy_codec.proofs.scan.Given as goal

abbrev pub invariant-loop-i : goal.invariant-loop-i
invariant-loop-i l = UpTo l.s l.i l.subformulas l.rules l.at
