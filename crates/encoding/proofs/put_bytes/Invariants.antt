-- Each turn stores the lowest byte that is left (`Putting`). Assumes nothing.
use Rattle.encoding.proofs.Putting.{Putting}
use Rattle.encoding.proofs.put_bytes.Given as goal

abbrev pub invariant-loop-i : goal.invariant-loop-i
invariant-loop-i l = Putting l.initial.out l.at l.width l.value l.out l.rest l.i
