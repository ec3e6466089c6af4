-- Each turn stores the lowest byte that is left (`Putting`). Assumes nothing.
use Rattle.encoding.proofs.Putting.{turn}
use Rattle.encoding.proofs.put_bytes.Goals as goal

pub loop-i-preserved : goal.loop-i-preserved
loop-i-preserved c = turn _ _ _ _ _ _ _ c.loop-i.invariant c.loop-i-test.true
