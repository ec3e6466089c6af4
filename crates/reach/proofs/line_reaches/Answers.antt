-- Invariant: the first i lines are done. Assumes nothing.
use Rattle.reach.proofs.Filling.{workable, one_more}
use Rattle.reach.proofs.line_reaches.Goals as goal

pub reach_from-requires : goal.reach_from-requires
reach_from-requires c = workable _ c.requires _ _ c.loop-i.invariant c.loop-i-test.true

pub loop-i-preserved : goal.loop-i-preserved
loop-i-preserved c = one_more _ c.requires _ _ c.loop-i.invariant c.loop-i-test.true _ c.reach_from.ensures
