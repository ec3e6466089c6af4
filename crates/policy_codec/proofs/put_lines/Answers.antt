-- Invariant: the lines so far stand behind the heading (`Put`). Assumes nothing.
use Rattle.policy_codec.proofs.Writing.{none_put, line_room, line_put}
use Rattle.policy_codec.proofs.put_lines.Goals as goal

pub loop-line-init : goal.loop-line-init
loop-line-init c = none_put _ _

pub put_line-at-requires : goal.put_line-at-requires
put_line-at-requires c = line_room _ _ _ _ _ c.loop-line.invariant _ c.loop-line-test.true c.requires

pub loop-line-preserved : goal.loop-line-preserved
loop-line-preserved c = line_put _ _ _ _ _ c.loop-line.invariant _ _ c.put_line-at.ensures
