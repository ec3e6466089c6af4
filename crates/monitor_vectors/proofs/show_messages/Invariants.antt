-- Each turn takes the length byte at least. Assumes nothing.
use Rattle.std.proofs.Common.{length}
use Rattle.monitor_vectors.proofs.show_messages.Given as goal

abbrev pub decreases-loop-length : goal.decreases-loop-length
decreases-loop-length g l = length l.left
