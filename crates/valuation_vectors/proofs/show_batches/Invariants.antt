-- At most so many cells of each turn differ. Assumes nothing.
use Rattle.std.proofs.Common.{◌*◌, ◌≤◌}
use Rattle.valuation_vectors.proofs.show_batches.Given as goal

abbrev pub invariant-loop-number : goal.invariant-loop-number
invariant-loop-number g l = l.n ≤ 20480 * l.number
