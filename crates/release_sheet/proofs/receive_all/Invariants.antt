-- Each message so far was taken or refused. Assumes nothing.
use Rattle.std.proofs.Common.{◌≡◌, ◌+◌}
use Rattle.release_sheet.proofs.receive_all.Given as goal

abbrev pub invariant-loop-index : goal.invariant-loop-index
invariant-loop-index g l = l.tally.taken + l.tally.refused ≡ l.index
