-- The place stays within the buffer, whose length stays. Assumes nothing.
use Rattle.std.proofs.Common.{◌≡◌, ◌≤◌, length}
use Rattle.release_sheet.proofs.input.fill.Given as goal

abbrev pub invariant-loop : goal.invariant-loop
invariant-loop g l = (l.end ≤ length l.buffer) × (length l.buffer ≡ length l.initial.buffer)
