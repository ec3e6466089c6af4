-- Each place gets its byte; the loop has written the places below `place`. Assumes nothing.
use Rattle.std.specs.Prelude.{get_or}
use Rattle.rows.specs.Over.{Over}
use Rattle.origin.proofs.fill.Given as goal

abbrev pub invariant-loop-place : goal.invariant-loop-place
invariant-loop-place l = Over (λ j. get_or l.policy j 0) 0 l.place l.initial.origin l.origin
