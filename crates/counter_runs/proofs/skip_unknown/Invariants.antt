-- `counter_runs::skip_unknown` meets its contract. The loop's invariant: of the places from `from` on the first so many are read, and none of them is
-- known. The measure is how many are left. Assumes nothing.
use mathlib.Core.Path.{◌≡◌}
use Prim.Native.Nat.{◌+◌, ◌-◌, ◌≤◌}
use lib.ListN.{length}
use Rattle.knowledge.specs.Run.{cell}
use Rattle.counter_runs.proofs.Searching.{Unknown}
use Rattle.counter_runs.proofs.skip_unknown.Given as goal

abbrev pub invariant-loop-reads : goal.invariant-loop-reads
invariant-loop-reads l = (l.reads ≤ l.left) × (l.from + l.left ≡ length l.run) × Unknown (cell l.run) l.from (l.from + l.reads)

abbrev pub decreases-loop-reads : goal.decreases-loop-reads
decreases-loop-reads l = l.left - l.reads
