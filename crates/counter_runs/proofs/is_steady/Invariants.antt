-- `counter_runs::is_steady` meets its contract. The loop's invariant: the run is steady up to p, which is a known place with the number v, or p is the
-- run's end and all of it is steady. The measure is what is left of the run. Assumes nothing.
use mathlib.Core.Path.{◌≡◌}
use Prim.Native.Nat.{◌-◌, ◌≤◌, ◌<◌}
use lib.ListN.{length}
use Rattle.knowledge.specs.Knowledge.{Steady}
use Rattle.knowledge.specs.Run.{cell}
use Rattle.counter_runs.proofs.Walk.{Walked}
use Rattle.counter_runs.proofs.is_steady.Given as goal

abbrev pub invariant-loop-p : goal.invariant-loop-p
invariant-loop-p l =
    (l.p ≤ length l.run) × (l.p < length l.run → (l.v ≡ cell l.run l.p) × Walked (cell l.run) l.p) × (length l.run ≤ l.p → Steady (cell l.run) (length l.run))

abbrev pub decreases-loop-p : goal.decreases-loop-p
decreases-loop-p l = length l.run - l.p
