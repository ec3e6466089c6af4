-- `knowledge_store::join_run` meets its contract. The loop's invariant: the minute is the first of a gap, or the minutes are through, and the row is joined
-- with what the run tells of those before it. The measure is how many minutes are left. Assumes nothing.
use mathlib.Core.Path.{◌≡◌}
use Prim.Native.Nat.{suc, ◌-◌, ◌≤◌, ◌<◌, min}
use lib.ListN.{length}
use Rattle.rows.specs.Over.{Over}
use Rattle.knowledge.specs.Knowledge.{none, most_minutes}
use Rattle.knowledge.specs.Run.{cell, joined, told}
use Rattle.knowledge_store.proofs.join_run.Given as goal

abbrev pub invariant-loop-minute : goal.invariant-loop-minute
invariant-loop-minute l =
    (length l.row ≡ most_minutes) × (suc l.minutes ≡ length l.run) × (l.minute ≤ l.minutes → cell l.run l.minute < none)
    × Over (joined l.initial.row (told (cell l.run) l.minutes)) 0 (min l.minute l.minutes) l.initial.row l.row

abbrev pub decreases-loop-minute : goal.decreases-loop-minute
decreases-loop-minute l = l.minutes - l.minute
