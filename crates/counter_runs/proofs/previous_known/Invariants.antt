-- `counter_runs::previous_known` meets its contract. The loop's invariant: the places from i to before `place` are read, and none of them is known.
-- Assumes nothing.
use Prim.Native.Nat.{ℕ, ◌+◌, ◌≤◌, ◌<◌}
use mathlib.Core.Path.{◌≡◌}
use Rattle.knowledge.specs.Knowledge.{none}
use Rattle.knowledge.specs.Run.{cell}
use Rattle.counter_runs.proofs.previous_known.Given as goal

abbrev pub invariant-loop-i : goal.invariant-loop-i
invariant-loop-i l = (l.i + l.reads ≡ l.place) × ((j : ℕ) → l.i ≤ j → j < l.place → none ≤ cell l.run j)
