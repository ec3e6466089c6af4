-- `operator_rows::since_row` meets its contract. The invariant of its loop: the cells before t are the since's, the breaks before t and the begins
-- before t - lower are noted. The measure is what is left of the minutes. Assumes nothing.
use mathlib.Core.Path.{◌≡◌}
use Prim.Native.Nat.{ℕ, ◌-◌}
use lib.ListN.{length}
use Rattle.kleene.specs.Truth.{Truth, code_of}
use Rattle.rows.specs.Over.{Over}
use Rattle.mtl.specs.Algebra.{three}
use Rattle.mtl.specs.Reading.{World, point, since}
use Rattle.valuation.specs.Rows.{Shows}
use Rattle.valuation.specs.Indexes.{begun, broken, Lasts}
use Rattle.operator_rows.proofs.since_row.Given as goal

abbrev pub invariant-loop-t : goal.invariant-loop-t
invariant-loop-t l =
    (length l.row ≡ 1024) × (l.start ≡ l.t - l.interval.upper)
    × ((w : World Truth) (α β : ℕ → Truth) → Shows l.points (point three w) → Shows l.left α → Shows l.right β
    → Lasts (begun (point three w) β) (l.t - l.interval.lower) l.begins × Lasts (broken (point three w) α) l.t l.breaks
    × Over (λ s. code_of (since three w α β l.interval.lower l.interval.upper s)) 0 l.t l.initial.row l.row)
