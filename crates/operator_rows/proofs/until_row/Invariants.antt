-- `operator_rows::until_row` meets its contract. The invariant of its loop: the cells from t on are the until's, the breaks from t on and the begins
-- from t + lower on are noted. The measure is t. Assumes nothing.
use mathlib.Core.Path.{◌≡◌}
use Prim.Native.Nat.{ℕ, ◌+◌}
use lib.ListN.{length}
use Rattle.kleene.specs.Truth.{Truth, code_of}
use Rattle.rows.specs.Over.{Over}
use Rattle.mtl.specs.Algebra.{three}
use Rattle.mtl.specs.Reading.{World, point, until}
use Rattle.valuation.specs.Rows.{Shows}
use Rattle.valuation.specs.Indexes.{begun, broken, Firsts}
use Rattle.operator_rows.proofs.until_row.Given as goal

abbrev pub invariant-loop-t : goal.invariant-loop-t
invariant-loop-t l =
    (length l.row ≡ 1024)
    × ((w : World Truth) (α β : ℕ → Truth) → Shows l.points (point three w) → Shows l.left α → Shows l.right β
    → Firsts (begun (point three w) β) (l.t + l.interval.lower) l.begins × Firsts (broken (point three w) α) l.t l.breaks
    × Over (λ s. code_of (until three w α β l.interval.lower l.interval.upper s)) l.t (length l.points) l.initial.row l.row)
