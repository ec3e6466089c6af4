-- `operator_rows::once_row` meets its contract. The invariant of its loop: the cells before t are the once's, and the begins before t - lower are noted.
-- The measure is what is left of the minutes. Assumes nothing.
use mathlib.Core.Path.{◌≡◌}
use mathlib.Core.Bool.{Bool}
use Prim.Native.Nat.{ℕ, ◌-◌}
use lib.ListN.{length}
use Rattle.kleene.specs.Truth.{Truth, code_of}
use Rattle.kleene.specs.Tests.{literal}
use Rattle.rows.specs.Over.{Over}
use Rattle.mtl.specs.Algebra.{three}
use Rattle.mtl.specs.Reading.{World, point, since}
use Rattle.valuation.specs.Rows.{Shows, Unbroken}
use Rattle.valuation.specs.Indexes.{begun, Lasts}
use Rattle.operator_rows.proofs.once_row.Given as goal

abbrev pub of : World Truth → Bool → (ℕ → Truth) → (ℕ → Truth) → ℕ → ℕ → ℕ → ℕ
of w negated τ β lower upper s = code_of (literal negated (since three w τ β lower upper s))

abbrev pub invariant-loop-t : goal.invariant-loop-t
invariant-loop-t l =
    (length l.row ≡ 1024) × (l.start ≡ l.t - l.interval.upper)
    × ((w : World Truth) (α τ β : ℕ → Truth) → Shows l.points (point three w) → Shows l.operand α → Unbroken (length l.points) l.negated α τ β
    → Lasts (begun (point three w) β) (l.t - l.interval.lower) l.begins × Over (of w l.negated τ β l.interval.lower l.interval.upper) 0 l.t l.initial.row l.row)
