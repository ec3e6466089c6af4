-- `operator_rows::eventually_row` meets its contract. The invariant of its loop: the cells from t on are the eventually's, and the begins from t + lower
-- on are noted. The measure is t. Assumes nothing.
use mathlib.Core.Path.{◌≡◌}
use mathlib.Core.Bool.{Bool}
use Prim.Native.Nat.{ℕ, ◌+◌}
use lib.ListN.{length}
use Rattle.kleene.specs.Truth.{Truth, code_of}
use Rattle.kleene.specs.Tests.{literal}
use Rattle.rows.specs.Over.{Over}
use Rattle.mtl.specs.Algebra.{three}
use Rattle.mtl.specs.Reading.{World, point, until}
use Rattle.valuation.specs.Rows.{Shows, Unbroken}
use Rattle.valuation.specs.Indexes.{begun, Firsts}
use Rattle.operator_rows.proofs.eventually_row.Given as goal

abbrev pub of : World Truth → Bool → (ℕ → Truth) → (ℕ → Truth) → ℕ → ℕ → ℕ → ℕ
of w negated τ β lower upper s = code_of (literal negated (until three w τ β lower upper s))

abbrev pub invariant-loop-t : goal.invariant-loop-t
invariant-loop-t l =
    (length l.row ≡ 1024)
    × ((w : World Truth) (α τ β : ℕ → Truth) → Shows l.points (point three w) → Shows l.operand α → Unbroken (length l.points) l.negated α τ β
    → Firsts (begun (point three w) β) (l.t + l.interval.lower) l.begins × Over (of w l.negated τ β l.interval.lower l.interval.upper) l.t (length l.points) l.initial.row l.row)
