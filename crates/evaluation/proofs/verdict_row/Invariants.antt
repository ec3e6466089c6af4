-- `evaluation::verdict_row` meets its contract. The invariant of its loop: the cells before t are written, and the total is of what stands there.
-- Assumes nothing.
use mathlib.Core.Path.{◌≡◌}
use lib.ListN.{get_or, take}
use Rattle.rows.specs.Over.{Over}
use Rattle.valuation.specs.Sheets.{standing}
use Rattle.valuation.specs.Verdicts.{verdict_code}
use Rattle.evaluation.proofs.verdict_row.Given as goal

abbrev pub invariant-loop-t : goal.invariant-loop-t
invariant-loop-t l =
    Over (λ s. verdict_code (get_or l.points s 0) (get_or l.row s 0)) 0 l.t l.initial.verdicts l.verdicts
    × (l.total ≡ standing (take l.t l.verdicts))
