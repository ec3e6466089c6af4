-- `operator_rows::rank_row` meets its contract. The invariant of its loop: the cells before t are the ranks. Assumes nothing.
use mathlib.Core.Path.{◌∙◌}
use native.Mathlib.Omega.{arith}
use Rattle.operator_rows.proofs.Shown.{ranked_at}
use Rattle.operator_rows.proofs.rank_row.Goals as goal

pub returns : goal.returns
returns c =
    let x = c.args in
    λ e f P Q t h. c.loop-t.invariant.inside t (omega arith) (omega arith) ∙ ranked_at x.negated x.points.now x.operand.now e f P Q t
