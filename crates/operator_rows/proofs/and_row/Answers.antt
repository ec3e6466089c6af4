-- `operator_rows::and_row` meets its contract. The invariant of its loop: the cells before t are the codes of and, or of implies. Assumes nothing.
use mathlib.Core.Path.{ap}
use native.Mathlib.Omega.{arith}
use lib.Dec.{leb}
use Rattle.rows.proofs.Laws.{one_more}
use Rattle.operator_rows.proofs.and_row.Goals as goal

pub loop-t-preserved : goal.loop-t-preserved
loop-t-preserved c =
    let old = c.loop-t.invariant in
    let rank = c.rank_of_and-rank.ensures in
    one_more _ 0 c.loop-t.t c.args.row.now c.loop-t.row c.signed_code.result old (omega arith) (omega (arith, old.long))
    (c.signed_code.ensures _ (ap (leb 2) rank) (ap (leb 1) rank))
