-- `operator_rows::or_row` meets its contract. The invariant of its loop: the cells before t are the codes of or. Assumes nothing.
use mathlib.Core.Path.{ap₂, ◌∙◌}
use native.Mathlib.Omega.{arith}
use Rattle.kleene.specs.Truth.{Truth, code_of, or3}
use Rattle.rows.proofs.Laws.{one_more}
use Rattle.operator_rows.proofs.or_row.Goals as goal

pub loop-t-preserved : goal.loop-t-preserved
loop-t-preserved c =
    let old = c.loop-t.invariant in
    let i = c.index-i in
    let j = c.index-j in
    one_more _ 0 c.loop-t.t c.args.row.now c.loop-t.row _ old (omega arith) (omega (arith, old.long))
    (c.or_table-table.ensures i.result j.result i.ensures.0 j.ensures.0 ∙ ap₂ (λ (v w : Truth). code_of (or3 v w)) i.ensures.1 j.ensures.1)
