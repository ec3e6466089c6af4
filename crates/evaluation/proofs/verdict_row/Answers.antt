-- `evaluation::verdict_row` meets its contract. The invariant of its loop: the cells before t are written, and the total is of what stands there.
-- Assumes nothing.
use mathlib.Core.Path.{refl, sym, ap₂, ◌∙◌}
use Prim.Native.Nat.{ℕ, ◌+◌}
use native.Mathlib.Omega.{arith}
use lib.ListN.{take, length-take}
use Rattle.rows.proofs.Laws.{untouched, one_more}
use Rattle.valuation.specs.Sheets.{standing}
use Rattle.evaluation.proofs.Standing.{at_most_one, standing_le, standing_more}
use Rattle.evaluation.proofs.verdict_row.Goals as goal

pub loop-t-init : goal.loop-t-init
unfolding standing
loop-t-init c = (untouched _ 0 c.args.verdicts.now, refl)

pub overflow_add-total : goal.overflow_add-total
overflow_add-total c =
    omega (arith, c.loop-t.invariant.1, standing_le (take c.loop-t.t c.loop-t.verdicts), length-take c.loop-t.t c.loop-t.verdicts, at_most_one c.verdict_code-verdict.result, c.stands-total.ensures)

pub loop-t-preserved : goal.loop-t-preserved
loop-t-preserved c =
    let v = c.verdict_code-verdict in
    let t = c.loop-t.t in
    let written = c.loop-t.verdicts in (
      one_more _ 0 t _ written v.result c.loop-t.invariant.0 (omega arith) (omega arith) v.ensures,
      ap₂ (λ (a b : ℕ). a + b) c.loop-t.invariant.1 c.stands-total.ensures ∙ sym (standing_more written t v.result (omega arith)),
    )
