-- `evaluation::evaluate` meets its contract. The invariant of its loop: the first i rows are their subformulas' values, and the rest is as it was.
-- Assumes nothing.
use mathlib.Core.Path.{◌≡◌, subst}
use Prim.Native.Nat.{ℕ, ◌*◌, ◌<◌}
use native.Mathlib.Omega.{arith}
use Rattle.rows.specs.Over.{Over}
use Rattle.rows.proofs.Grid.{next_row}
use Rattle.rows.proofs.Parts.{from_front}
use Rattle.valuation.specs.Sheets.{value, valuation_of}
use Rattle.evaluation.proofs.Work.{cell, rows_show, next}
use Rattle.evaluation.proofs.evaluate.Goals as goal

pub loop-i-preserved : goal.loop-i-preserved
loop-i-preserved c k e q =
    let p = c.args.policy in
    let pre = c.requires in
    let i = c.loop-i.i in
    let h : i < p.count = c.loop-i-test.true in
    let new = c.loop-i.valuation in
    let old = c.loop-i.invariant k e q in
    let fits = next_row p.count p.sizes.minutes i h in
    next p pre.0 i h k c.args.valuation.now new _ _ (omega arith) (omega (arith, c.work_row.array_long, pre.0.minutes.high)) old
    (c.work_row.ensures k (value p k) e q (rows_show p k pre.0.earlier (i * p.sizes.minutes) c.args.valuation.now new (omega arith) old))
    c.copy_from_slice.ensures.after

pub returns : goal.returns
unfolding valuation_of
returns c k e q =
    let p = c.args.policy in
    let last : c.loop-i.i ≡ p.count = omega arith in
    from_front (cell p k) (p.count * p.sizes.minutes) c.args.valuation.now c.loop-i.valuation c.requires.2
    (subst (λ (n : ℕ). Over (cell p k) 0 (n * p.sizes.minutes) c.args.valuation.now c.loop-i.valuation) last (c.loop-i.invariant k e q))
