-- `operator_rows::once_row` meets its contract. The invariant of its loop: the cells before t are the once's, and the begins before t - lower are noted.
-- The measure is what is left of the minutes. Assumes nothing.
use mathlib.Core.Path.{◌≡◌, ◌∙◌}
use Prim.Native.Nat.{◌<◌}
use native.Mathlib.Omega.{arith}
use borrow.Author.Rules.{rules}
use lib.ListN.{length, length-set}
use Rattle.rows.proofs.Laws.{one_more}
use Rattle.mtl.specs.Algebra.{three}
use Rattle.mtl.specs.Reading.{point}
use Rattle.valuation.specs.Indexes.{begun}
use Rattle.operator_rows.proofs.Shown.{sought_at}
use Rattle.operator_rows.proofs.once_row.Invariants.{of}
use Rattle.operator_rows.proofs.once_row.Goals as goal

pub loop-t-preserved : goal.loop-t-preserved
loop-t-preserved c =
    let x = c.args in
    let m = length x.points.now in
    let t = c.loop-t.t in
    let on : t < m = c.loop-t-test.true in (
      length-set c.loop-t.row t c.once_value.result ∙ c.loop-t.invariant.0,
      c.next_start-start.ensures,
      λ w α τ β P Q U.
          let old = c.loop-t.invariant.2 w α τ β P Q U in
          let e = point three w in
          let ranks = c.rank_row.ensures e α P Q in
          let begins = c.since_begin-begins.ensures m (begun e β) on (λ j h. ranks j h ∙ sought_at x.negated e α β U.sought j) old.0 in (
            begins,
            one_more (of w x.negated τ β x.interval.lower x.interval.upper) 0 t _ c.loop-t.row c.once_value.result old.1
                (omega arith) (omega (arith, on, c.requires.0, c.loop-t.invariant.0))
                (c.once_value.ensures w τ β x.interval.lower x.interval.upper t c.loop-t.invariant.1 begins (λ s h. U.held s (omega (arith, on)))),
          ),
    )

pub returns : goal.returns
returns c =
    let x = c.args in
    let done : c.loop-t.t ≡ length x.points.now = omega arith in (
      search rules,
      c.loop-t.invariant.0,
      λ w α τ β P Q U i h. (c.loop-t.invariant.2 w α τ β P Q U).1.inside i (omega arith) (omega (arith, done)),
    )
