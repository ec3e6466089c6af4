-- `operator_rows::since_row` meets its contract. The invariant of its loop: the cells before t are the since's, the breaks before t and the begins
-- before t - lower are noted. The measure is what is left of the minutes. Assumes nothing.
use mathlib.Core.Path.{◌≡◌, refl, ◌∙◌}
use Prim.Native.Nat.{◌+◌, ◌<◌}
use native.Mathlib.Omega.{arith}
use borrow.Author.Rules.{rules}
use lib.ListN.{length, length-set}
use Rattle.kleene.specs.Truth.{code_of}
use Rattle.rows.proofs.Laws.{one_more}
use Rattle.mtl.specs.Algebra.{three}
use Rattle.mtl.specs.Reading.{point, since}
use Rattle.valuation.specs.Indexes.{begun, broken}
use Rattle.operator_rows.proofs.Steps.{lasts_step}
use Rattle.operator_rows.proofs.since_row.Goals as goal

pub loop-t-preserved : goal.loop-t-preserved
loop-t-preserved c =
    let x = c.args in
    let m = length x.points.now in
    let t = c.loop-t.t in
    let on : t < m = c.loop-t-test.true in (
      length-set c.loop-t.row t c.since_value.result ∙ c.loop-t.invariant.0,
      c.next_start-start.ensures,
      λ w α β P Q R.
          let old = c.loop-t.invariant.2 w α β P Q R in
          let e = point three w in
          let ranks = c.rank_row.ensures e β P R in
          let begins = c.since_begin-begins.ensures m (begun e β) (omega (arith, on)) ranks old.0 in
          let break = old.2.above t (omega (arith, on)) ∙ c.rank_row-2.ensures e α P Q t (omega (arith, on)) in
          let n = c.note-breaks in
          let ends = lasts_step t (t + 1) _ (broken e α) refl break c.loop-t.breaks n.result n.ensures old.1 in (
            begins,
            ends,
            one_more (λ s. code_of (since three w α β x.interval.lower x.interval.upper s)) 0 t _ c.loop-t.row c.since_value.result old.2
                (omega arith) (omega (arith, on, c.requires.0, c.loop-t.invariant.0))
                (c.since_value.ensures w α β x.interval.lower x.interval.upper t c.loop-t.invariant.1 begins ends),
          ),
    )

pub returns : goal.returns
returns c =
    let x = c.args in
    let done : c.loop-t.t ≡ length x.points.now = omega arith in (
      search rules,
      c.loop-t.invariant.0,
      λ w α β P Q R i h. (c.loop-t.invariant.2 w α β P Q R).2.inside i (omega arith) (omega (arith, done)),
    )
