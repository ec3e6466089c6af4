-- `operator_rows::until_row` meets its contract. The invariant of its loop: the cells from t on are the until's, the breaks from t on and the begins
-- from t + lower on are noted. The measure is t. Assumes nothing.
use mathlib.Core.Path.{◌≡◌, refl, ◌∙◌}
use mathlib.Core.Bool.{true, false}
use Prim.Native.Nat.{◌+◌, ◌-◌, ◌<◌}
use native.Mathlib.Omega.{arith}
use borrow.Author.Rules.{rules}
use lib.ListN.{length, length-set}
use Rattle.kleene.specs.Truth.{code_of}
use Rattle.rows.proofs.Laws.{untouched, one_before}
use Rattle.mtl.specs.Algebra.{three}
use Rattle.mtl.specs.Reading.{point, until}
use Rattle.valuation.specs.Indexes.{begun, broken}
use Rattle.operator_rows.proofs.Shown.{ranked_past}
use Rattle.operator_rows.proofs.Steps.{firsts_unknown, firsts_step}
use Rattle.operator_rows.proofs.until_row.Goals as goal

pub loop-t-init : goal.loop-t-init
loop-t-init c =
    let x = c.args in
    let points = x.points.now in
    let m = length points in (
      search rules,
      λ w α β P Q R. (
        firsts_unknown (begun (point three w) β) (m + x.interval.lower)
            (λ i l. ranked_past false points x.right.now (point three w) β P R i (omega arith) (omega (arith, c.requires.2))),
        firsts_unknown (broken (point three w) α) m
            (λ i l. ranked_past true points x.left.now (point three w) α P Q i (omega arith) (omega (arith, c.requires.1))),
        untouched (λ s. code_of (until three w α β x.interval.lower x.interval.upper s)) m _,
      ),
    )

pub loop-t-preserved : goal.loop-t-preserved
loop-t-preserved c =
    let x = c.args in
    let points = x.points.now in
    let t = c.loop-t.t in
    let on : 0 < t = c.loop-t-test.true in
    let more : t ≡ t - 1 + 1 = omega (arith, on) in
    let there : t + x.interval.lower ≡ t - 1 + x.interval.lower + 1 = omega (arith, on) in (
      length-set c.loop-t.row (t - 1) c.until_value.result ∙ c.loop-t.invariant.0,
      λ w α β P Q R.
          let old = c.loop-t.invariant.1 w α β P Q R in
          let e = point three w in
          let j = t - 1 + x.interval.lower in
          let ranks = c.rank_row.ensures e β P R in
          let begin =
          c.until_begin.ensures (begun e β) ranks
          (λ past. ranked_past false points x.right.now e β P R j past (omega (arith, past, c.requires.2))) in
          let begins = firsts_step j (t + x.interval.lower) _ (begun e β) there (omega arith) begin c.loop-t.begins c.note-begins.result c.note-begins.ensures old.0 in
          let break = old.2.below (t - 1) (omega arith) ∙ c.rank_row-2.ensures e α P Q (t - 1) (omega arith) in
          let ends = firsts_step (t - 1) t _ (broken e α) more (omega arith) break c.loop-t.breaks c.note-breaks.result c.note-breaks.ensures old.1 in (
            begins,
            ends,
            one_before (λ s. code_of (until three w α β x.interval.lower x.interval.upper s)) t (length points) _ c.loop-t.row c.until_value.result old.2
                (t - 1) (omega arith) (omega arith) (omega arith)
                (c.until_value.ensures w α β x.interval.lower x.interval.upper (t - 1) refl (omega arith) begins ends),
          ),
    )

pub returns : goal.returns
returns c =
    let x = c.args in
    let done : c.loop-t.t ≡ 0 = omega arith in (
      search rules,
      c.loop-t.invariant.0,
      λ w α β P Q R i h. (c.loop-t.invariant.1 w α β P Q R).2.inside i (omega (arith, done)) h,
    )
