-- `operator_rows::eventually_row` meets its contract. The invariant of its loop: the cells from t on are the eventually's, and the begins from t + lower
-- on are noted. The measure is t. Assumes nothing.
use mathlib.Core.Path.{◌≡◌, refl, sym, ◌∙◌}
use Prim.Native.Nat.{◌+◌, ◌-◌, ◌<◌}
use native.Mathlib.Omega.{arith}
use borrow.Author.Rules.{rules}
use lib.ListN.{length, length-set}
use Rattle.rows.proofs.Laws.{untouched, one_before}
use Rattle.mtl.specs.Algebra.{three}
use Rattle.mtl.specs.Reading.{point}
use Rattle.valuation.specs.Indexes.{begun}
use Rattle.operator_rows.proofs.Shown.{past, ranked_past, sought_at}
use Rattle.operator_rows.proofs.Steps.{firsts_unknown, firsts_step}
use Rattle.operator_rows.proofs.eventually_row.Invariants.{of}
use Rattle.operator_rows.proofs.eventually_row.Goals as goal

pub loop-t-init : goal.loop-t-init
loop-t-init c =
    let x = c.args in
    let points = x.points.now in
    let m = length points in (
      search rules,
      λ w α τ β P Q U. (
        firsts_unknown (begun (point three w) β) (m + x.interval.lower)
            (λ i l. sym (sought_at x.negated (point three w) α β U.sought i)
            ∙ ranked_past x.negated points x.operand.now (point three w) α P Q i (omega arith) (omega (arith, c.requires.1))),
        untouched (of w x.negated τ β x.interval.lower x.interval.upper) m _,
      ),
    )

pub loop-t-preserved : goal.loop-t-preserved
loop-t-preserved c =
    let x = c.args in
    let points = x.points.now in
    let t = c.loop-t.t in
    let on : 0 < t = c.loop-t-test.true in
    let there : t + x.interval.lower ≡ t - 1 + x.interval.lower + 1 = omega (arith, on) in (
      length-set c.loop-t.row (t - 1) c.eventually_value.result ∙ c.loop-t.invariant.0,
      λ w α τ β P Q U.
          let old = c.loop-t.invariant.1 w α τ β P Q U in
          let e = point three w in
          let j = t - 1 + x.interval.lower in
          let same = sought_at x.negated e α β U.sought in
          let ranks = c.rank_row.ensures e α P Q in
          let begin =
          c.until_begin.ensures (begun e β) (λ i h. ranks i h ∙ same i)
          (λ after. sym (same j) ∙ ranked_past x.negated points x.operand.now e α P Q j after (omega (arith, after, c.requires.1))) in
          let begins = firsts_step j (t + x.interval.lower) _ (begun e β) there (omega arith) begin c.loop-t.begins c.note-begins.result c.note-begins.ensures old.0 in (
            begins,
            one_before (of w x.negated τ β x.interval.lower x.interval.upper) t (length points) _ c.loop-t.row c.eventually_value.result old.1
                (t - 1) (omega arith) (omega arith) (omega arith)
                (c.eventually_value.ensures w τ β x.interval.lower x.interval.upper (t - 1) (length points) refl (omega arith) begins U.held (past points e P)),
          ),
    )

pub returns : goal.returns
returns c =
    let x = c.args in
    let done : c.loop-t.t ≡ 0 = omega arith in (
      search rules,
      c.loop-t.invariant.0,
      λ w α τ β P Q U i h. (c.loop-t.invariant.1 w α τ β P Q U).1.inside i (omega (arith, done)) h,
    )
