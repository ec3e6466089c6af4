-- `operator_rows::fact_code` meets its contract: the two tests are of the digits that the fact is. Assumes nothing.
use Rattle.operator_rows.proofs.Facts.{is_unknown, is_true, is_false}
use Rattle.operator_rows.proofs.fact_code.Goals as goal

pub returns-then-known-place-eq0 : goal.returns-then-known-place-eq0
returns-then-known-place-eq0 c k t p q =
    let x = c.args in
    is_unknown k x.proposition t x.known x.values p q c.if-known-place-eq0.true

pub returns-then-values-place-eq0 : goal.returns-then-values-place-eq0
returns-then-values-place-eq0 c k t p q =
    let x = c.args in
    is_false k x.proposition t x.known x.values p q c.if-known-place-eq0.false c.if-values-place-eq0.true

pub returns : goal.returns
returns c k t p q =
    let x = c.args in
    is_true k x.proposition t x.known x.values p q c.if-known-place-eq0.false c.if-values-place-eq0.false
