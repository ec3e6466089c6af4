-- `operator_rows::since_value` meets its contract: the value is known by the two thresholds that it reaches. Assumes nothing.
use native.Mathlib.Omega.{arith}
use Rattle.mtl.specs.Algebra.{three}
use Rattle.mtl.specs.Reading.{since}
use Rattle.operator_rows.proofs.Spans.{since_test}
use Rattle.operator_rows.proofs.since_value.Goals as goal

pub returns : goal.returns
returns c w α β lower upper t s A B =
    c.signed_code.ensures (since three w α β lower upper t)
    (since_test w α β 2 (omega arith) (omega arith) lower upper t _ _ _ s A.sure B.may)
    (since_test w α β 1 (omega arith) (omega arith) lower upper t _ _ _ s A.may B.sure)
