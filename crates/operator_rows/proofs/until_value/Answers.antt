-- `operator_rows::until_value` meets its contract: the value is known by the two thresholds that it reaches. Assumes nothing.
use native.Mathlib.Omega.{arith}
use Rattle.mtl.specs.Algebra.{three}
use Rattle.mtl.specs.Reading.{until}
use Rattle.operator_rows.proofs.Spans.{until_test}
use Rattle.operator_rows.proofs.until_value.Goals as goal

pub returns : goal.returns
returns c w α β lower upper t s near A B =
    c.signed_code.ensures (until three w α β lower upper t)
    (until_test w α β 2 (omega arith) (omega arith) lower upper t _ _ _ s near A.sure B.may)
    (until_test w α β 1 (omega arith) (omega arith) lower upper t _ _ _ s near A.may B.sure)
