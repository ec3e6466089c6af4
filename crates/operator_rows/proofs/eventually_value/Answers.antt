-- `operator_rows::eventually_value` meets its contract: the value is known by the two thresholds that it reaches. Assumes nothing.
use native.Mathlib.Omega.{arith}
use Rattle.mtl.specs.Algebra.{three}
use Rattle.mtl.specs.Reading.{until}
use Rattle.operator_rows.proofs.Spans.{eventually_test}
use Rattle.operator_rows.proofs.eventually_value.Goals as goal

pub returns : goal.returns
returns c w τ β lower upper t m s near A held dark =
    c.signed_code.ensures (until three w τ β lower upper t)
    (eventually_test w τ β 2 (omega arith) (omega arith) lower upper t _ 0 m held dark _ s near A.sure)
    (eventually_test w τ β 1 (omega arith) (omega arith) lower upper t _ 0 m held dark _ s near A.may)
