-- `operator_rows::once_value` meets its contract: the value is known by the two thresholds that it reaches. Assumes nothing.
use Prim.Native.Nat.{◌+◌}
use native.Mathlib.Omega.{arith}
use Rattle.mtl.specs.Algebra.{three}
use Rattle.mtl.specs.Reading.{since}
use Rattle.operator_rows.proofs.Spans.{once_test}
use Rattle.operator_rows.proofs.once_value.Goals as goal

pub returns : goal.returns
returns c w τ β lower upper t s A held =
    c.signed_code.ensures (since three w τ β lower upper t)
    (once_test w τ β 2 (omega arith) (omega arith) lower upper t _ 0 (t + 1) held _ s (omega arith) A.sure)
    (once_test w τ β 1 (omega arith) (omega arith) lower upper t _ 0 (t + 1) held _ s (omega arith) A.may)
