-- The sum as the definition has it; a field takes at most its own bytes, so it fits. Assumes nothing.
use native.Mathlib.Omega.{arith}
use Rattle.message_codec.proofs.Reading.{sized}
use Rattle.message_codec.proofs.number_at.Goals as goal

pub overflow_add-result : goal.overflow_add-result
overflow_add-result c = let s = sized c.size_of.ensures c.has.ensures in omega arith

pub returns : goal.returns
returns c = let s = sized c.size_of.ensures c.has.ensures in omega arith
