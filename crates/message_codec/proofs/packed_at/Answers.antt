-- The bytes copied are those before the n-th, and the others are 0. Assumes nothing.
use native.Mathlib.Omega.{arith}
use Rattle.message_codec.proofs.Reading.{packed, copied}
use Rattle.message_codec.proofs.packed_at.Goals as goal

pub returns : goal.returns
returns c =
    let a = c.args in
    let byte = copied a.s.now a.n a.at c.min-count.result c.copy_from_slice.new.self c.min-count.ensures c.requires c.copy_from_slice.ensures.after in
    packed a.s.now a.n a.at c.from_le_bytes.ensures (byte 0 (omega arith)) (byte 1 (omega arith)) (byte 2 (omega arith)) (byte 3 (omega arith))
