-- The ones of a word of 32 digits are its set places below 32, at most 32. Assumes nothing.
use mathlib.Core.Path.{sym}
use native.Mathlib.Omega.{arith}
use lib.Count.{ones-le}
use Rattle.bits.proofs.Packed.{below_ones}
use Rattle.message_codec.proofs.count.Goals as goal

pub overflow_cast-result : goal.overflow_cast-result
overflow_cast-result c = omega (arith, ones-le 32 c.args.named c.ranges.named.fits)

pub returns : goal.returns
returns c = (sym (below_ones 32 c.args.named c.ranges.named.fits), ones-le 32 c.args.named c.ranges.named.fits)
