-- The length tells how many bytes the first message takes, and the part behind them starts there, in the caller's own block. Assumes nothing.
use Rattle.std.proofs.Common.{arith}
use Rattle.message.proofs.First.{used_in}
use Rattle.message_codec.proofs.Reading.{told_used, part_from}
use Rattle.message_codec.proofs.rest_of.Goals as goal

pub slice_bounds-result-count : goal.slice_bounds-result-count
slice_bounds-result-count c = let s = c.args.packet.now in omega (arith, told_used s c.measure.ensures c.unwrap_or-used.ensures, used_in s)

pub slice_bounds-result-start : goal.slice_bounds-result-start
slice_bounds-result-start c = let s = c.args.packet.now in omega (arith, told_used s c.measure.ensures c.unwrap_or-used.ensures, used_in s)

pub returns : goal.returns
returns c = let p = c.args.packet in part_from p.now p.ref_ptr.0 p.ref_ptr.1 (told_used p.now c.measure.ensures c.unwrap_or-used.ensures)
