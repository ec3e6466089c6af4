-- The part that is filled is as long as the line has bytes, or the whole. Assumes nothing.
use Rattle.std.proofs.Common.{arith, drop, length-append, length-drop}
use Rattle.hex_lines.proofs.Counts.{length-bytes_of}
use Rattle.hex_lines.proofs.Bytes.copy_to.Goals as goal

pub returns-clause-count : goal.returns-clause-count
returns-clause-count c =
    let n = c.min-n.result in
    let out = c.args.out.now in
    omega (arith, c.min-n.ensures, c.fill.auto.out, length-bytes_of c.args.self.now.rest.now, length-append c.fill.new.out (drop n out), length-drop n out)
