-- Two reads of a byte leave out two. Assumes nothing.
use Rattle.hex_lines.specs.Hex.{bytes_of}
use Rattle.hex_lines.proofs.Skips.{skipped}
use Rattle.hex_lines.proofs.U16Number.read.Goals as goal

pub returns-clause-rest : goal.returns-clause-rest
returns-clause-rest c =
    skipped 1 1 (bytes_of c.args.bytes.now.rest.now) _ _ c.read.ensures.rest c.read-2.ensures.rest
