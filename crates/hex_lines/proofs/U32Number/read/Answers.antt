-- Four reads of a byte leave out four. Assumes nothing.
use Rattle.hex_lines.specs.Hex.{bytes_of}
use Rattle.hex_lines.proofs.Skips.{skipped}
use Rattle.hex_lines.proofs.U32Number.read.Goals as goal

pub returns-clause-rest : goal.returns-clause-rest
returns-clause-rest c =
    let all = bytes_of c.args.bytes.now.rest.now in
    let two = skipped 1 1 all _ _ c.read.ensures.rest c.read-2.ensures.rest in
    let three = skipped 2 1 all _ _ two c.read-3.ensures.rest in
    skipped 3 1 all _ _ three c.read-4.ensures.rest
