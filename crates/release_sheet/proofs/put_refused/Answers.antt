-- The line of a refused policy fits: its words have 17 bytes, its two numbers at most 20 digits each. Assumes nothing.
use Rattle.std.proofs.Common.{arith, ◌++◌, codes}
use Rattle.std.specs.Fmt.{decimal}
use Rattle.release_sheet.proofs.Lines.{number_fits, number_then_fits}
use Rattle.release_sheet.proofs.put_refused.Goals as goal

pub put_line-requires-clause-fits : goal.put_line-requires-clause-fits
put_line-requires-clause-fits g c =
    let number = c.number-number.result in
    let place = c.place-place.result in
    omega (arith, number_then_fits number (codes " at " ++ decimal place) (omega arith), number_fits place (omega arith))
