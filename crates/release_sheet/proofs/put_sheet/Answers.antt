-- The lines of the sheet fit, whatever their words are. Assumes nothing.
use Rattle.std.proofs.Common.{arith, ◌++◌, codes}
use Rattle.std.specs.Fmt.{decimal}
use Rattle.release_sheet.proofs.Lines.{number_then_fits, number_fits, numbers_fit}
use Rattle.release_sheet.proofs.put_sheet.Goals as goal

pub put_line-requires-clause-fits : goal.put_line-requires-clause-fits
put_line-requires-clause-fits g c = numbers_fit _ _ _ (omega arith) (omega arith) (omega arith)

pub put_line-requires-in-Violated-clause-fits : goal.put_line-requires-in-Violated-clause-fits
put_line-requires-in-Violated-clause-fits g c = numbers_fit _ _ _ (omega arith) (omega arith) (omega arith)

pub put_line-requires-2-clause-fits : goal.put_line-requires-2-clause-fits
put_line-requires-2-clause-fits g c =
    let taken = c.args.tally.taken in
    let refused = c.args.tally.refused in
    omega (arith, number_then_fits taken (codes " refused " ++ decimal refused) (omega arith), number_fits refused (omega arith))
