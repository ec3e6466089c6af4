-- Six stores are the line's. Assumes nothing.
use Rattle.std.proofs.Common.{rules}
use Rattle.line_table.specs.Table.{set_line}
use Rattle.line_table.proofs.set_line.Goals as goal

pub returns : goal.returns
unfolding set_line
returns c = search rules
