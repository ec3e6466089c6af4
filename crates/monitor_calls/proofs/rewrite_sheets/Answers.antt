-- The record is sound, so the row of time points tells of it, and both sheets are the reading over it.
-- Assumes nothing.
use Rattle.monitor_calls.proofs.Settling.{row_needs}
use Rattle.monitor_calls.proofs.rewrite_sheets.Goals as goal

pub point_row-points-requires : goal.point_row-points-requires
point_row-points-requires c =
    let a = c.args in
    row_needs a.policy c.requires.0 a.numbers.now a.facts.now a.valuation.now a.verdicts.now c.requires.1 c.requires.2
