-- The fresh record is sound, and the sheets over it are those of an opened state.
-- Assumes nothing.
use Rattle.monitor_calls.proofs.Settling.{fresh_needs, refreshed}
use Rattle.monitor_calls.proofs.refresh.Goals as goal

pub rewrite_sheets-requires : goal.rewrite_sheets-requires
rewrite_sheets-requires c =
    let a = c.args in
    let n = fresh_needs a.policy a.numbers.now a.facts.now a.valuation.now a.verdicts.now c.requires.1 _ _ c.clear_numbers.ensures c.clear_facts.ensures in
    (c.requires.0, n.0, n.1)

pub returns : goal.returns
returns c =
    let a = c.args in
    refreshed a.policy a.numbers.now a.facts.now a.valuation.now a.verdicts.now c.requires.1 _ _ c.clear_numbers.ensures c.clear_facts.ensures _ _ _ c.rewrite_sheets.ensures
