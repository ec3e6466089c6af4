-- Where none is taken nothing is written; else the sheets over what is stored are those that the last take leaves.
-- Assumes nothing.
use Rattle.knowledge.specs.Run.{held}
use Rattle.monitor.specs.State.{lent}
use Rattle.monitor_calls.proofs.Packets.{none_taken, some_needs, some_taken}
use Rattle.monitor_calls.proofs.take_packet.Goals as goal

pub returns-then-answer-eq0 : goal.returns-then-answer-eq0
returns-then-answer-eq0 c =
    let a = c.args in
    λ o. none_taken a.policy (lent a.numbers.now a.facts.now a.valuation.now a.verdicts.now o) a.packet.now _ _ _ c.store_messages-answer.ensures c.if-answer-eq0.true

pub rewrite_sheets-requires : goal.rewrite_sheets-requires
rewrite_sheets-requires c =
    let a = c.args in
    let n = some_needs a.policy (held a.numbers.now a.facts.now) a.valuation.now a.verdicts.now a.packet.now _ _ _ c.store_messages-answer.ensures c.requires.0 c.requires.1 c.requires.2 in
    (c.requires.0, n.0, n.1)

pub returns : goal.returns
returns c =
    let a = c.args in
    λ o. some_taken a.policy (lent a.numbers.now a.facts.now a.valuation.now a.verdicts.now o) a.packet.now _ _ _ c.store_messages-answer.ensures _ _ _ c.if-answer-eq0.false (c.rewrite_sheets.ensures o)
