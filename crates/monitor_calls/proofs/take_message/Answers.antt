-- Where bytes follow the message it is 7; else what was read is the message alone. Where it is not stored nothing is written; else what is left is
-- sound, and the sheets over it are those of the settled state.
-- Assumes nothing.
use Rattle.std.proofs.lemmas.Result.{err_from_is_err_and}
use Rattle.knowledge.specs.Run.{held}
use Rattle.monitor.specs.State.{lent}
use Rattle.monitor.proofs.Laws.{knowledge_sized}
use Rattle.monitor_checks.proofs.Checking.{limits}
use Rattle.monitor_calls.proofs.Storing.{take_followed, read_ranged, take_refused, take_alone, settle_refused, settle_taken, settle_needs}
use Rattle.monitor_calls.proofs.take_message.Goals as goal

pub returns-then-first-ne0 : goal.returns-then-first-ne0
returns-then-first-ne0 c =
    let a = c.args in
    λ o. take_followed a.policy a.message.now _ c.first_step-first.ensures (lent a.numbers.now a.facts.now a.valuation.now a.verdicts.now o) c.if-first-ne0.true

pub returns-in_err-read : goal.returns-in_err-read
returns-in_err-read c =
    let a = c.args in
    let q = err_from_is_err_and c.from_residual.result c.from_residual.ensures.1 in
    rw (q.1, q.2) (λ o. take_refused a.policy a.message.now _ c.first_step-first.ensures (lent a.numbers.now a.facts.now a.valuation.now a.verdicts.now o) c.if-first-ne0.false _ c.in_err-read.was)

pub store_message-requires : goal.store_message-requires
store_message-requires c =
    let a = c.args in
    let f = read_ranged a.policy a.message.now _ c.first_step-first.ensures c.requires.0 c.if-first-ne0.false _ c.in_ok-read.was in
    (limits a.policy c.requires.0, knowledge_sized a.policy c.requires.1, c.requires.2, f)

pub returns-in_err-store_message : goal.returns-in_err-store_message
returns-in_err-store_message c =
    let a = c.args in
    let q = err_from_is_err_and c.from_residual-in_err-store_message.result c.from_residual-in_err-store_message.ensures.1 in
    rw (q.1, q.2)
    (λ o.
    let x = lent a.numbers.now a.facts.now a.valuation.now a.verdicts.now o in
    take_alone a.policy a.message.now _ c.first_step-first.ensures x c.if-first-ne0.false _ c.in_ok-read.was _
    (settle_refused a.policy x _ _ _ _ c.in_err-store_message.ensures))

pub rewrite_sheets-requires : goal.rewrite_sheets-requires
rewrite_sheets-requires c =
    let a = c.args in
    let f = read_ranged a.policy a.message.now _ c.first_step-first.ensures c.requires.0 c.if-first-ne0.false _ c.in_ok-read.was in
    let n = settle_needs a.policy (held a.numbers.now a.facts.now) a.valuation.now a.verdicts.now _ _ _ _ c.in_ok-store_message.ensures c.requires.1 c.requires.2 f in
    (c.requires.0, n.0, n.1)

pub returns : goal.returns
returns c =
    let a = c.args in
    λ o.
    let x = lent a.numbers.now a.facts.now a.valuation.now a.verdicts.now o in
    take_alone a.policy a.message.now _ c.first_step-first.ensures x c.if-first-ne0.false _ c.in_ok-read.was _
    (settle_taken a.policy x _ _ _ c.in_ok-store_message.ensures _ (c.rewrite_sheets.ensures o))
