-- Each size that is off answers no, and the last one decides.
-- Assumes nothing.
use Rattle.monitor_checks.proofs.Fitting.{numbers_off, facts_off, valuation_off, verdicts_off, origin_test}
use Rattle.monitor_checks.proofs.fit.Goals as goal

pub returns-then-lengths-sizes : goal.returns-then-lengths-sizes
returns-then-lengths-sizes c =
    let a = c.args in
    numbers_off a.policy a.lengths c.if-lengths-sizes.true

pub returns-then-lengths-minutes : goal.returns-then-lengths-minutes
returns-then-lengths-minutes c =
    let a = c.args in
    facts_off a.policy a.lengths c.if-lengths-sizes.false c.if-lengths-minutes.true

pub returns-then-lengths-policy : goal.returns-then-lengths-policy
returns-then-lengths-policy c =
    let a = c.args in
    valuation_off a.policy a.lengths c.if-lengths-sizes.false c.if-lengths-minutes.false c.if-lengths-policy.true

pub returns-then-lengths-policy-2 : goal.returns-then-lengths-policy-2
returns-then-lengths-policy-2 c =
    let a = c.args in
    verdicts_off a.policy a.lengths c.if-lengths-sizes.false c.if-lengths-minutes.false c.if-lengths-policy.false c.if-lengths-policy-2.true

pub returns : goal.returns
returns c =
    let a = c.args in
    origin_test a.policy a.lengths c.if-lengths-sizes.false c.if-lengths-minutes.false c.if-lengths-policy.false c.if-lengths-policy-2.false
