-- Each check that fails gives its refusal, and where all pass the place is in the sheet.
-- Assumes nothing.
use Rattle.std.specs.Prelude.{Ok}
use mathlib.Core.Path.{ap, ◌∙◌}
use Rattle.monitor_lookup.proofs.Looking.{wrong_size, no_rule, no_minute, there}
use Rattle.monitor_lookup.proofs.verdict_at.Goals as goal

pub returns-then-verdicts-rules : goal.returns-then-verdicts-rules
returns-then-verdicts-rules c =
    let a = c.args in
    wrong_size a.policy a.verdicts.now a.rule a.minute c.if-verdicts-rules.true

pub returns-then-rules-rule : goal.returns-then-rules-rule
returns-then-rules-rule c =
    let a = c.args in
    no_rule a.policy a.verdicts.now a.rule a.minute c.if-verdicts-rules.false c.if-rules-rule.true

pub returns-then-minutes-minute : goal.returns-then-minutes-minute
returns-then-minutes-minute c =
    let a = c.args in
    no_minute a.policy a.verdicts.now a.rule a.minute c.if-verdicts-rules.false c.if-rules-rule.false c.if-minutes-minute.true

pub returns : goal.returns
returns c =
    let a = c.args in
    ap Ok c.from.ensures ∙ there a.policy a.verdicts.now a.rule a.minute c.if-verdicts-rules.false c.if-rules-rule.false c.if-minutes-minute.false
