-- The reader refuses as its definition says, or hands over the policy, which is in range.
-- Assumes nothing.
use Rattle.std.proofs.Common.{refl, ◌∙◌}
use Rattle.std.proofs.lemmas.Result.{err_from_is_err_and}
use Rattle.policy.proofs.Laws.{refused}
use Rattle.policy.proofs.ReadPolicy.{read_policy}
use Rattle.monitor_lookup.proofs.Looking.{refused_look, read_look}
use Rattle.monitor_lookup.proofs.lookup.Goals as goal

pub returns-in_err-p : goal.returns-in_err-p
returns-in_err-p c =
    let a = c.args in
    let q = err_from_is_err_and c.from_residual.result c.from_residual.ensures.1 in
    rw (q.1, q.2) (refused_look a.policy.now a.verdicts.now a.rule a.minute _ (refused a.policy.now _ _ c.in_err-p.ensures refl))

pub verdict_at-requires : goal.verdict_at-requires
verdict_at-requires c = (read_policy c.args.policy.now _ _ c.in_ok-p.ensures refl).proper

pub returns : goal.returns
returns c =
    let a = c.args in
    c.verdict_at.ensures ∙ read_look a.policy.now a.verdicts.now a.rule a.minute _ (read_policy a.policy.now _ _ c.in_ok-p.ensures refl)
