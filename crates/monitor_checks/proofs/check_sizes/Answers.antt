-- The reader answers first; then the sizes decide.
-- Assumes nothing.
use Rattle.std.proofs.Common.{sym, ◌∙◌}
use Rattle.std.proofs.lemmas.Result.{err_from_is_err_and}
use Rattle.monitor_checks.proofs.Checking.{policy_read, sizes_refused, sizes_misfit, sizes_fine}
use Rattle.monitor_checks.proofs.check_sizes.Goals as goal

pub returns-in_err-p : goal.returns-in_err-p
returns-in_err-p c =
    let q = err_from_is_err_and c.from_residual.result c.from_residual.ensures.1 in
    rw (q.1, q.2) (sizes_refused c.args.policy.now c.args.lengths _ c.in_err-p.ensures)

pub fit-requires : goal.fit-requires
fit-requires c = (policy_read c.args.policy.now c.args.lengths _ c.in_ok-p.ensures).proper

pub returns-then-not-fit : goal.returns-then-not-fit
returns-then-not-fit c = sizes_misfit c.args.policy.now c.args.lengths _ c.in_ok-p.ensures (sym c.fit.ensures ∙ c.if-not-fit.true)

pub returns : goal.returns
returns c = sizes_fine c.args.policy.now c.args.lengths _ c.in_ok-p.ensures (sym c.fit.ensures ∙ c.if-not-fit.false)
