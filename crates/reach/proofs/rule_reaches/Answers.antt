-- The reader refuses as its definition says, or hands over the policy, which is in range (`Answering`). Assumes nothing.
use Rattle.std.proofs.lemmas.Result.{err_from_is_err_and}
use Rattle.reach.proofs.Answering.{policy_refused, proper_read, policy_read}
use Rattle.reach.proofs.rule_reaches.Goals as goal

pub returns-in_err-p : goal.returns-in_err-p
returns-in_err-p c = let p = err_from_is_err_and c.from_residual.result c.from_residual.ensures.1 in
    rw (p.1, p.2) (policy_refused _ _ _ c.in_err-p.ensures)

pub reaches_under-requires : goal.reaches_under-requires
reaches_under-requires c = proper_read c.args.policy.now c.args.out.now _ c.in_ok-p.ensures

pub returns : goal.returns
returns c = policy_read _ _ _ c.in_ok-p.ensures _ c.reaches_under.ensures
