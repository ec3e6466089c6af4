-- Where the checks refuse, nothing is written; where they pass, the state is made fresh, and the card is written.
-- Assumes nothing.
use Rattle.std.proofs.Common.{◌∙◌}
use Rattle.std.proofs.lemmas.Result.{err_from_is_err_and}
use Rattle.monitor.specs.State.{given}
use Rattle.monitor_checks.proofs.Checking.{at_lengths, sizes_read, sizes_passed, policy_short}
use Rattle.monitor_calls.proofs.Calls.{open_refused, open_done}
use Rattle.monitor_calls.proofs.open.Goals as goal

pub returns-in_err-p : goal.returns-in_err-p
returns-in_err-p c =
    let s = c.args.policy.now in
    let x = given c.args.buffers in
    let q = err_from_is_err_and c.from_residual.result c.from_residual.ensures.1 in
    rw (q.1, q.2) (open_refused s x _ (c.in_err-p.ensures ∙ at_lengths s x c.lengths.ensures))

pub refresh-requires : goal.refresh-requires
refresh-requires c =
    let s = c.args.policy.now in
    let x = given c.args.buffers in
    let e = c.in_ok-p.ensures ∙ at_lengths s x c.lengths.ensures in
    ((sizes_read s x _ e).proper, (sizes_passed s x _ e).sheets)

pub stamp-requires : goal.stamp-requires
stamp-requires c =
    let s = c.args.policy.now in
    let x = given c.args.buffers in
    let e = c.in_ok-p.ensures ∙ at_lengths s x c.lengths.ensures in
    (policy_short s x _ e, (sizes_passed s x _ e).origin)

pub returns : goal.returns
returns c =
    let s = c.args.policy.now in
    let x = given c.args.buffers in
    open_done s x _ (c.in_ok-p.ensures ∙ at_lengths s x c.lengths.ensures) _ _ c.refresh.ensures c.stamp.ensures
