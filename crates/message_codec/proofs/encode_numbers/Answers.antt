-- The reader refuses as its definition says, or hands over the sizes (`Writing`). Assumes nothing.
use Rattle.std.proofs.Common.{refl}
use Rattle.std.proofs.lemmas.Result.{err_from_is_err_and}
use Rattle.message_codec.proofs.Writing.{policy_refused, policy_read}
use Rattle.message_codec.proofs.encode_numbers.Goals as goal

pub returns-in_err-p : goal.returns-in_err-p
returns-in_err-p c =
    let p = err_from_is_err_and c.from_residual.result c.from_residual.ensures.1 in
    rw (p.1, p.2) (policy_refused c.args.policy.now c.args.n c.args.out.now _ c.in_err-p.ensures _ refl)

pub returns : goal.returns
returns c = policy_read c.args.policy.now c.args.n c.args.out.now _ c.in_ok-p.ensures _ refl _ c.encode_under.ensures
