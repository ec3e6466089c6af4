-- Where the checks of the record refuse, nothing is written; where they pass, the message is taken or refused.
-- Assumes nothing.
use Rattle.std.proofs.Common.{sym, ◌∙◌}
use Rattle.monitor.specs.State.{given}
use Rattle.monitor_checks.proofs.Checking.{record_read, record_sized, record_sound}
use Rattle.monitor_calls.proofs.Calls.{receive_refused, receive_taken}
use Rattle.monitor_calls.proofs.receive.Goals as goal

pub returns-in-Err : goal.returns-in-Err
returns-in-Err c = receive_refused c.args.policy.now (given c.args.buffers) c.args.message.now _ (sym c.in-Err.is ∙ c.check_record.ensures)

pub take_message-requires : goal.take_message-requires
take_message-requires c =
    let s = c.args.policy.now in
    let x = given c.args.buffers in
    let e = sym c.in-Ok.is ∙ c.check_record.ensures in
    ((record_read s x _ e).proper, (record_sized s x _ e).sheets, record_sound s x _ e)

pub returns : goal.returns
returns c =
    let x = given c.args.buffers in
    receive_taken c.args.policy.now x c.args.message.now _ (sym c.in-Ok.is ∙ c.check_record.ensures) _ (c.take_message.ensures x.origin)
