-- Where the checks of the record refuse, nothing is written; where they pass, the packet's messages are taken.
-- Assumes nothing.
use Rattle.std.proofs.Common.{sym, ◌∙◌}
use Rattle.monitor.specs.State.{given}
use Rattle.monitor_checks.proofs.Checking.{record_read, record_sized, record_sound}
use Rattle.monitor_calls.proofs.Packets.{packet_refused, packet_taken}
use Rattle.monitor_calls.proofs.receive_packet.Goals as goal

pub returns-in-Err : goal.returns-in-Err
returns-in-Err c =
    packet_refused c.args.policy.now (given c.args.buffers) c.args.packet.now _ (sym c.in-Err.is ∙ c.check_record.ensures) _ c.place-place.ensures

pub take_packet-requires : goal.take_packet-requires
take_packet-requires c =
    let s = c.args.policy.now in
    let x = given c.args.buffers in
    let e = sym c.in-Ok.is ∙ c.check_record.ensures in
    ((record_read s x _ e).proper, (record_sized s x _ e).sheets, record_sound s x _ e)

pub returns : goal.returns
returns c =
    let x = given c.args.buffers in
    packet_taken c.args.policy.now x c.args.packet.now _ (sym c.in-Ok.is ∙ c.check_record.ensures) _ (c.take_packet.ensures x.origin)
