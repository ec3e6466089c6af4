-- Each place is the definition's for its own reason; the one sum fits, as is required.
-- Assumes nothing.
use Prim.Native.Nat.{◌+◌, ◌<◌, ◌^◌}
use native.Mathlib.Omega.{arith}
use mathlib.Core.Path.{sym, ap, subst}
use Rattle.refusal.specs.declared.Refusal.{Refusal}
use Rattle.refusal.specs.Numbers.{packet_place}
use Rattle.refusal.proofs.Refusal.place_in_packet.Goals as goal

pub overflow_add-result : goal.overflow_add-result
overflow_add-result c =
    let fits : c.args.start + c.in-TruncatedMessage.at < 2 ^ 64 = subst (λ (r : Refusal). packet_place c.args.start r < 2 ^ 64) c.in-TruncatedMessage.is c.requires in
    omega arith

pub returns-in-TruncatedMessage : goal.returns-in-TruncatedMessage
returns-in-TruncatedMessage c = sym (ap (packet_place c.args.start) c.in-TruncatedMessage.is)
