-- Each turn reads the message at the front of what is left, and stores it or ends (`Packets`).
-- Assumes nothing.
use Prim.Native.Nat.{◌-◌}
use lib.ListN.{length}
use Rattle.knowledge.specs.Run.{held}
use Rattle.monitor_calls.proofs.Packets.{Going}
use Rattle.monitor_calls.proofs.store_messages.Given as goal

abbrev pub invariant-loop-at : goal.invariant-loop-at
invariant-loop-at l = Going l.sizes l.packet (held l.initial.numbers l.initial.facts) (held l.numbers l.facts) l.taken l.at

abbrev pub decreases-loop-at : goal.decreases-loop-at
decreases-loop-at l = length l.packet - l.at
