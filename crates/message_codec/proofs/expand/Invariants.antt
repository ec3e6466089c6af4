-- Each turn places the next packed bit at the lowest named place left (`Walk`), so what is left of the map falls to 0. Assumes nothing.
use Prim.Native.Nat.{◌^◌, ◌<◌}
use Rattle.message_codec.proofs.Walk.{Walked}
use Rattle.message_codec.proofs.expand.Given as goal

abbrev pub invariant-loop-rest : goal.invariant-loop-rest
invariant-loop-rest l = (l.rest < 2 ^ 32) × Walked l.named l.packed l.rest l.left l.out

abbrev pub decreases-loop-rest : goal.decreases-loop-rest
decreases-loop-rest l = l.rest
