-- Each turn packs the value at the lowest named place left (`Gathering`), so what is left of the map falls to 0. Assumes nothing.
use Prim.Native.Nat.{◌^◌, ◌<◌}
use Rattle.encoding.proofs.Gathering.{Gathering}
use Rattle.encoding.proofs.gather.Given as goal

abbrev pub invariant-loop-rest : goal.invariant-loop-rest
invariant-loop-rest l = (l.rest < 2 ^ 32) × Gathering l.named l.values l.rest l.j l.out

abbrev pub decreases-loop-rest : goal.decreases-loop-rest
decreases-loop-rest l = l.rest
