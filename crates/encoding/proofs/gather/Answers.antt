-- Each turn packs the value at the lowest named place left (`Gathering`), so what is left of the map falls to 0. Assumes nothing.
use native.Mathlib.Omega.{arith}
use Rattle.encoding.proofs.Gathering.{begin, turn, finish}
use Rattle.encoding.proofs.gather.Goals as goal

pub loop-rest-init : goal.loop-rest-init
loop-rest-init c = (c.ranges.named.fits, begin c.args.named c.args.values)

pub overflow_shl-out : goal.overflow_shl-out
overflow_shl-out c = let l = c.loop-rest in let t = turn l.invariant.1 (omega arith) l.invariant.0 in t.count_in

pub overflow_add-out : goal.overflow_add-out
overflow_add-out c = let l = c.loop-rest in let t = turn l.invariant.1 (omega arith) l.invariant.0 in record { fits = t.fits }

pub overflow_add-j : goal.overflow_add-j
overflow_add-j c = let l = c.loop-rest in let t = turn l.invariant.1 (omega arith) l.invariant.0 in record { fits = omega (arith, t.count_in) }

pub overflow_sub-rest : goal.overflow_sub-rest
overflow_sub-rest c = let l = c.loop-rest in let t = turn l.invariant.1 (omega arith) l.invariant.0 in t.weight_in

pub loop-rest-preserved : goal.loop-rest-preserved
loop-rest-preserved c = let l = c.loop-rest in let t = turn l.invariant.1 (omega arith) l.invariant.0 in (omega (arith, l.invariant.0), t.next)

pub returns : goal.returns
returns c = finish c.loop-rest.invariant.1 c.loop-rest-test.false
