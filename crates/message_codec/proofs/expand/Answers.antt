-- Each turn places the next packed bit at the lowest named place left (`Walk`), so what is left of the map falls to 0. Assumes nothing.
use native.Mathlib.Omega.{arith}
use Rattle.message_codec.proofs.Walk.{begin, turn, finish}
use Rattle.message_codec.proofs.expand.Goals as goal

pub loop-rest-init : goal.loop-rest-init
loop-rest-init c = (c.ranges.named.fits, begin c.args.named c.args.packed)

pub overflow_shl-weight : goal.overflow_shl-weight
overflow_shl-weight c = let l = c.loop-rest in let t = turn l.invariant.1 (omega arith) l.invariant.0 in t.place_in

pub overflow_mul-out : goal.overflow_mul-out
overflow_mul-out c = let l = c.loop-rest in let t = turn l.invariant.1 (omega arith) l.invariant.0 in record { fits = omega (arith, t.fits) }

pub overflow_add-out : goal.overflow_add-out
overflow_add-out c = let l = c.loop-rest in let t = turn l.invariant.1 (omega arith) l.invariant.0 in record { fits = t.fits }

pub overflow_sub-rest : goal.overflow_sub-rest
overflow_sub-rest c = let l = c.loop-rest in let t = turn l.invariant.1 (omega arith) l.invariant.0 in t.weight_in

pub loop-rest-smaller : goal.loop-rest-smaller
loop-rest-smaller c = let l = c.loop-rest in let t = turn l.invariant.1 (omega arith) l.invariant.0 in omega (arith, t.weight_some, t.weight_in)

pub loop-rest-preserved : goal.loop-rest-preserved
loop-rest-preserved c = let l = c.loop-rest in let t = turn l.invariant.1 (omega arith) l.invariant.0 in (omega (arith, l.invariant.0), t.next)

pub returns : goal.returns
returns c = finish c.loop-rest.invariant.1 c.loop-rest-test.false
