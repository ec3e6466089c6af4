-- Each turn reads the message at the front of what is left, and stores it or ends (`Packets`).
-- Assumes nothing.
use native.Mathlib.Omega.{arith}
use Rattle.knowledge.specs.Run.{held}
use Rattle.monitor_calls.proofs.Packets.{at_end, next_at, decoded_ranged, place_within, turned_down, goes_on}
use Rattle.monitor_calls.proofs.store_messages.Goals as goal

pub store_read-requires : goal.store_read-requires
store_read-requires c =
    let a = c.args in
    let l = c.loop-at in
    (c.requires.0, l.invariant.2, l.invariant.3, decoded_ranged a.sizes a.packet.now (held a.numbers.now a.facts.now) (held l.numbers l.facts) l.taken l.at c.loop-at-test.true l.invariant c.requires.0 _ c.first_step-first.ensures)

pub place_in_packet-place-requires : goal.place_in_packet-place-requires
place_in_packet-place-requires c =
    let a = c.args in
    let l = c.loop-at in
    let w = place_within a.sizes a.packet.now (held a.numbers.now a.facts.now) (held l.numbers l.facts) l.taken l.at c.loop-at-test.true l.invariant c.requires.0 _ c.first_step-first.ensures _ _ _ c.store_read.ensures _ c.in-Err.is in
    omega (arith, w)

pub returns-in-Err : goal.returns-in-Err
returns-in-Err c =
    let a = c.args in
    let l = c.loop-at in
    turned_down a.sizes a.packet.now (held a.numbers.now a.facts.now) (held l.numbers l.facts) l.taken l.at c.loop-at-test.true l.invariant c.requires.0 _ c.first_step-first.ensures _ _ _ c.store_read.ensures _ c.in-Err.is _ c.place_in_packet-place.ensures

pub loop-at-smaller : goal.loop-at-smaller
loop-at-smaller c =
    let a = c.args in
    let l = c.loop-at in
    let n = next_at a.sizes a.packet.now (held a.numbers.now a.facts.now) (held l.numbers l.facts) l.taken l.at c.loop-at-test.true l.invariant c.requires.0 _ c.first_step-first.ensures in
    omega (arith, n.1, n.2)

pub loop-at-preserved : goal.loop-at-preserved
loop-at-preserved c =
    let a = c.args in
    let l = c.loop-at in
    goes_on a.sizes a.packet.now (held a.numbers.now a.facts.now) (held l.numbers l.facts) l.taken l.at c.loop-at-test.true l.invariant c.requires.0 _ c.first_step-first.ensures _ _ _ c.store_read.ensures c.in_default.is

pub returns : goal.returns
returns c =
    let a = c.args in
    let l = c.loop-at in
    at_end a.sizes a.packet.now (held a.numbers.now a.facts.now) (held l.numbers l.facts) l.taken l.at c.loop-at-test.false l.invariant
