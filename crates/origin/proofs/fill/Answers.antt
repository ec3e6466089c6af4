-- Each place gets its byte. Assumes nothing.
use Rattle.std.proofs.Common.{◌≡◌, length, arith}
use Rattle.rows.proofs.Filled.{filled}
use Rattle.origin.proofs.fill.Goals as goal

pub returns : goal.returns
returns c =
    let l = c.loop-place in
    let done : l.place ≡ length c.args.origin.now = omega arith in
    filled _ c.args.origin.now l.origin (rw (← done) l.invariant)
