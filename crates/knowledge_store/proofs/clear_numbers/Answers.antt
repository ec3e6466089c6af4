-- Each place gets its fresh number. Assumes nothing.
use Rattle.std.proofs.Common.{◌≡◌, length, arith}
use Rattle.rows.proofs.Filled.{filled}
use Rattle.knowledge_store.proofs.clear_numbers.Goals as goal

pub returns : goal.returns
returns c =
    let l = c.loop-i in
    let done : l.i ≡ length c.args.numbers.now = omega arith in
    filled _ c.args.numbers.now l.numbers (rw (← done) l.invariant)
