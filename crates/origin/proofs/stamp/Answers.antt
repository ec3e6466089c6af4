-- The table of bytes is what opening the card writes. Assumes nothing.
use Rattle.std.proofs.Common.{refl}
use Rattle.origin.proofs.Writing.{written}
use Rattle.origin.proofs.stamp.Goals as goal

pub returns : goal.returns
returns c = written c.args.policy.now c.args.origin.now _ _ c.requires.0 c.requires.1 c.fill.ensures refl
