-- The tests are the conjuncts of `good_alive`. Assumes nothing.
use mathlib.Core.Path.{refl}
use Rattle.message.specs.Format.{good_alive}
use Rattle.message_codec.proofs.good_alive.Goals as goal

pub returns : goal.returns
unfolding good_alive
returns c = refl
