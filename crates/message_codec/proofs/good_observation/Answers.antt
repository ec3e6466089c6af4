-- The tests are the conjuncts of `good_observation`, in its order. Assumes nothing.
use Rattle.message.specs.Format.{good_observation}
use Rattle.message_codec.proofs.good_observation.Goals as goal

pub returns : goal.returns
unfolding good_observation
returns c = rw (c.fits_below-named.ensures, c.fits_below-packed.ensures, c.count.ensures.0)
