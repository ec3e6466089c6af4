-- The tests are the conjuncts of `observation_good`, in its order. Assumes nothing.
use Rattle.message_codec.proofs.observation_good.Goals as goal

pub returns : goal.returns
returns c = rw c.fits_below-named.ensures
