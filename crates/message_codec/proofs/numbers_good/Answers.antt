-- The tests are the conjuncts of `numbers_good`, in its order. Assumes nothing.
use Rattle.message.specs.Text.{numbers_good}
use Rattle.message_codec.proofs.numbers_good.Goals as goal

pub returns : goal.returns
unfolding numbers_good
returns c = rw c.kind_good-kind.ensures
