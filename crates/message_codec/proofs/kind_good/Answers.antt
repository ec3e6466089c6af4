-- The kind of the message picks the test. Assumes nothing.
use Rattle.message_codec.proofs.kind_good.Goals as goal

pub returns-then-n : goal.returns-then-n
returns-then-n c = rw c.if-n.true c.alive_good.ensures

pub returns : goal.returns
returns c = rw c.if-n.false c.observation_good.ensures
