-- `counter_runs::follows` meets its contract: the two tests are those of `follow`. Assumes nothing.
use Rattle.std.proofs.Common.{rules}
use Rattle.knowledge.specs.Knowledge.{follow}
use Rattle.counter_runs.proofs.follows.Goals as goal

pub returns-then-v-w : goal.returns-then-v-w
unfolding follow
returns-then-v-w c = search rules

pub returns-else-v-w : goal.returns-else-v-w
unfolding follow
returns-else-v-w c = search rules
