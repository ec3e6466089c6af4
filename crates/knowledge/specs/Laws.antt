-- The tests decide the statements: each is built of comparisons in the way in which its statement is built.
use Rattle.std.specs.Prelude.{◌≤◌}
use Rattle.policy.specs.declared.Sizes.{Sizes}
use Rattle.knowledge.specs.Knowledge.{most_minutes}

-- what the proofs need of the sizes: words of 32 bits, and numbers that stay below 65535
pub record Limits (z : Sizes) : Type 0 where
  pub propositions_most : z.propositions ≤ 32
  pub minutes_most : z.minutes ≤ most_minutes
