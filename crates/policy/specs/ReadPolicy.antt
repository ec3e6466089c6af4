-- What a call learns of its policy from the reader's answer: where it accepts, the policy is the one that the bytes say, in range; where it
-- refuses, so do the bytes. Assumes nothing.
use Rattle.std.specs.Prelude.{◌≡◌, List, ℕ, Ok}
use Rattle.policy.specs.declared.Policy.{Policy}
use Rattle.policy.specs.Format.{answer_of, policy_of}
use Rattle.policy.specs.Proper.{Proper}

-- the policy that was read
pub record Read (s : List ℕ) (p : Policy) : Type 0 where
  pub card : answer_of s ≡ Ok tt
  pub same : p ≡ policy_of s
  pub proper : Proper p
