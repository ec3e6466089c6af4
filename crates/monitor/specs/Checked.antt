-- What a call knows of its policy once its first checks are made.
use Rattle.std.specs.Prelude.{List, ℕ, Result}
use Rattle.refusal.specs.declared.Refusal.{Refusal}
use Rattle.refusal.specs.Checks.{Check, first_failed, give_unless}
use Rattle.policy.specs.declared.Policy.{Policy}
use Rattle.policy.specs.Format.{policy_of}

-- the policy that the bytes say, unless one of the checks refuses
unfoldable pub checked_policy : List Check → List ℕ → Result Policy Refusal
checked_policy cs s = give_unless (first_failed cs) (policy_of s)
