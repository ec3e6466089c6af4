-- What an opening that answers done leaves.
use Rattle.std.specs.Prelude.{ℕ, ◌≡◌, List, Ok}
use Rattle.policy.specs.Format.{answer_of as policy_answer, policy_of}
use Rattle.origin.specs.Origin.{origin_of}
use Rattle.monitor.specs.State.{Outcome, opened}

-- an opening that answers done leaves the opened state, under an accepted card
pub record OpenedState (s : List ℕ) (o : Outcome (Unit {0})) : Type 0 where
  pub card : policy_answer s ≡ Ok tt
  pub state : o.state ≡ opened (policy_of s) (origin_of s)
