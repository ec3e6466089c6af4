-- What is demanded of the writers, proved in the crates of the policy and of the message. Assumes nothing.
use Rattle.monitor.specs.Demands.{Writers}
use Rattle.policy.proofs.Refusals.{causes as policy_causes}
use Rattle.policy.proofs.RoundTrip.{round_trip as policies}
use Rattle.message.proofs.Refusals.{causes as message_causes}
use Rattle.message.proofs.RoundTrip.{round_trip as messages, sizes_in, encodes}

pub writers : Writers
writers = record {
  policy_causes = policy_causes;
  message_causes = message_causes;
  policies = policies;
  messages = messages;
  under_policy = λ s e. (sizes_in s e, encodes s e);
}
