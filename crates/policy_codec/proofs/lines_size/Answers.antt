-- The chain adds up the lines' bytes (`Chains`). Assumes nothing.
use Rattle.std.proofs.Common.{◌≡◌, arith, length, sum_by, rules, sym, ◌∙◌}
use Rattle.policy.specs.Text.{line_text}
use Rattle.policy_codec.proofs.Chains.{all_bytes, bytes_most}
use Rattle.policy_codec.proofs.lines_size.Goals as goal

pub returns : goal.returns
returns c = let summed : c.sum.result ≡ sum_by (λ l. length (line_text l)) c.args.lines.now = search rules in
    (summed ∙ sym (all_bytes _), omega (arith, bytes_most c.args.lines.now))
