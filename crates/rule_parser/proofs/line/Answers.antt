-- The number of the kind is the enum's. Assumes nothing.
use Rattle.std.proofs.Common.{ap, ℕ, false}
use Rattle.policy.specs.Text.{numbered}
use Rattle.rule_text.proofs.Laws.{kind_is}
use Rattle.rule_parser.proofs.line.Goals as goal

pub returns : goal.returns
returns c = ap (λ (n : ℕ). numbered n c.args.first 0 0 0 false) (kind_is c.args.kind)
