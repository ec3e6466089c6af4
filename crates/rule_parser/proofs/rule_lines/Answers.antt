-- The last line is stored again, as a rule. Assumes nothing.
use Rattle.rule_text.proofs.Writing.{rule_lines_set}
use Rattle.rule_parser.proofs.rule_lines.Goals as goal

pub returns : goal.returns
returns c = rule_lines_set _ _ _ c.lines_from-lines.ensures c.requires
