-- The nesting falls from a term to a group in it.
use Rattle.std.proofs.Common.{◌+◌, ◌*◌}
use Rattle.rule_parser.proofs.Source.+group_term.Given as goal

abbrev pub decreases-group : goal.decreases-group
decreases-group l = 2 * l.nesting + 1

abbrev pub decreases-term : goal.decreases-term
decreases-term l = 2 * l.nesting
