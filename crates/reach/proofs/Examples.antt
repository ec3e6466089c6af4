-- Laws of the definitions in specs/Examples. Assumes nothing.
use Rattle.std.specs.Prelude.{refl}
use Rattle.policy.specs.Format.{line_length, fields_at, keeps_kind, good_line, meaning, formula_of, subformula_of, subformula_at, heading_checks, offset, line_checks, lines_checks, lines_up_to, subformulas_of, rule_lines, rules_up_to, closing_checks, policy_checks, answer_of, policy_of}
use Rattle.reach.specs.Reach.{reach_deep, reach}
use Rattle.reach.specs.Reaches.{reaches_of, reaches_under, rule_reaches}
use Rattle.reach.specs.Examples.{Examples}

pub examples : Examples
unfolding line_length fields_at keeps_kind good_line meaning formula_of subformula_of subformula_at heading_checks offset line_checks lines_checks lines_up_to subformulas_of rule_lines rules_up_to closing_checks policy_checks answer_of policy_of reach_deep reach reaches_of reaches_under rule_reaches
examples = record { looks_back = refl; looks_ahead = refl; in_order = refl; no_room = refl; no_card = refl }
