-- Laws of the definitions in specs/Examples. Assumes nothing.
use Rattle.std.specs.Prelude.{refl}
use Rattle.policy.specs.Format.{line_length, fields_at, keeps_kind, good_line, meaning, formula_of, subformula_of, subformula_at, offset, heading_checks, line_checks, lines_checks, lines_up_to, subformulas_of, rules_up_to, closing_checks, policy_checks, answer_of, policy_of}
use Rattle.policy.specs.Text.{line_text, lines_text, text_of, line_good, lines_good, encode_checks, encode_of}
use Rattle.policy.specs.Examples.{EveryKind, EveryNumber}

pub kinds_read : EveryKind
unfolding line_length fields_at keeps_kind good_line meaning formula_of subformula_of subformula_at heading_checks offset line_checks lines_checks lines_up_to subformulas_of rules_up_to closing_checks policy_checks answer_of policy_of
kinds_read = record {
  accepted = refl;
  propositions = refl;
  components = refl;
  minutes = refl;
  count = refl;
  rules = refl;
  line_0 = refl;
  line_1 = refl;
  line_2 = refl;
  line_3 = refl;
  line_4 = refl;
  line_5 = refl;
  line_6 = refl;
  line_7 = refl;
  line_8 = refl;
  line_9 = refl;
  line_10 = refl;
  line_11 = refl;
}

pub numbers_written : EveryNumber
unfolding line_text lines_text text_of line_good lines_good encode_checks encode_of
numbers_written = record {
  text = refl;
  exact = refl;
  longer = refl;
  short = refl;
  line_first = refl;
  once_second = refl;
  no_twelve = refl;
  no_rule = refl;
  no_line = refl;
  k = refl;
}
