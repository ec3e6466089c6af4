-- Worked examples: the card K of 01's small shift is what "(true since[0,2] m0)" becomes.
use Rattle.std.specs.Prelude.{◌≡◌, refl, [], ◌∷◌}
use Rattle.policy.specs.Text.{line_text, lines_text, text_of}
use Rattle.rule_grammar.specs.Ascii.{ascii}
use Rattle.rule_grammar.specs.Numeral.{decimal}
use Rattle.rule_grammar.specs.Term.{And, Since, True, Mark, Not, Group, looks}
use Rattle.rule_text.specs.Compiled.{rule_policy}

typed_k : looks (Group True (Since 0 2) (Mark 0)) ≡ ascii "(true since[0,2] m0)"
unfolding decimal
typed_k = refl

-- K: `01 01 04 00 03 00 01 01 35 04 01 02 00`
card_k : text_of (rule_policy 1 1 4 (Group True (Since 0 2) (Mark 0))) ≡ 1 ∷ 1 ∷ 4 ∷ 0 ∷ 3 ∷ 0 ∷ 1 ∷ 1 ∷ 53 ∷ 4 ∷ 1 ∷ 2 ∷ 0 ∷ []
unfolding text_of lines_text line_text
card_k = refl

-- "not (m1 and m0)", with 2 marks, 3 stations and 600 minutes: "and" is kind 6, and the last line alone is a rule
typed_and : text_of (rule_policy 2 3 600 (Not (Group (Mark 1) And (Mark 0)))) ≡ 2 ∷ 3 ∷ 88 ∷ 2 ∷ 4 ∷ 3 ∷ 1 ∷ 1 ∷ 1 ∷ 1 ∷ 5 ∷ 6 ∷ 1 ∷ 35 ∷ 2 ∷ 2 ∷ []
unfolding text_of lines_text line_text
typed_and = refl
