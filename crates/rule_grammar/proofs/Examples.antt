-- Worked examples, by computation.
use Rattle.std.specs.Prelude.{◌≡◌, refl, [], ◌∷◌}
use Rattle.mtl.specs.declared.Formula.TheVariants as F
use Rattle.rule_grammar.specs.Ascii.{ascii}
use Rattle.rule_grammar.specs.Numeral.{decimal, digits}
use Rattle.rule_grammar.specs.Term.{Or, And, Since, Until, True, Mark, Not, Group, looks}
use Rattle.rule_grammar.specs.Lines.{lines}
use Rattle.rule_grammar.specs.Tests.{verdict, Good, Bad}

one : looks (Group (Mark 1) (Since 5 1023) (Not True)) ≡ ascii "(m1 since[5,1023] not true)"
unfolding decimal
one = refl

two : digits 1000000000000000000000000000000 ≡ ascii "1000000000000000000000000000000"
unfolding decimal
two = refl

-- each word, and a number's digits in their order
words : looks (Group (Not (Mark 31)) And (Group True Or (Group (Mark 0) (Until 10 1203) (Mark 7)))) ≡ ascii "(not m31 and (true or (m0 until[10,1203] m7)))"
unfolding decimal
words = refl

-- inner before outer, in the order in which the texts end: "((m3 or true) until[0,2] not m1)"
three : lines 0 (Group (Group (Mark 3) Or True) (Until 0 2) (Not (Mark 1)))
    ≡ F.Proposition 3 ∷ F.True ∷ F.Or 0 1 ∷ F.Proposition 1 ∷ F.Not 3 ∷ F.Until 2 4 0 2 ∷ []
three = refl

-- "not" after its operand, and since with its first operand first: "(not m5 since[1,9] (m2 and m2))"
four : lines 0 (Group (Not (Mark 5)) (Since 1 9) (Group (Mark 2) And (Mark 2))) ≡ F.Proposition 5 ∷ F.Not 0 ∷ F.Proposition 2 ∷ F.Proposition 2 ∷ F.And 2 3 ∷ F.Since 1 4 1 9 ∷ []
four = refl

-- answers, with 4 propositions
empty : verdict 4 (ascii "") ≡ Bad 13 0
empty = refl

leading_zero : verdict 4 (ascii "m09") ≡ Bad 13 2
leading_zero = refl

cut_mark : verdict 4 (ascii "m99") ≡ Bad 14 1
cut_mark = refl

mark_then_x : verdict 4 (ascii "m9x") ≡ Bad 14 1
mark_then_x = refl

open_mark : verdict 4 (ascii "(m99") ≡ Bad 14 2
open_mark = refl

unclosed : verdict 4 (ascii "(m1 since[5,3") ≡ Bad 13 13
unclosed = refl

crossed : verdict 4 (ascii "(m1 since[5,3]") ≡ Bad 14 9
crossed = refl

crossed_zero : verdict 4 (ascii "(m1 since[5,03]") ≡ Bad 13 13
crossed_zero = refl

crossed_far : verdict 4 (ascii "(m1 since[2000,3] m2)") ≡ Bad 14 9
crossed_far = refl

far_unclosed : verdict 4 (ascii "(m1 since[2000,3") ≡ Bad 14 10
far_unclosed = refl

far_upper : verdict 4 (ascii "(m1 since[2000,3000] m2)") ≡ Bad 14 10
far_upper = refl

crossed_then_far : verdict 4 (ascii "(m1 since[5,3] m9)") ≡ Bad 14 9
crossed_then_far = refl

far_then_crossed : verdict 4 (ascii "(m9 since[5,3] m2)") ≡ Bad 14 2
far_then_crossed = refl

thirty_digits : verdict 4 (ascii "(m1 since[999999999999999999999999999999,999999999999999999999999999998] m2)") ≡ Bad 14 9
thirty_digits = refl

fine : verdict 4 (ascii "(m1 or m2)") ≡ Good
fine = refl

space_behind : verdict 4 (ascii "(m1 or m2) ") ≡ Bad 13 10
space_behind = refl

two_spaces : verdict 4 (ascii "(m1  or m2)") ≡ Bad 13 4
two_spaces = refl

three_operands : verdict 4 (ascii "(m1 or m2 or m3)") ≡ Bad 13 9
three_operands = refl

tight : verdict 4 (ascii "(m1 since[0,1]m2)") ≡ Bad 13 14
tight = refl

spaced : verdict 4 (ascii "(m1 since [0,1] m2)") ≡ Bad 13 9
spaced = refl

nots : verdict 4 (ascii "not not (m1 and true)") ≡ Good
nots = refl

no_space : verdict 4 (ascii "nottrue") ≡ Bad 13 3
no_space = refl

nested_32 : verdict 4 (ascii "((((((((((((((((((((((((((((((((") ≡ Bad 13 32
nested_32 = refl

nested_33 : verdict 4 (ascii "(((((((((((((((((((((((((((((((((") ≡ Bad 14 32
nested_33 = refl

nested_32_x : verdict 4 (ascii "((((((((((((((((((((((((((((((((x") ≡ Bad 13 32
nested_32_x = refl

terms_64 : verdict 4 (ascii "not not not not not not not not not not not not not not not not not not not not not not not not not not not not not not not not not not not not not not not not not not not not not not not not not not not not not not not not not not not not not not not true") ≡ Good
terms_64 = refl

terms_65 : verdict 4 (ascii "not not not not not not not not not not not not not not not not not not not not not not not not not not not not not not not not not not not not not not not not not not not not not not not not not not not not not not not not not not not not not not not not x") ≡ Bad 14 256
terms_65 = refl

terms_64_cut : verdict 4 (ascii "not not not not not not not not not not not not not not not not not not not not not not not not not not not not not not not not not not not not not not not not not not not not not not not not not not not not not not not not not not not not not not not not") ≡ Bad 13 255
terms_64_cut = refl

-- both ends of an interval are 1,023 at most, and may be the same
last_bounds : verdict 4 (ascii "(m0 until[1023,1023] m3)") ≡ Good
last_bounds = refl

upper_1024 : verdict 4 (ascii "(m0 until[1023,1024] m3)") ≡ Bad 14 15
upper_1024 = refl

lower_1024 : verdict 4 (ascii "(m0 until[1024,1024] m3)") ≡ Bad 14 10
lower_1024 = refl

last_mark : verdict 4 (ascii "m4") ≡ Bad 14 1
last_mark = refl
