-- 02, request 7: what the call gives. `Readable`, `Longest`, `TooMuch`, `Cause` and `Answered` of rule_grammar (Places) say which texts are read and
-- which are refused where; here the policy that an accepted one becomes.
use Rattle.std.specs.Prelude.{ℕ, true, false, cond, List, [], ◌∷◌, Err}
use Rattle.refusal.specs.declared.Refusal.TheVariants.{BadHeading}
use Rattle.refusal.specs.Numbers.{refusal_of}
use Rattle.refusal.specs.Writes.{Output}
use Rattle.mtl.specs.declared.Formula.{Formula}
use Rattle.policy.specs.declared.LineNumbers.{LineNumbers}
use Rattle.policy.specs.declared.PolicyNumbers.{PolicyNumbers}
use Rattle.policy.specs.Text.{formula_numbers, heading_good, encode_of}
use Rattle.rule_grammar.specs.Term.{Term}
use Rattle.rule_grammar.specs.Lines.{terms, lines}
use Rattle.rule_grammar.specs.Places.{Answer, Taken, Refused}
use Rattle.rule_grammar.proofs.Answers.{answer_of}

-- "the last being the one rule"
abbrev pub marked : List Formula → List LineNumbers
marked [] = []
marked (φ ∷ []) = formula_numbers φ true ∷ []
marked (φ ∷ ψ ∷ fs) = formula_numbers φ false ∷ marked (ψ ∷ fs)

-- "a card .. with a line for each term, in the order in which their text ends, inner before outer"
abbrev pub rule_policy : ℕ → ℕ → ℕ → Term → PolicyNumbers
rule_policy propositions components minutes x =
    record { propositions = propositions; components = components; minutes = minutes; count = terms x; lines = marked (lines 0 x) }

-- "Each accepted text .. becomes a card, written as in ticket 3"; else 13 or 14, and nothing is written
abbrev pub typed : ℕ → ℕ → ℕ → List ℕ → Answer → Output
typed propositions components minutes out (Taken x) = encode_of (rule_policy propositions components minutes x) out
typed propositions components minutes out (Refused number place) = record { answer = Err (refusal_of number place); out = out }

-- "Marks, stations and minutes are given beside the text and keep refusal 2, at place 0; 11 is tested last"
unfoldable pub compile_of : ℕ → ℕ → ℕ → List ℕ → List ℕ → Output
compile_of propositions components minutes text out =
    cond (heading_good propositions components minutes 1) (typed propositions components minutes out (answer_of propositions text))
    (record { answer = Err (BadHeading 0); out = out })
