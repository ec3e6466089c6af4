-- Every text has an answer, and it computes.
use Rattle.std.specs.Prelude.{ℕ, List}
use Rattle.rule_grammar.specs.Term.{Term}
use Rattle.rule_grammar.specs.Places.{Taken, Refused, Answered}
use Rattle.rule_grammar.specs.Tests.{Verdict, Good, Bad}

-- what a verdict stands for
abbrev pub Stands : ℕ → List ℕ → Verdict → Type 0
Stands propositions text Good = (x : Term) × Answered propositions text (Taken x)
Stands propositions text (Bad number place) = Answered propositions text (Refused number place)
