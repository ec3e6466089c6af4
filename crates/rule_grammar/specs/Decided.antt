-- The automaton decides which beginnings go on, and which texts are of the grammar.
use Rattle.std.specs.Prelude.{ℕ, ◌≡◌, true, List, [], ◌∷◌, ◌++◌, length}
use Rattle.rule_grammar.specs.Numeral.{digits, Calm, Digits}
use Rattle.rule_grammar.specs.Term.{Joint, Term, word, looks}
use Rattle.rule_grammar.specs.Automaton.{Wanted, byte, term, number, more, joint, eats, left, may_end}

-- the texts that a stack wants
abbrev pub Wants : List Wanted → List ℕ → Type 0
Wants [] w = w ≡ []
Wants (byte b ∷ k) w = (u : List ℕ) × (w ≡ b ∷ u) × Wants k u
Wants (term ∷ k) w = (x : Term) × (u : List ℕ) × (w ≡ looks x ++ u) × Wants k u
Wants (number ∷ k) w = (n : ℕ) × (u : List ℕ) × (w ≡ digits n ++ u) × Wants k u
Wants (more ∷ k) w = (d u : List ℕ) × Digits d × (w ≡ d ++ u) × Wants k u
Wants (joint ∷ k) w = (j : Joint) × (y : Term) × (u : List ℕ) × (w ≡ word j ++ 32 ∷ (looks y ++ 41 ∷ u)) × Wants k u

-- a number is never followed by a digit
abbrev pub Quiet : List Wanted → Type 0
Quiet k = (w : List ℕ) → Wants k w → Calm w

abbrev pub Fine : List Wanted → Type 0
Fine [] = Unit
Fine (byte b ∷ k) = Fine k
Fine (term ∷ k) = Quiet k × Fine k
Fine (number ∷ k) = Quiet k × Fine k
Fine (more ∷ k) = Quiet k × Fine k
Fine (joint ∷ k) = Fine k

-- some wanted text begins so
abbrev pub Begins : List Wanted → List ℕ → Type 0
Begins k p = (rest : List ℕ) × Wants k (p ++ rest)

-- the stack at the start
abbrev pub rule : List Wanted
rule = term ∷ []

abbrev pub Whole : List Wanted → List ℕ → Type 0
Whole k w = (eats k w ≡ length w) × (may_end (left k w) ≡ true)
