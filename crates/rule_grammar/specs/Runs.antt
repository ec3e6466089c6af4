-- Where the automaton stands after the first bytes of a text.
use Rattle.std.specs.Prelude.{ℕ, ◌≤◌, ◌≡◌, List, [], ◌∷◌, length, take, drop}
use Rattle.rule_grammar.specs.Numeral.{Calm}
use Rattle.rule_grammar.specs.Automaton.{Wanted, more, Next, stuck, on, step}
use Rattle.rule_grammar.specs.Decided.{rule}

-- what is wanted once all these bytes are taken
abbrev pub run : List Wanted → List ℕ → Next
run k [] = on k
run k (c ∷ u) = elim (step k c) [ stuck ↦ stuck | on l ↦ run l u ]

-- ---- what a reader wants, which may be less than the automaton: behind the last digit of a number no digit follows

pub data Like (w : List ℕ) : List Wanted → List Wanted → Type 0 where
  exactly : (k : List Wanted) → Like w k k
  ended : (s k : List Wanted) → Calm w → Like w s k → Like w (more ∷ s) k

-- ---- a place reached

pub record Reached (text : List ℕ) (k : List Wanted) (i : ℕ) : Type 0 where
  pub inside : i ≤ length text
  pub stack : List Wanted
  pub is : run rule (take i text) ≡ on stack
  pub like : Like (drop i text) stack k
