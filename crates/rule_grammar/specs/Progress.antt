-- What a reader knows at a place: what is wanted there, that no place before it is one of 14, and how many terms have started. Each law is a way of
-- going on, or an answer.
use Rattle.std.specs.Prelude.{ℕ, ◌<◌, ◌≡◌, Bool, true, false, List, eqb, take}
use Rattle.rule_grammar.specs.Automaton.{Wanted, eats}
use Rattle.rule_grammar.specs.Decided.{rule}
use Rattle.rule_grammar.specs.Tests.{is_far, is_too_much, starts_below}
use Rattle.rule_grammar.specs.Runs.{Reached}

-- the longest beginning that goes on
abbrev pub begun : List ℕ → List ℕ
begun text = take (eats rule text) text

pub record State (m : ℕ) (text : List ℕ) (k : List Wanted) (i n : ℕ) : Type 0 where
  pub reached : Reached text k i
  pub clear : (j : ℕ) → j < i → is_too_much m (begun text) j ≡ false
  pub edge : is_far m (begun text) i ≡ false
  pub started : starts_below (begun text) i ≡ n

-- none of "(", "[", "m" and ","
abbrev pub plain : ℕ → Bool
plain c = elim (eqb c 40) [ true ↦ false | false ↦ elim (eqb c 91) [ true ↦ false | false ↦ elim (eqb c 109) [ true ↦ false | false ↦ elim (eqb c 44) [ true ↦ false | false ↦ true ] ] ] ]
