-- Laws of the reader's leaves: a word beside a text, a number, and which of two numbers is larger.
use Rattle.std.specs.Prelude.{ℕ, ◌+◌, ◌≤◌, ◌≡◌, List, ◌++◌, length, take, drop}
use Rattle.rule_grammar.specs.Numeral.{Digits, value}
use Rattle.rule_text.specs.Steps.{Near}

-- ---- a word

pub record Matched (text : List ℕ) (at : ℕ) (word : List ℕ) (n : ℕ) : Type 0 where
  pub few : n ≤ length word
  pub inside : at + n ≤ length text
  pub alike : drop at text ≡ take n word ++ drop (at + n) text

-- ---- a number

pub record Scanned (text : List ℕ) (at e v : ℕ) : Type 0 where
  pub run : List ℕ
  pub are : Digits run
  pub stands : drop at text ≡ run ++ drop e text
  pub long : e ≡ at + length run
  pub near : Near v (value 0 run)
  pub small : v ≤ 10239
