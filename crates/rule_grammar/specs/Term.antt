-- Document 02, request 7: the grammar of rules, as a type, and what a term looks like. No limit is in it.
use Rattle.std.specs.Prelude.{ℕ, List, ◌++◌}
use Rattle.rule_grammar.specs.Ascii.{ascii}
use Rattle.rule_grammar.specs.Numeral.{digits}

pub data Joint : Type 0 where
  Or And : Joint
  Since Until : ℕ → ℕ → Joint

-- a mark's number and an interval's bounds are any numbers
pub data Term : Type 0 where
  True : Term
  Mark : ℕ → Term
  Not : Term → Term
  Group : Term → Joint → Term → Term

abbrev pub interval : ℕ → ℕ → List ℕ
interval a b = ascii "[" ++ digits a ++ ascii "," ++ digits b ++ ascii "]"

abbrev pub word : Joint → List ℕ
word Or = ascii "or"
word And = ascii "and"
word (Since a b) = ascii "since" ++ interval a b
word (Until a b) = ascii "until" ++ interval a b

abbrev pub looks : Term → List ℕ
looks True = ascii "true"
looks (Mark n) = ascii "m" ++ digits n
looks (Not x) = ascii "not " ++ looks x
looks (Group x j y) = ascii "(" ++ looks x ++ ascii " " ++ word j ++ ascii " " ++ looks y ++ ascii ")"
