-- An interval, from its "[" on. Whether it is closed with a above b is settled first: if so, the answer is 14 at the "["; if not, its numbers are read
-- as any number is.
use Rattle.std.specs.Prelude.{ℕ, suc, ◌≡◌, List, ◌∷◌, ◌++◌, drop}
use Rattle.rule_grammar.specs.Numeral.{digits}

-- ---- the "[" of a closed interval with a above b

-- the interval [a,b], behind its "["
pub record Closed (text : List ℕ) (p a b : ℕ) : Type 0 where
  pub rest : List ℕ
  pub stands : drop (suc p) text ≡ digits a ++ 44 ∷ (digits b ++ 93 ∷ rest)
