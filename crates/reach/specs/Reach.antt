-- 02, request 8: "Call a line's reach 0 for true and marks, the larger of its operands' reaches for others, plus upper for until, eventually and always."
-- (The literature on metric temporal logic calls it the future reach: how many minutes past a minute its value may rest on.)
use Rattle.std.specs.Prelude.{ℕ, zero, suc, ◌+◌, max}
use Rattle.mtl.specs.declared.Formula.{Formula}
use Rattle.mtl.specs.declared.Formula.TheVariants.{True, Proposition, Not, Or, Since, Until, And, Implies, Once, Historically, Eventually, Always}

-- a subformula's reach, from the reaches of those it names
abbrev pub reach_from : (ℕ → ℕ) → Formula → ℕ
reach_from r True = 0
reach_from r (Proposition p) = 0
reach_from r (Not i) = r i
reach_from r (Or i j) = max (r i) (r j)
reach_from r (Since i j lower upper) = max (r i) (r j)
reach_from r (Until i j lower upper) = max (r i) (r j) + upper
reach_from r (And i j) = max (r i) (r j)
reach_from r (Implies i j) = max (r i) (r j)
reach_from r (Once i lower upper) = r i
reach_from r (Historically i lower upper) = r i
reach_from r (Eventually i lower upper) = r i + upper
reach_from r (Always i lower upper) = r i + upper

-- of subformula i, looking d subformulas deep
unfoldable pub reach_deep : (ℕ → Formula) → ℕ → ℕ → ℕ
reach_deep line zero i = 0
reach_deep line (suc d) i = reach_from (reach_deep line d) (line i)

-- the reach of subformula k
unfoldable pub reach : (ℕ → Formula) → ℕ → ℕ
reach line k = reach_deep line (suc k) k
