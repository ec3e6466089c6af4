-- The lines of a term, in the order in which their texts end, inner before outer.
use Rattle.std.specs.Prelude.{ℕ, suc, ◌+◌, List, [], ◌∷◌, ◌++◌}
use Rattle.mtl.specs.declared.Formula.{Formula}
use Rattle.mtl.specs.declared.Formula.TheVariants as F
use Rattle.rule_grammar.specs.Term.{Joint, Or, And, Since, Until, Term, True, Mark, Not, Group}

-- how many terms stand inside a term, itself not counted
abbrev pub inner : Term → ℕ
inner True = 0
inner (Mark n) = 0
inner (Not x) = suc (inner x)
inner (Group x j y) = suc (suc (inner x) + inner y)

abbrev pub terms : Term → ℕ
terms x = suc (inner x)

-- the line of a group, from its operands' lines
abbrev pub joined : Joint → ℕ → ℕ → Formula
joined Or i k = F.Or i k
joined And i k = F.And i k
joined (Since a b) i k = F.Since i k a b
joined (Until a b) i k = F.Until i k a b

-- the lines of a term, where k lines stand before them: its own is the last, line k + inner x
abbrev pub lines : ℕ → Term → List Formula
lines k True = F.True ∷ []
lines k (Mark n) = F.Proposition n ∷ []
lines k (Not x) = lines k x ++ F.Not (k + inner x) ∷ []
lines k (Group x j y) = lines k x ++ lines (k + terms x) y ++ joined j (k + inner x) (k + terms x + inner y) ∷ []
