-- What was typed is what is watched: the textbook reading of a term's last line is the term's meaning. And its lines are a policy's.
use Rattle.std.specs.Prelude.{ℕ, ◌≤◌, ◌<◌, ◌≡◌, length, get_or}
use Rattle.mtl.specs.declared.Formula.{Formula}
use Rattle.mtl.specs.declared.Formula.TheVariants.{True as Always}
use Rattle.mtl.specs.Syntax.{Earlier, Proposes, Bounded}
use Rattle.rule_grammar.specs.Term.{Joint, Or, And, Since, Until, Term, True, Mark, Not, Group}
use Rattle.rule_grammar.specs.Lines.{terms, lines}

-- the lines of a term alone, any other padding
abbrev pub line_of : Term → ℕ → Formula
line_of x i = get_or (lines 0 x) i Always

-- ---- the ranges

-- marks and intervals within the limits
abbrev pub Fair : Joint → Type 0
Fair Or = Unit
Fair And = Unit
Fair (Since a b) = (a ≤ b) × (b ≤ 1023)
Fair (Until a b) = (a ≤ b) × (b ≤ 1023)

abbrev pub Within : ℕ → Term → Type 0
Within n True = Unit
Within n (Mark m) = m < n
Within n (Not x) = Within n x
Within n (Group x j y) = Within n x × Fair j × Within n y

-- what a policy's lines must be (`Proper` of `policy`)
pub record PolicyLines (n : ℕ) (x : Term) : Type 0 where
  pub count : length (lines 0 x) ≡ terms x
  pub earlier : Earlier (line_of x)
  pub proposes : (i : ℕ) → Proposes n (line_of x i)
  pub bounded : (i : ℕ) → Bounded 1023 (line_of x i)
