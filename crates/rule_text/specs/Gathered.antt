-- The lines of a rule, gathered in an array of numbers.
use Rattle.std.specs.Prelude.{ℕ, zero, suc, ◌+◌, ◌-◌, ◌<◌, ◌≡◌, true, false, List, [], ◌∷◌, length, get_or, set}
use Rattle.mtl.specs.declared.Formula.{Formula}
use Rattle.mtl.specs.declared.Formula.TheVariants as F
use Rattle.policy.specs.declared.LineNumbers.{LineNumbers}
use Rattle.policy.specs.declared.PolicyNumbers.{PolicyNumbers}
use Rattle.policy.specs.Text.{numbered, formula_numbers}
use Rattle.line_table.specs.Table.{line_at, lines_from}

-- these formulas are lines i and on, and the lines before them are as they were
pub record Writes (f g : List ℕ) (i : ℕ) (fs : List Formula) : Type 0 where
  pub same_length : length g ≡ length f
  pub before : (j : ℕ) → j < i → line_at g j ≡ line_at f j
  pub lines : (j : ℕ) → j < length fs → line_at g (i + j) ≡ formula_numbers (get_or fs j F.True) false

-- the lines of a run of n "not" over line p, each over the one before it
abbrev pub not_lines : ℕ → ℕ → List Formula
not_lines p zero = []
not_lines p (suc n) = F.Not p ∷ not_lines (suc p) n

-- a line made a rule
abbrev pub as_rule : LineNumbers → LineNumbers
as_rule l = numbered l.kind l.first l.second l.lower l.upper true

-- the policy's numbers: the last line is the rule
abbrev pub gathered : ℕ → ℕ → ℕ → ℕ → List ℕ → PolicyNumbers
gathered propositions components minutes count f =
    record {
      propositions = propositions;
      components = components;
      minutes = minutes;
      count = count;
      lines = set (lines_from f 64) (count - 1) (as_rule (line_at f (count - 1)));
    }
