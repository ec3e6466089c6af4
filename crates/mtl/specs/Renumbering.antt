-- Where lines stand among others under a renumbering, their rows are the same: written out, moved, merged with equal ones, or with others
-- dropped. Over any truth algebra and any world, so three-valued and two-valued, at every minute. Assumes nothing.
use Rattle.std.specs.Prelude.{ℕ, ◌≡◌, ◌⊎◌}
use Rattle.mtl.specs.declared.Formula.{Formula}
use Rattle.mtl.specs.Abbreviations.{Expression, operand, true', proposition', not', binary, abbreviation}
use Rattle.mtl.specs.Syntax.{Operands}

-- the same expression over renumbered leaves
abbrev pub relabel : (ℕ → ℕ) → Expression → Expression
relabel r (operand i) = operand (r i)
relabel r true' = true'
relabel r (proposition' p) = proposition' p
relabel r (not' x) = not' (relabel r x)
relabel r (binary k x y) = binary k (relabel r x) (relabel r y)

-- line n of B spells the expression out, each part on a line of its own; a leaf is the line that r gives it
abbrev pub Spells : (ℕ → Formula) → (ℕ → ℕ) → Expression → ℕ → Type 0
Spells B r (operand i) n = n ≡ r i
Spells B r true' n = abbreviation (B n) ≡ true'
Spells B r (proposition' p) n = abbreviation (B n) ≡ proposition' p
Spells B r (not' x) n = (m : ℕ) × (abbreviation (B n) ≡ not' (operand m)) × Spells B r x m
Spells B r (binary k x y) n = (m : ℕ) × (m' : ℕ) × (abbreviation (B n) ≡ binary k (operand m) (operand m')) × Spells B r x m × Spells B r y m'

-- The kept lines of A stand in B: line i is line r i, with its operands renumbered or spelled out. r need not be one to one
pub record Stands (kept : ℕ → Type 0) (A B : ℕ → Formula) (r : ℕ → ℕ) : Type 0 where
  pub operands : (i : ℕ) → kept i → Operands kept (A i)
  pub line : (i : ℕ) → kept i → (abbreviation (B (r i)) ≡ relabel r (abbreviation (A i))) ⊎ Spells B r (abbreviation (A i)) (r i)
