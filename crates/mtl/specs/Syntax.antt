-- Which subformulas a subformula names, and in what range its other numbers are.
use Rattle.std.specs.Prelude.{ℕ, ◌<◌, ◌≤◌}
use Rattle.mtl.specs.declared.Formula.{Formula}
use Rattle.mtl.specs.declared.Formula.TheVariants.{True, Proposition, Not, Or, Since, Until, And, Implies, Once, Historically, Eventually, Always}
use Rattle.mtl.specs.Abbreviations.{abbreviation, Leaves}

-- P holds of each operand: the leaves of its abbreviation
abbrev pub Operands : (ℕ → Type 0) → Formula → Type 0
Operands P φ = Leaves P (abbreviation φ)

-- "Operands are numbers of earlier lines"
abbrev pub Earlier : (ℕ → Formula) → Type 0
Earlier line = (k : ℕ) → Operands (λ i. i < k) (line k)

-- the proposition is one of n
abbrev pub Proposes : ℕ → Formula → Type 0
Proposes n True = Unit
Proposes n (Proposition m) = m < n
Proposes n (Not i) = Unit
Proposes n (Or i j) = Unit
Proposes n (Since i j lower upper) = Unit
Proposes n (Until i j lower upper) = Unit
Proposes n (And i j) = Unit
Proposes n (Implies i j) = Unit
Proposes n (Once i lower upper) = Unit
Proposes n (Historically i lower upper) = Unit
Proposes n (Eventually i lower upper) = Unit
Proposes n (Always i lower upper) = Unit

-- lower ≤ upper ≤ most
abbrev pub Bounded : ℕ → Formula → Type 0
Bounded most True = Unit
Bounded most (Proposition m) = Unit
Bounded most (Not i) = Unit
Bounded most (Or i j) = Unit
Bounded most (Since i j lower upper) = (lower ≤ upper) × (upper ≤ most)
Bounded most (Until i j lower upper) = (lower ≤ upper) × (upper ≤ most)
Bounded most (And i j) = Unit
Bounded most (Implies i j) = Unit
Bounded most (Once i lower upper) = (lower ≤ upper) × (upper ≤ most)
Bounded most (Historically i lower upper) = (lower ≤ upper) × (upper ≤ most)
Bounded most (Eventually i lower upper) = (lower ≤ upper) × (upper ≤ most)
Bounded most (Always i lower upper) = (lower ≤ upper) × (upper ≤ most)
