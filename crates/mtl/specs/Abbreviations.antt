-- 02, request 6: "Each means its usual abbreviation from source document 001." An abbreviation is an expression over the six kinds of 01, whose
-- leaves are the subformula's operands.
use Rattle.std.specs.Prelude.{ℕ}
use Rattle.mtl.specs.declared.Formula.{Formula}
use Rattle.mtl.specs.declared.Formula.TheVariants.{True, Proposition, Not, Or, Since, Until, And, Implies, Once, Historically, Eventually, Always}

-- the kinds of 01 with two operands: or, since and until, these with lower and upper
pub data Binary : Type 0 where
  either : Binary
  back ahead : ℕ → ℕ → Binary

pub data Expression : Type 0 where
  -- the number of a subformula
  operand : ℕ → Expression
  true' : Expression
  proposition' : ℕ → Expression
  not' : Expression → Expression
  binary : Binary → Expression → Expression → Expression

abbrev pub or' : Expression → Expression → Expression
or' = binary either

abbrev pub since' : Expression → Expression → ℕ → ℕ → Expression
since' x y lower upper = binary (back lower upper) x y

abbrev pub until' : Expression → Expression → ℕ → ℕ → Expression
until' x y lower upper = binary (ahead lower upper) x y

-- A kind of 01 stands for itself. 01: "a and b is not (not a or not b)"; 001, section 2: φ → ψ abbreviates (¬φ) ∨ ψ; 02: "once is "true since",
-- eventually is "true until", historically and always are not-once-not and not-eventually-not"
abbrev pub abbreviation : Formula → Expression
abbreviation True = true'
abbreviation (Proposition p) = proposition' p
abbreviation (Not i) = not' (operand i)
abbreviation (Or i j) = or' (operand i) (operand j)
abbreviation (Since i j lower upper) = since' (operand i) (operand j) lower upper
abbreviation (Until i j lower upper) = until' (operand i) (operand j) lower upper
abbreviation (And i j) = not' (or' (not' (operand i)) (not' (operand j)))
abbreviation (Implies i j) = or' (not' (operand i)) (operand j)
abbreviation (Once i lower upper) = since' true' (operand i) lower upper
abbreviation (Historically i lower upper) = not' (since' true' (not' (operand i)) lower upper)
abbreviation (Eventually i lower upper) = until' true' (operand i) lower upper
abbreviation (Always i lower upper) = not' (until' true' (not' (operand i)) lower upper)

-- an expression with a line of its own: no bare operand
abbrev pub Own : Expression → Type 0
Own (operand i) = ⊥
Own true' = Unit
Own (proposition' p) = Unit
Own (not' x) = Unit
Own (binary k x y) = Unit

-- P holds of each leaf
abbrev pub Leaves : (ℕ → Type 0) → Expression → Type 0
Leaves P (operand i) = P i
Leaves P true' = Unit
Leaves P (proposition' p) = Unit
Leaves P (not' x) = Leaves P x
Leaves P (binary k x y) = Leaves P x × Leaves P y
