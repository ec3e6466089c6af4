-- The reach of a line is made of those of earlier lines, is that of its abbreviation, and stays in 16 bits. Assumes nothing.
use Prim.Native.Nat.{ℕ, ◌+◌, max}
use Rattle.mtl.specs.Abbreviations.{Binary, either, back, ahead, Expression, operand, true', proposition', not', binary}

-- ---- the reach of an expression: of the six kinds of 01 only until looks ahead

abbrev pub ahead_of : Binary → ℕ
ahead_of either = 0
ahead_of (back lower upper) = 0
ahead_of (ahead lower upper) = upper

abbrev pub expression_reach : (ℕ → ℕ) → Expression → ℕ
expression_reach r (operand i) = r i
expression_reach r true' = 0
expression_reach r (proposition' p) = 0
expression_reach r (not' x) = expression_reach r x
expression_reach r (binary k x y) = max (expression_reach r x) (expression_reach r y) + ahead_of k
