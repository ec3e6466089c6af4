-- The verdicts of one rule, as its row is written.
use Rattle.std.specs.Prelude.{ℕ, ◌≡◌, cond, List, eqb, get_or, length}
use Rattle.rows.specs.Over.{Over}
use Rattle.valuation.specs.Sheets.{standing}

-- the value where the minute's code says that it is a time point, and blank elsewhere
abbrev pub verdict_code : ℕ → ℕ → ℕ
verdict_code point value = cond (eqb point 1) value 0

-- "The non-blank cells", of one cell
abbrev pub one_stands : ℕ → ℕ
one_stands v = cond (eqb v 0) 0 1

-- the whole row is written, and the total is of what stands in it
pub record VerdictRow (points row old new : List ℕ) (total : ℕ) : Type 0 where
  pub written : Over (λ t. verdict_code (get_or points t 0) (get_or row t 0)) 0 (length old) old new
  pub counted : total ≡ standing new
