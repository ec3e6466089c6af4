-- What the reach of a line is made from, where the reaches of the lines before it stand in a list.
use Rattle.std.specs.Prelude.{ℕ, ◌+◌, ◌≤◌, ◌<◌, List, get_or}
use Rattle.mtl.specs.declared.Formula.{Formula}
use Rattle.mtl.specs.Syntax.{Operands, Bounded}

-- its operands are lines of the list, and to their reaches an interval may be added in 16 bits
pub record Workable (reaches : List ℕ) (φ : Formula) : Type 0 where
  pub bounded : Bounded 1023 φ
  pub operands : Operands (λ i. (i < 64) × (get_or reaches i 0 + 1023 ≤ 65535)) φ
