-- The numbers keep the row of their kind exactly when they are a line of 01, and then its operands, mark and interval are as 01 says: row by row.
-- Assumes nothing.
use Prim.Native.Nat.{ℕ, ◌≤◌, ◌<◌}
use Rattle.std.specs.Prelude.{◌≡◌, Bool, true, ◌||◌, ◌&&◌, eqb, length}
use Rattle.mtl.specs.declared.Formula.{Formula}
use Rattle.policy.specs.declared.Kind.{Kind}
use Rattle.policy.specs.Format.{kinds, kind_of, operands_good, meaning}

-- a field that the kind doesn't allow is 0
abbrev pub zeros : Kind → ℕ → ℕ → ℕ → ℕ → Bool
zeros k a b lower upper = (k.first || eqb a 0) && ((k.second || eqb b 0) && ((k.lower || eqb lower 0) && (k.upper || eqb upper 0)))

-- the numbers keep the row of their kind
pub record Keeps (propositions i kind a b lower upper : ℕ) (x : Formula) : Type 0 where
  pub known : kind < length kinds
  pub zero_else : zeros (kind_of kind) a b lower upper ≡ true
  pub operands : operands_good (kind_of kind).operands propositions i a b ≡ true
  pub ordered : lower ≤ upper
  pub bounded : upper ≤ 1023
  pub means : x ≡ meaning kind a b lower upper
