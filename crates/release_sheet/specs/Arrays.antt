-- The sizes of the arrays that the printing program holds, those of the largest policy (01: the largest record), and the parts that a policy needs of them.
use Rattle.std.specs.Prelude.{◌≡◌, ℕ, ◌*◌, ◌≤◌, List, length}
use Rattle.release_sheet.specs.declared.parts.Parts.{Parts}

-- 16 components of 1,025 numbers, two facts for each of 1,024 minutes, 64 rows of the valuation and 8 of the verdicts, and the longest policy
pub record Largest (n f v d o : List ℕ) : Type 0 where
  pub numbers : length n ≡ 16400
  pub facts : length f ≡ 2048
  pub valuation : length v ≡ 65536
  pub verdicts : length d ≡ 8192
  pub origin : length o ≡ 517

-- the parts lie within the arrays, and the verdicts are one row of minutes for each rule
pub record Fits (p : Parts) : Type 0 where
  pub numbers : p.numbers ≤ 16400
  pub facts : p.facts ≤ 2048
  pub valuation : p.valuation ≤ 65536
  pub verdicts : p.rules * p.minutes ≤ 8192
  pub laid : p.verdicts ≡ p.rules * p.minutes
