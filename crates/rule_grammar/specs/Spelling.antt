-- Which bytes are a numeral: "0", or a digit that isn't "0" and then any digits.
use Rattle.std.specs.Prelude.{ℕ, ◌≡◌, List, ◌∷◌}

-- the first digit is "0" only in "0"
pub record Led (n : ℕ) (u : List ℕ) : Type 0 where
  pub first : ℕ
  pub rest : List ℕ
  pub is : u ≡ first ∷ rest
  pub zero_only : first ≡ 48 → n ≡ 0
