-- The walk over a map's set places, lowest first, as code does it by trailing zeros. Assumes nothing.
use Rattle.std.specs.Prelude.{◌≡◌, ℕ, suc, ◌-◌, ◌^◌, ◌≤◌, ◌<◌}
use Rattle.bits.specs.Digits.{digit}

-- what a walk makes up to a place: the map's clear places leave it as it is
abbrev pub Steady : ℕ → (ℕ → ℕ) → Type 0
Steady map f = (k : ℕ) → digit map k ≡ 0 → f (suc k) ≡ f k

-- the walk stands at a place: `rest` has the map's bits from there on, and no others
pub record Ahead (map rest place : ℕ) : Type 0 where
  pub within : place ≤ 32
  pub low : (k : ℕ) → k < place → digit rest k ≡ 0
  pub high : (k : ℕ) → place ≤ k → digit rest k ≡ digit map k

-- the lowest place ahead: what is made so far is made up to there, and its weight taken off leaves the places above it
pub record Lowest (map rest place t : ℕ) : Type 0 where
  pub inside : t < 32
  pub set : digit map t ≡ 1
  pub weight_in : 2 ^ t ≤ rest
  pub kept : (f : ℕ → ℕ) → Steady map f → f t ≡ f place
  pub next : Ahead map (rest - 2 ^ t) (suc t)
