-- What it is to decide a claim.
use Rattle.std.specs.Prelude.{◌≡◌, Bool, true, ℕ, ◌≤◌, ◌<◌}

-- the test is true exactly where the claim holds
pub record Decides (b : Bool) (P : Type 0) : Type 0 where
  pub sound : b ≡ true → P
  pub whole : P → b ≡ true

-- the claim holds somewhere from lo up to hi
pub record Somewhere (lo hi : ℕ) (P : ℕ → Type 0) : Type 0 where
  pub at : ℕ
  pub from : lo ≤ at
  pub under : at < hi
  pub there : P at
