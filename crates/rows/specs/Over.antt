-- A row written over.
use Rattle.std.specs.Prelude.{◌≡◌, List, ℕ, ◌≤◌, ◌<◌, length, get_or}

-- the cells from lo up to hi are F's now, and the others are as they were
pub record Over (F : ℕ → ℕ) (lo hi : ℕ) (old new : List ℕ) : Type 0 where
  pub long : length new ≡ length old
  pub inside : (i : ℕ) → lo ≤ i → i < hi → get_or new i 0 ≡ F i
  pub below : (i : ℕ) → i < lo → get_or new i 0 ≡ get_or old i 0
  pub above : (i : ℕ) → hi ≤ i → get_or new i 0 ≡ get_or old i 0
