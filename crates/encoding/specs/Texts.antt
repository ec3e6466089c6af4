-- The bytes that are written are the layout of their numbers, and where numbers are laid out stand just these bytes. Assumes nothing.
use Rattle.std.specs.Prelude.{ℕ, ◌^◌, ◌<◌, List, length}
use Rattle.encoding.specs.Layout.{width}

-- ---- one number

-- the widths that a format has
pub data Width : ℕ → Type 0 where
  one : Width 1
  two : Width 2
  four : Width 4

-- numbers that their fields can hold
abbrev pub Holds : List ℕ → (ℕ → ℕ) → Type 0
Holds ws v = (k : ℕ) → k < length ws → v k < 256 ^ width ws k
