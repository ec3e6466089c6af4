-- The two nearest known places of a minute: how many places stand from the one to the other, and that their numbers decide what any two say.
use Prim.Native.Nat.{ℕ, ◌-◌, ◌≤◌, ◌<◌, suc}
use Rattle.knowledge.specs.Knowledge.{none}

-- what R says of two known numbers it says of any two between them
abbrev pub Narrows : (ℕ → ℕ → ℕ → Type 0) → (ℕ → ℕ) → ℕ → Type 0
Narrows R f m = (i a b j : ℕ) → i ≤ a → a < b → b ≤ j → j ≤ m → f i < none → f a < none → f b < none → f j < none
    → R (f i) (f j) (j - i) → R (f a) (f b) (b - a)

-- what the test of a place decides
abbrev pub InReach : (ℕ → ℕ) → ℕ → ℕ → Type 0
InReach f t p = ((i : ℕ) → i < suc t → p < i → none ≤ f i) × ((i : ℕ) → i < p → t < i → none ≤ f i)
