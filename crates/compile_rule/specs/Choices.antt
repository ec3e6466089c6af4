-- Choices, digits, and what is worked out of a list's numbers one by one.
use Rattle.std.specs.Prelude.{ℕ, Bool, true, false, ◌&&◌, List, [], ◌∷◌, leb}

unfoldable pub choose : {A : Type 0} → Bool → A → A → A
choose true x y = x
choose false x y = y

-- "0" to "9"
unfoldable pub digit : ℕ → Bool
digit c = leb 48 c && leb c 57

-- from the first number on
abbrev pub run : {A : Type 0} → (A → ℕ → A) → A → List ℕ → A
run f a [] = a
run f a (x ∷ xs) = run f (f a x) xs
