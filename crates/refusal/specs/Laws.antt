-- The one law of checks: refusal r is answered exactly when its test fails and every test before it passes, and the call goes on exactly when
-- none fails.
use Rattle.std.specs.Prelude.{ℕ, Bool, false, ◌||◌, List, [], ◌∷◌, eqb}
use Rattle.refusal.specs.Numbers.{refusal_number}
use Rattle.refusal.specs.Checks.{Check}

-- ---- which numbers a list answers

-- some check of the list has the number
abbrev pub numbered : List Check → ℕ → Bool
numbered [] n = false
numbered (c ∷ cs) n = eqb (refusal_number c.refusal) n || numbered cs n
