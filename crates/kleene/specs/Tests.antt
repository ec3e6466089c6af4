-- A value by two tests, of whether it is true and of whether it is false. Assumes nothing.
use Rattle.std.specs.Prelude.{Bool, cond, ℕ}
use Rattle.kleene.specs.Truth.{Truth, unknown, true3, false3, not3}

-- the code of a value that is known
abbrev pub known_code : Bool → ℕ
known_code b = cond b 1 2

-- x, or not x where it is negated
abbrev pub literal : Bool → Truth → Truth
literal negated x = cond negated (not3 x) x

-- true, false, and neither
unfoldable pub says : Bool → Bool → Truth
says t f = cond t true3 (cond f false3 unknown)
