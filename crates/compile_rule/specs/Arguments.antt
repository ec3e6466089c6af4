-- A number that is typed in decimal, as an argument.
use Rattle.std.specs.Prelude.{ℕ, ◌+◌, ◌*◌, ◌%◌, Bool, ◌&&◌, List, Option, None, Some, ltb, length}
use Rattle.compile_rule.specs.Choices.{choose, digit, run}

-- no size comes near a million: a larger number counts as that one
unfoldable pub with_digit : ℕ → ℕ → ℕ
with_digit value c = choose (ltb (value * 10 + c % 16) 1000000) (value * 10 + c % 16) 1000000

abbrev pub all_digits : Bool → ℕ → Bool
all_digits whole c = whole && digit c

-- none where there is no byte, or another than a digit
unfoldable pub number : List ℕ → Option ℕ
number digits = choose (run all_digits (ltb 0 (length digits)) digits) (Some (run with_digit 0 digits)) None
