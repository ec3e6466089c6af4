-- The order of truth, false < unknown < true: Kleene's or is the greater of two values, and the lesser, not turns the order round.
use Rattle.std.specs.Prelude.{ℕ}
use Rattle.kleene.specs.Truth.{Truth, unknown, true3, false3}

-- a value's place in the order
unfoldable pub rank_of : Truth → ℕ
rank_of false3 = 0
rank_of unknown = 1
rank_of true3 = 2
