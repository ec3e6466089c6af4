-- 01: "Before minute 0, e and every line are false." A since's range starts at minute 0 and not before. That is the same: with n minutes put
-- before minute 0 at which everything is false, so many that no range reaches back past them, every since reads as it does without them.
use Prim.Native.Nat.{ℕ, ◌-◌}
use Rattle.std.specs.Prelude.{true, cond, ltb}
use Rattle.kleene.specs.Truth.{Truth, false3}
use Rattle.mtl.specs.Algebra.{three}
use Rattle.mtl.specs.Reading.{World, seen, point}

-- f after n minutes at which it is false
unfoldable pub later : ℕ → (ℕ → Truth) → ℕ → Truth
later n f t = cond (ltb t n) false3 (f (t - n))

-- the world, as its window shows it, after n such minutes
abbrev pub put_before : ℕ → World Truth → World Truth
put_before n w = record { time_point = later n (point three w); proposition = λ p. later n (λ t. seen w t (w.proposition p t)); window = λ _. true; outside = w.outside }
