-- Laws of the two formats that docs/PROVING.md names and no proof cites today. They stand in the highest crate, so that nothing is proved again for
-- them. Assumes nothing.
use Rattle.std.proofs.Common.{◌≡◌, ℕ, ◌+◌, ◌≤◌, Bool, true, false, cond, refl, arith}
use mathlib.Core.Bool.{false≢true}
use Rattle.encoding.specs.Fields.{size}

-- a field that is present has its bytes
pub fits : (present : Bool) (at n len : ℕ) → present ≡ true → at + size present n ≤ len → at + n ≤ len
fits true at n len e h = h
fits false at n len e h = absurd (false≢true e)

-- and what was read of it is its value
pub its : (present : Bool) (v : ℕ) → present ≡ true → v ≡ cond present v 0
its true v e = refl
its false v e = absurd (false≢true e)

-- none of four kinds is a later one
pub later : (n k : ℕ) → n ≤ k → (k ≡ n → ⊥) → (k ≡ n + 1 → ⊥) → (k ≡ n + 2 → ⊥) → (k ≡ n + 3 → ⊥) → n + 4 ≤ k
later n k h a b c d = omega arith
