-- A word of 32 digits has none past place 32, and below that 1 << k is 2 ^ k. Assumes nothing.
use mathlib.Core.Path.{sym, ap}
use Prim.Native.Nat.{ℕ, ◌^◌, ◌≤◌}
use native.Mathlib.Omega.{arith}
use lib.Dec.{ltb}
use lib.Pow.{pow_mono}
use borrow.Author.Tests.{lt-ltb}
use Rattle.bits.proofs.Places.{weight}
use Rattle.message_codec.proofs.fits_below.Goals as goal

pub returns-then-k-ge-NAMES : goal.returns-then-k-ge-NAMES
returns-then-k-ge-NAMES c = let l : 32 ≤ c.args.k = c.if-k-ge-NAMES.true in sym (lt-ltb c.args.word (2 ^ c.args.k) (omega (arith, pow_mono {i = 32} l, c.ranges.word.fits)))

pub returns : goal.returns
returns c = ap (λ (x : ℕ). ltb c.args.word x) (weight c.args.k c.if-k-ge-NAMES.false)
