-- So many numbers are read, and left out of what is still to be read. Assumes nothing.
use Rattle.std.proofs.Common.{◌≡◌, ℕ, ◌*◌, ◌<◌, drop, get_or}
use Rattle.hex_lines.specs.Hex.{bytes_of}
use Rattle.hex_lines.proofs.Bytes.fill.Given as goal

abbrev pub invariant-loop-number : goal.invariant-loop-number
invariant-loop-number g l =
    ((k : ℕ) (x : _) → k < l.number-index → get_or l.out k x ≡ g.T.Number.first (drop (k * g.T.Number.width) (bytes_of l.fn.self.rest.now)))
    × (bytes_of l.self.rest.now ≡ drop (l.number-index * g.T.Number.width) (bytes_of l.fn.self.rest.now))
