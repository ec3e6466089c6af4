-- The binary digits of a number, lowest first, from place 0 on.
use Rattle.std.specs.Prelude.{ℕ, zero, suc, ◌+◌, ◌*◌, ◌/◌, ◌%◌, ◌^◌}

-- the digit at place k, 0 or 1
unfoldable pub digit : ℕ → ℕ → ℕ
digit n k = n / 2 ^ k % 2

-- how many bits are set below place k
unfoldable pub below : ℕ → ℕ → ℕ
below zero n = 0
below (suc k) n = below k n + digit n k

-- the bits below place k of the values expanded to the map's places: a set place of the map has the next packed digit
unfoldable pub expanded : ℕ → ℕ → ℕ → ℕ
expanded zero map v = 0
expanded (suc k) map v = expanded k map v + digit map k * digit v (below k map) * 2 ^ k

-- the way back: the values' digits at the map's places below k, packed one after another
unfoldable pub gathered : ℕ → ℕ → ℕ → ℕ
gathered zero map v = 0
gathered (suc k) map v = gathered k map v + digit map k * digit v k * 2 ^ below k map
