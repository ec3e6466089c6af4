-- The lines that the printing program puts (01: "minute, rule number, kept or broken", "taken N refused N", "card refused N at P").
use Rattle.std.specs.Prelude.{◌≡◌, ℕ, ◌+◌, ◌<◌, ◌≤◌, ◌⊎◌, List, length, None, Some, Option}

-- a line's text is known, and with its newline it fits in the 64 bytes for which room is made
abbrev pub LineFits : Option (List ℕ) → Type 0
LineFits None = ⊥
LineFits (Some bs) = length bs + 1 ≤ 64

-- a text goes whole into one piece: behind what is there or, where that is full, to the start of the next
abbrev pub PutWhole : ℕ → List ℕ → ℕ → Type 0
PutWhole at bs end = (end ≡ at + length bs) ⊎ ((at ≡ 65536) × (0 < length bs) × (end ≡ length bs))
