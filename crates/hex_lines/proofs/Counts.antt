-- A line has a byte for every three characters, the last of which a last byte need not have. Assumes nothing.
use Rattle.std.proofs.Common.{◌≡◌, ℕ, ◌+◌, ◌/◌, List, [], ◌∷◌, length, refl, arith}
use Rattle.hex_lines.specs.Hex.{bytes_of}

pub length-bytes_of : (line : List ℕ) → length (bytes_of line) ≡ (length line + 1) / 3
length-bytes_of [] = refl
length-bytes_of (_ ∷ []) = refl
length-bytes_of (_ ∷ _ ∷ []) = refl
length-bytes_of (_ ∷ _ ∷ _ ∷ rest) = omega (arith, length-bytes_of rest)
