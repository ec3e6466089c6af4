-- What a line of hexadecimal holds.
use Rattle.std.specs.Prelude.{ℕ, ◌+◌, ◌-◌, ◌*◌, ◌%◌, nat_lt, if◌then◌else◌, List, [], ◌∷◌}

-- the value of a digit
abbrev pub digit_of : ℕ → ℕ
digit_of c = if nat_lt c 65 then c % 16 else (c - 65 + 10) % 16

-- the byte of two digits
abbrev pub byte_of : ℕ → ℕ → ℕ
byte_of high low = digit_of high * 16 + digit_of low

-- the bytes of a line: two digits each and what stands behind them, which a last byte need not have
abbrev pub bytes_of : List ℕ → List ℕ
bytes_of [] = []
bytes_of (_ ∷ []) = []
bytes_of (high ∷ low ∷ []) = byte_of high low ∷ []
bytes_of (high ∷ low ∷ _ ∷ rest) = byte_of high low ∷ bytes_of rest
