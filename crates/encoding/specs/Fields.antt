-- "Multi-byte fields are little-endian, unsigned." "A bit map, then only the fields whose bit stands." "An absent field is 0, and a
-- written field is not 0."
use Rattle.std.specs.Prelude.{ℕ, ◌+◌, ◌*◌, ◌/◌, ◌%◌, ◌^◌, Bool, not, cond, ◌||◌, List, get_or, eqb}

-- does bit k of the map stand
abbrev pub has : ℕ → ℕ → Bool
has map k = eqb (map / 2 ^ k % 2) 1

-- how many bytes a field of n bytes takes
abbrev pub size : Bool → ℕ → ℕ
size present n = cond present n 0

-- the lower byte first
abbrev pub word_of : ℕ → ℕ → ℕ
word_of a b = a + b * 256

abbrev pub long_of : ℕ → ℕ → ℕ → ℕ → ℕ
long_of a b c d = word_of a b + word_of c d * 65536

-- the field of 1, 2 or 4 bytes that starts at a place, as the message's format still writes it; `field` of Layout says it for any format
abbrev pub field8 : List ℕ → Bool → ℕ → ℕ
field8 s present at = cond present (get_or s at 0) 0

-- a written field is not 0
abbrev pub written : Bool → ℕ → Bool
written present value = not present || not (eqb value 0)
