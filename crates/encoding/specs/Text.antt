-- 02, request 3: "write the card or slip with only its non-zero fields". The numbers of a format as bytes; Texts shows that they stand in them as
-- Layout lays them out, and in no other bytes.
use Rattle.std.specs.Prelude.{ℕ, zero, suc, ◌+◌, ◌/◌, ◌%◌, ◌^◌, ◌<◌, ◌≡◌, Bool, cond, List, [], ◌∷◌, ◌++◌, get_or, length}
use Rattle.encoding.specs.Layout.{width, takes}

-- "Multi-byte fields are little-endian, unsigned": the w bytes of a number, the lowest first
abbrev pub bytes_of : ℕ → ℕ → List ℕ
bytes_of zero n = []
bytes_of (suc w) n = n % 256 ∷ bytes_of w (n / 256)

-- "An absent field is 0, and a written field is not 0": a field of w bytes
abbrev pub field_text : ℕ → ℕ → List ℕ
field_text w zero = []
field_text w (suc n) = bytes_of w (suc n)

-- the first k fields, in the order of their bits
abbrev pub fields_text : List ℕ → (ℕ → ℕ) → ℕ → List ℕ
fields_text ws v zero = []
fields_text ws v (suc k) = fields_text ws v k ++ field_text (width ws k) (v k)

-- the map's bits of the first k fields: those that are written
abbrev pub bits_of : (ℕ → ℕ) → ℕ → ℕ
bits_of v zero = 0
bits_of v (suc k) = bits_of v k + takes (v k) (2 ^ k)

-- "A bit map, then only the fields whose bit stands": the bit behind those of the fields is a flag (a line's rule, a message's alive), and those
-- behind it are 0
abbrev pub text : List ℕ → (ℕ → ℕ) → Bool → List ℕ
text ws v flag = (bits_of v (length ws) + cond flag (2 ^ length ws) 0) ∷ fields_text ws v (length ws)

-- a list of bytes
abbrev pub ByteString : List ℕ → Type 0
ByteString s = (i : ℕ) → get_or s i 0 < 256

-- these bytes stand in s from a place on
abbrev pub Stands : List ℕ → ℕ → List ℕ → Type 0
Stands s at t = (i : ℕ) → i < length t → get_or s (at + i) 0 ≡ get_or t i 0
