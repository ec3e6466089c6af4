-- A format as data: how many bytes each of its fields takes. "A bit map, then only the fields whose bit stands": field k has bit k of the map,
-- and the fields stand in the order of their bits.
use Rattle.std.specs.Prelude.{ℕ, zero, suc, ◌+◌, ◌*◌, ◌^◌, ◌<◌, ◌≡◌, true, cond, ◌↔◌, ◌≢◌, List, get_or, length}
use Rattle.encoding.specs.Fields.{has, size, word_of, long_of}

-- how many bytes field k takes where it is written
abbrev pub width : List ℕ → ℕ → ℕ
width ws k = get_or ws k 0

-- ---- what is read

-- where field k starts, the map standing at a place: after the map and the fields before it whose bit stands
abbrev pub start : List ℕ → ℕ → ℕ → ℕ → ℕ
start ws map at zero = at + 1
start ws map at (suc k) = start ws map at k + size (has map k) (width ws k)

-- how many bytes the map and its fields take
abbrev pub extent : List ℕ → ℕ → ℕ
extent ws map = start ws map 0 (length ws)

-- "Multi-byte fields are little-endian, unsigned": the number in 1, 2 or 4 bytes at a place
abbrev pub value_at : List ℕ → ℕ → ℕ → ℕ
value_at s at zero = 0
value_at s at (suc zero) = get_or s at 0
value_at s at (suc (suc zero)) = word_of (get_or s at 0) (get_or s (at + 1) 0)
value_at s at (suc (suc (suc w))) = long_of (get_or s at 0) (get_or s (at + 1) 0) (get_or s (at + 2) 0) (get_or s (at + 3) 0)

-- the number in n bytes at a place, the lowest byte first
abbrev pub bytes_at : List ℕ → ℕ → ℕ → ℕ
bytes_at s at zero = 0
bytes_at s at (suc n) = bytes_at s at n + get_or s (at + n) 0 * 256 ^ n

-- "An absent field is 0": field k of what stands at a place
abbrev pub field : List ℕ → List ℕ → ℕ → ℕ → ℕ
field ws s at k = cond (has (get_or s at 0) k) (value_at s (start ws (get_or s at 0) at k) (width ws k)) 0

-- ---- what is written, as a claim on numbers

-- a number that is not 0 takes its bytes, and 0 takes none
abbrev pub takes : ℕ → ℕ → ℕ
takes zero w = 0
takes (suc n) w = w

-- where the number of field k starts, the fields having these numbers
abbrev pub follows : List ℕ → (ℕ → ℕ) → ℕ → ℕ → ℕ
follows ws v at zero = at + 1
follows ws v at (suc k) = follows ws v at k + takes (v k) (width ws k)

-- the numbers stand at a place as the format lays them out: the map's bits name just those that are not 0, "an absent field is 0, and a written
-- field is not 0", and each of these stands after those before it
pub record Laid (ws s : List ℕ) (at : ℕ) (v : ℕ → ℕ) : Type 0 where
  pub bits : (k : ℕ) → k < length ws → (has (get_or s at 0) k ≡ true) ↔ (v k ≢ 0)
  pub bytes : (k : ℕ) → k < length ws → v k ≢ 0 → value_at s (follows ws v at k) (width ws k) ≡ v k
