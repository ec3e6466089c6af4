-- 02, request 5, "One record, one card": which card a record was opened under.
use Rattle.std.specs.Prelude.{ℕ, ◌-◌, ◌≤◌, ◌<◌, ◌≡◌, Bool, true, false, ◌&&◌, List, [], ◌∷◌, ◌++◌, eqb, get_or, length, replicate}

-- "The record gains a lent buffer of 517 bytes holding the card's bytes, then zeros, and one number with the card's length."
pub record Origin : Type 0 where
  pub bytes : List ℕ
  pub extent : ℕ

-- the lent cells as an origin
abbrev pub stamped : List ℕ → ℕ → Origin
stamped bytes extent = record { bytes = bytes; extent = extent }

-- what opening a card writes
abbrev pub origin_of : List ℕ → Origin
origin_of s = stamped (s ++ replicate (517 - length s) 0) (length s)

-- ---- 12, "when the stored length or any of the 517 bytes isn't what opening that card writes", as a test

abbrev pub same_bytes : List ℕ → List ℕ → Bool
same_bytes [] [] = true
same_bytes [] (y ∷ ys) = false
same_bytes (x ∷ xs) [] = false
same_bytes (x ∷ xs) (y ∷ ys) = eqb x y && same_bytes xs ys

unfoldable pub opened_under : List ℕ → Origin → Bool
opened_under s o = eqb o.extent (origin_of s).extent && same_bytes o.bytes (origin_of s).bytes

-- ---- the same in words

-- "holding the card's bytes"
abbrev pub Starts : List ℕ → List ℕ → Type 0
Starts s bytes = (i : ℕ) → i < length s → get_or bytes i 0 ≡ get_or s i 0

-- "then zeros"
abbrev pub ZeroFrom : ℕ → List ℕ → Type 0
ZeroFrom n bytes = (i : ℕ) → n ≤ i → i < length bytes → get_or bytes i 0 ≡ 0

-- "a lent buffer of 517 bytes holding the card's bytes, then zeros, and one number with the card's length"
pub record HoldsCard (s : List ℕ) (o : Origin) : Type 0 where
  pub long : length o.bytes ≡ 517
  pub bytes : Starts s o.bytes
  pub rest : ZeroFrom (length s) o.bytes
  pub extent : o.extent ≡ length s
