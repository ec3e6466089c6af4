-- Decimal numerals, without leading zeros.
use Rattle.std.specs.Prelude.{ℕ, zero, suc, ◌+◌, ◌-◌, ◌*◌, ◌/◌, ◌%◌, ◌≡◌, Bool, true, false, ◌&&◌, List, [], ◌∷◌, ◌++◌, ltb, leb}
use Prim.Native.Char.{code}

-- n in decimal; more than n digits are never wanted, so d > n is room enough
unfoldable pub decimal : ℕ → ℕ → List ℕ
decimal zero n = []
decimal (suc d) n = elim (ltb n 10) [ true ↦ (48 + n) ∷ [] | false ↦ decimal d (n / 10) ++ ((48 + n % 10) ∷ []) ]

abbrev pub digits : ℕ → List ℕ
digits n = decimal (suc n) n

-- "0" to "9"
abbrev pub digit : ℕ → Bool
digit c = leb (code "0") c && leb c (code "9")

-- the text goes on with no digit: it ends, or another byte follows
abbrev pub Calm : List ℕ → Type 0
Calm [] = Unit
Calm (c ∷ u) = digit c ≡ false

abbrev pub Digits : List ℕ → Type 0
Digits [] = Unit
Digits (c ∷ u) = (digit c ≡ true) × Digits u

abbrev pub value : ℕ → List ℕ → ℕ
value v [] = v
value v (c ∷ u) = value (10 * v + (c - 48)) u
