-- Kleene's three truth values, with the operations of Table 1 of source document 001.
use Rattle.std.specs.Prelude.{ℕ, zero, suc}

pub data Truth : Type 0 where
  unknown true3 false3 : Truth

-- Table 1, not
abbrev pub not3 : Truth → Truth
not3 unknown = unknown
not3 true3 = false3
not3 false3 = true3

-- Table 1, or: nine answers
abbrev pub or3 : Truth → Truth → Truth
or3 unknown unknown = unknown
or3 unknown true3 = true3
or3 unknown false3 = unknown
or3 true3 unknown = true3
or3 true3 true3 = true3
or3 true3 false3 = true3
or3 false3 unknown = unknown
or3 false3 true3 = true3
or3 false3 false3 = false3

-- a and b is not (not a or not b)
abbrev pub and3 : Truth → Truth → Truth
and3 x y = not3 (or3 (not3 x) (not3 y))

-- a implies b is not a or b
abbrev pub implies3 : Truth → Truth → Truth
implies3 x y = or3 (not3 x) y

-- 0 unknown, 1 true, 2 false
abbrev pub code_of : Truth → ℕ
code_of unknown = 0
code_of true3 = 1
code_of false3 = 2

-- a code above 2 reads as unknown
abbrev pub value_of : ℕ → Truth
value_of zero = unknown
value_of (suc zero) = true3
value_of (suc (suc zero)) = false3
value_of (suc (suc (suc n))) = unknown

-- The order of knowledge (001, section 2): unknown is below every value, and every value is below itself
infix 40 ◌⊑◌
pub data ◌⊑◌ : Truth → Truth → Type 0 where
  less : {y : Truth} → unknown ⊑ y
  same : {x : Truth} → x ⊑ x
