-- Where every minute is known to be a time point or none, and the propositions are known at the time points, a line is decided at each time point from
-- which its reach stays below the end. By induction on the line: a since looks back, where everything is known; an until looks at most upper minutes ahead,
-- and its operands from there. What a line is at other minutes counts for nothing, since e lets only time points through.
use Rattle.std.specs.Prelude.{ℕ, ◌+◌, ◌<◌, ◌≡◌, true}
use Rattle.kleene.specs.Truth.{Truth, true3, false3}
use Rattle.mtl.specs.Abbreviations.{Expression, operand, true', proposition', not', binary}
use Rattle.mtl.specs.Algebra.{three}
use Rattle.mtl.specs.Reading.{World, point}

-- the value is not unknown
pub data Decided : Truth → Type 0 where
  it_is : Decided true3
  it_is_not : Decided false3

-- the propositions that an expression names
abbrev pub Atoms : (ℕ → Type 0) → Expression → Type 0
Atoms P (operand i) = Unit
Atoms P true' = Unit
Atoms P (proposition' p) = P p
Atoms P (not' x) = Atoms P x
Atoms P (binary k x y) = Atoms P x × Atoms P y

-- The first m minutes are seen, and each is known to be a time point or none; at the time points the propositions of P are known
pub record CompleteWorld (w : World Truth) (m : ℕ) (P : ℕ → Type 0) : Type 0 where
  pub seen_all : (t : ℕ) → t < m → w.window t ≡ true
  pub points : (t : ℕ) → t < m → Decided (w.time_point t)
  pub propositions : (p t : ℕ) → P p → t < m → w.time_point t ≡ true3 → Decided (w.proposition p t)

module _ (w : World Truth) (m : ℕ) (P : ℕ → Type 0) (c : CompleteWorld w m P) where
  -- α is decided at each time point from which r minutes ahead are below m
  abbrev pub Within : ℕ → (ℕ → Truth) → Type 0
  Within r α = (t : ℕ) → t + r < m → point three w t ≡ true3 → Decided (α t)
