-- Rows of truth codes: what a run of the work sheet shows, and what a row is that was worked.
use Rattle.std.specs.Prelude.{ℕ, ◌+◌, ◌*◌, ◌≤◌, ◌<◌, ◌≡◌, Bool, List, get_or, length, take, drop}
use Rattle.kleene.specs.Truth.{Truth, code_of, value_of, true3}
use Rattle.kleene.specs.Tests.{literal}
use Rattle.mtl.specs.declared.Formula.{Formula}
use Rattle.mtl.specs.declared.Formula.TheVariants.{True, Proposition, Not, Or, Since, Until, And, Implies, Once, Historically, Eventually, Always}
use Rattle.mtl.specs.Syntax.{Operands, Proposes, Bounded}
use Rattle.policy.specs.declared.Sizes.{Sizes}
use Rattle.knowledge.specs.Knowledge.{Knowledge, point_known}

-- 01: minutes, 1 to 1,024, and the bounds of an interval, at most 1,023
abbrev pub most_minutes : ℕ
most_minutes = 1024

abbrev pub most_bound : ℕ
most_bound = 1023

-- the codes stand for f's values, and past the end both are unknown
abbrev pub Shows : List ℕ → (ℕ → Truth) → Type 0
Shows l f = (t : ℕ) → value_of (get_or l t 0) ≡ f t

-- the first m cells are the codes of f's values
abbrev pub Row : ℕ → (ℕ → Truth) → List ℕ → Type 0
Row m f r = (t : ℕ) → t < m → get_or r t 0 ≡ code_of (f t)

-- row i of those that stand one after another
abbrev pub run : ℕ → List ℕ → ℕ → List ℕ
run m l i = take m (drop (i * m) l)

-- each row that is there shows v's values of its subformula
abbrev pub Rows : ℕ → List ℕ → (ℕ → ℕ → Truth) → Type 0
Rows m l v = (i : ℕ) → i * m + m ≤ length l → Shows (run m l i) (v i)

-- the codes of "e(t)", as far as the window goes
abbrev pub Points : Sizes → Knowledge → List ℕ → Type 0
Points z k points = (t : ℕ) → t < z.minutes → get_or points t 0 ≡ code_of (point_known z k t)

-- "true since" and "true until" (02, request 6), of an operand or of its not: the left side is true as far as the m minutes go
pub record Unbroken (m : ℕ) (negated : Bool) (operand left right : ℕ → Truth) : Type 0 where
  pub held : (s : ℕ) → s < m → left s ≡ true3
  pub sought : (s : ℕ) → right s ≡ literal negated (operand s)

-- what any subformula's row is worked from
pub record Workable (z : Sizes) (φ : Formula) (p f l : List ℕ) : Type 0 where
  pub minutes : z.minutes ≤ most_minutes
  pub points : length p ≡ most_minutes
  pub facts : length f ≡ 2 * z.minutes
  pub operands : Operands (λ i. i * z.minutes + z.minutes ≤ length l) φ
  pub proposes : Proposes 32 φ
  pub bounded : Bounded most_bound φ
