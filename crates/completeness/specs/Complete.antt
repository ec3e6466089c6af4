-- 02, request 8: "if every minute is known busy or quiet and every mark is known at every busy minute, then each busy minute t with t + reach below M has a
-- verdict."
use Rattle.std.specs.Prelude.{ℕ, ◌+◌, ◌<◌, ◌≡◌, true, ◌⊎◌, ◌≢◌}
use Rattle.mtl.specs.declared.Formula.TheVariants.{Proposition}
use Rattle.policy.specs.declared.Sizes.{Sizes}
use Rattle.policy.specs.declared.Policy.{Policy}
use Rattle.policy.specs.Proper.{formula_at}
use Rattle.knowledge.specs.Knowledge.{Knowledge, noted, KnownPoint, KnownNone}
use Rattle.valuation.specs.Sheets.{verdict}
use Rattle.reach.specs.Reaches.{rule_reach}

-- The premise, where of the propositions (01: marks) those of P are known
pub record Complete (z : Sizes) (P : ℕ → Type 0) (k : Knowledge) : Type 0 where
  -- "every minute is known busy or quiet"
  pub minutes : (t : ℕ) → t < z.minutes → KnownPoint z k t ⊎ KnownNone z k t
  -- "and every mark is known at every busy minute"
  pub propositions : (i t : ℕ) → i < z.propositions → P i → t < z.minutes → KnownPoint z k t → noted k i t ≡ true

-- "every mark"
abbrev pub Every : ℕ → Type 0
Every i = Unit

-- only those that lines of the policy name
pub record Named (p : Policy) (i : ℕ) : Type 0 where
  pub line : ℕ
  pub is_line : line < p.count
  pub names : formula_at p line ≡ Proposition i

-- "each busy minute t with t + reach below M has a verdict", of every rule
abbrev pub NoBlanks : Policy → Knowledge → Type 0
NoBlanks p k = (r t : ℕ) → r < p.rules → KnownPoint p.sizes k t → t + rule_reach p r < p.sizes.minutes → verdict p k r t ≢ 0
