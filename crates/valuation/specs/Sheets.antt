-- 01: the work sheet, "bytes, lines times M (0 unknown, 1 true, 2 false)", and the verdict sheet, "bytes, rules times M (0 blank, 1 kept,
-- 2 broken)", over a policy and some knowledge.
use Rattle.std.specs.Prelude.{ℕ, ◌+◌, ◌*◌, ◌/◌, ◌%◌, cond, List, [], ◌∷◌, eqb, get_or}
use Rattle.kleene.specs.Truth.{Truth, code_of}
use Rattle.rows.specs.Grid.{table}
use Rattle.mtl.specs.Algebra.{three}
use Rattle.mtl.specs.Reading.{reading}
use Rattle.policy.specs.declared.Policy.{Policy}
use Rattle.policy.specs.Proper.{formula_at, rules_of}
use Rattle.knowledge.specs.Knowledge.{Knowledge, is_point, world}

module _ (p : Policy) where
  -- the three-valued reading of subformula l over what is known
  abbrev pub value : Knowledge → ℕ → ℕ → Truth
  value k l t = reading three (world p.sizes k) (formula_at p) l t

  -- "Kept or broken at a minute exactly when that minute is known busy and the three-valued reading of the rule is true or false;
  -- otherwise blank": the code of rule r at minute t
  abbrev pub verdict : Knowledge → ℕ → ℕ → ℕ
  verdict k r t = cond (is_point p.sizes k t) (code_of (value k (get_or (rules_of p) r 0) t)) 0

  -- "Each line's minutes stand as one run in the work sheet"
  unfoldable pub valuation_of : Knowledge → List ℕ
  valuation_of k = table (p.count * p.sizes.minutes) (λ i. code_of (value k (i / p.sizes.minutes) (i % p.sizes.minutes)))

  unfoldable pub verdicts_of : Knowledge → List ℕ
  verdicts_of k = table (p.rules * p.sizes.minutes) (λ i. verdict k (i / p.sizes.minutes) (i % p.sizes.minutes))

-- "How many verdicts stand": the non-blank cells
unfoldable pub standing : List ℕ → ℕ
standing [] = 0
standing (v ∷ vs) = cond (eqb v 0) 0 1 + standing vs
