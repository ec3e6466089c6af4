-- One small shift that pins the premise, the reach and the bound: complete, it has a verdict where t + reach is below M and a blank where it is M; with one
-- minute open, or its mark unknown at the busy minute, a blank. The mark is unknown at the quiet minutes, and a second mark, which no line names, everywhere.
use Rattle.std.specs.Prelude.{ℕ, ◌≡◌, true, false, List, [], ◌∷◌, ◌++◌, replicate}
use Rattle.mtl.specs.declared.Formula.{Formula}
use Rattle.mtl.specs.declared.Formula.TheVariants.{True, Proposition, Until}
use Rattle.policy.specs.declared.Sizes.{Sizes}
use Rattle.policy.specs.declared.Subformula.{Subformula}
use Rattle.policy.specs.declared.Policy.{Policy}
use Rattle.policy.specs.Format.{no_line}
use Rattle.knowledge.specs.Knowledge.{Knowledge, none}
use Rattle.valuation.specs.Sheets.{verdict}
use Rattle.reach.specs.Reaches.{rule_reach}
use Rattle.completeness.specs.Complete.{Complete, Every, Named}

-- two propositions, one component, four minutes; the rule is "mark 0 within the next minute"
abbrev pub sizes : Sizes
sizes = record { propositions = 2; components = 1; minutes = 4 }

abbrev pub line : Formula → Subformula
line φ = record { formula = φ; rule = false }

abbrev pub policy : Policy
policy = record {
  sizes = sizes;
  count = 3;
  rules = 1;
  subformulas = (line True ∷ line (Proposition 0) ∷ record { formula = Until 0 1 0 1; rule = true } ∷ []) ++ replicate 61 no_line;
}

-- a place that is not known
abbrev pub u : ℕ
u = none

abbrev record_of : List ℕ → List ℕ → Knowledge
record_of numbers facts = record { numbers = numbers; facts = facts }

-- one observation, at minute 2 or at minute 3, with mark 0 false; the other minutes are quiet
abbrev pub at_2 : Knowledge
at_2 = record_of (0 ∷ u ∷ 0 ∷ 1 ∷ 1 ∷ []) (0 ∷ 0 ∷ 0 ∷ 0 ∷ 1 ∷ 0 ∷ 0 ∷ 0 ∷ [])

abbrev pub at_3 : Knowledge
at_3 = record_of (0 ∷ u ∷ u ∷ 0 ∷ 1 ∷ []) (0 ∷ 0 ∷ 0 ∷ 0 ∷ 0 ∷ 0 ∷ 1 ∷ 0 ∷ [])

-- as at_2, but minute 3 is open; and as at_2, but mark 0 is unknown at minute 2
abbrev open_3 : Knowledge
open_3 = record_of (0 ∷ u ∷ 0 ∷ 1 ∷ u ∷ []) (0 ∷ 0 ∷ 0 ∷ 0 ∷ 1 ∷ 0 ∷ 0 ∷ 0 ∷ [])

abbrev unmarked_2 : Knowledge
unmarked_2 = record_of (0 ∷ u ∷ 0 ∷ 1 ∷ 1 ∷ []) (0 ∷ 0 ∷ 0 ∷ 0 ∷ 0 ∷ 0 ∷ 0 ∷ 0 ∷ [])

pub record Pins : Type 0 where
  pub reach_is : rule_reach policy 0 ≡ 1
  -- 2 + 1 is below 4, and 3 + 1 is 4
  pub complete_2 : Complete sizes (Named policy) at_2
  pub stands : verdict policy at_2 0 2 ≡ 2
  pub complete_3 : Complete sizes (Named policy) at_3
  pub blank : verdict policy at_3 0 3 ≡ 0
  -- with one minute open, or one mark unknown
  pub open_minute : verdict policy open_3 0 2 ≡ 0
  pub unknown_mark : verdict policy unmarked_2 0 2 ≡ 0
  -- the second mark is not named, and the first premise asks for it
  pub not_named : Named policy 1 → ⊥
  pub not_every : Complete sizes Every at_2 → ⊥
