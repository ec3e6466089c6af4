-- Computed cases that pin the reach, kind by kind and nested, and that show it to be the least: at t + reach = M a line may be open though all is known.
-- Only the definitions are imported, so that a wrong one is refused here by itself.
use Rattle.std.specs.Prelude.{ℕ, ◌≡◌, [], ◌∷◌, ltb, get_or}
use Rattle.kleene.specs.Truth.{Truth, unknown, true3, false3}
use Rattle.mtl.specs.declared.Formula.{Formula}
use Rattle.mtl.specs.declared.Formula.TheVariants.{True, Proposition, Not, Or, Since, Until, And, Implies, Once, Historically, Eventually, Always}
use Rattle.mtl.specs.Algebra.{three}
use Rattle.mtl.specs.Reading.{World, reading}
use Rattle.reach.specs.Reach.{reach}

-- lines 0 true, 1 a proposition, 2 to 4 with reaches 3, 5 and 5, 5 the one that is asked for
abbrev line : Formula → ℕ → Formula
line φ i = get_or (True ∷ Proposition 0 ∷ Eventually 1 1 3 ∷ Until 0 1 0 5 ∷ Always 1 4 5 ∷ φ ∷ []) i True

abbrev of_line : Formula → ℕ
of_line φ = reach (line φ) 5

-- four minutes, each a time point at which the proposition is false, or each at which it is true
abbrev known : Truth → World Truth
known x = record { time_point = λ t. true3; proposition = λ p t. x; window = λ t. ltb t 4; outside = unknown }

abbrev read : Truth → (ℕ → Formula) → ℕ → ℕ → Truth
read x line k t = reading three (known x) line k t

-- mark 0 within the next 2 minutes, since ever; always within the next 2; and one until in another
abbrev alone : Formula → ℕ → Formula
alone φ i = get_or (True ∷ Proposition 0 ∷ φ ∷ []) i True

abbrev nested : ℕ → Formula
nested i = get_or (True ∷ Proposition 0 ∷ Until 0 1 0 1 ∷ Until 0 2 0 2 ∷ []) i True

pub record Pins : Type 0 where
  pub of_true : of_line True ≡ 0
  pub of_proposition : of_line (Proposition 0) ≡ 0
  pub of_not : of_line (Not 2) ≡ 3
  -- the larger, on either side, and not the sum
  pub of_or : of_line (Or 2 3) ≡ 5
  pub of_or_left : of_line (Or 3 2) ≡ 5
  pub of_and : of_line (And 2 3) ≡ 5
  pub of_and_left : of_line (And 3 2) ≡ 5
  pub of_implies : of_line (Implies 2 4) ≡ 5
  pub of_implies_left : of_line (Implies 4 2) ≡ 5
  -- what looks back adds nothing, however far
  pub of_since : of_line (Since 2 3 7 1000) ≡ 5
  pub of_since_left : of_line (Since 3 2 7 1000) ≡ 5
  pub of_once : of_line (Once 2 7 1000) ≡ 3
  pub of_historically : of_line (Historically 4 7 1000) ≡ 5
  -- what looks ahead adds upper, and not lower
  pub of_until : of_line (Until 2 3 7 11) ≡ 16
  pub of_until_left : of_line (Until 3 2 7 11) ≡ 16
  pub of_eventually : of_line (Eventually 2 7 11) ≡ 14
  pub of_always : of_line (Always 4 7 11) ≡ 16
  -- the bound is strict: decided where t + reach is 3, one below the end of four minutes, and open where it is 4
  pub until_in : read false3 (alone (Until 0 1 0 2)) 2 1 ≡ false3
  pub until_out : read false3 (alone (Until 0 1 0 2)) 2 2 ≡ unknown
  pub eventually_in : read false3 (alone (Eventually 1 0 2)) 2 1 ≡ false3
  pub eventually_out : read false3 (alone (Eventually 1 0 2)) 2 2 ≡ unknown
  pub always_in : read true3 (alone (Always 1 0 2)) 2 1 ≡ true3
  pub always_out : read true3 (alone (Always 1 0 2)) 2 2 ≡ unknown
  pub nested_reach : reach nested 3 ≡ 3
  pub nested_in : read false3 nested 3 0 ≡ false3
  pub nested_out : read false3 nested 3 1 ≡ unknown
