-- The twelve kinds in three truth values, in plain words and without their abbreviations: "and" meets, "once" looks for one time point,
-- "historically" asks of all. That a line "true" is unknown, and not true, past the window does no harm: what it might break off there is
-- unknown itself. Assumes nothing.
use Rattle.std.specs.Prelude.{ℕ, ◌≤◌, ◌≡◌, true}
use Rattle.kleene.specs.Truth.{Truth, unknown, true3, not3, or3, and3, implies3}
use Rattle.mtl.specs.Reading.{World, since_start, since_count, until_start, until_count, meets, keeps, since, until}
use Rattle.mtl.specs.declared.Formula.{Formula}
use Rattle.mtl.specs.declared.Formula.TheVariants.{True, Proposition, Not, Or, Since, Until, And, Implies, Once, Historically, Eventually, Always}
use Rattle.mtl.specs.Algebra.{three, any}

-- past the window everything is unknown, and the window has every minute before one that it has
pub record Dark (w : World Truth) : Type 0 where
  pub unknown_outside : w.outside ≡ unknown
  pub closed : (s t : ℕ) → s ≤ t → w.window t ≡ true → w.window s ≡ true

module _ (w : World Truth) where
  -- a subformula's value at minute t, from the values of those that it names
  abbrev pub direct : (ℕ → ℕ → Truth) → Formula → ℕ → Truth
  direct v True t = true3
  direct v (Proposition p) t = w.proposition p t
  direct v (Not i) t = not3 (v i t)
  direct v (Or i j) t = or3 (v i t) (v j t)
  direct v (Since i j lower upper) t = since three w (v i) (v j) lower upper t
  direct v (Until i j lower upper) t = until three w (v i) (v j) lower upper t
  direct v (And i j) t = and3 (v i t) (v j t)
  direct v (Implies i j) t = implies3 (v i t) (v j t)
  -- the or, over j of the interval, of e(j) and α(j); the and, over j of the interval, of (not e(j) or α(j))
  direct v (Once i lower upper) t = any three (since_start upper t) (since_count lower upper t) (meets three w (v i))
  direct v (Historically i lower upper) t = keeps three w (v i) (since_start upper t) (since_count lower upper t)
  direct v (Eventually i lower upper) t = any three (until_start lower t) (until_count lower upper) (meets three w (v i))
  direct v (Always i lower upper) t = keeps three w (v i) (until_start lower t) (until_count lower upper)
