-- 01, "The reading", over any truth algebra and any world: the three-valued and the two-valued reading are this one definition.
use Prim.Native.Nat.{ℕ, zero, suc, ◌+◌, ◌-◌}
use Rattle.std.specs.Prelude.{Bool, true, false}
use Rattle.mtl.specs.declared.Formula.{Formula}
use Rattle.mtl.specs.Algebra.{Algebra, meet, implies, any, all}
use Rattle.mtl.specs.Abbreviations.{Binary, either, back, ahead, Expression, operand, true', proposition', not', binary, abbreviation}

pub record World (A : Type 0) : Type 0 where
  -- e(t): is the minute a time point (01: busy)
  pub time_point : ℕ → A
  -- proposition (01: mark) p at minute t
  pub proposition : ℕ → ℕ → A
  -- the window: the minutes at which anything has a value of its own
  pub window : ℕ → Bool
  -- the value of e and of every subformula at the others
  pub outside : A

-- the value x at minute t, as far as the window shows it
abbrev pub seen : {A : Type 0} → World A → ℕ → A → A
seen w t x = elim (w.window t) [ true ↦ x | false ↦ w.outside ]

-- The ranges, each as its first minute and how many there are.
-- j from t − upper to t − lower: before minute 0 e is false, so j starts at 0, where subtraction stops; none where t < lower
abbrev pub since_start : ℕ → ℕ → ℕ
since_start upper t = t - upper

abbrev pub since_count : ℕ → ℕ → ℕ → ℕ
since_count lower upper t = suc t - lower - (t - upper)

-- s with j < s ≤ t
abbrev pub after_start : ℕ → ℕ
after_start j = suc j

abbrev pub after_count : ℕ → ℕ → ℕ
after_count j t = t - j

-- j from t + lower to t + upper
abbrev pub until_start : ℕ → ℕ → ℕ
until_start lower t = t + lower

abbrev pub until_count : ℕ → ℕ → ℕ
until_count lower upper = suc upper - lower

-- s with t ≤ s < j
abbrev pub before_start : ℕ → ℕ
before_start t = t

abbrev pub before_count : ℕ → ℕ → ℕ
before_count j t = j - t

module _ {A : Type 0} (a : Algebra A) (w : World A) where
  -- e(t)
  abbrev pub point : ℕ → A
  point t = seen w t (w.time_point t)

  -- e(j) and β(j)
  abbrev pub meets : (ℕ → A) → ℕ → A
  meets β j = meet a (point j) (β j)

  -- for all s of the n minutes from lo on, (not e(s) or α(s))
  abbrev pub keeps : (ℕ → A) → ℕ → ℕ → A
  keeps α lo n = all a lo n (λ s. implies a (point s) (α s))

  -- "α since β at t: the or, over j from t − upper to t − lower, of: e(j) and β(j) and, for all s with j < s ≤ t, (not e(s) or α(s))"
  unfoldable pub since : (ℕ → A) → (ℕ → A) → ℕ → ℕ → ℕ → A
  since α β lower upper t =
      any a (since_start upper t) (since_count lower upper t) (λ j. meet a (meets β j) (keeps α (after_start j) (after_count j t)))

  -- "α until β at t: the or, over j from t + lower to t + upper, of: e(j) and β(j) and, for all s with t ≤ s < j, (not e(s) or α(s))"
  unfoldable pub until : (ℕ → A) → (ℕ → A) → ℕ → ℕ → ℕ → A
  until α β lower upper t =
      any a (until_start lower t) (until_count lower upper) (λ j. meet a (meets β j) (keeps α (before_start t) (before_count j t)))

  -- "α or β", since and until, from what α and β are at each minute
  abbrev pub combined : Binary → (ℕ → A) → (ℕ → A) → ℕ → A
  combined either α β t = a.join (α t) (β t)
  combined (back lower upper) α β t = since α β lower upper t
  combined (ahead lower upper) α β t = until α β lower upper t

  -- An expression's value from the values of its leaves. Every part of it reads as a line of its own does: as far as the window shows it
  abbrev pub meaning : (ℕ → ℕ → A) → Expression → ℕ → A
  meaning v (operand i) t = v i t
  meaning v true' t = seen w t a.top
  meaning v (proposition' p) t = seen w t (w.proposition p t)
  meaning v (not' x) t = seen w t (a.neg (meaning v x t))
  meaning v (binary k x y) t = seen w t (combined k (meaning v x) (meaning v y) t)

  -- subformula i, read d subformulas deep: the value of its abbreviation
  unfoldable pub deep : (ℕ → Formula) → ℕ → ℕ → ℕ → A
  unfolding since until
  deep line zero i t = a.bottom
  deep line (suc d) i t = meaning (deep line d) (abbreviation (line i)) t

  -- the reading of subformula k at minute t
  unfoldable pub reading : (ℕ → Formula) → ℕ → ℕ → A
  unfolding deep
  reading line k t = deep line (suc k) k t
