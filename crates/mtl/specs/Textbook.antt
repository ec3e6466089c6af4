-- The two-valued reading a second time, in the words of 001, section 2: a proposition, with no fold and no Boolean operation.
use Prim.Native.Nat.{ℕ, zero, suc, ◌+◌, ◌≤◌, ◌<◌}
use Rattle.std.specs.Prelude.{◌≡◌, Bool, false, ◌⊎◌}
use Rattle.std.proofs.Math.Bool.{true}
use Rattle.mtl.specs.declared.Formula.{Formula}
use Rattle.mtl.specs.declared.Formula.TheVariants.{True, Proposition, Not, Or, Since, Until, And, Implies, Once, Historically, Eventually, Always}
use Rattle.mtl.specs.Reading.{World}

module _ (time_point : ℕ → Bool) (α β : ℕ → Type 0) where
  -- there is a j with t − upper ≤ j ≤ t − lower, a time point where β holds, and at every time point s with j < s ≤ t, α holds
  pub record SinceHolds (lower upper t : ℕ) : Type 0 where
    pub j : ℕ
    pub earliest : t ≤ j + upper
    pub latest : j + lower ≤ t
    pub is_point : time_point j ≡ true
    pub right : β j
    pub left : (s : ℕ) → j < s → s ≤ t → time_point s ≡ true → α s

  -- there is a j with t + lower ≤ j ≤ t + upper, a time point where β holds, and at every time point s with t ≤ s < j, α holds
  pub record UntilHolds (lower upper t : ℕ) : Type 0 where
    pub j : ℕ
    pub earliest : t + lower ≤ j
    pub latest : j ≤ t + upper
    pub is_point : time_point j ≡ true
    pub right : β j
    pub left : (s : ℕ) → t ≤ s → s < j → time_point s ≡ true → α s

module _ (time_point : ℕ → Bool) (α : ℕ → Type 0) where
  -- there is a time point j with t − upper ≤ j ≤ t − lower where α holds
  pub record OnceHolds (lower upper t : ℕ) : Type 0 where
    pub j : ℕ
    pub earliest : t ≤ j + upper
    pub latest : j + lower ≤ t
    pub is_point : time_point j ≡ true
    pub holds : α j

  -- at every time point j with t − upper ≤ j ≤ t − lower, α holds
  abbrev pub HistoricallyHolds : ℕ → ℕ → ℕ → Type 0
  HistoricallyHolds lower upper t = (j : ℕ) → t ≤ j + upper → j + lower ≤ t → time_point j ≡ true → α j

  -- there is a time point j with t + lower ≤ j ≤ t + upper where α holds
  pub record EventuallyHolds (lower upper t : ℕ) : Type 0 where
    pub j : ℕ
    pub earliest : t + lower ≤ j
    pub latest : j ≤ t + upper
    pub is_point : time_point j ≡ true
    pub holds : α j

  -- at every time point j with t + lower ≤ j ≤ t + upper, α holds
  abbrev pub AlwaysHolds : ℕ → ℕ → ℕ → Type 0
  AlwaysHolds lower upper t = (j : ℕ) → t + lower ≤ j → j ≤ t + upper → time_point j ≡ true → α j

module _ (time_point : ℕ → Bool) (proposition : ℕ → ℕ → Bool) where
  -- what a subformula says, from what those say that it names
  abbrev pub Says : (ℕ → ℕ → Type 0) → Formula → ℕ → Type 0
  Says X True t = Unit
  Says X (Proposition p) t = proposition p t ≡ true
  Says X (Not i) t = X i t → ⊥
  Says X (Or i j) t = X i t ⊎ X j t
  Says X (Since i j lower upper) t = SinceHolds time_point (X i) (X j) lower upper t
  Says X (Until i j lower upper) t = UntilHolds time_point (X i) (X j) lower upper t
  Says X (And i j) t = X i t × X j t
  Says X (Implies i j) t = X i t → X j t
  Says X (Once i lower upper) t = OnceHolds time_point (X i) lower upper t
  Says X (Historically i lower upper) t = HistoricallyHolds time_point (X i) lower upper t
  Says X (Eventually i lower upper) t = EventuallyHolds time_point (X i) lower upper t
  Says X (Always i lower upper) t = AlwaysHolds time_point (X i) lower upper t

  abbrev pub HoldsDeep : (ℕ → Formula) → ℕ → ℕ → ℕ → Type 0
  HoldsDeep line zero i t = ⊥
  HoldsDeep line (suc d) i t = Says (HoldsDeep line d) (line i) t

  -- subformula k holds at minute t
  abbrev pub Holds : (ℕ → Formula) → ℕ → ℕ → Type 0
  Holds line k t = HoldsDeep line (suc k) k t

  -- the same as a world of the reading, which shows every minute
  abbrev pub plain : World Bool
  plain = record { time_point = time_point; proposition = proposition; window = λ t. true; outside = false }
