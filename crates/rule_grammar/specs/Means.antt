-- What a term means, on terms directly: the clauses of `Says` (mtl, Textbook) with terms for line numbers. "And" is both.
use Rattle.std.specs.Prelude.{ℕ, ◌≡◌, Bool, true, ◌⊎◌}
use Rattle.mtl.specs.Textbook.{SinceHolds, UntilHolds}
use Rattle.rule_grammar.specs.Term.{Joint, Or, And, Since, Until, Term, True, Mark, Not, Group}

module _ (time_point : ℕ → Bool) (proposition : ℕ → ℕ → Bool) where
  abbrev pub Joins : (ℕ → Type 0) → Joint → (ℕ → Type 0) → ℕ → Type 0
  Joins α Or β t = α t ⊎ β t
  Joins α And β t = α t × β t
  Joins α (Since a b) β t = SinceHolds time_point α β a b t
  Joins α (Until a b) β t = UntilHolds time_point α β a b t

  -- the term holds at minute t
  abbrev pub Means : Term → ℕ → Type 0
  Means True t = Unit
  Means (Mark n) t = proposition n t ≡ true
  Means (Not x) t = Means x t → ⊥
  Means (Group x j y) t = Joins (Means x) j (Means y) t
