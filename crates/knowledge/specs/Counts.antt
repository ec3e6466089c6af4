-- The counts that pass through the known numbers of a run. The largest one is the least of the numbers, each raised by its distance. Held down by one
-- number more it makes an observation in minute t wherever the run is not level there, or makes none wherever it is not full.
use Rattle.std.specs.Prelude.{ℕ, zero, suc, ◌+◌, ◌-◌, ◌≤◌, ◌<◌, min, ◌≡◌, Bool, ltb}
use Rattle.knowledge.specs.Knowledge.{none}

-- g counts what a place has or has not. From place b to place a it goes up by no more than a - b, which is 0 where a is not later: this one order says
-- that it never falls and that it goes up by at most one a place
pub record Count (g : ℕ → ℕ) : Type 0 where
  pub start : g 0 ≡ 0
  pub near : (a b : ℕ) → g a ≤ g b + (a - b)

-- what a count counts
abbrev pub counted : (ℕ → ℕ) → ℕ → Bool
counted g p = ltb (g p) (g (suc p))

-- g passes through the known numbers of f at places 0 to m
pub record Through (f : ℕ → ℕ) (m : ℕ) (g : ℕ → ℕ) : Type 0 where
  pub count : Count g
  pub there : (p : ℕ) → p ≤ m → f p < none → g p ≡ f p

-- a number that is not known is so large that it does no harm
abbrev pub largest : (ℕ → ℕ) → ℕ → ℕ → ℕ
largest f zero p = f 0 + p
largest f (suc n) p = min (f (suc n) + (p - suc n)) (largest f n p)

-- the largest count, held down to at most the number x at place q
abbrev pub held : (ℕ → ℕ) → ℕ → ℕ → ℕ → ℕ → ℕ
held f m q x p = min (largest f m p) (x + (p - q))

-- so that it makes an observation in minute t, and so that it makes none there
abbrev pub raised : (ℕ → ℕ) → ℕ → ℕ → ℕ → ℕ
raised f m t = held f m t (largest f m (suc t) - 1)

abbrev pub flattened : (ℕ → ℕ) → ℕ → ℕ → ℕ → ℕ
flattened f m t = held f m (suc t) (largest f m t)
