-- 01: a shift "may run any finite number of minutes past M".
use Rattle.std.specs.Prelude.{ℕ, suc, ◌+◌, ◌≤◌, ◌≡◌, refl, true, false, eqb}
use Rattle.std.proofs.Common.{arith, eq-eqb, ne_eqb}
use Rattle.mtl.proofs.Folds.{some_below}
use Rattle.policy.specs.declared.Sizes.{Sizes}
use Rattle.knowledge.specs.Trace.{Trace, time_point}

-- some trace has a time point as late as one likes
pub runs_past : (z : Sizes) → 1 ≤ z.components → (n : ℕ) → (w : Trace z) × (time_point z w (z.minutes + n) ≡ true)
runs_past z few n = (late, some_below z.components (λ c. late.observes c (z.minutes + n)) 0 (omega arith) (eq-eqb (z.minutes + n) (z.minutes + n) refl))
  where
    late : Trace z
    late = record {
      observes = λ c t. eqb t (z.minutes + n);
      value = λ i t. false;
      end = suc (z.minutes + n);
      ended = λ c t l h. ne_eqb t (z.minutes + n) (omega arith);
    }
