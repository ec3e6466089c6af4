-- The folds at a threshold k: an or reaches k where one of its parts does, and an and where each of its parts does. By induction on how
-- many parts there are. Assumes nothing.
use mathlib.Core.Path.{◌≡◌, sym, subst}
use mathlib.Core.Logic.{⊎_elim}
use Prim.Native.Nat.{ℕ, zero, suc, ◌+◌, ◌≤◌, ◌<◌}
use native.Mathlib.Nat.{eq-or-lt_of_le}
use native.Mathlib.Omega.{arith}
use Rattle.kleene.specs.Truth.{Truth}
use Rattle.kleene.specs.Rank.{rank_of}
use Rattle.kleene.proofs.Rank.{rank_or, rank_and}
use Rattle.mtl.specs.Algebra.{three, any, all}

module _ (k : ℕ) (f : ℕ → Truth) (lo : ℕ) where
  pub any_some : (n j : ℕ) → lo ≤ j → j < lo + n → k ≤ rank_of (f j) → k ≤ rank_of (any three lo n f)
  any_some zero j p q h = omega arith
  any_some (suc n) j p q h =
      let le : j ≤ lo + n = omega arith in
      let ih = any_some n j p in
      ⊎_elim
      (λ (e : j ≡ lo + n). omega (arith, rank_or (any three lo n f) (f (lo + n)), subst (λ (i : ℕ). k ≤ rank_of (f i)) e h))
      (λ (l : j < lo + n). omega (arith, rank_or (any three lo n f) (f (lo + n)), ih l h))
      (eq-or-lt_of_le le)

  pub any_none : (n : ℕ) → 0 < k → ((j : ℕ) → lo ≤ j → j < lo + n → rank_of (f j) < k) → rank_of (any three lo n f) < k
  unfolding rank_of
  any_none zero p h = p
  any_none (suc n) p h =
      omega (
        arith,
        rank_or (any three lo n f) (f (lo + n)),
        any_none n p (λ j a b. h j a (omega arith)),
        h (lo + n) (omega arith) (omega arith),
      )

  pub all_each : (n : ℕ) → k ≤ 2 → ((s : ℕ) → lo ≤ s → s < lo + n → k ≤ rank_of (f s)) → k ≤ rank_of (all three lo n f)
  unfolding rank_of
  all_each zero p h = p
  all_each (suc n) p h =
      omega (
        arith,
        rank_and (all three lo n f) (f (lo + n)),
        all_each n p (λ j a b. h j a (omega arith)),
        h (lo + n) (omega arith) (omega arith),
      )

  pub all_at : (n s : ℕ) → lo ≤ s → s < lo + n → k ≤ rank_of (all three lo n f) → k ≤ rank_of (f s)
  all_at zero s p q h = omega arith
  all_at (suc n) s p q h =
      let le : s ≤ lo + n = omega arith in
      let both = rank_and (all three lo n f) (f (lo + n)) in
      let ih = all_at n s p in
      ⊎_elim
      (λ (e : s ≡ lo + n). subst (λ (i : ℕ). k ≤ rank_of (f i)) (sym e) (omega arith))
      (λ (l : s < lo + n). ih l (omega arith))
      (eq-or-lt_of_le le)
