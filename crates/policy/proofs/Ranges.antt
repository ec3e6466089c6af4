-- A test of a range says that the number is in it; a test that decides a claim fails where the claim doesn't hold; what never falls. Assumes
-- nothing.
use Rattle.std.specs.Prelude.{ℕ, zero, suc, ◌≤◌, ◌<◌, ◌≡◌, refl, Bool, true, false, ◌↔◌, leb}
use Rattle.std.proofs.Common.{sym, ◌∙◌, true≢false, ⊎_elim, arith, eq-or-lt_of_le, leb-true, le-leb}
use Rattle.logic.proofs.Bools.{both, pair}
use Rattle.policy.specs.Encoded.{Between}
use Rattle.policy.specs.Format.{within}

pub fails : {P : Type 0} (b : Bool) → (b ≡ true) ↔ P → (P → ⊥) → b ≡ false
fails true law n = absurd (n (law.0 refl))
fails false law n = refl

pub denies : {P : Type 0} (b : Bool) → (b ≡ true) ↔ P → b ≡ false → P → ⊥
denies b law e p = true≢false (sym (law.1 p) ∙ e)

-- what never falls from one number to the next is least at the first
pub never_falls : (f : ℕ → ℕ) → ((i : ℕ) → f i ≤ f (suc i)) → (n i : ℕ) → i ≤ n → f i ≤ f n
never_falls f step zero zero h = omega arith
never_falls f step zero (suc i) h = absurd (omega arith)
never_falls f step (suc n) i h =
    ⊎_elim (λ (e : i ≡ suc n). rw e (omega arith)) (λ (l : i < suc n). omega (arith, never_falls f step n i (omega arith), step n)) (eq-or-lt_of_le h)

module _ (least most n : ℕ) where
  pub in_between : within least most n ≡ true → Between least most n
  in_between e =
      let p = both (leb least n) (leb n most) e in
      record { low = leb-true least n p.0; high = leb-true n most p.1 }

  pub between_in : Between least most n → within least most n ≡ true
  between_in b = pair (le-leb least n b.low) (le-leb n most b.high)

  pub not_between : within least most n ≡ false → Between least most n → ⊥
  not_between = denies (within least most n) (in_between, between_in)

  pub outside : (Between least most n → ⊥) → within least most n ≡ false
  outside = fails (within least most n) (in_between, between_in)
