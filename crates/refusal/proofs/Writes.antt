-- Laws of the definitions in specs/Writes. Assumes nothing.
use Rattle.std.specs.Prelude.{ℕ, ◌≡◌, refl, ◌↔◌, List, ◌++◌, length, drop, Err, Ok}
use Rattle.std.proofs.Common.{arith, sym, ap, subst}
use Rattle.refusal.specs.declared.Refusal.{Refusal}
use Rattle.refusal.specs.Checks.{Checked}
use Rattle.refusal.specs.Checks.{RefusedWith, reply}
use Rattle.refusal.specs.Writes.{written}

-- ---- what the answer tells

module _ (text out : List ℕ) where
  replied : (a : Checked) → reply (written a text out).answer ≡ a
  replied (Ok _) = refl
  replied (Err r) = refl

  -- it is refused as its checks are
  pub alike : (a : Checked) (n at : ℕ) → RefusedWith (reply (written a text out).answer) n at ↔ RefusedWith a n at
  alike a n at =
      let e = replied a in
      (subst (λ (b : Checked). RefusedWith b n at) e, subst (λ (b : Checked). RefusedWith b n at) (sym e))

  not_written : (r : Refusal) (n : ℕ) → Err r ≡ Ok n → ⊥
  not_written r n e = let z : ◌≡◌ {A = ℕ} 0 1 = cc in omega arith

  -- a length is told just where no check refuses, and it is the text's
  pub told : (a : Checked) (n : ℕ) → ((written a text out).answer ≡ Ok n) ↔ ((a ≡ Ok tt) × (n ≡ length text))
  told (Ok _) n = (λ e. (refl, cc), λ p. ap Ok (sym p.1))
  told (Err r) n = (λ e. absurd (not_written r n e), λ p. absurd (let z : ◌≡◌ {A = ℕ} 0 1 = let q = p.0 in cc in omega arith))

  pub kept_rest : (a : Checked) (n : ℕ) → (written a text out).answer ≡ Ok n → (written a text out).out ≡ text ++ drop n out
  kept_rest (Ok _) n e = let same : length text ≡ n = cc in ap (λ (k : ℕ). text ++ drop k out) same
  kept_rest (Err r) n e = absurd (not_written r n e)

  pub unwritten : (a : Checked) (r : Refusal) → (written a text out).answer ≡ Err r → (written a text out).out ≡ out
  unwritten (Ok _) r e = absurd (not_written r (length text) (sym e))
  unwritten (Err q) r e = refl
