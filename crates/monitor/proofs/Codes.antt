-- What a look reads in a code: kept exactly in 1, broken exactly in 2, blank in every other.
use Rattle.std.specs.Prelude.{ℕ, zero, suc, ◌≡◌, refl, ◌↔◌, ◌≢◌}
use Rattle.std.proofs.Common.{arith, ap}
use Rattle.monitor.specs.declared.Verdict.TheVariants.{Unknown, Satisfied, Violated}
use Rattle.monitor.specs.Lookup.{verdict_code, verdict_of}

pub code_of_kept : (n : ℕ) → (verdict_of n ≡ Satisfied) ↔ (n ≡ 1)
code_of_kept zero = (λ e. let z : ◌≡◌ {A = ℕ} 0 1 = ap verdict_code e in absurd (omega arith), λ e. absurd (omega arith))
code_of_kept (suc zero) = (λ e. refl, λ e. refl)
code_of_kept (suc (suc zero)) = (λ e. let z : ◌≡◌ {A = ℕ} 2 1 = ap verdict_code e in absurd (omega arith), λ e. absurd (omega arith))
code_of_kept (suc (suc (suc n))) = (λ e. let z : ◌≡◌ {A = ℕ} 0 1 = ap verdict_code e in absurd (omega arith), λ e. absurd (omega arith))

pub code_of_broken : (n : ℕ) → (verdict_of n ≡ Violated) ↔ (n ≡ 2)
code_of_broken zero = (λ e. let z : ◌≡◌ {A = ℕ} 0 2 = ap verdict_code e in absurd (omega arith), λ e. absurd (omega arith))
code_of_broken (suc zero) = (λ e. let z : ◌≡◌ {A = ℕ} 1 2 = ap verdict_code e in absurd (omega arith), λ e. absurd (omega arith))
code_of_broken (suc (suc zero)) = (λ e. refl, λ e. refl)
code_of_broken (suc (suc (suc n))) = (λ e. let z : ◌≡◌ {A = ℕ} 0 2 = ap verdict_code e in absurd (omega arith), λ e. absurd (omega arith))

pub code_of_blank : (n : ℕ) → (verdict_of n ≡ Unknown) ↔ ((n ≢ 1) × (n ≢ 2))
code_of_blank zero = (λ e. (λ q. omega arith, λ q. omega arith), λ e. refl)
code_of_blank (suc zero) = (λ e. let z : ◌≡◌ {A = ℕ} 1 0 = ap verdict_code e in absurd (omega arith), λ e. absurd (e.0 refl))
code_of_blank (suc (suc zero)) = (λ e. let z : ◌≡◌ {A = ℕ} 2 0 = ap verdict_code e in absurd (omega arith), λ e. absurd (e.1 refl))
code_of_blank (suc (suc (suc n))) = (λ e. (λ q. omega arith, λ q. omega arith), λ e. refl)
