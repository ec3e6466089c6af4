-- Laws of the definitions in specs/Places. Assumes nothing.
use Rattle.std.specs.Prelude.{◌≡◌, refl, ℕ, zero, suc, ◌-◌, ◌*◌, ◌%◌, ◌^◌, ◌≤◌, ◌<◌}
use Rattle.std.proofs.Common.{sym, ap, ◌∙◌, ⊎_elim, zero-le, arith, one-mul, le_of_suc-le-suc, eq-or-lt_of_le, lit<, shl_exact}
use Rattle.std.proofs.Math.Decide.{dec_lt}
use Rattle.std.specs.Int.Count.{count_trailing_zeros}
use Rattle.bits.specs.Digits.{digit}
use Rattle.bits.proofs.Packed.{trailing_clear, trailing_set, cleared, others, digit_zero, digit_le}
use Rattle.bits.specs.Places.{Ahead, Lowest, Steady}

-- the weight of a place, as code shifts it
pub weight : (t : ℕ) → t < 32 → 1 * 2 ^ t % 2 ^ 32 ≡ 2 ^ t
weight t h = shl_exact 1 t 32 (lit< tt) (omega arith) ∙ one-mul (2 ^ t)

steady : (map : ℕ) (f : ℕ → ℕ) → Steady map f → (p q : ℕ) → p ≤ q → ((k : ℕ) → p ≤ k → k < q → digit map k ≡ 0) → f q ≡ f p
steady map f s p zero h clear = ap f (omega arith)
steady map f s p (suc q) h clear =
    ⊎_elim
    (λ (e : p ≡ suc q). ap f (sym e))
    (λ (l : p < suc q). s q (clear q (omega arith) (omega arith)) ∙ steady map f s p q (omega arith) (λ k a b. clear k a (omega arith)))
    (eq-or-lt_of_le h)

pub all_ahead : (map : ℕ) → Ahead map map 0
all_ahead map = record { within = zero-le; low = λ k l. omega arith; high = λ k l. refl }

module _ {map rest place : ℕ} (at : Ahead map rest place) where
  -- no place is ahead, so what is made is all
  pub none_ahead : rest ≡ 0 → (f : ℕ → ℕ) → Steady map f → f 32 ≡ f place
  none_ahead e f s = steady map f s place 32 at.within (λ k l m. sym (at.high k l) ∙ ap (λ (x : ℕ). digit x k) e ∙ digit_zero k)

  pub lowest : 0 < rest → rest < 2 ^ 32 → Lowest map rest place (count_trailing_zeros 32 rest)
  lowest p h = go (count_trailing_zeros 32 rest) (trailing_set 32 rest p h) (trailing_clear 32 rest)
    where
      go : (t : ℕ) → (t < 32) × (digit rest t ≡ 1) → ((k : ℕ) → k < t → digit rest k ≡ 0) → Lowest map rest place t
      go t there clear =
          let past : place ≤ t = reach (dec_lt t place) in
          record {
            inside = there.0;
            set = sym (at.high t past) ∙ there.1;
            weight_in = digit_le t rest there.1;
            kept = λ f s. steady map f s place t past (λ k l m. sym (at.high k l) ∙ clear k m);
            next = record {
              within = there.0;
              low = λ k l. ⊎_elim
                  (λ (e : k ≡ t). ap (λ (x : ℕ). digit (rest - 2 ^ t) x) e ∙ cleared t rest there.1)
                  (λ (m : k < t). others t rest k there.1 (λ q. omega arith) ∙ clear k m)
                  (eq-or-lt_of_le (le_of_suc-le-suc l));
              high = λ k l. others t rest k there.1 (λ q. omega arith) ∙ at.high k (omega arith);
            };
          }
        where
          reach : Dec (t < place) → place ≤ t
          reach (yes l) = let z = at.low t l in let o = there.1 in omega arith
          reach (no l) = omega arith
