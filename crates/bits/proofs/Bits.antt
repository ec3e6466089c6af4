-- Laws of the definitions in specs/Bits. Assumes nothing.
use Rattle.std.specs.Prelude.{ℕ, zero, suc, ◌+◌, ◌*◌, ◌/◌, ◌%◌, ◌^◌, ◌≤◌, ◌<◌, max, ◌≡◌, refl, Bool, true, false, ◌||◌, eqb}
use Rattle.std.proofs.Math.Nat.{pow-succ', div-div-eq-div-mul, div-eq_of_lt, pow-le-pow_right, zero-div}
use Rattle.std.proofs.Common.{div-one, arith, sym, ap, ◌∙◌, true≢false, eqb-true, eq-eqb, ne_eqb}
use Rattle.std.proofs.Math.Decide.{dec_lt}
use Rattle.std.specs.Int.Bits.{bit_or, or_step}
use Rattle.std.proofs.lemmas.Bool.{eqb-false}
use Rattle.bits.specs.Bits.{bit}

pub bit_zero : (n : ℕ) → bit n 0 ≡ eqb (n % 2) 1
unfolding bit
bit_zero n = ap (λ (x : ℕ). eqb (x % 2) 1) (div-one n)

pub bit_suc : (n k : ℕ) → bit n (suc k) ≡ bit (n / 2) k
unfolding bit
bit_suc n k = ap (λ (x : ℕ). eqb (x % 2) 1) (ap (λ (x : ℕ). n / x) (pow-succ' 2 k) ∙ sym (div-div-eq-div-mul n 2 (2 ^ k)))

-- what holds of each two digits
pub by_digits : (P : ℕ → ℕ → Type 0) → P 0 0 → P 0 1 → P 1 0 → P 1 1 → (x y : ℕ) → x < 2 → y < 2 → P x y
by_digits P a b c d zero zero h k = a
by_digits P a b c d zero (suc zero) h k = b
by_digits P a b c d (suc zero) zero h k = c
by_digits P a b c d (suc zero) (suc zero) h k = d
by_digits P a b c d zero (suc (suc y)) h k = absurd (omega arith)
by_digits P a b c d (suc zero) (suc (suc y)) h k = absurd (omega arith)
by_digits P a b c d (suc (suc x)) y h k = absurd (omega arith)

-- an operation on whole words that is d on each two digits, and so f on each two bits
module _ (op d : ℕ → ℕ → ℕ) (f : Bool → Bool → Bool) (step : (a b : ℕ) → op a b ≡ op (a / 2) (b / 2) * 2 + d (a % 2) (b % 2))
    (digits : (x y : ℕ) → x < 2 → y < 2 → (d x y < 2) × (eqb (d x y) 1 ≡ f (eqb x 1) (eqb y 1))) where
  pub bit_by_bit : (k a b : ℕ) → bit (op a b) k ≡ f (bit a k) (bit b k)
  bit_by_bit zero a b =
      let s = digits (a % 2) (b % 2) (omega arith) (omega arith) in
      let e : op a b % 2 ≡ d (a % 2) (b % 2) = omega (arith, step a b, s.0) in
      rw (bit_zero (op a b), bit_zero a, bit_zero b) (ap (λ (x : ℕ). eqb x 1) e ∙ s.1)
  bit_by_bit (suc k) a b =
      let s = digits (a % 2) (b % 2) (omega arith) (omega arith) in
      let e : op a b / 2 ≡ op (a / 2) (b / 2) = omega (arith, step a b, s.0) in
      rw (bit_suc (op a b) k, bit_suc a k, bit_suc b k) (ap (λ (x : ℕ). bit x k) e ∙ bit_by_bit k (a / 2) (b / 2))

-- a digit of the bitwise disjunction
pub bit-bit_or : (k a b : ℕ) → bit (bit_or a b) k ≡ (bit a k || bit b k)
bit-bit_or =
    bit_by_bit bit_or max ◌||◌ or_step
    (by_digits (λ x y. (max x y < 2) × (eqb (max x y) 1 ≡ (eqb x 1 || eqb y 1))) (omega arith, refl) (omega arith, refl) (omega arith, refl) (omega arith, refl))

-- a digit's test by its remainder
pub bit_clear : (n k : ℕ) → n / 2 ^ k % 2 ≡ 0 → bit n k ≡ false
unfolding bit
bit_clear n k e = ne_eqb (n / 2 ^ k % 2) 1 (λ f. omega arith)

pub bit_set : (n k : ℕ) → (n / 2 ^ k % 2 ≡ 0 → ⊥) → bit n k ≡ true
unfolding bit
bit_set n k h = eq-eqb (n / 2 ^ k % 2) 1 (omega arith)

same_odd : (x y : ℕ) → eqb (x % 2) 1 ≡ eqb (y % 2) 1 → x % 2 ≡ y % 2
same_odd x y e = go (eqb (y % 2) 1) refl
  where
    go : (b : Bool) → eqb (y % 2) 1 ≡ b → x % 2 ≡ y % 2
    go true f = omega (arith, eqb-true (x % 2) 1 (e ∙ f), eqb-true (y % 2) 1 f)
    go false f = let n : (x % 2 ≡ 1 → ⊥) = eqb-false (x % 2) 1 (e ∙ f) in let m : (y % 2 ≡ 1 → ⊥) = eqb-false (y % 2) 1 f in omega arith

-- numbers of n digits with the same digits are the same
pub bits_same : (n a b : ℕ) → a < 2 ^ n → b < 2 ^ n → ((k : ℕ) → k < n → bit a k ≡ bit b k) → a ≡ b
bits_same zero a b h k e = omega arith
bits_same (suc n) a b h k e =
    let halves : a / 2 ≡ b / 2 = bits_same n (a / 2) (b / 2) (omega arith) (omega arith) (λ i l. sym (bit_suc a i) ∙ e (suc i) (omega arith) ∙ bit_suc b i) in
    omega (arith, same_odd a b (sym (bit_zero a) ∙ e 0 (omega arith) ∙ bit_zero b))

-- a number of n digits has none beyond
pub bit_high : (n a : ℕ) → a < 2 ^ n → (k : ℕ) → n ≤ k → bit a k ≡ false
unfolding bit
bit_high n a h k l =
    let p : 2 ^ n ≤ 2 ^ k = pow-le-pow_right (omega arith) l in
    ap (λ (x : ℕ). eqb (x % 2) 1) (div-eq_of_lt {n = a} {m = 2 ^ k} (omega arith))

pub bit_below : (n a : ℕ) → a < 2 ^ n → (k : ℕ) → bit a k ≡ true → k < n
bit_below n a h k e = go (dec_lt k n)
  where
    go : Dec (k < n) → k < n
    go (yes l) = l
    go (no l) = absurd (true≢false (sym e ∙ bit_high n a h k (omega arith)))

pub bit_of_zero : (k : ℕ) → bit 0 k ≡ false
unfolding bit
bit_of_zero k = ap (λ (x : ℕ). eqb (x % 2) 1) (zero-div (2 ^ k))
