-- The tests on facts as operations on whole words, as code has them. Assumes nothing.
use Rattle.std.specs.Prelude.{ℕ, zero, suc, ◌+◌, ◌/◌, ◌^◌, ◌<◌, min, ◌≡◌, refl, Bool, true, false, ◌&&◌, ◌||◌, ◌↔◌, eqb}
use Rattle.std.proofs.Math.Nat.{one-le-pow, pow-succ'}
use Rattle.std.proofs.Common.{arith, sym, ap, ◌∙◌}
use Rattle.std.proofs.Math.Bool.{xor, or-true}
use Rattle.std.specs.Int.Bits.{bit_and, bit_or, bit_xor, differ, and_step, xor_step}
use Rattle.std.proofs.lemmas.Nat.{or_lt}
use Rattle.bits.specs.Bits.{bit}
use Rattle.bits.proofs.Bits.{bit_suc, by_digits, bit_by_bit, bit_below, bit_of_zero, bit-bit_or, bits_same}

pub bit-bit_and : (k a b : ℕ) → bit (bit_and a b) k ≡ (bit a k && bit b k)
bit-bit_and =
    bit_by_bit bit_and min ◌&&◌ and_step
    (by_digits (λ x y. (min x y < 2) × (eqb (min x y) 1 ≡ (eqb x 1 && eqb y 1))) (omega arith, refl) (omega arith, refl) (omega arith, refl) (omega arith, refl))

pub bit-bit_xor : (k a b : ℕ) → bit (bit_xor a b) k ≡ xor (bit a k) (bit b k)
unfolding xor
bit-bit_xor =
    bit_by_bit bit_xor differ xor xor_step
    (by_digits (λ x y. (differ x y < 2) × (eqb (differ x y) 1 ≡ xor (eqb x 1) (eqb y 1))) (omega arith, refl) (omega arith, refl) (omega arith, refl) (omega arith, refl))

-- a word is 0 just where it has no digit
pub no_bits : (w n : ℕ) → n < 2 ^ w → (n ≡ 0) ↔ ((i : ℕ) → i < w → bit n i ≡ false)
no_bits w n h = (λ e i l. ap (λ (x : ℕ). bit x i) e ∙ bit_of_zero i, λ f. bits_same w n 0 h (one-le-pow w 2 (omega arith)) (λ i l. f i l ∙ sym (bit_of_zero i)))

-- a word has digits below p only, just where it is below 2 ^ p
pub low_bits : (w p n : ℕ) → n < 2 ^ w → (n < 2 ^ p) ↔ ((i : ℕ) → i < w → bit n i ≡ true → i < p)
low_bits w p n h = (λ l i k e. bit_below p n l i e, λ f. below w p n h f)
  where
    below : (w p n : ℕ) → n < 2 ^ w → ((i : ℕ) → i < w → bit n i ≡ true → i < p) → n < 2 ^ p
    below w zero n h f = omega (arith, (no_bits w n h).1 (λ i l. none i l (bit n i) refl))
      where
        none : (i : ℕ) → i < w → (b : Bool) → bit n i ≡ b → bit n i ≡ false
        none i l true e = absurd (omega (arith, f i l e))
        none i l false e = e
    below zero (suc p) n h f = omega (arith, one-le-pow (suc p) 2 (omega arith))
    below (suc w) (suc p) n h f =
        omega (arith, below w p (n / 2) (omega arith) (λ i l e. omega (arith, f (suc i) (omega arith) (bit_suc n i ∙ e))))

beyond : (n : ℕ) → n < 2 ^ n
beyond zero = omega arith
beyond (suc n) = rw (pow-succ' 2 n) (omega (arith, beyond n))

-- the same of any number
pub bits_below : (p n : ℕ) → (n < 2 ^ p) ↔ ((i : ℕ) → bit n i ≡ true → i < p)
bits_below p n = (λ l i e. bit_below p n l i e, λ f. (low_bits n p n (beyond n)).1 (λ i l e. f i e))

-- ---- values among known bits

absorbed : (a b : Bool) → (b ≡ true → a ≡ true) → (a || b) ≡ a
absorbed true b h = refl
absorbed false true h = sym (h refl)
absorbed false false h = refl

-- the values lie among the known where joining them adds nothing
pub or_inside : (w known values : ℕ) → known < 2 ^ w → values < 2 ^ w
    → (bit_or known values ≡ known) ↔ ((i : ℕ) → i < w → bit values i ≡ true → bit known i ≡ true)
or_inside w known values h k = (
  λ e i l f. sym (ap (λ (x : ℕ). bit x i) e) ∙ bit-bit_or i known values ∙ ap (λ (x : Bool). bit known i || x) f ∙ or-true (bit known i),
  λ f. bits_same w (bit_or known values) known (or_lt w known values h k) h (λ i l. bit-bit_or i known values ∙ absorbed (bit known i) (bit values i) (f i l)),
)

-- the same of any numbers
pub or_among : (known values : ℕ) → (bit_or known values ≡ known) ↔ ((i : ℕ) → bit values i ≡ true → bit known i ≡ true)
or_among known values =
    let w = known + values in
    let all = beyond w in
    let h : known < 2 ^ w = omega arith in
    let k : values < 2 ^ w = omega arith in
    let law = or_inside w known values h k in
    (λ e i f. law.0 e i (bit_below w values k i f) f, λ g. law.1 (λ i l f. g i f))
