-- Laws of the bits.
use Rattle.std.specs.Prelude.{◌≡◌, refl, ◌⊎◌, ℕ, zero, suc, ◌+◌, ◌-◌, ◌*◌, ◌/◌, ◌%◌, ◌^◌, ◌≤◌, ◌<◌, Bool, true, false, eqb}
use Rattle.std.proofs.Common.{sym, ap, ◌∙◌, inl, inr, ⊎_elim, zero-le, suc-le-suc, arith, div-one, pow-suc, mod-lt, le_of_suc-le-suc, not-suc-le-zero, mul_comm, zero-lt-suc, zero-mul, one-mul, mul_assoc, eq-or-lt_of_le, true≢false, eqb-true, eq-eqb}
use Rattle.std.proofs.Math.Nat.{div-div-eq-div-mul}
use Rattle.std.specs.Int.Count.{ones, ones_step, count_trailing_zeros, under}
use Rattle.std.proofs.Math.Arith.{lt-one}
use Rattle.bits.specs.Digits.{digit, below, expanded}
use Rattle.bits.specs.Bits.{bit}
use Rattle.bits.proofs.Bits.{bit_below, bits_same}

pub digit_low : (n : ℕ) → digit n 0 ≡ n % 2
unfolding digit
digit_low n = ap (λ (x : ℕ). x % 2) (div-one n)

pub digit_up : (n k : ℕ) → digit n (suc k) ≡ digit (n / 2) k
unfolding digit
digit_up n k = rw (pow-suc, mul_comm (2 ^ k) 2, ← div-div-eq-div-mul n 2 (2 ^ k))

pub digit_lt : (n k : ℕ) → digit n k < 2
unfolding digit
digit_lt n k = mod-lt (n / 2 ^ k) (zero-lt-suc 1)

two : (x : ℕ) → x < 2 → (x ≡ 0) ⊎ (x ≡ 1)
two zero h = inl refl
two (suc zero) h = inr refl
two (suc (suc x)) h = absurd (omega arith)

-- a place is clear or set
pub clear_or_set : (n k : ℕ) → (digit n k ≡ 0) ⊎ (digit n k ≡ 1)
clear_or_set n k = two (digit n k) (digit_lt n k)

pub digit_zero : (k : ℕ) → digit 0 k ≡ 0
digit_zero zero = digit_low 0
digit_zero (suc k) = digit_up 0 k ∙ digit_zero k

-- the count below, from the lowest digit on
below_step : (k n : ℕ) → below (suc k) n ≡ n % 2 + below k (n / 2)
unfolding below
below_step zero n = let e = digit_low n in omega arith
below_step (suc k) n =
    let ih : below k n + digit n k ≡ n % 2 + below k (n / 2) = below_step k n in
    let e = digit_up n k in
    omega arith

pub below_le : (k n : ℕ) → below k n ≤ k
unfolding below
below_le zero n = zero-le
below_le (suc k) n = omega (arith, below_le k n, digit_lt n k)

-- a clear place adds nothing to the count, a set one adds 1
pub below_clear : (n k : ℕ) → digit n k ≡ 0 → below (suc k) n ≡ below k n
unfolding below
below_clear n k e = omega arith

pub below_set : (n k : ℕ) → digit n k ≡ 1 → below (suc k) n ≡ suc (below k n)
unfolding below
below_set n k e = omega arith

-- a number of k digits has as many set as `count_ones` says
pub below_ones : (k n : ℕ) → n < 2 ^ k → below k n ≡ ones n
unfolding below ones
below_ones zero n h = sym (ap ones (lt-one h))
below_ones (suc k) n h =
    let q : n < 2 ^ k * 2 = rw pow-suc at h in
    let l : n / 2 < 2 ^ k = omega arith in
    below_step k n ∙ ap (λ (x : ℕ). n % 2 + x) (below_ones k (n / 2) l) ∙ sym (ones_step n)

-- ---- the lowest set digit

-- a number that is not 0 and has at most k digits: below its trailing zeros no digit is set, and there one is
pub trailing_clear : (k n j : ℕ) → j < count_trailing_zeros k n → digit n j ≡ 0
unfolding count_trailing_zeros
trailing_clear zero n j h = absurd (not-suc-le-zero h)
trailing_clear (suc k) n j h = go (trailing_clear k (n / 2)) (n % 2) refl j h
  where
    go : ((i : ℕ) → i < count_trailing_zeros k (n / 2) → digit (n / 2) i ≡ 0) → (d : ℕ) → n % 2 ≡ d → (i : ℕ) → i < under d (count_trailing_zeros k (n / 2)) → digit n i ≡ 0
    go ih zero e zero l = digit_low n ∙ e
    go ih zero e (suc i) l = digit_up n i ∙ ih i (le_of_suc-le-suc l)
    go ih (suc d) e i l = absurd (not-suc-le-zero l)

pub trailing_set : (k n : ℕ) → 0 < n → n < 2 ^ k → (count_trailing_zeros k n < k) × (digit n (count_trailing_zeros k n) ≡ 1)
unfolding count_trailing_zeros
trailing_set zero n p h = absurd (let e = lt-one h in omega arith)
trailing_set (suc k) n p h = go (trailing_set k (n / 2)) (n % 2) refl
  where
    go : (0 < n / 2 → n / 2 < 2 ^ k → (count_trailing_zeros k (n / 2) < k) × (digit (n / 2) (count_trailing_zeros k (n / 2)) ≡ 1)) → (d : ℕ) → n % 2 ≡ d → (under d (count_trailing_zeros k (n / 2)) < suc k) × (digit n (under d (count_trailing_zeros k (n / 2))) ≡ 1)
    go rest zero e =
        let q : n < 2 ^ k * 2 = rw pow-suc at h in
        let ih = rest (omega arith) (omega arith) in
        (suc-le-suc ih.0, digit_up n (count_trailing_zeros k (n / 2)) ∙ ih.1)
    go rest (suc d) e = (suc-le-suc zero-le, let b = digit_low n in omega arith)

-- where a digit is set, the number is at least its weight
pub digit_le : (k n : ℕ) → digit n k ≡ 1 → 2 ^ k ≤ n
digit_le zero n e = let b = digit_low n in omega arith
digit_le (suc k) n e =
    let ih = digit_le k (n / 2) (sym (digit_up n k) ∙ e) in
    rw pow-suc (omega arith)

-- a set digit's weight taken off: that digit is clear, and the others are as they were
pub cleared : (k n : ℕ) → digit n k ≡ 1 → digit (n - 2 ^ k) k ≡ 0
cleared zero n e =
    let b = digit_low n in
    let d = digit_low (n - 1) in
    omega arith
cleared (suc k) n e =
    let q : digit (n / 2) k ≡ 1 = sym (digit_up n k) ∙ e in
    let l = digit_le k (n / 2) q in
    let s : (n - 2 ^ k * 2) / 2 ≡ n / 2 - 2 ^ k = omega arith in
    rw pow-suc (digit_up (n - 2 ^ k * 2) k ∙ ap (λ (x : ℕ). digit x k) s ∙ cleared k (n / 2) q)

pub others : (k n j : ℕ) → digit n k ≡ 1 → (j ≡ k → ⊥) → digit (n - 2 ^ k) j ≡ digit n j
others zero n zero e h = absurd (h refl)
others zero n (suc j) e h =
    let b = digit_low n in
    let s : (n - 1) / 2 ≡ n / 2 = omega arith in
    digit_up (n - 1) j ∙ ap (λ (x : ℕ). digit x j) s ∙ sym (digit_up n j)
others (suc k) n j e h = go (λ i g. others k (n / 2) i (sym (digit_up n k) ∙ e) g) j h
  where
    q : digit (n / 2) k ≡ 1
    q = sym (digit_up n k) ∙ e

    go : ((i : ℕ) → (i ≡ k → ⊥) → digit (n / 2 - 2 ^ k) i ≡ digit (n / 2) i) → (i : ℕ) → (i ≡ suc k → ⊥) → digit (n - 2 ^ suc k) i ≡ digit n i
    go ih zero g =
        let l = digit_le k (n / 2) q in
        let s : (n - 2 ^ k * 2) % 2 ≡ n % 2 = omega arith in
        rw pow-suc (digit_low (n - 2 ^ k * 2) ∙ s ∙ sym (digit_low n))
    go ih (suc i) g =
        let l = digit_le k (n / 2) q in
        let s : (n - 2 ^ k * 2) / 2 ≡ n / 2 - 2 ^ k = omega arith in
        rw pow-suc (digit_up (n - 2 ^ k * 2) i ∙ ap (λ (x : ℕ). digit x i) s ∙ ih i (λ r. g (ap suc r)) ∙ sym (digit_up n i))

-- ---- the values expanded

-- a clear place of the map adds nothing, a set one the next packed digit
pub expanded_clear : (map v k : ℕ) → digit map k ≡ 0 → expanded (suc k) map v ≡ expanded k map v
unfolding expanded
expanded_clear map v k e = rw (e, zero-mul, zero-mul) (omega arith)

pub expanded_set : (map v k : ℕ) → digit map k ≡ 1 → expanded (suc k) map v ≡ expanded k map v + digit v (below k map) * 2 ^ k
unfolding expanded
expanded_set map v k e = rw (e, one-mul)

-- with one digit more on top, one place more
pub one_more : {d x w : ℕ} → d < 2 → x < w → x + d * w < w * 2
one_more {d} h l = ⊎_elim (λ (e : d ≡ 0). rw (e, zero-mul) (omega arith)) (λ (e : d ≡ 1). rw (e, one-mul) (omega arith)) (two d h)

-- the bits below place k make a number of k digits
pub expanded_lt : (k map v : ℕ) → expanded k map v < 2 ^ k
unfolding expanded
expanded_lt zero map v = suc-le-suc zero-le
expanded_lt (suc k) map v =
    let ih = expanded_lt k map v in
    rw pow-suc
    (⊎_elim
    (λ (e : digit map k ≡ 0). rw (expanded_clear map v k e) (omega arith))
    (λ (e : digit map k ≡ 1). rw (expanded_set map v k e) (one_more (digit_lt v (below k map)) ih))
    (clear_or_set map k))

-- ---- the result's bits, one by one

shifted : (b m : ℕ) → b * 2 ^ suc m ≡ b * 2 ^ m * 2
shifted b m = rw pow-suc (sym (mul_assoc b (2 ^ m) 2))

pub digit_under : (k n x b : ℕ) → k < n → digit (x + b * 2 ^ n) k ≡ digit x k
digit_under k zero x b h = absurd (not-suc-le-zero h)
digit_under zero (suc n) x b h =
    let s : (x + b * 2 ^ n * 2) % 2 ≡ x % 2 = omega arith in
    rw (shifted b n) (digit_low (x + b * 2 ^ n * 2) ∙ s ∙ sym (digit_low x))
digit_under (suc k) (suc n) x b h =
    let s : (x + b * 2 ^ n * 2) / 2 ≡ x / 2 + b * 2 ^ n = omega arith in
    rw (shifted b n)
    (digit_up (x + b * 2 ^ n * 2) k ∙ ap (λ (y : ℕ). digit y k) s ∙ digit_under k n (x / 2) b (le_of_suc-le-suc h) ∙ sym (digit_up x k))

pub digit_top : (n x b : ℕ) → x < 2 ^ n → b < 2 → digit (x + b * 2 ^ n) n ≡ b
digit_top zero x b h l =
    let z = lt-one h in
    let e = digit_low (x + b * 1) in
    omega arith
digit_top (suc n) x b h l =
    let q : x < 2 ^ n * 2 = rw pow-suc at h in
    let s : (x + b * 2 ^ n * 2) / 2 ≡ x / 2 + b * 2 ^ n = omega arith in
    rw (shifted b n) (digit_up (x + b * 2 ^ n * 2) n ∙ ap (λ (y : ℕ). digit y n) s ∙ digit_top n (x / 2) b (omega arith) l)

both : (b x : ℕ) → b < 2 → x < 2 → b * x < 2
both b x h l =
    ⊎_elim (λ (e : b ≡ 0). rw (e, zero-mul) (omega arith)) (λ (e : b ≡ 1). rw (e, one-mul) l) (two b h)

-- digit k of the expanded values: where the map has place k, the packed digit whose number is how many places it has below k; else 0
pub expanded_bit : (n k map v : ℕ) → k < n → digit (expanded n map v) k ≡ digit map k * digit v (below k map)
unfolding expanded
expanded_bit zero k map v h = absurd (not-suc-le-zero h)
expanded_bit (suc n) k map v h =
    ⊎_elim
    (λ (e : k ≡ n). rw e (digit_top n (expanded n map v) (digit map n * digit v (below n map)) (expanded_lt n map v) (both _ _ (digit_lt map n) (digit_lt v (below n map)))))
    (λ (l : k < n). digit_under k n (expanded n map v) (digit map n * digit v (below n map)) l ∙ expanded_bit n k map v l)
    (eq-or-lt_of_le (le_of_suc-le-suc h))

-- a digit is set just where the bit is true
pub bit_digit : (n k : ℕ) → bit n k ≡ eqb (digit n k) 1
unfolding bit digit
bit_digit n k = refl

pub set_digit : (n k : ℕ) → bit n k ≡ true → digit n k ≡ 1
set_digit n k e = eqb-true _ _ (sym (bit_digit n k) ∙ e)

-- the expanded values have bits at the map's places only
pub expanded_named : (n map v k : ℕ) → bit (expanded n map v) k ≡ true → bit map k ≡ true
expanded_named n map v k e =
    let l : k < n = bit_below n (expanded n map v) (expanded_lt n map v) k e in
    let one : digit (expanded n map v) k ≡ 1 = set_digit (expanded n map v) k e in
    bit_digit map k ∙ eq-eqb _ _ (set (digit map k) (digit v (below k map)) (digit_lt map k) (sym (expanded_bit n k map v l) ∙ one))
  where
    set : (b x : ℕ) → b < 2 → b * x ≡ 1 → b ≡ 1
    set b x h q = ⊎_elim (λ (z : b ≡ 0). absurd (omega (arith, zero-mul x, ap (λ (y : ℕ). y * x) z))) (λ (o : b ≡ 1). o) (two b h)

-- a place that the map has takes the packed bit whose number is how many places it has below, and any other has none
pub expanded_value : (n map v k : ℕ) → k < n → bit map k ≡ true → bit (expanded n map v) k ≡ bit v (below k map)
expanded_value n map v k l e =
    let one : digit map k ≡ 1 = set_digit map k e in
    let same : digit (expanded n map v) k ≡ digit v (below k map) = expanded_bit n k map v l ∙ rw (one, one-mul) in
    bit_digit (expanded n map v) k ∙ ap (λ (x : ℕ). eqb x 1) same ∙ sym (bit_digit v (below k map))

pub expanded_other : (n map v k : ℕ) → bit map k ≡ false → bit (expanded n map v) k ≡ false
expanded_other n map v k e = go (bit (expanded n map v) k) refl
  where
    go : (b : Bool) → bit (expanded n map v) k ≡ b → bit (expanded n map v) k ≡ false
    go true f = absurd (true≢false (sym (expanded_named n map v k f) ∙ e))
    go false f = f

-- and no other number of n bits is so
pub expanded_only : (n map v x : ℕ) → x < 2 ^ n
    → ((k : ℕ) → k < n → bit map k ≡ true → bit x k ≡ bit v (below k map))
    → ((k : ℕ) → bit map k ≡ false → bit x k ≡ false)
    → x ≡ expanded n map v
expanded_only n map v x h named other = bits_same n x (expanded n map v) h (expanded_lt n map v) (λ k l. go k l (bit map k) refl)
  where
    go : (k : ℕ) → k < n → (b : Bool) → bit map k ≡ b → bit x k ≡ bit (expanded n map v) k
    go k l true e = named k l e ∙ sym (expanded_value n map v k l e)
    go k l false e = other k e ∙ sym (expanded_other n map v k e)

-- places 1, 4, 5 and 7 take the packed bits 1, 0, 1 and 1
worked : expanded 32 0b10110010 0b1101 ≡ 162
unfolding expanded digit below
worked = refl
