-- The values at the set places of a map, packed one after another: each packed digit is the one at its place, and expanding undoes it.
-- Assumes nothing.
use Rattle.std.specs.Prelude.{◌≡◌, refl, Bool, true, false, ℕ, zero, suc, ◌+◌, ◌*◌, ◌^◌, ◌<◌, eqb}
use Rattle.std.proofs.Common.{sym, ap, subst, ◌∙◌, ⊎_elim, true≢false, zero-le, suc-le-suc, arith, pow-suc, zero-mul, one-mul, le_refl, le_of_suc-le-suc, not-suc-le-zero, eq-or-lt_of_le, eq-eqb}
use Rattle.bits.specs.Digits.{digit, below, expanded, gathered}
use Rattle.bits.specs.Bits.{bit}
use Rattle.bits.proofs.Bits.{bits_same}
use Rattle.bits.proofs.Packed.{digit_lt, digit_zero, clear_or_set, below_clear, below_set, one_more, digit_under, digit_top, bit_digit, set_digit, expanded_value, expanded_only}

-- a clear place packs nothing, a set one the values' digit there, above what is packed already
pub gathered_clear : (map v k : ℕ) → digit map k ≡ 0 → gathered (suc k) map v ≡ gathered k map v
unfolding gathered
gathered_clear map v k e = rw (e, zero-mul, zero-mul) (omega arith)

pub gathered_set : (map v k : ℕ) → digit map k ≡ 1 → gathered (suc k) map v ≡ gathered k map v + digit v k * 2 ^ below k map
unfolding gathered
gathered_set map v k e = rw (e, one-mul)

-- the packed number has as many digits as the map has places
pub gathered_lt : (k map v : ℕ) → gathered k map v < 2 ^ below k map
unfolding gathered below
gathered_lt zero map v = suc-le-suc zero-le
gathered_lt (suc k) map v =
    let ih = gathered_lt k map v in
    ⊎_elim
    (λ (e : digit map k ≡ 0). rw (gathered_clear map v k e, below_clear map k e) ih)
    (λ (e : digit map k ≡ 1). rw (gathered_set map v k e, below_set map k e, pow-suc) (one_more (digit_lt v k) ih))
    (clear_or_set map k)

-- a set place is counted by all above it
pub below_less : (n map k : ℕ) → k < n → digit map k ≡ 1 → below k map < below n map
unfolding below
below_less zero map k h e = absurd (not-suc-le-zero h)
below_less (suc n) map k h e =
    ⊎_elim
    (λ (q : k ≡ n). rw (← q) (omega arith))
    (λ (l : k < n). omega (arith, below_less n map k l e))
    (eq-or-lt_of_le (le_of_suc-le-suc h))

gathered_digit : (n map v k : ℕ) → k < n → digit map k ≡ 1 → digit (gathered n map v) (below k map) ≡ digit v k
gathered_digit zero map v k h e = absurd (not-suc-le-zero h)
gathered_digit (suc n) map v k h e =
    ⊎_elim
    (λ (q : k ≡ n). rw (gathered_set map v n (rw q at e), q) (digit_top (below n map) (gathered n map v) (digit v n) (gathered_lt n map v) (digit_lt v n)))
    (λ (l : k < n). ⊎_elim
    (λ (z : digit map n ≡ 0). rw (gathered_clear map v n z) (gathered_digit n map v k l e))
    (λ (o : digit map n ≡ 1). rw (gathered_set map v n o)
    (digit_under (below k map) (below n map) (gathered n map v) (digit v n) (below_less n map k l e) ∙ gathered_digit n map v k l e))
    (clear_or_set map n))
    (eq-or-lt_of_le (le_of_suc-le-suc h))

-- digit j of it is the values' digit at the map's j-th place
pub gathered_value : (n map v k : ℕ) → k < n → bit map k ≡ true → bit (gathered n map v) (below k map) ≡ bit v k
gathered_value n map v k l e =
    bit_digit (gathered n map v) (below k map) ∙ ap (λ (x : ℕ). eqb x 1) (gathered_digit n map v k l (set_digit map k e)) ∙ sym (bit_digit v k)

-- what holds at each place's number holds at every number below how many there are
at_place : (n map : ℕ) (P : ℕ → Type 0) → ((k : ℕ) → k < n → bit map k ≡ true → P (below k map)) → (j : ℕ) → j < below n map → P j
unfolding below
at_place zero map P f j h = absurd (not-suc-le-zero h)
at_place (suc n) map P f j h =
    let ih : (j < below n map → P j) = at_place n map P (λ k l e. f k (omega arith) e) j in
    ⊎_elim
    (λ (z : digit map n ≡ 0). ih (omega arith))
    (λ (o : digit map n ≡ 1). ⊎_elim
    (λ (q : j ≡ below n map). subst P (sym q) (f n (le_refl _) (bit_digit map n ∙ eq-eqb _ _ o)))
    ih
    (eq-or-lt_of_le (omega arith)))
    (clear_or_set map n)

-- and no other number of so many digits has these
pub gathered_only : (n map v x : ℕ) → x < 2 ^ below n map
    → ((k : ℕ) → k < n → bit map k ≡ true → bit x (below k map) ≡ bit v k)
    → x ≡ gathered n map v
gathered_only n map v x h named =
    bits_same (below n map) x (gathered n map v) h (gathered_lt n map v)
    (at_place n map (λ j. bit x j ≡ bit (gathered n map v) j) (λ k l e. named k l e ∙ sym (gathered_value n map v k l e)))

-- values that stand at the map's places alone come back
pub expanded_gathered : (n map v : ℕ) → v < 2 ^ n → ((k : ℕ) → bit v k ≡ true → bit map k ≡ true) → expanded n map (gathered n map v) ≡ v
expanded_gathered n map v h named =
    sym (expanded_only n map (gathered n map v) v h (λ k l e. sym (gathered_value n map v k l e)) (λ k e. go k e (bit v k) refl))
  where
    go : (k : ℕ) → bit map k ≡ false → (b : Bool) → bit v k ≡ b → bit v k ≡ false
    go k e true f = absurd (true≢false (sym (named k f) ∙ e))
    go k e false f = f

-- and so do packed ones that have no more digits than the map has places
pub gathered_expanded : (n map p : ℕ) → p < 2 ^ below n map → gathered n map (expanded n map p) ≡ p
gathered_expanded n map p h = sym (gathered_only n map (expanded n map p) p h (λ k l e. sym (expanded_value n map p k l e)))

-- a map with no place packs to 0
pub gathered_nothing : (n v : ℕ) → gathered n 0 v ≡ 0
unfolding gathered
gathered_nothing zero v = refl
gathered_nothing (suc n) v = gathered_clear 0 v n (digit_zero n) ∙ gathered_nothing n v

-- the values at places 1, 4, 5 and 7 are 1, 0, 1 and 1
worked : gathered 32 0b10110010 162 ≡ 0b1101
unfolding gathered digit below
worked = refl
