-- Laws of the definitions in specs/Numeral. Assumes nothing.
use Rattle.std.specs.Prelude.{ℕ, zero, suc, ◌+◌, ◌-◌, ◌*◌, ◌/◌, ◌%◌, ◌<◌, ◌≡◌, refl, Bool, true, false, ◌&&◌, List, [], ◌∷◌, ◌++◌, ltb, leb}
use Rattle.std.proofs.Common.{arith, sym, ap, ◌∙◌, true≢false, ltb-true, ltb-false, le-leb}
use Rattle.rule_grammar.specs.Numeral.{Calm, Digits, decimal, digit, digits, value}

-- ---- laws

digit_of : (d : ℕ) → d < 10 → digit (48 + d) ≡ true
digit_of d h = both (leb 48 (48 + d)) (leb (48 + d) 57) (le-leb 48 (48 + d) (omega arith)) (le-leb (48 + d) 57 (omega arith))
  where
    both : (a b : Bool) → a ≡ true → b ≡ true → (a && b) ≡ true
    both a b e f = rw (e, f) refl

DigitsSnoc : (u : List ℕ) (c : ℕ) → Digits u → digit c ≡ true → Digits (u ++ (c ∷ []))
DigitsSnoc [] c h e = (e, tt)
DigitsSnoc (x ∷ u) c h e = (h.0, DigitsSnoc u c h.1 e)

pub value_snoc : (v : ℕ) (u : List ℕ) (c : ℕ) → value v (u ++ (c ∷ [])) ≡ 10 * value v u + (c - 48)
value_snoc v [] c = refl
value_snoc v (x ∷ u) c = value_snoc (10 * v + (x - 48)) u c

decimal_digits : (d n : ℕ) → Digits (decimal d n)
unfolding decimal
decimal_digits zero n = tt
decimal_digits (suc d) n = go (ltb n 10) refl (decimal_digits d (n / 10))
  where
    go : (b : Bool) → ltb n 10 ≡ b → Digits (decimal d (n / 10)) → Digits (elim b [ true ↦ (48 + n) ∷ [] | false ↦ decimal d (n / 10) ++ ((48 + n % 10) ∷ []) ])
    go true e h = (digit_of n (ltb-true n 10 e), tt)
    go false e h = DigitsSnoc (decimal d (n / 10)) (48 + n % 10) h (digit_of (n % 10) (omega arith))

decimal_value : (d n : ℕ) → n < d → value 0 (decimal d n) ≡ n
unfolding decimal
decimal_value zero n h = absurd (omega arith)
decimal_value (suc d) n h = go (ltb n 10) refl (decimal_value d (n / 10))
  where
    go : (b : Bool) → ltb n 10 ≡ b → (n / 10 < d → value 0 (decimal d (n / 10)) ≡ n / 10)
        → value 0 (elim b [ true ↦ (48 + n) ∷ [] | false ↦ decimal d (n / 10) ++ ((48 + n % 10) ∷ []) ]) ≡ n
    go true e ih = omega arith
    go false e ih = let l = ltb-false n 10 e in value_snoc 0 (decimal d (n / 10)) (48 + n % 10) ∙ omega (arith, ih (omega arith))

pub digits_digits : (n : ℕ) → Digits (digits n)
digits_digits n = decimal_digits (suc n) n

pub digits_value : (n : ℕ) → value 0 (digits n) ≡ n
digits_value n = decimal_value (suc n) n (omega arith)

-- two runs of digits, each followed by no digit
pub head : {x y : ℕ} {u w : List ℕ} → x ∷ u ≡ y ∷ w → x ≡ y
head e = cc

pub tail : {x y : ℕ} {u w : List ℕ} → x ∷ u ≡ y ∷ w → u ≡ w
tail e = cc

pub put : (c : ℕ) {u w : List ℕ} → u ≡ w → c ∷ u ≡ c ∷ w
put c e = ap (λ v. c ∷ v) e

apart : (x : ℕ) → digit x ≡ true → digit x ≡ false → ⊥
apart x p q = true≢false (sym p ∙ q)

pub runs : (x y u w : List ℕ) → Digits x → Digits y → Calm u → Calm w → x ++ u ≡ y ++ w → (x ≡ y) × (u ≡ w)
runs [] [] u w p q r s e = (refl, e)
runs [] (y ∷ ys) [] w p q r s e = let z : ◌≡◌ {A = ℕ} 0 1 = cc in absurd (omega arith)
runs [] (y ∷ ys) (c ∷ u) w p q r s e = absurd (apart y q.0 (ap digit (sym (head e)) ∙ r))
runs (x ∷ xs) [] u [] p q r s e = let z : ◌≡◌ {A = ℕ} 0 1 = cc in absurd (omega arith)
runs (x ∷ xs) [] u (c ∷ w) p q r s e = absurd (apart x p.0 (ap digit (head e) ∙ s))
runs (x ∷ xs) (y ∷ ys) u w p q r s e =
    let ih = runs xs ys u w p.1 q.1 r s (tail e) in
    let h = head e in
    (rw (h, ih.0), ih.1)

-- a numeral is read in one way, whatever calm text follows
pub one_numeral : (m n : ℕ) (u w : List ℕ) → Calm u → Calm w → digits m ++ u ≡ digits n ++ w → (m ≡ n) × (u ≡ w)
one_numeral m n u w r s e =
    let h = runs (digits m) (digits n) u w (digits_digits m) (digits_digits n) r s e in
    (sym (digits_value m) ∙ ap (value 0) h.0 ∙ digits_value n, h.1)
