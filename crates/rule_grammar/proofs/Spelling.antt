-- Laws of the definitions in specs/Spelling. Assumes nothing.
use Rattle.std.specs.Prelude.{ℕ, zero, suc, ◌+◌, ◌-◌, ◌*◌, ◌/◌, ◌%◌, ◌≤◌, ◌<◌, ◌≡◌, refl, Bool, true, false, ◌&&◌, List, [], ◌∷◌, ◌++◌, ltb, leb}
use Rattle.std.proofs.Common.{arith, sym, ap, ◌∙◌, append_assoc, ltb-true, ltb-false, leb-true}
use Rattle.rule_grammar.specs.Numeral.{decimal, digits, digit, Digits}
use Rattle.rule_grammar.specs.Spelling.{Led}

pub digit_range : (c : ℕ) → digit c ≡ true → (48 ≤ c) × (c ≤ 57)
digit_range c e = let h = both (leb 48 c) (leb c 57) e in (leb-true 48 c h.0, leb-true c 57 h.1)
  where
    both : (a b : Bool) → (a && b) ≡ true → (a ≡ true) × (b ≡ true)
    both true b e = (refl, e)
    both false b e = absurd (let z : ◌≡◌ {A = ℕ} 0 1 = cc in omega arith)

-- one more step of the definition, either way
short : (d n : ℕ) → n < 10 → decimal (suc d) n ≡ (48 + n) ∷ []
unfolding decimal
short d n l = go (ltb n 10) refl
  where
    go : (b : Bool) → ltb n 10 ≡ b → (elim b [ true ↦ (48 + n) ∷ [] | false ↦ decimal d (n / 10) ++ ((48 + n % 10) ∷ []) ]) ≡ (48 + n) ∷ []
    go true e = refl
    go false e = let m = ltb-false n 10 e in absurd (omega arith)

long : (d n : ℕ) → 10 ≤ n → decimal (suc d) n ≡ decimal d (n / 10) ++ ((48 + n % 10) ∷ [])
unfolding decimal
long d n l = go (ltb n 10) refl
  where
    go : (b : Bool) → ltb n 10 ≡ b
        → (elim b [ true ↦ (48 + n) ∷ [] | false ↦ decimal d (n / 10) ++ ((48 + n % 10) ∷ []) ]) ≡ decimal d (n / 10) ++ ((48 + n % 10) ∷ [])
    go true e = let m = ltb-true n 10 e in absurd (omega arith)
    go false e = refl

-- room enough is room enough
room : (d e n : ℕ) → n < d → n < e → decimal d n ≡ decimal e n
room zero e n l m = absurd (omega arith)
room (suc d) zero n l m = absurd (omega arith)
room (suc d) (suc e) n l m = go (ltb n 10) refl (room d e (n / 10))
  where
    go : (b : Bool) → ltb n 10 ≡ b → (n / 10 < d → n / 10 < e → decimal d (n / 10) ≡ decimal e (n / 10)) → decimal (suc d) n ≡ decimal (suc e) n
    go true q ih = let h = ltb-true n 10 q in short d n h ∙ sym (short e n h)
    go false q ih =
        let h = ltb-false n 10 q in
        long d n h ∙ ap (λ (u : List ℕ). u ++ ((48 + n % 10) ∷ [])) (ih (omega arith) (omega arith)) ∙ sym (long e n h)

-- a digit at the end
digits_snoc : (n c : ℕ) → 0 < n → digit c ≡ true → digits (10 * n + (c - 48)) ≡ digits n ++ c ∷ []
digits_snoc n c l e =
    let r = digit_range c e in
    let m = 10 * n + (c - 48) in
    let q : m / 10 ≡ n = omega arith in
    let s : 48 + m % 10 ≡ c = omega arith in
    long m m (omega arith)
    ∙ ap (λ (k : ℕ). decimal m k ++ ((48 + m % 10) ∷ [])) q
    ∙ ap (λ (k : ℕ). decimal m n ++ k ∷ []) s
    ∙ ap (λ (u : List ℕ). u ++ c ∷ []) (room m (suc n) n (omega arith) (omega arith))

onwards : (n : ℕ) (u : List ℕ) → 0 < n → Digits u → (m : ℕ) × (digits m ≡ digits n ++ u)
onwards n [] l h = (n, nil (digits n))
  where
    nil : (u : List ℕ) → u ≡ u ++ []
    nil [] = refl
    nil (x ∷ u) = ap (λ v. x ∷ v) (nil u)
onwards n (c ∷ u) l h =
    let r = onwards (10 * n + (c - 48)) u (omega arith) h.1 in
    (r.0, r.1 ∙ ap (λ (v : List ℕ). v ++ u) (digits_snoc n c l h.0) ∙ append_assoc (digits n) (c ∷ []) u)

-- a digit that isn't "0", and any digits, are a number's
pub spelt : (c : ℕ) (u : List ℕ) → digit c ≡ true → (c ≡ 48 → ⊥) → Digits u → (n : ℕ) × (digits n ≡ c ∷ u)
spelt c u e d h =
    let r = digit_range c e in
    let l : 0 < c - 48 = omega arith in
    let w = onwards (c - 48) u l h in
    let s : 48 + (c - 48) ≡ c = omega arith in
    (w.0, w.1 ∙ ap (λ (v : List ℕ). v ++ u) (short (c - 48) (c - 48) (omega arith)) ∙ ap (λ (k : ℕ). k ∷ u) s)

led_deep : (d n : ℕ) → n < d → Led n (decimal d n)
led_deep zero n l = absurd (omega arith)
led_deep (suc d) n l = go (ltb n 10) refl (led_deep d (n / 10))
  where
    go : (b : Bool) → ltb n 10 ≡ b → (n / 10 < d → Led (n / 10) (decimal d (n / 10))) → Led n (decimal (suc d) n)
    go true q ih = record { first = 48 + n; rest = []; is = short d n (ltb-true n 10 q); zero_only = λ e. omega arith }
    go false q ih =
        let h = ltb-false n 10 q in
        let r = ih (omega arith) in
        record {
          first = r.first;
          rest = r.rest ++ ((48 + n % 10) ∷ []);
          is = long d n h ∙ ap (λ (u : List ℕ). u ++ ((48 + n % 10) ∷ [])) r.is;
          zero_only = λ e. absurd (omega (arith, r.zero_only e));
        }

pub led : (n : ℕ) → Led n (digits n)
led n = led_deep (suc n) n (omega arith)

pub zero_is : digits 0 ≡ 48 ∷ []
zero_is = short 0 0 (omega arith)
