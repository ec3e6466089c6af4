-- The lines that are rules, in order: those of the first lines stay where they are as lines are added. Assumes nothing.
use Prim.Native.Nat.{ℕ, zero, suc, ◌+◌, ◌-◌, ◌≤◌, ◌<◌}
use Rattle.std.proofs.Common.{add-zero, add-suc, arith, sym, ap, subst, ◌∙◌}
use Rattle.std.proofs.Math.Decide.{dec_lt}
use Rattle.std.specs.Prelude.{◌≡◌, Bool}
use Rattle.std.proofs.Math.Path.{refl}
use Rattle.std.proofs.Math.Bool.{true, false, cond}
use mathlib.Core.List.{List, [], ◌∷◌, ◌++◌, append-nil}
use Rattle.std.proofs.Math.ListN.{get_or, length, length-append, get_or-append}
use Rattle.std.proofs.lemmas.List.{get_or_at}
use Rattle.policy.specs.declared.Subformula.{Subformula}
use Rattle.policy.specs.Format.{no_line, rule_lines}

module _ (lines : List Subformula) where
  -- what line i adds
  abbrev own : ℕ → List ℕ
  own i = cond (get_or lines i no_line).rule (i ∷ []) []

  one_line : (i : ℕ) → rule_lines lines (suc i) ≡ rule_lines lines i ++ own i
  unfolding rule_lines
  one_line i = refl

  pub rule_more : (i : ℕ) → (get_or lines i no_line).rule ≡ true → rule_lines lines (suc i) ≡ rule_lines lines i ++ (i ∷ [])
  rule_more i e = one_line i ∙ ap (λ (b : Bool). rule_lines lines i ++ cond b (i ∷ []) []) e

  pub rule_skip : (i : ℕ) → (get_or lines i no_line).rule ≡ false → rule_lines lines (suc i) ≡ rule_lines lines i
  rule_skip i e = one_line i ∙ ap (λ (b : Bool). rule_lines lines i ++ cond b (i ∷ []) []) e ∙ append-nil (rule_lines lines i)

  grow : (i d : ℕ) → length (rule_lines lines i) ≤ length (rule_lines lines (i + d))
  grow i zero = rw add-zero (omega arith)
  grow i (suc d) = rw (add-suc, one_line) (omega (arith, grow i d, length-append (rule_lines lines (i + d)) (own (i + d))))

  stay : (i d r : ℕ) → r < length (rule_lines lines i) → get_or (rule_lines lines (i + d)) r 0 ≡ get_or (rule_lines lines i) r 0
  stay i zero r h = rw add-zero refl
  stay i (suc d) r h = rw (add-suc, one_line) (get_or-append (rule_lines lines (i + d)) (own (i + d)) 0 r (omega (arith, grow i d)) ∙ stay i d r h)

  -- each is one of the lines
  pub rule_below : (n r : ℕ) → r < length (rule_lines lines n) → get_or (rule_lines lines n) r 0 < n
  unfolding rule_lines
  rule_below zero r h = absurd (omega arith)
  rule_below (suc n) r h = go (λ l. rule_below n r l) (get_or lines n no_line).rule (dec_lt r (length (rule_lines lines n))) h
    where
      go : (r < length (rule_lines lines n) → get_or (rule_lines lines n) r 0 < n) → (b : Bool) → Dec (r < length (rule_lines lines n)) → r < length (rule_lines lines n ++ cond b (n ∷ []) [])
          → get_or (rule_lines lines n ++ cond b (n ∷ []) []) r 0 < suc n
      go ih b (yes l) h = rw (get_or-append (rule_lines lines n) (cond b (n ∷ []) []) 0 r l) (omega (arith, ih l))
      go ih true (no l) h =
          let last : r ≡ length (rule_lines lines n) = omega (arith, length-append (rule_lines lines n) (n ∷ [])) in
          rw (get_or_at (rule_lines lines n) n [] 0 r (sym last)) (omega arith)
      go ih false (no l) h = absurd (omega (arith, length-append (rule_lines lines n) []))

  -- a line that is a rule, among n: its number is how many rules there are before it
  module _ (i n : ℕ) (under : i < n) (is : (get_or lines i no_line).rule ≡ true) where
    longer : length (rule_lines lines (suc i)) ≡ length (rule_lines lines i) + 1
    longer = ap length (rule_more i is) ∙ length-append (rule_lines lines i) (i ∷ [])

    pub rule_under : length (rule_lines lines i) < length (rule_lines lines n)
    rule_under =
        let e : suc i + (n - suc i) ≡ n = omega arith in
        subst (λ (k : ℕ). length (rule_lines lines i) < length (rule_lines lines k)) e (omega (arith, longer, grow (suc i) (n - suc i)))

    pub rule_at : get_or (rule_lines lines n) (length (rule_lines lines i)) 0 ≡ i
    rule_at =
        let e : suc i + (n - suc i) ≡ n = omega arith in
        subst (λ (k : ℕ). get_or (rule_lines lines k) (length (rule_lines lines i)) 0 ≡ i) e
        (stay (suc i) (n - suc i) (length (rule_lines lines i)) (omega (arith, longer))
        ∙ ap (λ (l : List ℕ). get_or l (length (rule_lines lines i)) 0) (rule_more i is)
        ∙ get_or_at (rule_lines lines i) i [] 0 (length (rule_lines lines i)) refl)
