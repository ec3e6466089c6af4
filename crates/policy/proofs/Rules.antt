-- "Bit 5 makes the line a rule"; "rule numbers follow line order from 0": rule r is the line with bit 5 that has exactly r such lines before it.
-- The list of rules grows at its end, so a rule's number is how many stood before it. Assumes nothing.
use Prim.Native.Nat.{ℕ, zero, suc, ◌+◌, ◌≤◌, ◌<◌}
use Rattle.std.specs.Prelude.{◌≡◌, Bool, true, false, cond, ◌↔◌, List, [], ◌∷◌, ◌++◌, get_or, Ok}
use Rattle.std.proofs.Math.Path.{refl, ap, subst}
use Rattle.std.proofs.Common.{sym, ◌∙◌, arith}
use Rattle.std.proofs.Math.Decide.{dec_lt}
use Rattle.std.proofs.Math.ListN.{length, get_or-append}
use Rattle.std.proofs.lemmas.List.{get_or_at}
use Rattle.encoding.specs.Fields.{has, size}
use Rattle.policy.specs.declared.Subformula.{Subformula}
use Rattle.policy.specs.Format.{line_length, fields_at, keeps_kind, good_line, meaning, formula_of, subformula_of, subformula_at, count_of, offset, heading_checks, line_checks, lines_checks, lines_up_to, no_line, subformulas_of, rule_lines, rules_up_to, closing_checks, policy_checks, answer_of, policy_of}
use Rattle.policy.specs.Proper.{rules_of}
use Rattle.policy.proofs.Ranges.{never_falls}
use Rattle.policy.proofs.Table.{line_at, rules_counted}

-- line i, one of the first n, has bit 5 and exactly r such lines before it
abbrev IsRule : List ℕ → ℕ → ℕ → ℕ → Type 0
IsRule s n r i = (i < n) × (has (get_or s (offset s i) 0) 5 ≡ true) × (rules_up_to s i ≡ r)

module _ (s : List ℕ) where
  abbrev is_rule : ℕ → Bool
  is_rule i = has (get_or s (offset s i) 0) 5

  abbrev table : List Subformula
  table = subformulas_of s (count_of s)

  -- the table's bit is the line's
  its_bit : (i : ℕ) → i < count_of s → (get_or table i no_line).rule ≡ is_rule i
  unfolding subformula_at subformula_of fields_at
  its_bit i h = ap (λ (x : Subformula). x.rule) (line_at s (count_of s) i h)

  -- each number below the count is that of a line
  found : (n r : ℕ) → n ≤ count_of s → r < rules_up_to s n → IsRule s n r (get_or (rule_lines table n) r 0)
  unfolding rules_up_to rule_lines
  found zero r h l = absurd (omega arith)
  found (suc n) r h l = rw (its_bit n (omega arith)) (go (is_rule n) refl (dec_lt r (rules_up_to s n)) l (found n r (omega arith)))
    where
      known : length (rule_lines table n) ≡ rules_up_to s n
      known = rules_counted s (count_of s) n (omega arith)

      go : (b : Bool) → is_rule n ≡ b → Dec (r < rules_up_to s n) → r < rules_up_to s n + size b 1
          → (r < rules_up_to s n → IsRule s n r (get_or (rule_lines table n) r 0)) → IsRule s (suc n) r (get_or (rule_lines table n ++ cond b (n ∷ []) []) r 0)
      go b e (yes m) l ih =
          let i = ih m in
          rw (get_or-append (rule_lines table n) (cond b (n ∷ []) []) 0 r (omega (arith, known))) (omega (arith, i.0), i.1, i.2)
      go true e (no m) l ih =
          let last : r ≡ rules_up_to s n = omega arith in
          rw (get_or_at (rule_lines table n) n [] 0 r (known ∙ sym last)) (omega arith, e, sym last)
      go false e (no m) l ih = absurd (omega arith)

  grows : (n i : ℕ) → i ≤ n → rules_up_to s i ≤ rules_up_to s n
  unfolding rules_up_to
  grows = never_falls (rules_up_to s) (λ i. omega arith)

  -- a line after a rule has more rules before it
  not_after : (n r i j : ℕ) → IsRule s n r i → IsRule s n r j → i < j → ⊥
  unfolding rules_up_to
  not_after n r i j p q h =
      let one : size (is_rule i) 1 ≡ 1 = ap (λ (b : Bool). size b 1) p.1 in
      omega (arith, grows j (suc i) h, one, p.2, q.2)

  one_line : (n r i j : ℕ) → IsRule s n r i → IsRule s n r j → i ≡ j
  one_line n r i j p q = go (dec_lt i j) (dec_lt j i)
    where
      go : Dec (i < j) → Dec (j < i) → i ≡ j
      go (yes l) k = absurd (not_after n r i j p q l)
      go (no l) (yes k) = absurd (not_after n r j i q p k)
      go (no l) (no k) = omega arith

  pub rule_numbers : (r i : ℕ) → r < (policy_of s).rules
      → (get_or (rules_of (policy_of s)) r 0 ≡ i) ↔ ((i < count_of s) × (has (get_or s (offset s i) 0) 5 ≡ true) × (rules_up_to s i ≡ r))
  unfolding policy_of
  rule_numbers r i h =
      let it = found (count_of s) r (omega arith) h in
      (λ e. subst (IsRule s (count_of s) r) e it, λ q. one_line (count_of s) r (get_or (rule_lines table (count_of s)) r 0) i it q)

-- ---- from bytes: of these five lines, lines 1, 2 and 4 are rules

abbrev five_lines : List ℕ
five_lines = 0x01 ∷ 0x01 ∷ 0x04 ∷ 0x00 ∷ 0x05 ∷ 0x00 ∷ 0x21 ∷ 0x01 ∷ 0x21 ∷ 0x02 ∷ 0x05 ∷ 0x03 ∷ 0x01 ∷ 0x20 ∷ []

pub three_rules : (answer_of five_lines ≡ Ok tt) × (rules_of (policy_of five_lines) ≡ 1 ∷ 2 ∷ 4 ∷ [])
unfolding line_length fields_at keeps_kind good_line meaning formula_of subformula_of subformula_at heading_checks offset line_checks lines_checks lines_up_to subformulas_of rule_lines rules_up_to closing_checks policy_checks answer_of policy_of
three_rules = (refl, refl)
