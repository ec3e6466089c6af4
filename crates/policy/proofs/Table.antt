-- The table has the lines that were read, then padding. Assumes nothing.
use Prim.Native.Nat.{ℕ, zero, suc, ◌+◌, ◌-◌, ◌≤◌, ◌<◌}
use Rattle.std.specs.Prelude.{◌≡◌, Bool, true, false, cond, get_or, set, replicate}
use Rattle.std.proofs.Math.Path.{refl, ap}
use Rattle.std.proofs.Common.{sym, ◌∙◌, eq-or-lt_of_le, get_or-append-add}
use mathlib.Core.List.{List, [], ◌∷◌, ◌++◌}
use Rattle.std.proofs.Math.Logic.{⊎_elim}
use native.Mathlib.Omega.{arith}
use Rattle.std.proofs.Math.Numerals.{add-one}
use Rattle.std.proofs.Math.ListN.{length, length-append, get_or-append}
use Rattle.std.proofs.lemmas.List.{length-replicate, set_at, get_or_at}
use Rattle.std.proofs.Math.Seq.{append_snoc}
use Rattle.encoding.specs.Fields.{size}
use Rattle.policy.specs.declared.Subformula.{Subformula}
use Rattle.policy.specs.Format.{fields_at, subformula_of, subformula_at, offset, lines_up_to, no_line, subformulas_of, rule_lines, rules_up_to}

-- the next of n places behind those that are filled is filled
pub fill_one {ℓ} : {A : Type ℓ} (xs : List A) (d v : A) (n i : ℕ) → length xs ≡ i → i < n
    → set (xs ++ replicate (n - i) d) i v ≡ xs ++ (v ∷ []) ++ replicate (n - suc i) d
fill_one xs d v n i e h =
    let k : n - i ≡ suc (n - suc i) = omega arith in
    rw k (set_at xs d (replicate (n - suc i) d) v i e ∙ sym (append_snoc xs v (replicate (n - suc i) d)))

module _ (s : List ℕ) where
  up_to_length : (n : ℕ) → length (lines_up_to s n) ≡ n
  unfolding lines_up_to
  up_to_length zero = refl
  up_to_length (suc n) = length-append (lines_up_to s n) (subformula_at s (offset s n) ∷ []) ∙ ap (λ (k : ℕ). k + 1) (up_to_length n) ∙ add-one n

  pub none_yet : replicate 64 no_line ≡ subformulas_of s 0
  unfolding subformulas_of lines_up_to
  none_yet = refl

  pub one_more : (i : ℕ) → i < 64 → set (subformulas_of s i) i (subformula_at s (offset s i)) ≡ subformulas_of s (suc i)
  unfolding subformulas_of lines_up_to
  one_more i h = fill_one (lines_up_to s i) no_line (subformula_at s (offset s i)) 64 i (up_to_length i) h

  pub table_length : (n : ℕ) → n ≤ 64 → length (subformulas_of s n) ≡ 64
  unfolding subformulas_of
  table_length n h =
      length-append (lines_up_to s n) (replicate (64 - n) no_line)
      ∙ ap (λ (k : ℕ). k + length (replicate (64 - n) no_line)) (up_to_length n)
      ∙ ap (λ (k : ℕ). n + k) (length-replicate (64 - n) no_line)
      ∙ omega arith

  -- a line that was read
  up_to_at : (n i : ℕ) → i < n → get_or (lines_up_to s n) i no_line ≡ subformula_at s (offset s i)
  unfolding lines_up_to
  up_to_at zero i h = absurd (omega arith)
  up_to_at (suc n) i h =
      let v = subformula_at s (offset s n) ∷ [] in
      ⊎_elim (λ (e : i ≡ n). rw e (get_or_at (lines_up_to s n) (subformula_at s (offset s n)) [] no_line n (up_to_length n)))
      (λ (l : i < n). get_or-append (lines_up_to s n) v no_line i (omega (arith, up_to_length n)) ∙ up_to_at n i l)
      (eq-or-lt_of_le (omega arith))

  pub line_at : (n i : ℕ) → i < n → get_or (subformulas_of s n) i no_line ≡ subformula_at s (offset s i)
  unfolding subformulas_of
  line_at n i h = get_or-append (lines_up_to s n) (replicate (64 - n) no_line) no_line i (omega (arith, up_to_length n)) ∙ up_to_at n i h

  -- padding
  padding : (m i : ℕ) → get_or (replicate m no_line) i no_line ≡ no_line
  padding zero i = refl
  padding (suc m) zero = refl
  padding (suc m) (suc i) = padding m i

  pub past_lines : (n i : ℕ) → n ≤ i → get_or (subformulas_of s n) i no_line ≡ no_line
  unfolding subformulas_of
  past_lines n i h =
      let e : i ≡ length (lines_up_to s n) + (i - n) = omega (arith, up_to_length n) in
      rw e (get_or-append-add (lines_up_to s n) (replicate (64 - n) no_line) (i - n) no_line ∙ padding (64 - n) (i - n))

  -- as many rules as lines with bit 5
  one_rule : (b : Bool) (i : ℕ) → length (cond b (i ∷ []) []) ≡ size b 1
  one_rule true i = refl
  one_rule false i = refl

  pub rules_counted : (n i : ℕ) → i ≤ n → length (rule_lines (subformulas_of s n) i) ≡ rules_up_to s i
  unfolding rule_lines rules_up_to subformula_at subformula_of fields_at
  rules_counted n zero h = refl
  rules_counted n (suc i) h =
      let b = (get_or (subformulas_of s n) i no_line).rule in
      length-append (rule_lines (subformulas_of s n) i) (cond b (i ∷ []) [])
      ∙ ap (λ (k : ℕ). k + length (cond b (i ∷ []) [])) (rules_counted n i (omega arith))
      ∙ ap (λ (k : ℕ). rules_up_to s i + k) (one_rule b i ∙ ap (λ (x : Subformula). size x.rule 1) (line_at n i (omega arith)))
