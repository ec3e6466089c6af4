-- The bytes are accepted exactly when they are a card of 01, and what is read is what stands there: each line is read where the one before it
-- ended, so its place is that of the layout. Assumes nothing.
use Prim.Native.Nat.{ℕ, zero, suc, ◌+◌, ◌≤◌, ◌<◌}
use Rattle.std.specs.Prelude.{◌≡◌, Bool, ◌↔◌, List, get_or, length, Ok}
use Rattle.std.proofs.Math.Path.{refl, sym, ap, subst}
use Rattle.std.proofs.Common.{◌∙◌, arith}
use Rattle.encoding.specs.Fields.{has, size}
use Rattle.encoding.specs.Layout.{extent}
use Rattle.encoding.proofs.Laws.{laid_extent}
use Rattle.policy.specs.declared.Subformula.{Subformula}
use Rattle.policy.specs.Encoded.{RulesIn, Line, widths, numbers, LineAt, rules_in, IsPolicy}
use Rattle.policy.specs.Format.{line_length, fields_at, subformula_of, subformula_at, count_of, offset, no_line, rules_up_to, answer_of, policy_of}
use Rattle.policy.specs.Proper.{Whole}
use Rattle.policy.proofs.Ranges.{never_falls}
use Rattle.policy.proofs.Stands.{only}
use Rattle.policy.specs.Stands.{line_of}
use Rattle.policy.proofs.Table.{line_at}
use Rattle.policy.proofs.Answered.{causes}

module _ (s : List ℕ) where
  -- ---- accepted bytes are a card

  rules_read : (n : ℕ) → rules_up_to s n ≡ rules_in (λ i. line_of (fields_at s (offset s i))) n
  unfolding rules_up_to fields_at
  rules_read zero = refl
  rules_read (suc n) = ap (λ (k : ℕ). k + size (has (get_or s (offset s n) 0) 5) 1) (rules_read n)

  module _ (w : Whole s) where
    -- the line that is read stands there
    line_read : (i : ℕ) → i < count_of s → LineAt s (get_or s 0 0) i (offset s i) (line_of (fields_at s (offset s i)))
    line_read i h =
        let l = (w.lines i h).1 in
        subst (LineAt s (get_or s 0 0) i (offset s i)) (only s (get_or s 0 0) i (offset s i) l.0 l.1) l.1

    is_policy : RulesIn (rules_up_to s (count_of s)) → IsPolicy s
    unfolding offset line_length
    is_policy r =
        record {
          heading = w.headed.heading;
          lines = λ i. line_of (fields_at s (offset s i));
          at = offset s;
          starts = refl;
          line = line_read;
          next = λ i h. laid_extent widths s (offset s i) _ (line_read i h).laid;
          ends = w.ends;
          rules = subst RulesIn (rules_read (count_of s)) r;
        }

  -- ---- a card is accepted

  grows : (n i : ℕ) → i ≤ n → offset s i ≤ offset s n
  unfolding offset
  grows = never_falls (offset s) (λ i. omega arith)

  module _ (p : IsPolicy s) where
    places : (i : ℕ) → i ≤ count_of s → p.at i ≡ offset s i
    unfolding offset line_length
    places zero h = p.starts
    places (suc i) h =
        p.next i (omega arith)
        ∙ sym (laid_extent widths s (p.at i) (numbers (p.lines i)) (p.line i (omega arith)).laid)
        ∙ ap (λ (at : ℕ). at + extent widths (get_or s at 0)) (places i (omega arith))

    stood : (i : ℕ) → i < count_of s → LineAt s (get_or s 0 0) i (offset s i) (p.lines i)
    stood i h = subst (λ (at : ℕ). LineAt s (get_or s 0 0) i at (p.lines i)) (places i (omega arith)) (p.line i h)

    ends : offset s (count_of s) ≡ length s
    ends = sym (places (count_of s) (omega arith)) ∙ p.ends

    whole : Whole s
    unfolding offset
    whole =
        record {
          headed = record { long = omega (arith, grows (count_of s) 0 (omega arith), ends); heading = p.heading };
          lines = λ j h. (omega (arith, grows (count_of s) (suc j) (omega arith), ends), (p.lines j, stood j h));
          ends = ends;
        }

    rules_stood : (n : ℕ) → n ≤ count_of s → rules_in p.lines n ≡ rules_up_to s n
    unfolding rules_up_to
    rules_stood zero h = refl
    rules_stood (suc n) h =
        ap (λ (k : ℕ). k + size (p.lines n).rule 1) (rules_stood n (omega arith))
        ∙ ap (λ (b : Bool). rules_up_to s n + size b 1) (sym (stood n (omega arith)).rule)

  -- ---- what is accepted, and what is read

  pub accepts : (answer_of s ≡ Ok tt) ↔ IsPolicy s
  accepts = (
    λ e. let w = (causes s).accepted.0 e in is_policy w.0 w.1,
    λ p. (causes s).accepted.1 (whole p, subst RulesIn (rules_stood p (count_of s) (omega arith)) p.rules),
  )

  pub reads : (p : IsPolicy s) (i : ℕ) → i < count_of s
      → get_or (policy_of s).subformulas i no_line ≡ record { formula = (p.lines i).formula; rule = (p.lines i).rule }
  unfolding policy_of subformula_at subformula_of
  reads p i h =
      line_at s (count_of s) i h
      ∙ ap {B = Subformula} (λ (l : Line). record { formula = l.formula; rule = l.rule }) (sym (only s (get_or s 0 0) i (offset s i) (p.lines i) (stood p i h)))

  pub reads_rules : (p : IsPolicy s) → (policy_of s).rules ≡ rules_in p.lines (count_of s)
  unfolding policy_of
  reads_rules p = sym (rules_stood p (count_of s) (omega arith))
