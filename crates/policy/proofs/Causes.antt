-- Each number is answered for its own cause: a refusal tells that its test failed and that those before it passed. Assumes nothing.
use Prim.Native.Nat.{ℕ, zero, suc, ◌≤◌, ◌<◌}
use Rattle.std.specs.Prelude.{◌≡◌, true, ◌↔◌, List, ◌++◌, get_or}
use Rattle.std.proofs.Common.{sym, arith, eq-or-lt_of_le}
use Rattle.std.proofs.Math.Path.{subst}
use Rattle.std.proofs.Math.Logic.{⊎_elim}
use borrow.Author.Tests.{leb-true, leb-false, le-leb, lt-leb, eqb-true, eqb-false, eq-eqb, ne_eqb}
use Rattle.std.proofs.Math.ListN.{length}
use Rattle.refusal.specs.declared.Refusal.{Refusal}
use Rattle.refusal.specs.declared.Refusal.TheVariants.{TruncatedPolicy}
use Rattle.refusal.specs.Checks.{Check, Passed, none, pass, Refuses, here, there}
use Rattle.refusal.proofs.Laws.{refused_first, refused_later, refused_where, passed_both, passed_parts}
use Rattle.policy.specs.Encoded.{RulesIn}
use Rattle.policy.specs.Format.{count_of, fields_at, good_line, offset, rules_up_to, heading_checks, line_checks, lines_checks, closing_checks, policy_checks}
use Rattle.policy.specs.Proper.{Headed, SomeLine, Fine, FineBefore, Whole, Cause, heading_cut, line_cut, bytes_follow, propositions_out, components_out, minutes_out, lines_out, line_bad, rules_out}
use Rattle.policy.proofs.Ranges.{in_between, between_in, not_between, outside, fails, denies}
use Rattle.policy.proofs.LineLaw.{line_law}

module _ (s : List ℕ) where
  abbrev pub lines : List Check
  lines = lines_checks s (count_of s)

  abbrev pub closing : List Check
  closing = closing_checks (length s) (offset s (count_of s)) (rules_up_to s (count_of s))

  -- ---- where in the list a refusal stands

  -- the first line that is refused refuses them all
  pub refused_line : (i n : ℕ) (r : Refusal) → i < n → Passed (lines_checks s i) → Refuses (line_checks s i) r → Refuses (lines_checks s n) r
  unfolding lines_checks
  refused_line i zero r h p q = absurd (omega arith)
  refused_line i (suc n) r h p q =
      ⊎_elim (λ (e : i ≡ n). subst (λ (m : ℕ). Refuses (lines_checks s (suc m)) r) e (refused_later (lines_checks s i) (line_checks s i) r p q))
      (λ (l : i < n). refused_first (lines_checks s n) (line_checks s n) r (refused_line i n r l p q)) (eq-or-lt_of_le (omega arith))

  pub passed_line : (i : ℕ) → Passed (lines_checks s i) → Passed (line_checks s i) → Passed (lines_checks s (suc i))
  unfolding lines_checks
  passed_line i p q = passed_both (lines_checks s i) (line_checks s i) p q

  pub no_heading : length s < 5 → Refuses (policy_checks s) (TruncatedPolicy (length s))
  unfolding policy_checks
  no_heading h = here (lt-leb 5 (length s) h)

  module _ (h : 5 ≤ length s) where
    pub in_heading : (r : Refusal) → Refuses (heading_checks s) r → Refuses (policy_checks s) r
    unfolding policy_checks
    in_heading r q = there (le-leb 5 (length s) h) (refused_first (heading_checks s) (lines ++ closing) r q)

    module _ (p : Passed (heading_checks s)) where
      after_heading : (r : Refusal) → Refuses (lines ++ closing) r → Refuses (policy_checks s) r
      unfolding policy_checks
      after_heading r q = there (le-leb 5 (length s) h) (refused_later (heading_checks s) (lines ++ closing) r p q)

      pub in_lines : (r : Refusal) → Refuses lines r → Refuses (policy_checks s) r
      in_lines r q = after_heading r (refused_first lines closing r q)

      pub in_closing : (r : Refusal) → Passed lines → Refuses closing r → Refuses (policy_checks s) r
      in_closing r l q = after_heading r (refused_later lines closing r l q)

      pub to_the_end : Passed lines → Passed closing → Passed (policy_checks s)
      unfolding policy_checks
      to_the_end l q = pass (le-leb 5 (length s) h) (passed_both (heading_checks s) (lines ++ closing) p (passed_both lines closing l q))

  -- ---- what the tests say

  pub headed : 5 ≤ length s → Passed (heading_checks s) → Headed s
  unfolding heading_checks
  headed h (pass a (pass b (pass c (pass d none)))) =
      record {
        long = h;
        heading = record { propositions_in = in_between _ _ _ a; components_in = in_between _ _ _ b; minutes_in = in_between _ _ _ c; lines_in = in_between _ _ _ d };
      }

  heading_passes : Headed s → Passed (heading_checks s)
  unfolding heading_checks
  heading_passes h =
      let r = h.heading in
      pass (between_in _ _ _ r.propositions_in)
      (pass (between_in _ _ _ r.components_in) (pass (between_in _ _ _ r.minutes_in) (pass (between_in _ _ _ r.lines_in) none)))

  line_test : (i : ℕ) → (good_line (get_or s 0 0) i (fields_at s (offset s i)) ≡ true) ↔ SomeLine s i
  line_test i = line_law s (get_or s 0 0) i (offset s i)

  fine : (i : ℕ) → Passed (line_checks s i) → Fine s i
  unfolding line_checks
  fine i (pass e (pass g none)) = (leb-true _ _ e, (line_test i).0 g)

  all_fine : (n : ℕ) → Passed (lines_checks s n) → FineBefore s n
  unfolding lines_checks
  all_fine zero p j h = absurd (omega arith)
  all_fine (suc n) p j h =
      let q = passed_parts (lines_checks s n) (line_checks s n) p in
      ⊎_elim (λ (e : j ≡ n). subst (Fine s) (sym e) (fine n q.1)) (λ (l : j < n). all_fine n q.0 j l) (eq-or-lt_of_le (omega arith))

  lines_pass : (n : ℕ) → FineBefore s n → Passed (lines_checks s n)
  unfolding lines_checks line_checks
  lines_pass zero f = none
  lines_pass (suc n) f =
      let l = f n (omega arith) in
      passed_line n (lines_pass n (λ j h. f j (omega arith))) (pass (le-leb _ _ l.0) (pass ((line_test n).1 l.1) none))

  -- ---- from a cause to its refusal, and back

  pub refuses : (r : Refusal) → Cause s r → Refuses (policy_checks s) r
  unfolding heading_checks line_checks closing_checks
  refuses r (heading_cut h) = no_heading h
  refuses r (line_cut i h l f c) = in_lines h.long (heading_passes h) _ (refused_line i (count_of s) _ l (lines_pass i f) (here (lt-leb _ _ c)))
  refuses r (bytes_follow h f m) =
      in_closing h.long (heading_passes h) _ (lines_pass (count_of s) f) (here (ne_eqb _ _ (λ (e : offset s (count_of s) ≡ length s). omega arith)))
  refuses r (propositions_out h a) = in_heading h _ (here (outside _ _ _ a))
  refuses r (components_out h a b) = in_heading h _ (there (between_in _ _ _ a) (here (outside _ _ _ b)))
  refuses r (minutes_out h a b c) = in_heading h _ (there (between_in _ _ _ a) (there (between_in _ _ _ b) (here (outside _ _ _ c))))
  refuses r (lines_out h a b c d) =
      in_heading h _ (there (between_in _ _ _ a) (there (between_in _ _ _ b) (there (between_in _ _ _ c) (here (outside _ _ _ d)))))
  refuses r (line_bad i h l f e g) =
      in_lines h.long (heading_passes h) _ (refused_line i (count_of s) _ l (lines_pass i f) (there (le-leb _ _ e) (here (fails _ (line_test i) g))))
  refuses r (rules_out w n) =
      in_closing w.headed.long (heading_passes w.headed) _ (lines_pass (count_of s) w.lines) (there (eq-eqb _ _ w.ends) (here (outside _ _ _ n)))

  pub passes : Whole s × RulesIn (rules_up_to s (count_of s)) → Passed (policy_checks s)
  unfolding closing_checks
  passes w =
      let h = w.0.headed in
      to_the_end h.long (heading_passes h) (lines_pass (count_of s) w.0.lines) (pass (eq-eqb _ _ w.0.ends) (pass (between_in _ _ _ w.1) none))

  pub of_heading : (r : Refusal) → 5 ≤ length s → Refuses (heading_checks s) r → Cause s r
  unfolding heading_checks
  of_heading r h (there a (there b (there c (there _ x20)))) = elim x20 [ ]
  of_heading r h (here a) = propositions_out h (not_between _ _ _ a)
  of_heading r h (there a (here b)) = components_out h (in_between _ _ _ a) (not_between _ _ _ b)
  of_heading r h (there a (there b (here c))) = minutes_out h (in_between _ _ _ a) (in_between _ _ _ b) (not_between _ _ _ c)
  of_heading r h (there a (there b (there c (here d)))) = lines_out h (in_between _ _ _ a) (in_between _ _ _ b) (in_between _ _ _ c) (not_between _ _ _ d)

  module _ (h : Headed s) where
    of_line : (i : ℕ) (r : Refusal) → i < count_of s → Passed (lines_checks s i) → Refuses (line_checks s i) r → Cause s r
    unfolding line_checks
    of_line i r l p (there e (there _ x12)) = elim x12 [ ]
    of_line i r l p (here c) = line_cut i h l (all_fine i p) (leb-false _ _ c)
    of_line i r l p (there e (here g)) = line_bad i h l (all_fine i p) (leb-true _ _ e) (denies _ (line_test i) g)

    pub of_lines : (n : ℕ) (r : Refusal) → n ≤ count_of s → Refuses (lines_checks s n) r → Cause s r
    unfolding lines_checks
    of_lines zero r l q = elim q [ ]
    of_lines (suc n) r l q =
        ⊎_elim (of_lines n r (omega arith)) (λ (p : Passed (lines_checks s n) × Refuses (line_checks s n) r). of_line n r (omega arith) p.0 p.1)
        (refused_where (lines_checks s n) (line_checks s n) r q)

    -- the lines end where the card does or before
    inside : (n : ℕ) → 0 < n → FineBefore s n → offset s n ≤ length s
    inside zero l f = absurd (omega arith)
    inside (suc n) l f = (f n (omega arith)).0

    pub of_closing : (r : Refusal) → Passed lines → Refuses closing r → Cause s r
    unfolding closing_checks
    of_closing r p (there e (there _ x12)) = elim x12 [ ]
    of_closing r p (here e) =
        let f = all_fine (count_of s) p in
        bytes_follow h f (omega (arith, inside (count_of s) h.heading.lines_in.low f, eqb-false (offset s (count_of s)) (length s) e))
    of_closing r p (there e (here n)) = rules_out (record { headed = h; lines = all_fine (count_of s) p; ends = eqb-true _ _ e }) (not_between _ _ _ n)

    -- every test passed
    pub of_passed : Passed (lines ++ closing) → Whole s × RulesIn (rules_up_to s (count_of s))
    unfolding closing_checks
    of_passed q = let c = passed_parts lines closing q in go c.0 c.1
      where
        go : Passed lines → Passed closing → Whole s × RulesIn (rules_up_to s (count_of s))
        go l (pass e (pass r none)) = (record { headed = h; lines = all_fine (count_of s) l; ends = eqb-true _ _ e }, in_between _ _ _ r)
