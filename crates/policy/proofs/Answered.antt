-- Each number is answered exactly for its own cause, and acceptance for a whole card. Assumes nothing.
use Prim.Native.Nat.{ℕ, ◌≤◌}
use Rattle.std.specs.Prelude.{◌≡◌, ◌↔◌, List, ◌++◌, Err}
use Rattle.std.proofs.Common.{arith}
use Rattle.std.proofs.Math.Logic.{⊎_elim}
use borrow.Author.Tests.{leb-true, leb-false}
use Rattle.std.proofs.Math.ListN.{length}
use Rattle.refusal.specs.declared.Refusal.{Refusal}
use Rattle.refusal.specs.declared.Refusal.TheVariants.{TruncatedPolicy, BadHeading, BadSubformula, RuleCount}
use Rattle.refusal.specs.Numbers.{refusal_number}
use Rattle.refusal.specs.Checks.{Passed, pass, Refuses, here, there}
use Rattle.refusal.proofs.Laws.{refusal_law, passing_law, refused_where, passed_parts}
use Rattle.policy.specs.Encoded.{RulesIn}
use Rattle.policy.specs.Format.{count_of, rules_up_to, heading_checks, policy_checks, answer_of}
use Rattle.policy.specs.Proper.{Whole, Cause, heading_cut, line_cut, bytes_follow, propositions_out, components_out, minutes_out, lines_out, line_bad, rules_out, Causes}
use Rattle.policy.proofs.Causes.{lines, closing, refuses, passes, of_heading, headed, of_lines, of_closing, of_passed}

module _ (s : List ℕ) where
  cause : (r : Refusal) → Refuses (policy_checks s) r → Cause s r
  unfolding policy_checks
  cause r (here h) = heading_cut (leb-false _ _ h)
  cause r (there h q) =
      let l = leb-true 5 (length s) h in
      ⊎_elim (of_heading s r l)
      (λ (p : Passed (heading_checks s) × Refuses (lines s ++ closing s) r).
      let g = headed s l p.0 in
      ⊎_elim (of_lines s g (count_of s) r (omega arith)) (λ (q : Passed (lines s) × Refuses (closing s) r). of_closing s g r q.0 q.1) (refused_where (lines s) (closing s) r p.1))
      (refused_where (heading_checks s) (lines s ++ closing s) r q)

  whole : Passed (policy_checks s) → Whole s × RulesIn (rules_up_to s (count_of s))
  unfolding policy_checks
  whole (pass h q) = let p = passed_parts (heading_checks s) (lines s ++ closing s) q in of_passed s (headed s (leb-true 5 (length s) h) p.0) p.1

  -- ---- the causes

  pub refused : (r : Refusal) → (answer_of s ≡ Err r) ↔ Cause s r
  unfolding answer_of
  refused r = (λ e. cause r ((refusal_law (policy_checks s) r).0 e), λ c. (refusal_law (policy_checks s) r).1 (refuses s r c))

  pub causes : Causes s
  unfolding answer_of
  causes =
      record {
        one = λ at. refused (TruncatedPolicy at);
        two = λ at. refused (BadHeading at);
        three = λ at. refused (BadSubformula at);
        four = (λ e. rules_told ((refused RuleCount).0 e), λ w. (refused RuleCount).1 (rules_out w.0 w.1));
        accepted = (λ e. whole ((passing_law (policy_checks s)).0 e), λ w. (passing_law (policy_checks s)).1 (passes s w));
      }
    where
      rules_told : Cause s RuleCount → Whole s × (RulesIn (rules_up_to s (count_of s)) → ⊥)
      rules_told (rules_out w n) = (w, n)

  -- the policy's reader answers 1 to 4 only
  pub policy_refuses : (r : Refusal) → Refuses (policy_checks s) r → (1 ≤ refusal_number r) × (refusal_number r ≤ 4)
  policy_refuses r q = go r (cause r q)
    where
      go : (r : Refusal) → Cause s r → (1 ≤ refusal_number r) × (refusal_number r ≤ 4)
      go r (heading_cut h) = omega arith
      go r (line_cut i h l f c) = omega arith
      go r (bytes_follow h f m) = omega arith
      go r (propositions_out h a) = omega arith
      go r (components_out h a b) = omega arith
      go r (minutes_out h a b c) = omega arith
      go r (lines_out h a b c d) = omega arith
      go r (line_bad i h l f e g) = omega arith
      go r (rules_out w n) = omega arith
