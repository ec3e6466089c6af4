-- What the reader gives, as the code puts it together: the first check that fails refuses the bytes; where all pass, the policy is `policy_of`.
-- Assumes nothing.
use Rattle.std.specs.Prelude.{Err, Ok, Result}
use Rattle.policy.specs.declared.Policy.{Policy}
use Prim.Native.Nat.{ℕ, ◌≤◌, ◌<◌}
use mathlib.Core.Path.{◌≡◌, sym, ap, ◌∙◌}
use mathlib.Core.List.{List}
use lib.ListN.{length}
use Rattle.refusal.specs.declared.Refusal.{Refusal}
use Rattle.refusal.specs.declared.Refusal.TheVariants.{TruncatedPolicy}
use Rattle.refusal.specs.Checks.{Checked, first_failed, Passed, Refuses}
use Rattle.refusal.proofs.Laws.{refusal_law, passing_law, given, withheld}
use Rattle.policy.specs.declared.Sizes.{Sizes}
use Rattle.policy.specs.declared.Scanned.{Scanned}
use Rattle.policy.specs.Format.{sizes_of, count_of, rules_up_to, offset, heading_checks, lines_checks, closing_checks, policy_checks, answer_of, policy_of, decode_of}
use Rattle.policy.specs.Lines.{scanned, scan_of}
use Rattle.policy.proofs.Causes.{no_heading, in_heading, in_lines, in_closing, to_the_end, headed}
use Rattle.policy.proofs.Laws.{decoded, turned_away}

refuses : (s : List ℕ) (r : Refusal) → Refuses (policy_checks s) r → ◌≡◌ {A = Result Policy Refusal} (Err r) (decode_of s)
unfolding answer_of
refuses s r q = sym (turned_away s r ((refusal_law (policy_checks s) r).1 q))

pub heading_cut : (s : List ℕ) → length s < 5 → ◌≡◌ {A = Result Policy Refusal} (Err (TruncatedPolicy (length s))) (decode_of s)
heading_cut s h = refuses s _ (no_heading s h)

module _ (s : List ℕ) (h : 5 ≤ length s) where
  pub heading_refused : (r : Refusal) → Err r ≡ first_failed (heading_checks s) → ◌≡◌ {A = Result Policy Refusal} (Err r) (decode_of s)
  heading_refused r e = refuses s r (in_heading s h r ((refusal_law (heading_checks s) r).0 (sym e)))

  module _ (e : Ok tt ≡ first_failed (heading_checks s)) where
    heading : Passed (heading_checks s)
    heading = (passing_law (heading_checks s)).0 (sym e)

    -- there are at most 64 lines
    pub few_lines : count_of s ≤ 64
    few_lines = (headed s h heading).heading.lines_in.high

    -- what the lines answer, and after lines that are accepted the closing checks
    pub lines_refused : (r : Refusal) → Err r ≡ scan_of s (count_of s) → ◌≡◌ {A = Result Policy Refusal} (Err r) (decode_of s)
    unfolding scan_of
    lines_refused r f =
        refuses s r (in_lines s h heading r ((refusal_law (lines_checks s (count_of s)) r).0 (withheld (first_failed (lines_checks s (count_of s))) (scanned s (count_of s)) r (sym f))))

    module _ (l : Scanned) (f : Ok l ≡ scan_of s (count_of s)) where
      both : (first_failed (lines_checks s (count_of s)) ≡ Ok tt) × (l ≡ scanned s (count_of s))
      unfolding scan_of
      both = given (first_failed (lines_checks s (count_of s))) (scanned s (count_of s)) l (sym f)

      read : Passed (lines_checks s (count_of s))
      read = (passing_law (lines_checks s (count_of s))).0 both.0

      same : {a : Checked} → a ≡ first_failed (closing_checks (length s) l.at l.rules)
          → first_failed (closing_checks (length s) (offset s (count_of s)) (rules_up_to s (count_of s))) ≡ a
      same g = sym (g ∙ ap (λ (x : Scanned). first_failed (closing_checks (length s) x.at x.rules)) both.1)

      pub closing_refused : (r : Refusal) → Err r ≡ first_failed (closing_checks (length s) l.at l.rules) → ◌≡◌ {A = Result Policy Refusal} (Err r) (decode_of s)
      closing_refused r g = refuses s r (in_closing s h heading r read ((refusal_law (closing_checks (length s) (offset s (count_of s)) (rules_up_to s (count_of s))) r).0 (same g)))

      pub accepts : Ok tt ≡ first_failed (closing_checks (length s) l.at l.rules) → (z : Sizes) → z ≡ sizes_of s
          → ◌≡◌ {A = Result Policy Refusal} (Ok (record { sizes = z; count = count_of s; rules = l.rules; subformulas = l.subformulas })) (decode_of s)
      unfolding answer_of policy_of
      accepts g z e =
          let all = to_the_end s h heading read ((passing_law (closing_checks (length s) (offset s (count_of s)) (rules_up_to s (count_of s)))).0 (same g)) in
          rw (e, both.1) (sym (decoded s ((passing_law (policy_checks s)).1 all)))
