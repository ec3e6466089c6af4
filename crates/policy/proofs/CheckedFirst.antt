-- "For a slip also its card, checked first": a call that checks the policy and then other things answers 1 to 4 as the policy's reader does, and the others
-- only once it accepts. Assumes nothing.
use Rattle.std.specs.Prelude.{ℕ, ◌≤◌, ◌<◌, ◌≡◌, ◌↔◌, List, ◌++◌, Err, Ok}
use Rattle.std.proofs.Common.{arith, ◌∙◌}
use Rattle.std.proofs.Math.Path.{ap}
use Rattle.refusal.specs.declared.Refusal.{Refusal}
use Rattle.refusal.specs.Checks.{Checked}
use Rattle.refusal.specs.Numbers.{refusal_number, refusal_of}
use Rattle.refusal.specs.Checks.{Check, first_failed, and_then, Passed, Refuses, RefusedWith}
use Rattle.refusal.proofs.Laws.{in_order, number_law, passing_law, refused_before, refused_after, passed_both, passed_parts}
use Rattle.refusal.specs.Writes.{written}
use Rattle.policy.specs.Format.{policy_checks, answer_of}
use Rattle.policy.proofs.Answered.{policy_refuses}

module _ (s : List ℕ) (later : List Check) where
  abbrev pub checked_first : List Check
  checked_first = policy_checks s ++ later

  policy_passed : Passed (policy_checks s) ↔ (answer_of s ≡ Ok tt)
  unfolding answer_of
  policy_passed = ((passing_law (policy_checks s)).1, (passing_law (policy_checks s)).0)

  not_first : (r : Refusal) → 4 < refusal_number r → Refuses (policy_checks s) r → ⊥
  not_first r h q = let w = policy_refuses s r q in omega (arith, w.1)

  pub both_passed : Passed checked_first ↔ ((answer_of s ≡ Ok tt) × Passed later)
  both_passed = (
    λ q. let p = passed_parts (policy_checks s) later q in (policy_passed.0 p.0, p.1),
    λ q. passed_both (policy_checks s) later (policy_passed.1 q.0) q.1,
  )

  pub once_accepted : (r : Refusal) → 4 < refusal_number r → Refuses checked_first r ↔ ((answer_of s ≡ Ok tt) × Refuses later r)
  once_accepted r h = let l = refused_after (policy_checks s) later r (not_first r h) in (
    λ q. let p = l.0 q in (policy_passed.0 p.0, p.1),
    λ q. l.1 (policy_passed.1 q.0, q.1),
  )

  in_turn : (a : Checked) → answer_of s ≡ a → first_failed checked_first ≡ and_then a (first_failed later)
  unfolding answer_of
  in_turn a e = in_order (policy_checks s) later ∙ ap (λ (x : Checked). and_then x (first_failed later)) e

  -- what such a call leaves that writes: the reader's refusal and nothing written, or what its other checks leave
  module _ (text out : List ℕ) where
    pub leaves_refused : (r : Refusal) → answer_of s ≡ Err r → written (first_failed checked_first) text out ≡ record { answer = Err r; out = out }
    leaves_refused r e = ap (λ (a : Checked). written a text out) (in_turn (Err r) e)

    pub leaves_written : answer_of s ≡ Ok tt → written (first_failed checked_first) text out ≡ written (first_failed later) text out
    leaves_written e = ap (λ (a : Checked). written a text out) (in_turn (Ok tt) e)

  -- 1 to 4 are the policy's, where nothing later has these numbers
  pub by_policy : ((r : Refusal) → Refuses later r → 4 < refusal_number r)
      → (k at : ℕ) → k ≤ 4 → RefusedWith (first_failed checked_first) k at ↔ RefusedWith (answer_of s) k at
  unfolding answer_of
  by_policy high k at h = let cs = checked_first in (
    λ w. let q = (number_law cs k at).0 w in
        (number_law (policy_checks s) k at).1 ((refused_before (policy_checks s) later (refusal_of k at) (low q.1)).0 q.0, q.1, q.2),
    λ w. let q = (number_law (policy_checks s) k at).0 w in
        (number_law cs k at).1 ((refused_before (policy_checks s) later (refusal_of k at) (low q.1)).1 q.0, q.1, q.2),
  )
    where
      low : refusal_number (refusal_of k at) ≡ k → Refuses later (refusal_of k at) → ⊥
      low e q = omega (arith, high (refusal_of k at) q)
