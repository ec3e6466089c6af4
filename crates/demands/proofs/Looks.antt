-- Each answer of a look has its own cause: the policy's checks answer 1 to 4 only, then one check each gives 5 and 10.
use Rattle.std.specs.Prelude.{ℕ, ◌*◌, ◌≤◌, ◌<◌, ◌≡◌, refl, Bool, true, ◌&&◌, ◌↔◌, ◌⊎◌, List, [], ◌∷◌, eqb, ltb, length, Err, Ok, Result}
use Rattle.std.proofs.Common.{arith, ap, eqb-true, eq-eqb, ltb-true, lt-ltb}
use Rattle.std.proofs.Math.Logic.{inl, inr}
use Rattle.refusal.specs.declared.Refusal.{Refusal}
use Rattle.refusal.specs.declared.Refusal.TheVariants.{BufferSize, OutOfRange}
use Rattle.refusal.specs.Checks.{Checked, give_unless, reply}
use Rattle.refusal.specs.Numbers.{refusal_number, refusal_place, refusal_of}
use Rattle.refusal.specs.Checks.{Check, check, first_failed, Passed as AllPassed, Refuses, here, there}
use Rattle.refusal.proofs.Laws.{passing_law, refused_before, refused_after, refused_where, passed_both, passed_parts, number_law, not_accepted, replied}
use Rattle.logic.proofs.Bools.{both, pair}
use Rattle.policy.specs.Format.{policy_checks, policy_of}
use Rattle.policy.specs.Proper.{Causes as PolicyReaderCauses}
use Rattle.policy.proofs.Answered.{policy_refuses}
use Rattle.monitor.specs.declared.Verdict.{Verdict}
use Rattle.monitor.specs.declared.Verdict.TheVariants.{Unknown, Satisfied, Violated}
use Rattle.monitor.specs.Lookup.{verdict_of, sheet_checks, look_checks, lookup_of}
use Rattle.monitor.proofs.Codes.{code_of_kept, code_of_broken, code_of_blank}
use Rattle.monitor.specs.Demands.{sizes_of, PolicyPassed, OnSheet, code, LookCauses}
use Rattle.demands.proofs.Causes.{via, same, both_ways, at_zero_two, at_zero_three, one_fails, one_passes, one_number, decided, passed_policy, policy_part, after_policy}

same_verdict : (v w : Verdict) → ◌≡◌ {A = Result Verdict Refusal} (Ok v) (Ok w) → v ≡ w
same_verdict v w e = cc

-- ---- the answers

shows : (a : Checked) (v w : Verdict) → (give_unless a v ≡ Ok w) ↔ ((a ≡ Ok tt) × (v ≡ w))
shows (Ok _) v w = (λ e. (refl, same_verdict v w e), λ q. ap Ok q.1)
shows (Err r) v w = (λ e. absurd (not_accepted r (ap reply e)), λ q. absurd (not_accepted r q.0))

module _ (s verdicts : List ℕ) (rule minute : ℕ) (k : PolicyReaderCauses s) where
  abbrev fits : Bool
  fits = eqb (length verdicts) ((policy_of s).rules * (sizes_of s).minutes)

  abbrev inside : Bool
  inside = ltb rule (policy_of s).rules && ltb minute (sizes_of s).minutes

  abbrev sheet : List Check
  sheet = sheet_checks (policy_of s) verdicts rule minute

  abbrev cs : List Check
  cs = look_checks s verdicts rule minute

  sized_law : (fits ≡ true) ↔ (length verdicts ≡ (policy_of s).rules * (sizes_of s).minutes)
  sized_law = (eqb-true _ _, eq-eqb _ _)

  inside_law : (inside ≡ true) ↔ ((rule < (policy_of s).rules) × (minute < (sizes_of s).minutes))
  inside_law = (
    λ e. let q = both (ltb rule (policy_of s).rules) (ltb minute (sizes_of s).minutes) e in (ltb-true _ _ q.0, ltb-true _ _ q.1),
    λ q. pair (lt-ltb _ _ q.0) (lt-ltb _ _ q.1),
  )

  -- 5 and 10
  sheet_number : (r : Refusal) → Refuses sheet r → (refusal_number r ≡ 5) ⊎ (refusal_number r ≡ 10)
  sheet_number r (there p (there _ x12)) = elim x12 [ ]
  sheet_number r (here e) = inl refl
  sheet_number r (there p (here e)) = inr refl

  on_sheet : AllPassed cs ↔ OnSheet s verdicts rule minute
  on_sheet =
      via (passed_parts (policy_checks s) sheet, λ q. passed_both (policy_checks s) sheet q.0 q.1)
      (via (both_ways (passed_policy s k) (via (passed_parts (check fits BufferSize ∷ []) (check inside OutOfRange ∷ []), λ q. passed_both (check fits BufferSize ∷ []) (check inside OutOfRange ∷ []) q.0 q.1)
      (both_ways (via (one_passes fits BufferSize) sized_law) (via (one_passes inside OutOfRange) inside_law))))
      (λ q. record { policy = q.0; sized = q.1.0; rule_in = q.1.1.0; minute_in = q.1.1.1 }, λ q. (q.policy, (q.sized, (q.rule_in, q.minute_in)))))

  policy_first : (r : Refusal) → refusal_number r ≤ 4 → Refuses cs r ↔ Refuses (policy_checks s) r
  policy_first r l = refused_before (policy_checks s) sheet r (λ q. go (sheet_number r q))
    where
      go : (refusal_number r ≡ 5) ⊎ (refusal_number r ≡ 10) → ⊥
      go (inl e) = omega arith
      go (inr e) = omega arith

  misfit : Refuses cs BufferSize ↔ (PolicyPassed s × (length verdicts ≡ (policy_of s).rules * (sizes_of s).minutes → ⊥))
  misfit =
      via (after_policy s k sheet BufferSize (omega arith))
      (both_ways same (via (refused_before (check fits BufferSize ∷ []) (check inside OutOfRange ∷ []) BufferSize (λ q. omega (arith, one_number inside OutOfRange BufferSize q)))
      (via (one_fails fits BufferSize) (decided sized_law))))

  outside : Refuses cs OutOfRange ↔ (PolicyPassed s × (length verdicts ≡ (policy_of s).rules * (sizes_of s).minutes) × ((rule < (policy_of s).rules) × (minute < (sizes_of s).minutes) → ⊥))
  outside =
      via (after_policy s k sheet OutOfRange (omega arith))
      (via (both_ways same (via (refused_after (check fits BufferSize ∷ []) (check inside OutOfRange ∷ []) OutOfRange (λ q. omega (arith, one_number fits BufferSize OutOfRange q)))
      (both_ways (via (one_passes fits BufferSize) sized_law) (via (one_fails inside OutOfRange) (decided inside_law)))))
      (λ q. (q.0, q.1.0, q.1.1), λ q. (q.0, (q.1, q.2))))

  shown : (v : Verdict) {B : Type 0} → (verdict_of (code s verdicts rule minute) ≡ v) ↔ B → (lookup_of s verdicts rule minute ≡ Ok v) ↔ (OnSheet s verdicts rule minute × B)
  unfolding lookup_of
  shown v f = via (shows (first_failed cs) (verdict_of (code s verdicts rule minute)) v) (both_ways (via (passing_law cs) on_sheet) f)

  pub look_causes : LookCauses s verdicts rule minute (lookup_of s verdicts rule minute)
  unfolding lookup_of
  look_causes =
      let e = replied (first_failed cs) (verdict_of (code s verdicts rule minute)) in
      record {
        policy = rw e (policy_part s k cs policy_first);
        five = λ at. rw e (via (number_law cs 5 at) (at_zero_two misfit));
        ten = λ at. rw e (via (number_law cs 10 at) (at_zero_three outside));
        no_other = λ n at. rw e (λ w. in_range n at ((number_law cs n at).0 w));
        kept = shown Satisfied (code_of_kept (code s verdicts rule minute));
        broken = shown Violated (code_of_broken (code s verdicts rule minute));
        blank = via (shown Unknown (code_of_blank (code s verdicts rule minute))) (λ q. (q.0, q.1.0, q.1.1), λ q. (q.0, (q.1, q.2)));
      }
    where
      either : (r : Refusal) → Refuses (policy_checks s) r ⊎ (AllPassed (policy_checks s) × Refuses sheet r) → ((1 ≤ refusal_number r) × (refusal_number r ≤ 5)) ⊎ (refusal_number r ≡ 10)
      either r (inl h) = inl (omega (arith, policy_refuses s r h))
      either r (inr h) = go (sheet_number r h.1)
        where
          go : (refusal_number r ≡ 5) ⊎ (refusal_number r ≡ 10) → ((1 ≤ refusal_number r) × (refusal_number r ≤ 5)) ⊎ (refusal_number r ≡ 10)
          go (inl z) = inl (omega arith)
          go (inr z) = inr z

      in_range : (n at : ℕ) → Refuses cs (refusal_of n at) × (refusal_number (refusal_of n at) ≡ n) × (refusal_place (refusal_of n at) ≡ at) → ((1 ≤ n) × (n ≤ 5)) ⊎ (n ≡ 10)
      in_range n at q = rw q.1 at (either (refusal_of n at) (refused_where (policy_checks s) sheet (refusal_of n at) q.0))
