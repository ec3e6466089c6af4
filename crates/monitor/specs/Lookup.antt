-- 01: a look. "A look gives the code at rule times M + minute of the lent verdict sheet, other codes than 1 and 2 read as blank"; "a look
-- checks 1 to 5 (verdict sheet only) and then 10".
use Rattle.refusal.specs.declared.Refusal.{Refusal}
use Rattle.std.specs.Prelude.{ℕ, zero, suc, ◌+◌, ◌*◌, ◌&&◌, List, [], ◌∷◌, ◌++◌, eqb, ltb, get_or, length, Result}
use Rattle.refusal.specs.declared.Refusal.TheVariants.{BufferSize, OutOfRange}
use Rattle.policy.specs.declared.Policy.{Policy}
use Rattle.refusal.specs.Checks.{Check, check, first_failed, give_unless}
use Rattle.policy.specs.Format.{policy_checks, policy_of}
use Rattle.monitor.specs.declared.Verdict.{Verdict}
use Rattle.monitor.specs.declared.Verdict.TheVariants.{Unknown, Satisfied, Violated}

-- the code of a verdict: 0 blank, 1 kept, 2 broken
abbrev pub verdict_code : Verdict → ℕ
verdict_code Unknown = 0
verdict_code Satisfied = 1
verdict_code Violated = 2

-- other codes than 1 and 2 read as blank
abbrev pub verdict_of : ℕ → Verdict
verdict_of zero = Unknown
verdict_of (suc zero) = Satisfied
verdict_of (suc (suc zero)) = Violated
verdict_of (suc (suc (suc n))) = Unknown

module _ (p : Policy) (verdicts : List ℕ) (rule minute : ℕ) where
  -- 5 for the verdict sheet, and then 10: "rule or minute not on the card"
  abbrev pub sheet_checks : List Check
  sheet_checks =
      check (eqb (length verdicts) (p.rules * p.sizes.minutes)) BufferSize
      ∷ check (ltb rule p.rules && ltb minute p.sizes.minutes) OutOfRange
      ∷ []

  abbrev pub code_at : ℕ
  code_at = get_or verdicts (rule * p.sizes.minutes + minute) 0

  -- what a look shows, unless one of its checks refuses it
  unfoldable pub look_at : Result Verdict Refusal
  look_at = give_unless (first_failed sheet_checks) (verdict_of code_at)

-- 1 to 4 first
abbrev pub look_checks : List ℕ → List ℕ → ℕ → ℕ → List Check
look_checks s verdicts rule minute = policy_checks s ++ sheet_checks (policy_of s) verdicts rule minute

unfoldable pub lookup_of : List ℕ → List ℕ → ℕ → ℕ → Result Verdict Refusal
lookup_of s verdicts rule minute = give_unless (first_failed (look_checks s verdicts rule minute)) (verdict_of (code_at (policy_of s) verdicts rule minute))
