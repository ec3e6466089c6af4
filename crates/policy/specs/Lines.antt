-- What reading the lines one after another finds.
use Rattle.std.specs.Prelude.{ℕ, List, Result}
use Rattle.refusal.specs.declared.Refusal.{Refusal}
use Rattle.refusal.specs.Checks.{first_failed, give_unless}
use Rattle.policy.specs.declared.Scanned.{Scanned}
use Rattle.policy.specs.Format.{offset, lines_checks, subformulas_of, rules_up_to}

-- the place after the first n lines, their rules and the table
abbrev pub scanned : List ℕ → ℕ → Scanned
scanned s n = record { at = offset s n; rules = rules_up_to s n; subformulas = subformulas_of s n }

-- the same, unless one of them is refused
unfoldable pub scan_of : List ℕ → ℕ → Result Scanned Refusal
scan_of s n = give_unless (first_failed (lines_checks s n)) (scanned s n)
