-- What the call gives (02, request 8): lent a card, it writes the reach of each rule, "a number for each rule".
use Rattle.std.specs.Prelude.{ℕ, List, [], ◌∷◌, ◌++◌, leb, get_or, length}
use Rattle.rows.specs.Grid.{table}
use Rattle.refusal.specs.declared.Refusal.TheVariants.{ShortBuffer}
use Rattle.refusal.specs.Checks.{Check, check, first_failed}
use Rattle.refusal.specs.Writes.{Output, written}
use Rattle.policy.specs.declared.Policy.{Policy}
use Rattle.policy.specs.Format.{policy_checks, policy_of}
use Rattle.policy.specs.Proper.{formula_at, rules_of}
use Rattle.reach.specs.Reach.{reach}

-- the reach of rule r
abbrev pub rule_reach : Policy → ℕ → ℕ
rule_reach p r = reach (formula_at p) (get_or (rules_of p) r 0)

-- of each; "rule numbers follow line order from 0"
unfoldable pub reaches_of : Policy → List ℕ
reaches_of p = table p.rules (rule_reach p)

-- 11, where the lent buffer has fewer places than there are rules
abbrev pub room_checks : Policy → ℕ → List Check
room_checks p room = check (leb p.rules room) ShortBuffer ∷ []

unfoldable pub reaches_under : Policy → List ℕ → Output
reaches_under p out = written (first_failed (room_checks p (length out))) (reaches_of p) out

-- 1 to 4, of the card, and then 11
unfoldable pub rule_reaches : List ℕ → List ℕ → Output
rule_reaches s out = written (first_failed (policy_checks s ++ room_checks (policy_of s) (length out))) (reaches_of (policy_of s)) out
