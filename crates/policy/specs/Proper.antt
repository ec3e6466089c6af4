-- What is true of every policy that is read, and the exact cause of each refusal of 1 to 4.
use Rattle.std.specs.Prelude.{ℕ, suc, ◌≤◌, ◌<◌, ◌≡◌, ◌↔◌, List, get_or, length, Err, Ok}
use Rattle.encoding.specs.Layout.{value_at}
use Rattle.mtl.specs.declared.Formula.{Formula}
use Rattle.mtl.specs.Syntax.{Earlier, Proposes, Bounded}
use Rattle.refusal.specs.declared.Refusal.{Refusal}
use Rattle.refusal.specs.declared.Refusal.TheVariants.{TruncatedPolicy, BadHeading, BadSubformula, RuleCount}
use Rattle.policy.specs.declared.Policy.{Policy}
use Rattle.policy.specs.Encoded.{IsHeading, PropositionsIn, ComponentsIn, MinutesIn, LinesIn, RulesIn, Line, LineAt}
pub use Rattle.policy.specs.Encoded.{Between}
use Rattle.policy.specs.Format.{no_line, rule_lines, count_of, offset, rules_up_to, answer_of}

-- the meaning of line i
abbrev pub formula_at : Policy → ℕ → Formula
formula_at p i = (get_or p.subformulas i no_line).formula

-- the lines that are rules, in order: rule r is line `get_or (rules_of p) r 0`
abbrev pub rules_of : Policy → List ℕ
rules_of p = rule_lines p.subformulas p.count

-- the ranges of a policy that was read
pub record Proper (p : Policy) : Type 0 where
  pub propositions : PropositionsIn p.sizes.propositions
  pub components : ComponentsIn p.sizes.components
  pub minutes : MinutesIn p.sizes.minutes
  pub count : LinesIn p.count
  pub rules : RulesIn p.rules
  pub rules_counted : length (rules_of p) ≡ p.rules
  pub table : length p.subformulas ≡ 64
  pub earlier : Earlier (formula_at p)
  pub proposes : (i : ℕ) → Proposes p.sizes.propositions (formula_at p i)
  pub bounded : (i : ℕ) → Bounded 1023 (formula_at p i)

-- the five bytes are there, and each heading number is in range
pub record Headed (s : List ℕ) : Type 0 where
  pub long : 5 ≤ length s
  pub heading : IsHeading (get_or s 0 0) (get_or s 1 0) (value_at s 2 2) (count_of s)

-- line i stands where it starts: some numbers and meaning that 01 allows
abbrev pub SomeLine : List ℕ → ℕ → Type 0
SomeLine s i = (l : Line) × LineAt s (get_or s 0 0) i (offset s i) l

-- line i has all its bytes and breaks no rule
abbrev pub Fine : List ℕ → ℕ → Type 0
Fine s i = (offset s (suc i) ≤ length s) × SomeLine s i

abbrev pub FineBefore : List ℕ → ℕ → Type 0
FineBefore s i = (j : ℕ) → j < i → Fine s j

-- the heading and every line are fine, and nothing follows
pub record Whole (s : List ℕ) : Type 0 where
  pub headed : Headed s
  pub lines : FineBefore s (count_of s)
  pub ends : offset s (count_of s) ≡ length s

-- Why the bytes are refused, by the refusal: its place is that of the table
pub data Cause (s : List ℕ) : Refusal → Type 0 where
  -- 1: the heading ends early; or a line does, those before it being fine; or bytes follow the last line
  heading_cut : length s < 5 → Cause s (TruncatedPolicy (length s))
  line_cut : (i : ℕ) → Headed s → i < count_of s → FineBefore s i → length s < offset s (suc i) → Cause s (TruncatedPolicy (length s))
  bytes_follow : Headed s → FineBefore s (count_of s) → offset s (count_of s) < length s → Cause s (TruncatedPolicy (offset s (count_of s)))
  -- 2: the first heading number that is out of range
  propositions_out : 5 ≤ length s → (PropositionsIn (get_or s 0 0) → ⊥) → Cause s (BadHeading 0)
  components_out : 5 ≤ length s → PropositionsIn (get_or s 0 0) → (ComponentsIn (get_or s 1 0) → ⊥) → Cause s (BadHeading 1)
  minutes_out : 5 ≤ length s → PropositionsIn (get_or s 0 0) → ComponentsIn (get_or s 1 0) → (MinutesIn (value_at s 2 2) → ⊥) → Cause s (BadHeading 2)
  lines_out : 5 ≤ length s → PropositionsIn (get_or s 0 0) → ComponentsIn (get_or s 1 0) → MinutesIn (value_at s 2 2) → (LinesIn (count_of s) → ⊥) → Cause s (BadHeading 4)
  -- 3: a line that has all its bytes and breaks a rule, those before it being fine
  line_bad : (i : ℕ) → Headed s → i < count_of s → FineBefore s i → offset s (suc i) ≤ length s → (SomeLine s i → ⊥) → Cause s (BadSubformula (offset s i))
  -- 4: no rule, or more than 8
  rules_out : Whole s → (RulesIn (rules_up_to s (count_of s)) → ⊥) → Cause s RuleCount

abbrev pub Cut : List ℕ → ℕ → Type 0
Cut s at = Cause s (TruncatedPolicy at)

abbrev pub Misheaded : List ℕ → ℕ → Type 0
Misheaded s at = Cause s (BadHeading at)

abbrev pub Misformed : List ℕ → ℕ → Type 0
Misformed s at = Cause s (BadSubformula at)

-- each number is answered exactly for its own cause
pub record Causes (s : List ℕ) : Type 0 where
  pub one : (at : ℕ) → (answer_of s ≡ Err (TruncatedPolicy at)) ↔ Cut s at
  pub two : (at : ℕ) → (answer_of s ≡ Err (BadHeading at)) ↔ Misheaded s at
  pub three : (at : ℕ) → (answer_of s ≡ Err (BadSubformula at)) ↔ Misformed s at
  pub four : (answer_of s ≡ Err RuleCount) ↔ (Whole s × (RulesIn (rules_up_to s (count_of s)) → ⊥))
  pub accepted : (answer_of s ≡ Ok tt) ↔ (Whole s × RulesIn (rules_up_to s (count_of s)))
