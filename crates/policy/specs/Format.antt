-- 01, "The card", as a function from the bytes to the answer and the policy. Each definition opens with its sentence.
use Rattle.refusal.specs.declared.Refusal.{Refusal}
use Rattle.std.specs.Prelude.{ℕ, zero, suc, ◌+◌, ◌-◌, Bool, true, false, not, cond, ◌&&◌, ◌||◌, List, [], ◌∷◌, ◌++◌, eqb, ltb, leb, get_or, length, replicate, Result}
use Rattle.encoding.specs.Fields.{has, size, written}
use Rattle.encoding.specs.Layout.{extent, value_at, field}
use Rattle.mtl.specs.declared.Formula.{Formula}
use Rattle.mtl.specs.declared.Formula.TheVariants as F
use Rattle.refusal.specs.declared.Refusal.TheVariants.{TruncatedPolicy, BadHeading, BadSubformula, RuleCount}
use Rattle.refusal.specs.Checks.{Checked, Check, check, first_failed, give_unless}
use Rattle.policy.specs.declared.Sizes.{Sizes}
use Rattle.policy.specs.declared.Subformula.{Subformula}
use Rattle.policy.specs.declared.Policy.{Policy}
use Rattle.policy.specs.declared.Fields.{Fields}
use Rattle.policy.specs.declared.Operands.{Operands}
use Rattle.policy.specs.declared.Operands.TheVariants.{Nothing, Proposition, Line, TwoLines}
use Rattle.policy.specs.declared.Kind.{Kind}
use Rattle.policy.specs.Encoded.{widths}

-- ---- one line

-- "A line is a bit map (1 byte), then only the fields whose bit stands": the length of the line with this map. Bits 5 to 7 don't change it
unfoldable pub line_length : ℕ → ℕ
line_length map = extent widths map

-- the fields of the line whose map stands at a place
unfoldable pub fields_at : List ℕ → ℕ → Fields
fields_at s at =
    record {
      map = get_or s at 0;
      kind = field widths s at 0;
      first = field widths s at 1;
      second = field widths s at 2;
      lower = field widths s at 3;
      upper = field widths s at 4;
    }

-- The table of kinds, a row a kind: which of first, second, lower and upper it allows, and what its operands are. "Mark number first"; "for
-- kinds 2 to 5, operands are numbers of earlier lines". 02, request 6: "Six and seven take first and second; the rest take first, lower, upper;
-- operands are earlier lines"
abbrev row : Bool → Bool → Bool → Bool → Operands → Kind
row first second lower upper operands = record { first = first; second = second; lower = lower; upper = upper; operands = operands }

abbrev constant : Kind
constant = row false false false false Nothing

abbrev atom : Kind
atom = row true false false false Proposition

abbrev unary : Kind
unary = row true false false false Line

abbrev binary : Kind
binary = row true true false false TwoLines

abbrev temporal : Kind
temporal = row true true true true TwoLines

abbrev window : Kind
window = row true false true true Line

abbrev pub kinds : List Kind
kinds = constant ∷ atom ∷ unary ∷ binary ∷ temporal ∷ temporal ∷ binary ∷ binary ∷ window ∷ window ∷ window ∷ window ∷ []

abbrev pub kind_of : ℕ → Kind
kind_of k = get_or kinds k constant

-- the map names only fields that the kind allows
abbrev pub allowed : Kind → ℕ → Bool
allowed k map = (k.first || not (has map 1)) && ((k.second || not (has map 2)) && ((k.lower || not (has map 3)) && (k.upper || not (has map 4))))

-- a mark of this card, or earlier lines
abbrev pub operands_good : Operands → ℕ → ℕ → ℕ → ℕ → Bool
operands_good Nothing propositions line first second = true
operands_good Proposition propositions line first second = ltb first propositions
operands_good Line propositions line first second = ltb first line
operands_good TwoLines propositions line first second = ltb first line && ltb second line

-- there is such a kind, and the fields keep its row
unfoldable pub keeps_kind : ℕ → ℕ → Fields → Bool
keeps_kind propositions line f =
    ltb f.kind (length kinds)
    && (allowed (kind_of f.kind) f.map && operands_good (kind_of f.kind).operands propositions line f.first f.second)

-- "Bits 6 and 7 are 0." "A written field is not 0." The row of the kind, and "lower ≤ upper ≤ 1,023"
unfoldable pub good_line : ℕ → ℕ → Fields → Bool
good_line propositions line f =
    ltb f.map 64
    && (written (has f.map 0) f.kind
    && (written (has f.map 1) f.first
    && (written (has f.map 2) f.second
    && (written (has f.map 3) f.lower
    && (written (has f.map 4) f.upper
    && (keeps_kind propositions line f
    && (leb f.lower f.upper
    && leb f.upper 1023)))))))

-- the table's middle column: what a line of each kind but the last means, with its first, second, lower and upper
abbrev pub meanings : ℕ → ℕ → ℕ → ℕ → List Formula
meanings a b lower upper =
    F.True
    ∷ F.Proposition a
    ∷ F.Not a
    ∷ F.Or a b
    ∷ F.Since a b lower upper
    ∷ F.Until a b lower upper
    ∷ F.And a b
    ∷ F.Implies a b
    ∷ F.Once a lower upper
    ∷ F.Historically a lower upper
    ∷ F.Eventually a lower upper
    ∷ []

unfoldable pub meaning : ℕ → ℕ → ℕ → ℕ → ℕ → Formula
meaning kind a b lower upper = get_or (meanings a b lower upper) kind (F.Always a lower upper)

unfoldable pub formula_of : Fields → Formula
formula_of f = meaning f.kind f.first f.second f.lower f.upper

-- "Bit 5 makes the line a rule"
unfoldable pub subformula_of : Fields → Subformula
subformula_of f = record { formula = formula_of f; rule = has f.map 5 }

unfoldable pub subformula_at : List ℕ → ℕ → Subformula
subformula_at s at = subformula_of (fields_at s at)

-- ---- the heading

-- "Heading, 5 bytes: marks (1), stations (1), minutes (2), lines (1)"
abbrev pub sizes_of : List ℕ → Sizes
sizes_of s = record { propositions = get_or s 0 0; components = get_or s 1 0; minutes = value_at s 2 2 }

abbrev pub count_of : List ℕ → ℕ
count_of s = get_or s 4 0

abbrev pub within : ℕ → ℕ → ℕ → Bool
within least most n = leb least n && leb n most

-- "Marks (1 to 32), stations (1 to 16) and minutes M (1 to 1,024)", lines "from 1 to 64"; 2, at the first byte of the first such field
unfoldable pub heading_checks : List ℕ → List Check
heading_checks s =
    check (within 1 32 (get_or s 0 0)) (BadHeading 0)
    ∷ check (within 1 16 (get_or s 1 0)) (BadHeading 1)
    ∷ check (within 1 1024 (value_at s 2 2)) (BadHeading 2)
    ∷ check (within 1 64 (count_of s)) (BadHeading 4)
    ∷ []

-- ---- the lines, "numbered from 0"

-- where line i starts
unfoldable pub offset : List ℕ → ℕ → ℕ
offset s zero = 5
offset s (suc i) = offset s i + line_length (get_or s (offset s i) 0)

-- "Line by line 1 before 3": 1 at the card's length where line i ends early, 3 at its map byte where it breaks a rule
unfoldable pub line_checks : List ℕ → ℕ → List Check
line_checks s i =
    check (leb (offset s (suc i)) (length s)) (TruncatedPolicy (length s))
    ∷ check (good_line (get_or s 0 0) i (fields_at s (offset s i))) (BadSubformula (offset s i))
    ∷ []

-- the first n lines
unfoldable pub lines_checks : List ℕ → ℕ → List Check
lines_checks s zero = []
lines_checks s (suc i) = lines_checks s i ++ line_checks s i

unfoldable pub lines_up_to : List ℕ → ℕ → List Subformula
lines_up_to s zero = []
lines_up_to s (suc i) = lines_up_to s i ++ (subformula_at s (offset s i) ∷ [])

abbrev pub no_line : Subformula
no_line = record { formula = F.True; rule = false }

-- the n lines in a table of 64, the rest of it padding
unfoldable pub subformulas_of : List ℕ → ℕ → List Subformula
subformulas_of s n = lines_up_to s n ++ replicate (64 - n) no_line

-- "Rule numbers follow line order from 0": the numbers of the first n lines that are rules, in order
unfoldable pub rule_lines : List Subformula → ℕ → List ℕ
rule_lines lines zero = []
rule_lines lines (suc i) = rule_lines lines i ++ cond (get_or lines i no_line).rule (i ∷ []) []

-- how many of the first n lines are rules
unfoldable pub rules_up_to : List ℕ → ℕ → ℕ
rules_up_to s zero = 0
rules_up_to s (suc i) = rules_up_to s i + size (has (get_or s (offset s i) 0) 5) 1

-- ---- the card

-- "Trailing bytes 1, then 4": "One to eight lines are rules"
unfoldable pub closing_checks : ℕ → ℕ → ℕ → List Check
closing_checks length at rules = check (eqb at length) (TruncatedPolicy at) ∷ check (within 1 8 rules) RuleCount ∷ []

-- "1 for the heading, 2, then line by line 1 before 3, trailing bytes 1, then 4"
unfoldable pub policy_checks : List ℕ → List Check
policy_checks s =
    check (leb 5 (length s)) (TruncatedPolicy (length s))
    ∷ (heading_checks s
    ++ (lines_checks s (count_of s)
    ++ closing_checks (length s) (offset s (count_of s)) (rules_up_to s (count_of s))))

unfoldable pub answer_of : List ℕ → Checked
answer_of s = first_failed (policy_checks s)

unfoldable pub policy_of : List ℕ → Policy
policy_of s = record { sizes = sizes_of s; count = count_of s; rules = rules_up_to s (count_of s); subformulas = subformulas_of s (count_of s) }

-- what the reader gives: the policy, unless it is refused
unfoldable pub decode_of : List ℕ → Result Policy Refusal
decode_of s = give_unless (answer_of s) (policy_of s)
