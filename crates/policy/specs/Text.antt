-- 02, request 3: a policy from its numbers. Which numbers are in range, in 01's words; the bytes that are written for them; and what the writer
-- answers. RoundTrip shows that reading and writing are each other's inverse.
use Rattle.std.specs.Prelude.{ℕ, zero, suc, ◌+◌, ◌<◌, Bool, true, false, cond, ◌&&◌, List, [], ◌∷◌, ◌++◌, map, ltb, leb, get_or, length}
use Rattle.encoding.specs.Text.{bytes_of, bits_of, text}
use Rattle.mtl.specs.declared.Formula.{Formula}
use Rattle.mtl.specs.declared.Formula.TheVariants as F
use Rattle.refusal.specs.declared.Refusal.TheVariants.{BadHeading, BadSubformula, RuleCount, ShortBuffer}
use Rattle.refusal.specs.Checks.{Check, check, first_failed}
use Rattle.refusal.specs.Writes.{Output, written}
use Rattle.policy.specs.declared.Subformula.{Subformula}
use Rattle.policy.specs.declared.Policy.{Policy}
use Rattle.policy.specs.declared.LineNumbers.{LineNumbers}
use Rattle.policy.specs.declared.PolicyNumbers.{PolicyNumbers}
use Rattle.policy.specs.Encoded.{IsHeading, IsLine, RulesIn, widths}
use Rattle.policy.specs.Format.{kinds, kind_of, operands_good, within}
use Rattle.policy.specs.Kinds.{zeros}

abbrev pub numbered : ℕ → ℕ → ℕ → ℕ → ℕ → Bool → LineNumbers
numbered kind first second lower upper rule =
    record { kind = kind; first = first; second = second; lower = lower; upper = upper; rule = rule }

abbrev pub no_numbers : LineNumbers
no_numbers = numbered 0 0 0 0 0 false

-- line i
abbrev pub line_in : List LineNumbers → ℕ → LineNumbers
line_in lines i = get_or lines i no_numbers

-- how many of the first n lines are rules
abbrev pub rules_among : List LineNumbers → ℕ → ℕ
rules_among lines zero = 0
rules_among lines (suc n) = rules_among lines n + cond (line_in lines n).rule 1 0

-- ---- the numbers of what a reader gives

-- the table of kinds from its middle column: the kind of a meaning and its fields, one that the kind doesn't allow being 0
abbrev pub formula_numbers : Formula → Bool → LineNumbers
formula_numbers F.True = numbered 0 0 0 0 0
formula_numbers (F.Proposition a) = numbered 1 a 0 0 0
formula_numbers (F.Not a) = numbered 2 a 0 0 0
formula_numbers (F.Or a b) = numbered 3 a b 0 0
formula_numbers (F.Since a b lower upper) = numbered 4 a b lower upper
formula_numbers (F.Until a b lower upper) = numbered 5 a b lower upper
formula_numbers (F.And a b) = numbered 6 a b 0 0
formula_numbers (F.Implies a b) = numbered 7 a b 0 0
formula_numbers (F.Once a lower upper) = numbered 8 a 0 lower upper
formula_numbers (F.Historically a lower upper) = numbered 9 a 0 lower upper
formula_numbers (F.Eventually a lower upper) = numbered 10 a 0 lower upper
formula_numbers (F.Always a lower upper) = numbered 11 a 0 lower upper

abbrev pub line_numbers : Subformula → LineNumbers
line_numbers x = formula_numbers x.formula x.rule

unfoldable pub numbers_of : Policy → PolicyNumbers
numbers_of p =
    record {
      propositions = p.sizes.propositions;
      components = p.sizes.components;
      minutes = p.sizes.minutes;
      count = p.count;
      lines = map line_numbers p.subformulas;
    }

-- ---- in range

-- "Marks (1 to 32), stations (1 to 16) and minutes M (1 to 1,024)", lines "from 1 to 64"
abbrev pub HeadingIn : PolicyNumbers → Type 0
HeadingIn p = IsHeading p.propositions p.components p.minutes p.count

-- line i has numbers that the table of kinds allows there, whatever it means
abbrev pub LineIn : PolicyNumbers → ℕ → Type 0
LineIn p i =
    let l = line_in p.lines i in
    (x : Formula) × IsLine p.propositions i l.kind l.first l.second l.lower l.upper x

abbrev pub EachLineIn : PolicyNumbers → Type 0
EachLineIn p = (i : ℕ) → i < p.count → LineIn p i

-- "One to eight lines are rules"
abbrev pub RulesAmong : PolicyNumbers → Type 0
RulesAmong p = RulesIn (rules_among p.lines p.count)

pub record InRange (p : PolicyNumbers) : Type 0 where
  pub heading : HeadingIn p
  pub lines : EachLineIn p
  pub rules : RulesAmong p

-- ---- the bytes

-- the fields in the order of their bits: "bit 0 kind, bit 1 first, bit 2 second, bit 3 lower, bit 4 upper"
abbrev pub field_of : LineNumbers → ℕ → ℕ
field_of l k = get_or (l.kind ∷ l.first ∷ l.second ∷ l.lower ∷ l.upper ∷ []) k 0

-- the map of a line
abbrev pub line_map : LineNumbers → ℕ
line_map l = bits_of (field_of l) 5 + cond l.rule 32 0

-- "A line is a bit map, then only the fields whose bit stands. Bit 5 makes the line a rule"
unfoldable pub line_text : LineNumbers → List ℕ
line_text l = text widths (field_of l) l.rule

-- "Then the lines, numbered from 0": the first n
unfoldable pub lines_text : List LineNumbers → ℕ → List ℕ
lines_text lines zero = []
lines_text lines (suc n) = lines_text lines n ++ line_text (line_in lines n)

-- "Heading, 5 bytes: marks (1), stations (1), minutes (2), lines (1)"
abbrev pub heading_text : ℕ → ℕ → ℕ → ℕ → List ℕ
heading_text propositions components minutes count = bytes_of 1 propositions ++ (bytes_of 1 components ++ (bytes_of 2 minutes ++ bytes_of 1 count))

unfoldable pub text_of : PolicyNumbers → List ℕ
text_of p = heading_text p.propositions p.components p.minutes p.count ++ lines_text p.lines p.count

-- ---- what the writer answers

abbrev pub heading_good : ℕ → ℕ → ℕ → ℕ → Bool
heading_good propositions components minutes count =
    within 1 32 propositions && (within 1 16 components && (within 1 1024 minutes && within 1 64 count))

-- there is such a kind, the fields keep its row, and "lower ≤ upper ≤ 1,023"
unfoldable pub line_good : ℕ → ℕ → LineNumbers → Bool
line_good propositions i l =
    ltb l.kind (length kinds)
    && (zeros (kind_of l.kind) l.first l.second l.lower l.upper
    && (operands_good (kind_of l.kind).operands propositions i l.first l.second
    && (leb l.lower l.upper
    && leb l.upper 1023)))

-- the first n lines
unfoldable pub lines_good : ℕ → List LineNumbers → ℕ → Bool
lines_good propositions lines zero = true
lines_good propositions lines (suc n) = lines_good propositions lines n && line_good propositions n (line_in lines n)

-- "Out-of-range fields are refused with the reader's numbers 2, 3, 4 .., in that order, at place 0"; "11, short paper, when the lent buffer is shorter
-- than the text, tested after those"
unfoldable pub encode_checks : PolicyNumbers → ℕ → List Check
encode_checks p room =
    check (heading_good p.propositions p.components p.minutes p.count) (BadHeading 0)
    ∷ check (lines_good p.propositions p.lines p.count) (BadSubformula 0)
    ∷ check (within 1 8 (rules_among p.lines p.count)) RuleCount
    ∷ check (leb (length (text_of p)) room) ShortBuffer
    ∷ []

unfoldable pub encode_of : PolicyNumbers → List ℕ → Output
encode_of p out = written (first_failed (encode_checks p (length out))) (text_of p) out
