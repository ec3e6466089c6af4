-- 01, "The card", a second time: which numbers are a heading and a line, and how they stand in the bytes. Nothing is read or tested here;
-- `accepts` and `reads` of Reads say that the reader takes just these bytes and reads what stands there.
use Rattle.std.specs.Prelude.{ℕ, zero, suc, ◌+◌, ◌≤◌, ◌<◌, ◌≡◌, Bool, cond, List, [], ◌∷◌, get_or, length}
use Rattle.encoding.specs.Fields.{has}
use Rattle.encoding.specs.Layout.{value_at, follows, Laid}
use Rattle.mtl.specs.declared.Formula.{Formula}
use Rattle.mtl.specs.declared.Formula.TheVariants as F

pub record Between (least most n : ℕ) : Type 0 where
  pub low : least ≤ n
  pub high : n ≤ most

-- "Marks (1 to 32), stations (1 to 16) and minutes M (1 to 1,024)", "lines (1, from 1 to 64)"
abbrev pub PropositionsIn : ℕ → Type 0
PropositionsIn n = Between 1 32 n

abbrev pub ComponentsIn : ℕ → Type 0
ComponentsIn n = Between 1 16 n

abbrev pub MinutesIn : ℕ → Type 0
MinutesIn n = Between 1 1024 n

abbrev pub LinesIn : ℕ → Type 0
LinesIn n = Between 1 64 n

-- "One to eight lines are rules"
abbrev pub RulesIn : ℕ → Type 0
RulesIn n = Between 1 8 n

pub record IsHeading (propositions components minutes lines : ℕ) : Type 0 where
  pub propositions_in : PropositionsIn propositions
  pub components_in : ComponentsIn components
  pub minutes_in : MinutesIn minutes
  pub lines_in : LinesIn lines

-- The table of kinds, with "operands are numbers of earlier lines" and "lower ≤ upper ≤ 1,023": the kind, first, second, lower and upper that line i
-- may have in a card with so many marks, a field that the kind doesn't allow being 0; and what the line means
pub data IsLine (propositions i : ℕ) : ℕ → ℕ → ℕ → ℕ → ℕ → Formula → Type 0 where
  is_true : IsLine propositions i 0 0 0 0 0 F.True
  is_proposition : (a : ℕ) → a < propositions → IsLine propositions i 1 a 0 0 0 (F.Proposition a)
  is_not : (a : ℕ) → a < i → IsLine propositions i 2 a 0 0 0 (F.Not a)
  is_or : (a b : ℕ) → a < i → b < i → IsLine propositions i 3 a b 0 0 (F.Or a b)
  is_since : (a b lower upper : ℕ) → a < i → b < i → lower ≤ upper → upper ≤ 1023 → IsLine propositions i 4 a b lower upper (F.Since a b lower upper)
  is_until : (a b lower upper : ℕ) → a < i → b < i → lower ≤ upper → upper ≤ 1023 → IsLine propositions i 5 a b lower upper (F.Until a b lower upper)
  -- 02, request 6: "Six and seven take first and second; the rest take first, lower, upper; operands are earlier lines"
  is_and : (a b : ℕ) → a < i → b < i → IsLine propositions i 6 a b 0 0 (F.And a b)
  is_implies : (a b : ℕ) → a < i → b < i → IsLine propositions i 7 a b 0 0 (F.Implies a b)
  is_once : (a lower upper : ℕ) → a < i → lower ≤ upper → upper ≤ 1023 → IsLine propositions i 8 a 0 lower upper (F.Once a lower upper)
  is_historically : (a lower upper : ℕ) → a < i → lower ≤ upper → upper ≤ 1023 → IsLine propositions i 9 a 0 lower upper (F.Historically a lower upper)
  is_eventually : (a lower upper : ℕ) → a < i → lower ≤ upper → upper ≤ 1023 → IsLine propositions i 10 a 0 lower upper (F.Eventually a lower upper)
  is_always : (a lower upper : ℕ) → a < i → lower ≤ upper → upper ≤ 1023 → IsLine propositions i 11 a 0 lower upper (F.Always a lower upper)

-- a line's numbers, whether it is a rule, and its meaning
pub record Line : Type 0 where
  pub kind : ℕ
  pub first : ℕ
  pub second : ℕ
  pub lower : ℕ
  pub upper : ℕ
  pub rule : Bool
  pub formula : Formula

-- "Bit 0 kind (1 byte), bit 1 first (1), bit 2 second (1), bit 3 lower (2), bit 4 upper (2)"
abbrev pub widths : List ℕ
widths = 1 ∷ 1 ∷ 1 ∷ 2 ∷ 2 ∷ []

abbrev pub numbers : Line → ℕ → ℕ
numbers l k = get_or (l.kind ∷ l.first ∷ l.second ∷ l.lower ∷ l.upper ∷ []) k 0

-- line i of a card with so many marks stands at a place
pub record LineAt (s : List ℕ) (propositions i at : ℕ) (l : Line) : Type 0 where
  pub is_line : IsLine propositions i l.kind l.first l.second l.lower l.upper l.formula
  pub laid : Laid widths s at (numbers l)
  -- "Bit 5 makes the line a rule. Bits 6 and 7 are 0"
  pub rule : has (get_or s at 0) 5 ≡ l.rule
  pub spare : get_or s at 0 < 64

-- how many of the first n lines are rules
abbrev pub rules_in : (ℕ → Line) → ℕ → ℕ
rules_in lines zero = 0
rules_in lines (suc n) = rules_in lines n + cond (lines n).rule 1 0

-- The bytes are a card: "heading, 5 bytes: marks (1), stations (1), minutes (2), lines (1)", "then the lines, numbered from 0", each right after the
-- one before it, and nothing after the last; "one to eight lines are rules"
pub record IsPolicy (s : List ℕ) : Type 0 where
  pub heading : IsHeading (get_or s 0 0) (get_or s 1 0) (value_at s 2 2) (get_or s 4 0)
  pub lines : ℕ → Line
  pub at : ℕ → ℕ
  pub starts : at 0 ≡ 5
  pub line : (i : ℕ) → i < get_or s 4 0 → LineAt s (get_or s 0 0) i (at i) (lines i)
  pub next : (i : ℕ) → i < get_or s 4 0 → at (suc i) ≡ follows widths (numbers (lines i)) (at i) (length widths)
  pub ends : at (get_or s 4 0) ≡ length s
  pub rules : RulesIn (rules_in lines (get_or s 4 0))
