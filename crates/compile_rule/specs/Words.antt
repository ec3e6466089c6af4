-- Which words are told of a place: what the grammar expects there (13), or which limit is passed (14).
use Rattle.std.specs.Prelude.{ℕ, ◌-◌, ◌%◌, ◌≤◌, ◌<◌, ◌≡◌, Bool, true, false, ◌&&◌, not, List, eqb, ltb, leb, length, take, get_or}
use Rattle.compile_rule.specs.declared.beginning.Expected.{Expected}
use Rattle.compile_rule.specs.declared.beginning.Expected.TheVariants as E
use Rattle.compile_rule.specs.declared.beginning.Beginning.{Beginning}
use Rattle.compile_rule.specs.declared.reason.Reason.{Reason}
use Rattle.compile_rule.specs.declared.reason.Reason.TheVariants.{Term, True, Not, Space, Number, LeadingZero, End, Close, Joint, Or, And, Since, Until, Bracket, Comma, CloseInterval}
use Rattle.compile_rule.specs.declared.excess.Excess.{Excess}
use Rattle.compile_rule.specs.declared.excess.Excess.TheVariants.{Mark, Bound, Terms, Nesting, Interval}
use Rattle.compile_rule.specs.Choices.{choose, digit}
use Rattle.compile_rule.specs.Begun.{begun}

-- the byte so many places before a place; 0 where there is none
unfoldable pub byte_before : List ℕ → ℕ → ℕ → ℕ
byte_before text at back = choose (ltb at back) 0 (get_or text (at - back) 0)

-- a zero that begins a number, with a digit behind it
unfoldable pub leading_zero : List ℕ → ℕ → Bool
leading_zero text at = (eqb (byte_before text at 1) 48 && not (digit (byte_before text at 2))) && digit (get_or text at 0)

-- where a number should stand, or could go on before what should follow it
unfoldable pub number_reason : List ℕ → ℕ → Reason → Reason
number_reason text at behind = choose (digit (byte_before text at 1)) (choose (leading_zero text at) LeadingZero behind) Number

-- behind a term: outside of all brackets, in the first term of a group, or in its second
unfoldable pub ended_reason : ℕ → Reason
ended_reason levels = choose (ltb levels 2) End (choose (eqb (levels % 2) 0) Space Close)

abbrev pub reason_by : Expected → List ℕ → ℕ → Beginning → Reason
reason_by E.Term text at b = Term
reason_by E.True text at b = True
reason_by E.Not text at b = Not
reason_by E.Space text at b = Space
reason_by E.Mark text at b = number_reason text at (ended_reason b.levels)
reason_by E.Ended text at b = ended_reason b.levels
reason_by E.Joint text at b = Joint
reason_by E.Or text at b = Or
reason_by E.And text at b = And
reason_by E.Since text at b = Since
reason_by E.Until text at b = Until
reason_by E.Bracket text at b = Bracket
reason_by E.Lower text at b = number_reason text at Comma
reason_by E.Upper text at b = number_reason text at CloseInterval

unfoldable pub reason_at : List ℕ → ℕ → Reason
reason_at text at = reason_by (begun (take at text)).expected text at (begun (take at text))

-- where a term would start: a "(" inside 32 open ones, or a 65th term
unfoldable pub term_limit : List ℕ → ℕ → ℕ → Excess
term_limit text at levels = choose (eqb (get_or text at 0) 40 && leb 4294967296 levels) Nesting Terms

abbrev pub limit_by : Expected → List ℕ → ℕ → Beginning → Excess
limit_by E.Term text at b = term_limit text at b.levels
limit_by E.True text at b = Terms
limit_by E.Not text at b = Terms
limit_by E.Space text at b = Terms
limit_by E.Mark text at b = Mark
limit_by E.Ended text at b = Terms
limit_by E.Joint text at b = Terms
limit_by E.Or text at b = Terms
limit_by E.And text at b = Terms
limit_by E.Since text at b = Terms
limit_by E.Until text at b = Terms
limit_by E.Bracket text at b = Interval
limit_by E.Lower text at b = Bound
limit_by E.Upper text at b = Bound

unfoldable pub limit_at : List ℕ → ℕ → Excess
limit_at text at = limit_by (begun (take at text)).expected text at (begun (take at text))

-- the digits from a place on end there
pub record DigitsEnd (text : List ℕ) (at end : ℕ) : Type 0 where
  pub from : at ≤ end
  pub inside : end ≤ length text
  pub digits : (k : ℕ) → at ≤ k → k < end → digit (get_or text k 0) ≡ true
  pub no_more : digit (get_or text end 0) ≡ false

-- printed as it is, or as a question mark
unfoldable pub shown : ℕ → ℕ
shown byte = choose (ltb byte 32) 63 (choose (ltb 126 byte) 63 byte)
