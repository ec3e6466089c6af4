-- The kinds of a line and their numbers (01: the table of kinds; 02, request 6).
use Rattle.std.specs.Prelude.{ℕ, ◌≤◌, ◌≡◌, Result, MatchResult}
use Rattle.policy.specs.declared.LineKind.{LineKind}
use Rattle.policy.specs.declared.LineKind.TheVariants.{True, Proposition, Not, Or, Since, Until, And, Implies, Once, Historically, Eventually, Always}
use Rattle.policy.specs.declared.UnknownKind.{UnknownKind}

abbrev pub kind_number : LineKind → ℕ
kind_number True = 0
kind_number Proposition = 1
kind_number Not = 2
kind_number Or = 3
kind_number Since = 4
kind_number Until = 5
kind_number And = 6
kind_number Implies = 7
kind_number Once = 8
kind_number Historically = 9
kind_number Eventually = 10
kind_number Always = 11

-- the kind that has this number, or none has
abbrev pub KindRead : ℕ → Result LineKind UnknownKind → Type 0
KindRead n r = MatchResult r (λ k. kind_number k ≡ n) (λ e. (e.0 ≡ n) × (12 ≤ n))
