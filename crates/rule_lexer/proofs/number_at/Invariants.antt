-- Each turn one digit more has been read (`Scanned`). Assumes nothing.
use Rattle.std.proofs.Common.{◌≡◌, ◌+◌}
use Rattle.rule_text.specs.Laws.{Scanned}
use Rattle.rule_lexer.proofs.number_at.Given as goal

abbrev pub invariant-loop-byte : goal.invariant-loop-byte
invariant-loop-byte l = (l.end ≡ l.at + l.byte-index) × Scanned l.text l.at l.end l.value
