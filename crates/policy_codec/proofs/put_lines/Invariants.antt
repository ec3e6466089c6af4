-- Invariant: the lines so far stand behind the heading (`Put`). Assumes nothing.
use Rattle.encoding.proofs.Putting.{Put}
use Rattle.policy.specs.Text.{lines_text}
use Rattle.policy_codec.proofs.put_lines.Given as goal

abbrev pub invariant-loop-line : goal.invariant-loop-line
invariant-loop-line l = Put l.initial.out 5 (lines_text l.lines l.line-index) l.out l.at
