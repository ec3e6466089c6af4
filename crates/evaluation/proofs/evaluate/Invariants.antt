-- `evaluation::evaluate` meets its contract. The invariant of its loop: the first i rows are their subformulas' values, and the rest is as it was. Assumes nothing.
use mathlib.Core.Path.{◌≡◌}
use Prim.Native.Nat.{◌*◌}
use Rattle.rows.specs.Over.{Over}
use Rattle.knowledge.specs.Knowledge.{Knowledge}
use Rattle.valuation.specs.Rows.{Points}
use Rattle.evaluation.proofs.Work.{cell}
use Rattle.evaluation.proofs.evaluate.Given as goal

abbrev pub invariant-loop-i : goal.invariant-loop-i
invariant-loop-i l =
    (k : Knowledge) → k.facts ≡ l.facts → Points l.policy.sizes k l.points → Over (cell l.policy k) 0 (l.i * l.minutes) l.initial.valuation l.valuation
