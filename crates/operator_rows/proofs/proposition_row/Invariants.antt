-- `operator_rows::proposition_row` meets its contract. The invariant of its loop: the cells before t are the codes of the facts. Assumes nothing.
use mathlib.Core.Path.{◌≡◌}
use lib.ListN.{length}
use Rattle.kleene.specs.Truth.{code_of}
use Rattle.rows.specs.Over.{Over}
use Rattle.knowledge.specs.Knowledge.{Knowledge, fact}
use Rattle.operator_rows.proofs.proposition_row.Given as goal

abbrev pub invariant-loop-t : goal.invariant-loop-t
invariant-loop-t l =
    (length l.row ≡ 1024)
    × ((k : Knowledge) → k.facts ≡ l.facts → Over (λ s. code_of (fact k l.proposition s)) 0 l.t l.initial.row l.row)
