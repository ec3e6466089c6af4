-- `knowledge_store::join` meets its contract. The loop's invariant: the cells from lo up to i are joined. Assumes nothing.
use mathlib.Core.Bool.{cond}
use Rattle.kleene.specs.Truth.{unknown, true3}
use Rattle.rows.specs.Over.{Over}
use Rattle.knowledge.specs.Run.{joined}
use Rattle.knowledge_store.proofs.join.Given as goal

abbrev pub invariant-loop-i : goal.invariant-loop-i
invariant-loop-i l = Over (joined l.initial.row (λ _. cond l.full true3 unknown)) l.lo l.i l.initial.row l.row
