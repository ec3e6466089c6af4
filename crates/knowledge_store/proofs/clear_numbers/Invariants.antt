-- Each place gets its fresh number; the loop has written the places below i. Assumes nothing.
use Prim.Native.Nat.{◌+◌, ◌%◌}
use mathlib.Core.Bool.{cond}
use lib.Dec.{eqb}
use Rattle.knowledge.specs.Knowledge.{none}
use Rattle.rows.specs.Over.{Over}
use Rattle.knowledge_store.proofs.clear_numbers.Given as goal

abbrev pub invariant-loop-i : goal.invariant-loop-i
invariant-loop-i l = Over (λ j. cond (eqb (j % (l.minutes + 1)) 0) 0 none) 0 l.i l.initial.numbers l.numbers
