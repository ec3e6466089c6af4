-- `operator_rows::not_row` meets its contract. The invariant of its loop: the cells before t are the codes of not. Assumes nothing.
use mathlib.Core.List.{List}
use Prim.Native.Nat.{ℕ}
use lib.ListN.{get_or}
use Rattle.kleene.specs.Truth.{code_of, value_of, not3}
use Rattle.rows.specs.Over.{Over}
use Rattle.operator_rows.proofs.not_row.Given as goal

abbrev pub of : List ℕ → ℕ → ℕ
of operand s = code_of (not3 (value_of (get_or operand s 0)))

abbrev pub invariant-loop-t : goal.invariant-loop-t
invariant-loop-t l = Over (of l.operand) 0 l.t l.initial.row l.row
