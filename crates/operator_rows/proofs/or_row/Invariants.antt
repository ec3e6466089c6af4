-- `operator_rows::or_row` meets its contract. The invariant of its loop: the cells before t are the codes of or. Assumes nothing.
use mathlib.Core.List.{List}
use Prim.Native.Nat.{ℕ}
use lib.ListN.{get_or}
use Rattle.kleene.specs.Truth.{code_of, value_of, or3}
use Rattle.rows.specs.Over.{Over}
use Rattle.operator_rows.proofs.or_row.Given as goal

abbrev pub of : List ℕ → List ℕ → ℕ → ℕ
of left right s = code_of (or3 (value_of (get_or left s 0)) (value_of (get_or right s 0)))

abbrev pub invariant-loop-t : goal.invariant-loop-t
invariant-loop-t l = Over (of l.left l.right) 0 l.t l.initial.row l.row
