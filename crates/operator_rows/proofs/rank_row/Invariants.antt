-- `operator_rows::rank_row` meets its contract. The invariant of its loop: the cells before t are the ranks. Assumes nothing.
use mathlib.Core.Bool.{Bool}
use mathlib.Core.List.{List}
use Prim.Native.Nat.{ℕ}
use lib.ListN.{get_or}
use Rattle.kleene.specs.Truth.{value_of, and3}
use Rattle.kleene.specs.Rank.{rank_of}
use Rattle.kleene.specs.Tests.{literal}
use Rattle.rows.specs.Over.{Over}
use Rattle.operator_rows.proofs.rank_row.Given as goal

abbrev pub of : List ℕ → List ℕ → Bool → ℕ → ℕ
of points operand negated s = rank_of (and3 (value_of (get_or points s 0)) (literal negated (value_of (get_or operand s 0))))

abbrev pub invariant-loop-t : goal.invariant-loop-t
invariant-loop-t l = Over (of l.points l.operand l.negated) 0 l.t l.initial.ranks l.ranks
