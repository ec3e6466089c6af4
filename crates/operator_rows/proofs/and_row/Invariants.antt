-- `operator_rows::and_row` meets its contract. The invariant of its loop: the cells before t are the codes of and, or of implies. Assumes nothing.
use mathlib.Core.Bool.{Bool}
use mathlib.Core.List.{List}
use Prim.Native.Nat.{ℕ}
use lib.ListN.{get_or}
use Rattle.kleene.specs.Truth.{Truth, code_of, value_of, and3}
use Rattle.kleene.specs.Tests.{literal}
use Rattle.rows.specs.Over.{Over}
use Rattle.operator_rows.proofs.and_row.Given as goal

abbrev pub both : Bool → Truth → Truth → ℕ
both negated x y = code_of (literal negated (and3 x (literal negated y)))

abbrev pub of : List ℕ → List ℕ → Bool → ℕ → ℕ
of left right negated s = both negated (value_of (get_or left s 0)) (value_of (get_or right s 0))

abbrev pub invariant-loop-t : goal.invariant-loop-t
invariant-loop-t l = Over (of l.left l.right l.negated) 0 l.t l.initial.row l.row
