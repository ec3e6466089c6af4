-- How many verdicts stand in a list is the sum over its parts. Assumes nothing.
use Prim.Native.Nat.{ℕ, ◌+◌, ◌≤◌, ◌<◌}
use native.Mathlib.Nat.{add-zero, zero-add}
use native.Mathlib.Numerals.{add-one}
use native.Mathlib.Omega.{arith}
use mathlib.Core.Path.{◌≡◌, sym, ap, ◌∙◌}
use mathlib.Core.Bool.{Bool, true, false, cond}
use mathlib.Core.List.{List, [], ◌∷◌, ◌++◌}
use lib.Dec.{eqb}
use lib.ListN.{length, take, set}
use lib.Seq.{take-suc-set}
use Rattle.valuation.specs.Sheets.{standing}
use Rattle.valuation.specs.Verdicts.{one_stands}

pub at_most_one : (v : ℕ) → one_stands v ≤ 1
at_most_one v = go (eqb v 0)
  where
    go : (b : Bool) → cond b 0 1 ≤ 1
    go true = omega arith
    go false = omega arith

pub standing_append : (a b : List ℕ) → standing (a ++ b) ≡ standing a + standing b
unfolding standing
standing_append [] b = sym (zero-add (standing b))
standing_append (v ∷ a) b = omega (arith, standing_append a b)

pub standing_le : (l : List ℕ) → standing l ≤ length l
unfolding standing
standing_le [] = omega arith
standing_le (v ∷ l) = omega (arith, standing_le l, at_most_one v)

-- one cell more, as it is written
pub standing_more : (l : List ℕ) (t v : ℕ) → t < length l → standing (take (t + 1) (set l t v)) ≡ standing (take t l) + one_stands v
unfolding standing
standing_more l t v h = rw (add-one, take-suc-set) (standing_append (take t l) (v ∷ []) ∙ ap (λ (n : ℕ). standing (take t l) + n) (add-zero (one_stands v)))
