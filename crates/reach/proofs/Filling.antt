-- The reaches of the lines, one after another: what each is made from, and that it fits. Assumes nothing.
use Prim.Native.Nat.{ℕ, ◌+◌, ◌<◌}
use native.Mathlib.Omega.{arith}
use native.Mathlib.Decide.{ℕ_discrete}
use mathlib.Core.Path.{◌≡◌, sym, ◌∙◌}
use mathlib.Core.List.{List}
use lib.ListN.{get_or, length, set, length-set}
use lib.Seq.{get_or-set_same, get_or-set_other}
use Rattle.mtl.specs.Abbreviations.{abbreviation}
use Rattle.mtl.proofs.Abbreviations.{leaves_map}
use Rattle.policy.specs.declared.Policy.{Policy}
use Rattle.policy.specs.Proper.{Proper, formula_at}
use Rattle.reach.specs.Reach.{reach_from, reach}
use Rattle.reach.proofs.Laws.{same_from, unroll_reach, small_reach}
use Rattle.reach.specs.Lines.{Workable}

-- the first i lines are done
pub record Done (p : Policy) (reaches : List ℕ) (i : ℕ) : Type 0 where
  pub long : length reaches ≡ 64
  pub cells : (k : ℕ) → k < i → get_or reaches k 0 ≡ reach (formula_at p) k

module _ (p : Policy) (proper : Proper p) (reaches : List ℕ) (i : ℕ) (done : Done p reaches i) (under : i < p.count) where
  -- so that the next one can be worked
  pub workable : Workable reaches (formula_at p i)
  workable = record {
    bounded = proper.bounded i;
    operands =
        leaves_map (abbreviation (formula_at p i))
        (λ j l. (
          omega (arith, proper.count.high),
          omega (arith, done.cells j l, small_reach (formula_at p) proper.earlier proper.bounded j, proper.count.high),
        ))
        (proper.earlier i);
  }

  pub one_more : (v : ℕ) → v ≡ reach_from (λ j. get_or reaches j 0) (formula_at p i) → Done p (set reaches i v) (i + 1)
  one_more v e = record { long = length-set reaches i v ∙ done.long; cells = λ k l. go k l (ℕ_discrete k i) }
    where
      is : v ≡ reach (formula_at p) i
      is =
          e
          ∙ same_from _ _ (formula_at p i) (leaves_map (abbreviation (formula_at p i)) (λ j l. done.cells j l) (proper.earlier i))
          ∙ sym (unroll_reach (formula_at p) proper.earlier i)

      go : (k : ℕ) → k < i + 1 → Dec (k ≡ i) → get_or (set reaches i v) k 0 ≡ reach (formula_at p) k
      go k l (yes q) = rw q (get_or-set_same reaches i v 0 (omega (arith, done.long, proper.count.high)) ∙ is)
      go k l (no q) = get_or-set_other reaches i k v 0 q ∙ done.cells k (omega arith)
