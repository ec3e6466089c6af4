-- Laws of the definitions in specs/Laws. Assumes nothing.
use Prim.Native.Nat.{ℕ, zero, suc, ◌+◌, ◌*◌, ◌≤◌, ◌<◌, max}
use Rattle.std.proofs.Common.{arith, sym, ap₂, ◌∙◌}
use Rattle.std.specs.Prelude.{◌≡◌, refl}
use Rattle.mtl.specs.declared.Formula.{Formula}
use Rattle.mtl.specs.declared.Formula.TheVariants.{True, Proposition, Not, Or, Since, Until, And, Implies, Once, Historically, Eventually, Always}
use Rattle.mtl.specs.Abbreviations.{Expression, operand, true', proposition', not', binary, abbreviation, Leaves}
use Rattle.mtl.proofs.Abbreviations.{leaves_map}
use Rattle.mtl.specs.Syntax.{Operands, Earlier, Bounded}
use Rattle.reach.specs.Reach.{reach_from, reach_deep, reach}
use Rattle.reach.specs.Laws.{ahead_of, expression_reach}

-- a line's reach is that of its abbreviation
pub spelled : (r : ℕ → ℕ) (φ : Formula) → reach_from r φ ≡ expression_reach r (abbreviation φ)
spelled r True = refl
spelled r (Proposition p) = refl
spelled r (Not i) = refl
spelled r (Or i j) = omega arith
spelled r (Since i j lower upper) = omega arith
spelled r (Until i j lower upper) = omega arith
spelled r (And i j) = omega arith
spelled r (Implies i j) = omega arith
spelled r (Once i lower upper) = omega arith
spelled r (Historically i lower upper) = omega arith
spelled r (Eventually i lower upper) = omega arith
spelled r (Always i lower upper) = omega arith

-- ---- from earlier lines

expression_same : (r q : ℕ → ℕ) (x : Expression) → Leaves (λ i. r i ≡ q i) x → expression_reach r x ≡ expression_reach q x
expression_same r q (operand i) h = h
expression_same r q true' h = refl
expression_same r q (proposition' p) h = refl
expression_same r q (not' x) h = expression_same r q x h
expression_same r q (binary k x y) h = ap₂ (λ (a b : ℕ). max a b + ahead_of k) (expression_same r q x h.0) (expression_same r q y h.1)

pub same_from : (r q : ℕ → ℕ) (φ : Formula) → Operands (λ i. r i ≡ q i) φ → reach_from r φ ≡ reach_from q φ
same_from r q φ h = spelled r φ ∙ expression_same r q (abbreviation φ) h ∙ sym (spelled q φ)

module _ (line : ℕ → Formula) (earlier : Earlier line) where
  deep_enough : (d e i : ℕ) → i < d → i < e → reach_deep line d i ≡ reach_deep line e i
  unfolding reach_deep
  deep_enough zero e i h k = absurd (omega arith)
  deep_enough (suc d) zero i h k = absurd (omega arith)
  deep_enough (suc d) (suc e) i h k =
      same_from _ _ (line i) (leaves_map (abbreviation (line i)) (λ j l. deep_enough d e j (omega arith) (omega arith)) (earlier i))

  -- "by recursion on earlier lines": one equation
  pub unroll_reach : (k : ℕ) → reach line k ≡ reach_from (reach line) (line k)
  unfolding reach reach_deep
  unroll_reach k =
      same_from _ _ (line k) (leaves_map (abbreviation (line k)) (λ j l. deep_enough k (suc j) j l (omega arith)) (earlier k))

-- ---- its size

-- each operand is at least 1,023 below b
pub small_from : (r : ℕ → ℕ) (b : ℕ) (φ : Formula) → Bounded 1023 φ → Operands (λ i. r i + 1023 ≤ b) φ → reach_from r φ ≤ b
small_from r b True f h = omega arith
small_from r b (Proposition p) f h = omega arith
small_from r b (Not i) f h = omega arith
small_from r b (Or i j) f h = omega (arith, h.0, h.1)
small_from r b (Since i j lower upper) f h = omega (arith, h.0, h.1)
small_from r b (Until i j lower upper) f h = omega (arith, h.0, h.1, f.1)
small_from r b (And i j) f h = omega (arith, h.0, h.1)
small_from r b (Implies i j) f h = omega (arith, h.0, h.1)
small_from r b (Once i lower upper) f h = omega (arith, h.1)
small_from r b (Historically i lower upper) f h = omega (arith, h.1)
small_from r b (Eventually i lower upper) f h = omega (arith, h.1, f.1)
small_from r b (Always i lower upper) f h = omega (arith, h.1, f.1)

-- line k reaches no further than k intervals: 64,449 minutes for the last of 64 lines
pub small_reach : (line : ℕ → Formula) → Earlier line → ((i : ℕ) → Bounded 1023 (line i)) → (k : ℕ) → reach line k ≤ k * 1023
small_reach line earlier bounded k = below (suc k) k (omega arith)
  where
    below : (d k : ℕ) → k < d → reach line k ≤ k * 1023
    below zero k h = absurd (omega arith)
    below (suc d) k h =
        rw (unroll_reach line earlier k)
        (small_from (reach line) (k * 1023) (line k) (bounded k)
        (leaves_map (abbreviation (line k)) (λ j l. omega (arith, below d j (omega arith))) (earlier k)))
