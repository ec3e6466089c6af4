-- Where each subformula names earlier ones only, its reading is made of theirs: one equation, for a code that works rows in order.
use Prim.Native.Nat.{ℕ, zero, suc, ◌<◌}
use Rattle.std.proofs.Common.{arith, ap, ap₂}
use Rattle.std.specs.Prelude.{◌≡◌, refl, Bool, true, false}
use Rattle.mtl.specs.declared.Formula.{Formula}
use Rattle.mtl.specs.Algebra.{Algebra}
use Rattle.mtl.specs.Abbreviations.{Binary, Expression, operand, true', proposition', not', binary, abbreviation, Own, Leaves}
use Rattle.mtl.proofs.Abbreviations.{own_line, leaves_map}
use Rattle.mtl.specs.Syntax.{Earlier}
use Rattle.mtl.specs.Reading.{World, seen, meaning, deep, reading}
use Rattle.mtl.specs.Related.{Kept, Alike}
use Rattle.mtl.proofs.Related.{not_kept, binary_kept, meaning_kept}

module _ {A : Type 0} (a : Algebra A) (w : World A) where
  equal : Kept {A = A} {B = A} ◌≡◌ a a
  equal = record { top = refl; bottom = refl; neg = λ e. ap a.neg e; join = λ e f. ap₂ a.join e f }

  itself : Alike {A = A} {B = A} ◌≡◌ w w
  itself = record { time_point = λ t. refl; proposition = λ p t. refl; shown = λ t e. ap (seen w t) e }

  -- equal parts, equal values
  module _ (p q : ℕ → ℕ → A) where
    abbrev Same : Expression → Expression → Type 0
    Same x y = (t : ℕ) → meaning a w p x t ≡ meaning a w q y t

    pub not_same : (x y : Expression) → Same x y → Same (not' x) (not' y)
    not_same = not_kept ◌≡◌ a a equal w w itself p q

    pub binary_same : (k : Binary) (x x' y y' : Expression) → Same x y → Same x' y' → Same (binary k x x') (binary k y y')
    binary_same = binary_kept ◌≡◌ a a equal w w itself p q

    pub meaning_same : (x : Expression) → Leaves (λ i. (t : ℕ) → p i t ≡ q i t) x → Same x x
    meaning_same = meaning_kept ◌≡◌ a a equal w w itself p q

  deep_enough : (line : ℕ → Formula) → Earlier line → (d e i : ℕ) → i < d → i < e → (t : ℕ) → deep a w line d i t ≡ deep a w line e i t
  unfolding deep
  deep_enough line f zero e i h h' t = absurd (omega arith)
  deep_enough line f (suc d) zero i h h' t = absurd (omega arith)
  deep_enough line f (suc d) (suc e) i h h' t =
      meaning_same _ _ (abbreviation (line i)) (leaves_map (abbreviation (line i)) (λ j l. deep_enough line f d e j (omega arith) (omega arith)) (f i)) t

  pub unroll : (line : ℕ → Formula) → Earlier line → (k t : ℕ) → reading a w line k t ≡ meaning a w (reading a w line) (abbreviation (line k)) t
  unfolding reading
  unroll line f k t =
      meaning_same _ _ (abbreviation (line k)) (leaves_map (abbreviation (line k)) (λ j l. deep_enough line f k (suc j) j l (omega arith)) (f k)) t

  -- past the window a subformula has the value that everything has there
  unseen : (t : ℕ) (x : A) → w.window t ≡ false → seen w t x ≡ w.outside
  unseen t x e = ap (λ (b : Bool). elim b as (λ _. A) [ true ↦ x | false ↦ w.outside ]) e

  meaning_past : (v : ℕ → ℕ → A) (x : Expression) → Own x → (t : ℕ) → w.window t ≡ false → meaning a w v x t ≡ w.outside
  meaning_past v (operand i) o t e = absurd o
  meaning_past v true' o t e = unseen t _ e
  meaning_past v (proposition' p) o t e = unseen t _ e
  meaning_past v (not' x) o t e = unseen t _ e
  meaning_past v (binary k x y) o t e = unseen t _ e

  pub reading_past : (line : ℕ → Formula) (k t : ℕ) → w.window t ≡ false → reading a w line k t ≡ w.outside
  unfolding reading deep
  reading_past line k t e = meaning_past (deep a w line k) (abbreviation (line k)) (own_line (line k)) t e
