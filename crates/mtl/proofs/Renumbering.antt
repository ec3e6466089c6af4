-- Laws of the definitions in specs/Renumbering. Assumes nothing.
use Rattle.std.specs.Prelude.{ℕ, zero, suc, ◌<◌, ◌≡◌, refl}
use Rattle.std.proofs.Common.{arith, sym, ap, ◌∙◌, ⊎_elim}
use Rattle.mtl.specs.declared.Formula.{Formula}
use Rattle.mtl.specs.Algebra.{Algebra}
use Rattle.mtl.specs.Abbreviations.{Expression, operand, true', proposition', not', binary, abbreviation, Leaves}
use Rattle.mtl.proofs.Abbreviations.{leaves_map, leaves_both}
use Rattle.mtl.specs.Syntax.{Earlier}
use Rattle.mtl.specs.Reading.{World, meaning, reading}
use Rattle.mtl.proofs.Unroll.{not_same, binary_same, meaning_same, unroll}
use Rattle.mtl.specs.Renumbering.{Spells, Stands, relabel}

module _ {X : Type 0} (a : Algebra X) (w : World X) where
  relabelled : (v : ℕ → ℕ → X) (r : ℕ → ℕ) (x : Expression) (t : ℕ) → meaning a w v (relabel r x) t ≡ meaning a w (λ i. v (r i)) x t
  relabelled v r (operand i) t = refl
  relabelled v r true' t = refl
  relabelled v r (proposition' p) t = refl
  relabelled v r (not' x) t = not_same a w v (λ i. v (r i)) (relabel r x) x (relabelled v r x) t
  relabelled v r (binary k x y) t = binary_same a w v (λ i. v (r i)) k (relabel r x) (relabel r y) x y (relabelled v r x) (relabelled v r y) t

  module _ (B : ℕ → Formula) (r : ℕ → ℕ) (later : Earlier B) where
    own : (n : ℕ) (x : Expression) → abbreviation (B n) ≡ x → (t : ℕ) → meaning a w (reading a w B) x t ≡ reading a w B n t
    own n x e t = ap (λ (y : Expression). meaning a w (reading a w B) y t) (sym e) ∙ sym (unroll a w B later n t)

    spelled : (v : ℕ → ℕ → X) (x : Expression) → Leaves (λ i. (t : ℕ) → v i t ≡ reading a w B (r i) t) x → (n : ℕ) → Spells B r x n
        → (t : ℕ) → meaning a w v x t ≡ reading a w B n t
    spelled v (operand i) h n e t = h t ∙ ap (λ (m : ℕ). reading a w B m t) (sym e)
    spelled v true' h n e t = own n true' e t
    spelled v (proposition' p) h n e t = own n (proposition' p) e t
    spelled v (not' x) h n s t =
        not_same a w v (reading a w B) x (operand s.0) (spelled v x h s.0 s.2) t ∙ own n (not' (operand s.0)) s.1 t
    spelled v (binary k x y) h n s t =
        binary_same a w v (reading a w B) k x y (operand s.0) (operand s.1) (spelled v x h.0 s.0 s.3) (spelled v y h.1 s.1 s.4) t
        ∙ own n (binary k (operand s.0) (operand s.1)) s.2 t

    module _ (kept : ℕ → Type 0) (A : ℕ → Formula) (earlier : Earlier A) (stands : Stands kept A B r) where
      below : (d i : ℕ) → i < d → kept i → (t : ℕ) → reading a w A i t ≡ reading a w B (r i) t
      below zero i l h t = absurd (omega arith)
      below (suc d) i l h t =
          go (leaves_map x (λ j p. below d j (omega (arith, p.0)) p.1) (leaves_both (λ j. j < i) kept x (earlier i) (stands.operands i h)))
        where
          x : Expression
          x = abbreviation (A i)

          go : Leaves (λ j. (s : ℕ) → reading a w A j s ≡ reading a w B (r j) s) (abbreviation (A i)) → reading a w A i t ≡ reading a w B (r i) t
          go ih =
              unroll a w A earlier i t
              ∙ ⊎_elim
              (λ e. meaning_same a w (reading a w A) (λ j. reading a w B (r j)) (abbreviation (A i)) ih t
              ∙ sym (relabelled (reading a w B) r (abbreviation (A i)) t) ∙ own (r i) (relabel r (abbreviation (A i))) e t)
              (λ s. spelled (reading a w A) (abbreviation (A i)) ih (r i) s t) (stands.line i h)

-- **One theorem**: a kept line's row is the row of the line that it has become
pub same_rows : (A B : ℕ → Formula) (r : ℕ → ℕ) (kept : ℕ → Type 0) → Earlier A → Earlier B → Stands kept A B r
    → {X : Type 0} (a : Algebra X) (w : World X) (i : ℕ) → kept i → (t : ℕ) → reading a w A i t ≡ reading a w B (r i) t
same_rows A B r kept earlier later stands a w i h t = below a w B r later kept A earlier stands (suc i) i (omega arith) h t
