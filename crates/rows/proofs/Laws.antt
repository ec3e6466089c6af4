-- Laws of rows written over, cell by cell from the front or from the back, or stretch by stretch.
use Rattle.std.specs.Prelude.{◌≡◌, refl, ◌⊎◌, List, ℕ, zero, suc, ◌+◌, ◌≤◌, ◌<◌, length, get_or, set, replicate}
use Rattle.std.proofs.Common.{sym, ◌∙◌, subst, inl, inr, ⊎_elim, eq-or-lt_of_le, arith, length-set, get_or-set_same, get_or-set_other}
use Rattle.std.proofs.Math.Decide.{dec_lt}
use Rattle.rows.specs.Over.{Over}

pub lt_or_le : (i j : ℕ) → (i < j) ⊎ (j ≤ i)
lt_or_le i j = go (dec_lt i j)
  where
    go : Dec (i < j) → (i < j) ⊎ (j ≤ i)
    go (yes p) = inl p
    go (no p) = inr (omega arith)

-- a row of one value
pub cells : (n v i : ℕ) → i < n → ◌≡◌ {A = ℕ} (get_or (replicate n v) i 0) v
cells zero v i l = absurd (let z : ⊥ = omega arith in z)
cells (suc n) v zero l = refl
cells (suc n) v (suc i) l = cells n v i (omega arith)

pub zeros : (n i : ℕ) → ◌≡◌ {A = ℕ} (get_or (replicate n 0) i 0) 0
zeros zero i = refl
zeros (suc n) zero = refl
zeros (suc n) (suc i) = zeros n i

pub untouched : (F : ℕ → ℕ) (n : ℕ) (l : List ℕ) → Over F n n l l
untouched F n l = record { long = refl; inside = λ i p q. absurd (let z : ⊥ = omega arith in z); below = λ i p. refl; above = λ i p. refl }

module _ (F : ℕ → ℕ) (lo hi : ℕ) (old new : List ℕ) (v : ℕ) (f : Over F lo hi old new) where
  -- one more at the end
  pub one_more : lo ≤ hi → hi < length new → v ≡ F hi → Over F lo (hi + 1) old (set new hi v)
  one_more o l e =
      record {
        long = length-set new hi v ∙ f.long;
        inside = λ i p q.
            let le : i ≤ hi = omega arith in
            ⊎_elim
            (λ (q : i ≡ hi). subst (λ (j : ℕ). get_or (set new hi v) j 0 ≡ F j) (sym q) (get_or-set_same new hi v 0 l ∙ e))
            (λ (q : i < hi). get_or-set_other new hi i v 0 (omega arith) ∙ f.inside i p q)
            (eq-or-lt_of_le le);
        below = λ i p. get_or-set_other new hi i v 0 (omega arith) ∙ f.below i p;
        above = λ i p. get_or-set_other new hi i v 0 (omega arith) ∙ f.above i (omega arith);
      }

  -- one more in front
  pub one_before : (at : ℕ) → at + 1 ≡ lo → at < length new → lo ≤ hi → v ≡ F at → Over F at hi old (set new at v)
  one_before at s l o e =
      record {
        long = length-set new at v ∙ f.long;
        inside = λ i p q.
            ⊎_elim
            (λ (q : at ≡ i). subst (λ (j : ℕ). get_or (set new at v) j 0 ≡ F j) q (get_or-set_same new at v 0 l ∙ e))
            (λ (g : at < i). get_or-set_other new at i v 0 (omega arith) ∙ f.inside i (omega arith) q)
            (eq-or-lt_of_le p);
        below = λ i p. get_or-set_other new at i v 0 (omega arith) ∙ f.below i (omega arith);
        above = λ i p. get_or-set_other new at i v 0 (omega arith) ∙ f.above i p;
      }

-- one stretch after another, the second of which is written by another rule that agrees there
pub two : (F G : ℕ → ℕ) (lo mid hi : ℕ) (old x new : List ℕ) → Over F lo mid old x → Over G mid hi x new → lo ≤ mid → mid ≤ hi → ((i : ℕ) → mid ≤ i → i < hi → G i ≡ F i) → Over F lo hi old new
two F G lo mid hi old x new f g o q h =
    record {
      long = g.long ∙ f.long;
      inside = λ i l r. ⊎_elim (λ (w : i < mid). g.below i w ∙ f.inside i l w) (λ (w : mid ≤ i). g.inside i w r ∙ h i w r) (lt_or_le i mid);
      below = λ i l. g.below i (omega arith) ∙ f.below i l;
      above = λ i l. g.above i l ∙ f.above i (omega arith);
    }
