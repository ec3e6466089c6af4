-- What two rows show is where an interval's formula begins and where it breaks off; past their end both are unknown. Assumes nothing.
use Prim.Native.Nat.{ℕ, ◌≤◌}
use mathlib.Core.Path.{◌≡◌, refl, sym, ap, ap₂, ◌∙◌}
use mathlib.Core.Bool.{Bool, true, false}
use mathlib.Core.List.{List}
use lib.ListN.{get_or, length, get_or-eq_default}
use Rattle.kleene.specs.Truth.{Truth, unknown, value_of, and3}
use Rattle.kleene.specs.Rank.{rank_of}
use Rattle.kleene.specs.Tests.{literal}
use Rattle.valuation.specs.Rows.{Shows}
use Rattle.valuation.specs.Indexes.{ranked, begun}

pub past : (l : List ℕ) (f : ℕ → Truth) → Shows l f → (i : ℕ) → length l ≤ i → f i ≡ unknown
past l f S i h = sym (S i) ∙ ap value_of (get_or-eq_default l 0 h)

module _ (negated : Bool) (p l : List ℕ) (e f : ℕ → Truth) (P : Shows p e) (L : Shows l f) where
  pub ranked_at : (j : ℕ) → rank_of (and3 (value_of (get_or p j 0)) (literal negated (value_of (get_or l j 0)))) ≡ ranked negated e f j
  unfolding ranked
  ranked_at j = ap₂ (λ (x y : Truth). rank_of (and3 x (literal negated y))) (P j) (L j)

  pub ranked_past : (j : ℕ) → length p ≤ j → length l ≤ j → ranked negated e f j ≡ 1
  unfolding ranked rank_of
  ranked_past j h k = ap₂ (λ (x y : Truth). rank_of (and3 x (literal negated y))) (past p e P j h) (past l f L j k) ∙ go negated
    where
      go : (b : Bool) → rank_of (and3 unknown (literal b unknown)) ≡ 1
      go true = refl
      go false = refl

-- what is sought, the operand or its not, begins where the operand's rank says so
pub sought_at : (negated : Bool) (e f g : ℕ → Truth) → ((s : ℕ) → g s ≡ literal negated (f s)) → (j : ℕ) → ranked negated e f j ≡ begun e g j
unfolding ranked
sought_at negated e f g h j = ap (λ (y : Truth). rank_of (and3 (e j) y)) (sym (h j))
