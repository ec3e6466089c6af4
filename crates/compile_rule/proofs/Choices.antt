-- Laws of the definitions in specs/Choices. Assumes nothing.
use Rattle.std.specs.Prelude.{ℕ, zero, suc, ◌+◌, ◌≤◌, ◌<◌, ◌≡◌, refl, Bool, true, false, ◌&&◌, List, [], ◌∷◌, eqb, ltb, leb, length, take, get_or}
use Rattle.std.proofs.Common.{arith, add-one, sym, ap, ◌∙◌, take_all, eq-eqb, ne_eqb, lt-ltb, le-ltb}
use Rattle.std.proofs.Math.ListN.{get_or-eq_default}
use Rattle.std.specs.List.{fold}
use Rattle.compile_rule.specs.Choices.{choose, digit, run}

module _ {A : Type 0} {r : A} (a b : A) where
  pub taken : (test : Bool) → test ≡ true → r ≡ a → r ≡ choose test a b
  unfolding choose
  taken test e f = rw e f

  pub left : (test : Bool) → test ≡ false → r ≡ b → r ≡ choose test a b
  unfolding choose
  left test e f = rw e f

  module _ {x y : ℕ} where
    pub equal : x ≡ y → r ≡ a → r ≡ choose (eqb x y) a b
    equal e = taken (eqb x y) (eq-eqb x y e)

    pub unequal : (x ≡ y → ⊥) → r ≡ b → r ≡ choose (eqb x y) a b
    unequal e = left (eqb x y) (ne_eqb x y e)

    pub below : x < y → r ≡ a → r ≡ choose (ltb x y) a b
    below h = taken (ltb x y) (lt-ltb x y h)

    pub not_below : y ≤ x → r ≡ b → r ≡ choose (ltb x y) a b
    not_below h = left (ltb x y) (le-ltb x y h)

run_suc : {A : Type 0} (f : A → ℕ → A) (a : A) (xs : List ℕ) (i : ℕ) → i < length xs → run f a (take (suc i) xs) ≡ f (run f a (take i xs)) (get_or xs i 0)
run_suc f a [] i h = absurd (omega arith)
run_suc f a (x ∷ xs) zero h = refl
run_suc f a (x ∷ xs) (suc i) h = run_suc f (f a x) xs i (omega arith)

-- one number more
pub run_more : {A : Type 0} (f : A → ℕ → A) (a : A) (xs : List ℕ) (i : ℕ) (r s : A) → i < length xs
    → r ≡ run f a (take i xs) → s ≡ f r (get_or xs i 0) → s ≡ run f a (take (i + 1) xs)
run_more f a xs i r s h e g = g ∙ ap (λ r. f r (get_or xs i 0)) e ∙ sym (run_suc f a xs i h) ∙ ap (λ (k : ℕ). run f a (take k xs)) (sym (add-one i))

pub run_whole : {A : Type 0} (f : A → ℕ → A) (a : A) (xs : List ℕ) (i : ℕ) (r : A) → length xs ≤ i → r ≡ run f a (take i xs) → r ≡ run f a xs
run_whole f a xs i r h e = e ∙ ap (run f a) (take_all i xs h)

-- what is worked out from the first number on is a fold
pub folded : {A : Type 0} (f : A → ℕ → A) (a : A) (xs : List ℕ) → fold f a xs ≡ run f a xs
folded f a [] = refl
folded f a (x ∷ xs) = folded f (f a x) xs

pub past : (xs : List ℕ) (i : ℕ) → length xs ≤ i → 0 ≡ get_or xs i 0
past xs i h = sym (get_or-eq_default xs 0 h)

pub digit_past : (xs : List ℕ) (i : ℕ) → length xs ≤ i → digit (get_or xs i 0) ≡ false
unfolding digit
digit_past xs i h = ap (λ (c : ℕ). leb 48 c && leb c 57) (sym (past xs i h))
