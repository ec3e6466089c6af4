-- The folds over Bool, against "some" and "every".
use Rattle.std.specs.Prelude.{ℕ, zero, suc, ◌+◌, ◌≤◌, ◌<◌, ◌≡◌, refl, Bool, true, false, ◌||◌}
use Rattle.std.proofs.Common.{arith, sym, ap, ◌∙◌, true≢false}
use Rattle.std.proofs.Math.Decide.{ℕ_discrete}
use Rattle.std.proofs.Math.Bool.{or-true}
use Rattle.logic.proofs.Bools.{both, de_morgan}
use Rattle.mtl.specs.Algebra.{any, all, meet, two}

pub meet_true : (a b : Bool) → meet two a b ≡ true → (a ≡ true) × (b ≡ true)
meet_true a b e = both a b (sym (de_morgan a b) ∙ e)

pub any_some : (lo n : ℕ) (f : ℕ → Bool) (i : ℕ) → lo ≤ i → i < lo + n → f i ≡ true → any two lo n f ≡ true
any_some lo zero f i h k e = absurd (omega arith)
any_some lo (suc n) f i h k e = go (λ l. any_some lo n f i h l e) (ℕ_discrete i (lo + n))
  where
    go : (i < lo + n → any two lo n f ≡ true) → Dec (i ≡ lo + n) → (any two lo n f || f (lo + n)) ≡ true
    go ih (yes p) = ap (λ (x : Bool). any two lo n f || x) (ap f (sym p) ∙ e) ∙ or-true (any two lo n f)
    go ih (no q) = ap (λ (x : Bool). x || f (lo + n)) (ih (omega arith))

pub any_true : (lo n : ℕ) (f : ℕ → Bool) → any two lo n f ≡ true → (i : ℕ) × (lo ≤ i) × (i < lo + n) × (f i ≡ true)
any_true lo zero f e = absurd (true≢false (sym e))
any_true lo (suc n) f e = go (λ g. any_true lo n f g) (any two lo n f) refl (f (lo + n)) refl e
  where
    go : (any two lo n f ≡ true → (i : ℕ) × (lo ≤ i) × (i < lo + n) × (f i ≡ true)) → (p : Bool) → any two lo n f ≡ p → (q : Bool) → f (lo + n) ≡ q → (p || q) ≡ true → (i : ℕ) × (lo ≤ i) × (i < lo + suc n) × (f i ≡ true)
    go ih true g q h k = let r = ih g in (r.0, r.1, omega (arith, r.2), r.3)
    go ih false g true h k = (lo + n, omega arith, omega arith, h)
    go ih false g false h k = absurd (true≢false (sym k))

pub any_false : (lo n : ℕ) (f : ℕ → Bool) → ((i : ℕ) → lo ≤ i → i < lo + n → f i ≡ false) → any two lo n f ≡ false
any_false lo zero f h = refl
any_false lo (suc n) f h = rw (any_false lo n f (λ i a b. h i a (omega arith)), h (lo + n) (omega arith) (omega arith)) refl

pub all_true : (lo n : ℕ) (f : ℕ → Bool) → all two lo n f ≡ true → (i : ℕ) → lo ≤ i → i < lo + n → f i ≡ true
all_true lo zero f e i h k = absurd (omega arith)
all_true lo (suc n) f e i h k =
    let parts = meet_true (all two lo n f) (f (lo + n)) e in
    go parts.1 (λ l. all_true lo n f parts.0 i h l) (ℕ_discrete i (lo + n))
  where
    go : f (lo + n) ≡ true → (i < lo + n → f i ≡ true) → Dec (i ≡ lo + n) → f i ≡ true
    go last ih (yes p) = ap f p ∙ last
    go last ih (no q) = ih (omega arith)

pub all_each : (lo n : ℕ) (f : ℕ → Bool) → ((i : ℕ) → lo ≤ i → i < lo + n → f i ≡ true) → all two lo n f ≡ true
all_each lo zero f h = refl
all_each lo (suc n) f h = rw (all_each lo n f (λ i a b. h i a (omega arith)), h (lo + n) (omega arith) (omega arith)) refl

-- the same from 0
pub some_below : (n : ℕ) (f : ℕ → Bool) (i : ℕ) → i < n → f i ≡ true → any two 0 n f ≡ true
some_below n f i h e = any_some 0 n f i (omega arith) (omega arith) e

pub below_some : (n : ℕ) (f : ℕ → Bool) → any two 0 n f ≡ true → (i : ℕ) × (i < n) × (f i ≡ true)
below_some n f e = let r = any_true 0 n f e in (r.0, omega (arith, r.2), r.3)

pub none_below : (n : ℕ) (f : ℕ → Bool) → ((i : ℕ) → i < n → f i ≡ false) → any two 0 n f ≡ false
none_below n f h = any_false 0 n f (λ i a b. h i (omega arith))

pub below_each : (n : ℕ) (f : ℕ → Bool) → all two 0 n f ≡ true → (i : ℕ) → i < n → f i ≡ true
below_each n f e i h = all_true 0 n f e i (omega arith) (omega arith)

pub each_below : (n : ℕ) (f : ℕ → Bool) → ((i : ℕ) → i < n → f i ≡ true) → all two 0 n f ≡ true
each_below n f h = all_each 0 n f (λ i a b. h i (omega arith))
