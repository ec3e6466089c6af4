-- Laws of the definitions in specs/Related. Assumes nothing.
use Prim.Native.Nat.{ℕ, zero, suc, ◌+◌}
use Rattle.mtl.specs.declared.Formula.{Formula}
use Rattle.mtl.specs.Algebra.{Algebra, fold, meet}
use Rattle.mtl.specs.Abbreviations.{Binary, either, back, ahead, Expression, operand, true', proposition', not', binary, abbreviation, Leaves}
use Rattle.mtl.proofs.Abbreviations.{leaves_all}
use Rattle.mtl.specs.Reading.{World, since_start, since_count, after_start, after_count, until_start, until_count, before_start, before_count, point, meets, keeps, since, until, combined, meaning, deep, reading}
use Rattle.mtl.specs.Related.{Alike, Kept}

module _ {A B : Type 0} (R : A → B → Type 0) (a : Algebra A) (b : Algebra B) (k : Kept R a b) where
  meet_kept : {x : A} {y : B} {x' : A} {y' : B} → R x y → R x' y' → R (meet a x x') (meet b y y')
  meet_kept h h' = k.neg (k.join (k.neg h) (k.neg h'))

  fold_kept : (f : A → A → A) (g : B → B → B) → ((x : A) (y : B) (x' : A) (y' : B) → R x y → R x' y' → R (f x x') (g y y'))
      → {u : A} {v : B} → R u v → (lo n : ℕ) {p : ℕ → A} {q : ℕ → B} → ((i : ℕ) → R (p i) (q i)) → R (fold f u lo n p) (fold g v lo n q)
  fold_kept f g j z lo zero h = z
  fold_kept f g j z lo (suc n) h = j _ _ _ _ (fold_kept f g j z lo n h) (h (lo + n))

  module _ (v : World A) (w : World B) (s : Alike R v w) where
    point_kept : (t : ℕ) → R (point a v t) (point b w t)
    point_kept t = s.time_point t

    met_kept : {α α' : ℕ → A} {β β' : ℕ → B} → ((t : ℕ) → R (α t) (β t)) → ((t : ℕ) → R (α' t) (β' t)) → (j lo n : ℕ)
        → R (meet a (meets a v α' j) (keeps a v α lo n)) (meet b (meets b w β' j) (keeps b w β lo n))
    met_kept h h' j lo n =
        meet_kept (meet_kept (point_kept j) (h' j)) (fold_kept _ _ (λ x y x' y'. meet_kept) k.top lo n (λ i. k.join (k.neg (point_kept i)) (h i)))

    combined_kept : (m : Binary) {α α' : ℕ → A} {β β' : ℕ → B} → ((t : ℕ) → R (α t) (β t)) → ((t : ℕ) → R (α' t) (β' t)) → (t : ℕ)
        → R (combined a v m α α' t) (combined b w m β β' t)
    unfolding since until
    combined_kept either h h' t = k.join (h t) (h' t)
    combined_kept (back lower upper) h h' t = fold_kept _ _ (λ x y x' y'. k.join) k.bottom (since_start upper t) (since_count lower upper t) (λ j. met_kept h h' j (after_start j) (after_count j t))
    combined_kept (ahead lower upper) h h' t = fold_kept _ _ (λ x y x' y'. k.join) k.bottom (until_start lower t) (until_count lower upper) (λ j. met_kept h h' j (before_start t) (before_count j t))

    -- an expression's value from related values of its parts
    module _ (p : ℕ → ℕ → A) (q : ℕ → ℕ → B) where
      abbrev KeptMeaning : Expression → Expression → Type 0
      KeptMeaning x y = (t : ℕ) → R (meaning a v p x t) (meaning b w q y t)

      pub not_kept : (x y : Expression) → KeptMeaning x y → KeptMeaning (not' x) (not' y)
      not_kept x y h t = s.shown t (k.neg (h t))

      pub binary_kept : (m : Binary) (x x' y y' : Expression) → KeptMeaning x y → KeptMeaning x' y' → KeptMeaning (binary m x x') (binary m y y')
      binary_kept m x x' y y' h h' t = s.shown t (combined_kept m h h' t)

      -- and so of its leaves
      pub meaning_kept : (x : Expression) → Leaves (λ i. (t : ℕ) → R (p i t) (q i t)) x → KeptMeaning x x
      meaning_kept (operand i) h t = h t
      meaning_kept true' h t = s.shown t k.top
      meaning_kept (proposition' m) h t = s.proposition m t
      meaning_kept (not' x) h t = not_kept x x (meaning_kept x h) t
      meaning_kept (binary m x y) h t = binary_kept m x y x y (meaning_kept x h.0) (meaning_kept y h.1) t

    deep_kept : (line : ℕ → Formula) (d i t : ℕ) → R (deep a v line d i t) (deep b w line d i t)
    unfolding deep
    deep_kept line zero i t = k.bottom
    deep_kept line (suc d) i t = meaning_kept _ _ (abbreviation (line i)) (leaves_all (abbreviation (line i)) (deep_kept line d)) t

    pub reading_kept : (line : ℕ → Formula) (i t : ℕ) → R (reading a v line i t) (reading b w line i t)
    unfolding reading
    reading_kept line i t = deep_kept line (suc i) i t
