-- One theorem: where a relation between the values of two algebras is kept by true, false, not and or, related worlds have related
-- readings. By induction on the depth of the reading, and in it over the folds.
use Prim.Native.Nat.{ℕ}
use Rattle.mtl.specs.Algebra.{Algebra}
use Rattle.mtl.specs.Reading.{World, seen}

-- R is kept by the operations of the two algebras
pub record Kept {A B : Type 0} (R : A → B → Type 0) (a : Algebra A) (b : Algebra B) : Type 0 where
  pub top : R a.top b.top
  pub bottom : R a.bottom b.bottom
  pub neg : {x : A} {y : B} → R x y → R (a.neg x) (b.neg y)
  pub join : {x : A} {y : B} {x' : A} {y' : B} → R x y → R x' y' → R (a.join x x') (b.join y y')

-- what the two windows show is related: of e, of the propositions, and of related values
pub record Alike {A B : Type 0} (R : A → B → Type 0) (v : World A) (w : World B) : Type 0 where
  pub time_point : (t : ℕ) → R (seen v t (v.time_point t)) (seen w t (w.time_point t))
  pub proposition : (p t : ℕ) → R (seen v t (v.proposition p t)) (seen w t (w.proposition p t))
  pub shown : (t : ℕ) {x : A} {y : B} → R x y → R (seen v t x) (seen w t y)
