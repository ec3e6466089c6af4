-- Laws of the definitions in specs/Tests. Assumes nothing.
use Rattle.std.specs.Prelude.{◌≡◌, refl, Bool, true, false, not, ◌&&◌, ◌||◌, ℕ, zero, suc, eqb}
use Rattle.std.proofs.Math.Path.{sym, ap, ap₂}
use Rattle.std.proofs.Common.{◌∙◌, arith, ne_eqb}
use Rattle.kleene.specs.Truth.{Truth, unknown, true3, false3, code_of, value_of, not3, or3, and3, implies3}
use Rattle.kleene.specs.Tests.{known_code, literal, says}

-- the codes of true and of false, where they are negated
pub known_true : (negated : Bool) → known_code (not negated) ≡ code_of (literal negated true3)
known_true true = refl
known_true false = refl

pub known_false : (negated : Bool) → known_code negated ≡ code_of (literal negated false3)
known_false true = refl
known_false false = refl

pub known_open : (negated : Bool) → 0 ≡ code_of (literal negated unknown)
known_open true = refl
known_open false = refl

above : (b : Bool) (n : ℕ) → eqb (suc (suc (suc n))) (known_code b) ≡ false
above true n = ne_eqb (suc (suc (suc n))) 1 (λ e. omega arith)
above false n = ne_eqb (suc (suc (suc n))) 2 (λ e. omega arith)

-- a code's value is known by whether it is the code of true and whether it is the code of false
pub code_says : (b : Bool) (x : ℕ) → literal b (value_of x) ≡ says (eqb x (known_code (not b))) (eqb x (known_code b))
unfolding says
code_says true zero = refl
code_says true (suc zero) = refl
code_says true (suc (suc zero)) = refl
code_says true (suc (suc (suc n))) = sym (ap₂ says (above false n) (above true n))
code_says false zero = refl
code_says false (suc zero) = refl
code_says false (suc (suc zero)) = refl
code_says false (suc (suc (suc n))) = sym (ap₂ says (above true n) (above false n))

-- an or is true if either is, and false if both are
pub or_says : (t f u g : Bool) → or3 (says t f) (says u g) ≡ says (t || u) (f && g)
unfolding says
or_says true f true g = refl
or_says true f false true = refl
or_says true f false false = refl
or_says false true true g = refl
or_says false true false true = refl
or_says false true false false = refl
or_says false false true g = refl
or_says false false false true = refl
or_says false false false false = refl

not_not : (x : Truth) → not3 (not3 x) ≡ x
not_not unknown = refl
not_not true3 = refl
not_not false3 = refl

-- a implies b is not (a and not b) too
pub implies_and : (x y : Truth) → not3 (and3 x (not3 y)) ≡ implies3 x y
implies_and x y = not_not (or3 (not3 x) (not3 (not3 y))) ∙ ap (or3 (not3 x)) (not_not y)

pub not_says : (b : Bool) (x : ℕ) → not3 (literal b (value_of x)) ≡ says (eqb x (known_code b)) (eqb x (known_code (not b)))
not_says true x = not_not (value_of x) ∙ code_says false x
not_says false x = code_says true x

-- what each way through the two tests answers, whatever is asked of the value
module _ (g : Truth → ℕ) (x : Truth) (t f : Bool) (e : x ≡ says t f) where
  pub says_true : t ≡ true → g true3 ≡ g x
  unfolding says
  says_true p = sym (ap g (e ∙ ap (λ (b : Bool). says b f) p))

  pub says_false : t ≡ false → f ≡ true → g false3 ≡ g x
  unfolding says
  says_false p q = sym (ap g (e ∙ ap₂ says p q))

  pub says_neither : t ≡ false → f ≡ false → g unknown ≡ g x
  unfolding says
  says_neither p q = sym (ap g (e ∙ ap₂ says p q))
