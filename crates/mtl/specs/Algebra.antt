-- A truth algebra: the values that a reading takes, with not and or; "a and b is not (not a or not b)", and folds over a range of minutes.
use Rattle.std.specs.Prelude.{ℕ, zero, suc, ◌+◌, Bool, true, false, not, ◌||◌}
use Rattle.kleene.specs.Truth.{Truth, true3, false3, not3, or3}

pub record Algebra (A : Type 0) : Type 0 where
  pub top : A
  pub bottom : A
  pub neg : A → A
  pub join : A → A → A

-- three values, and two
abbrev pub three : Algebra Truth
three = record { top = true3; bottom = false3; neg = not3; join = or3 }

abbrev pub two : Algebra Bool
two = record { top = true; bottom = false; neg = not; join = ◌||◌ }

module _ {A : Type 0} (op : A → A → A) (unit : A) where
  -- unit op f(lo) op .. op f(lo + n - 1)
  abbrev pub fold : ℕ → ℕ → (ℕ → A) → A
  fold lo zero f = unit
  fold lo (suc n) f = op (fold lo n f) (f (lo + n))

module _ {A : Type 0} (a : Algebra A) where
  abbrev pub meet : A → A → A
  meet x y = a.neg (a.join (a.neg x) (a.neg y))

  abbrev pub implies : A → A → A
  implies x y = a.join (a.neg x) y

  -- the or of f over the n minutes from lo on; false over none
  abbrev pub any : ℕ → ℕ → (ℕ → A) → A
  any = fold a.join a.bottom

  -- "For all" joins by and, and over no minute it is true
  abbrev pub all : ℕ → ℕ → (ℕ → A) → A
  all = fold meet a.top
