-- Laws of the definitions in specs/Arguments. Assumes nothing.
use Rattle.std.specs.Prelude.{ℕ, ◌≡◌, refl, Bool, true, false, ◌&&◌, not, List, [], ◌∷◌, None, Some, eqb, ltb, length}
use Rattle.std.proofs.Common.{◌<◌, arith, eq-eqb, ne_eqb, lt-ltb, le-ltb}
use Rattle.std.proofs.Math.Decide.{dec_lt}
use Rattle.std.specs.Bool.{then_some}
use Rattle.std.specs.List.{fold, list_all}
use Rattle.compile_rule.specs.Choices.{choose, digit, run}
use Rattle.compile_rule.specs.Arguments.{all_digits, number, with_digit}
use Rattle.compile_rule.proofs.Choices.{folded}

none_after : (xs : List ℕ) → false ≡ run all_digits false xs
none_after [] = refl
none_after (x ∷ xs) = none_after xs

all_run : (w : Bool) (xs : List ℕ) → (w && list_all digit xs) ≡ run all_digits w xs
all_run true [] = refl
all_run true (x ∷ xs) = all_run (digit x) xs
all_run false xs = none_after xs

some : (n : ℕ) → not (eqb n 0) ≡ ltb 0 n
some n = go (dec_lt 0 n)
  where
    go : Dec (0 < n) → not (eqb n 0) ≡ ltb 0 n
    go (yes h) = rw (ne_eqb n 0 (λ e. omega (arith, e, h)), lt-ltb 0 n h) refl
    go (no h) = rw (eq-eqb n 0 (omega arith), le-ltb 0 n (omega arith)) refl

chosen : (b : Bool) (v : ℕ) → then_some b v ≡ choose b (Some v) None
unfolding choose
chosen true v = refl
chosen false v = refl

-- the number is worked out of all bytes, and told where there are some and all are digits
pub numbered_by : (xs : List ℕ) → then_some (not (eqb (length xs) 0) && list_all digit xs) (fold with_digit 0 xs) ≡ number xs
unfolding number
numbered_by xs =
    rw (some (length xs), all_run (ltb 0 (length xs)) xs, folded with_digit 0 xs)
    (chosen (run all_digits (ltb 0 (length xs)) xs) (run with_digit 0 xs))

pub numbered : (digits : List ℕ) (whole : Bool) (value : ℕ) → whole ≡ run all_digits (ltb 0 (length digits)) digits → value ≡ run with_digit 0 digits
    → choose whole (Some value) None ≡ number digits
unfolding number
numbered digits whole value e f = rw (e, f) refl
