-- The table of subformulas as the loop fills it, one line after another. Assumes nothing.
use Rattle.std.specs.Prelude.{Err, Ok, Result}
use Prim.Native.Nat.{ℕ, suc, ◌+◌, ◌≤◌, ◌<◌}
use mathlib.Core.Path.{◌≡◌, refl}
use mathlib.Core.Bool.{Bool, true, false}
use mathlib.Core.List.{List}
use native.Mathlib.Omega.{arith}
use borrow.Author.Tests.{leb-true}
use lib.Dec.{leb}
use lib.ListN.{length, get_or, set, replicate}
use Rattle.encoding.specs.Fields.{has, size}
use Rattle.refusal.specs.declared.Refusal.{Refusal}
use Rattle.refusal.specs.declared.Refusal.TheVariants.{TruncatedPolicy, BadSubformula}
use Rattle.policy.specs.declared.Subformula.{Subformula}
use Rattle.policy.specs.declared.Fields.{Fields}
use Rattle.refusal.specs.Checks.{Passed, none, pass, Refuses, here, there}
use Rattle.refusal.proofs.Laws.{refusal_law, passing_law}
use Rattle.policy.specs.Format.{line_length, fields_at, good_line, subformula_of, subformula_at, offset, line_checks, lines_checks, no_line, subformulas_of, rules_up_to}
use Rattle.policy.specs.declared.Scanned.{Scanned}
use Rattle.policy.specs.Lines.{scan_of}
use Rattle.policy.proofs.Table.{none_yet, one_more}
use Rattle.policy.proofs.Causes.{refused_line, passed_line}

-- the first i lines are accepted and read
pub record UpTo (s : List ℕ) (i : ℕ) (subformulas : List Subformula) (rules at : ℕ) : Type 0 where
  pub accepted : Passed (lines_checks s i)
  pub place : at ≡ offset s i
  pub inside : at ≤ length s
  pub counted : rules ≡ rules_up_to s i
  pub few : rules ≤ i
  pub table : subformulas ≡ subformulas_of s i

pub nothing_read : (s : List ℕ) → 5 ≤ length s → UpTo s 0 (replicate 64 no_line) 0 5
unfolding lines_checks offset rules_up_to
nothing_read s h = record { accepted = none; place = refl; inside = h; counted = refl; few = omega arith; table = none_yet s }

-- what the code knows of the line at the place
module _ (s : List ℕ) (i : ℕ) (t : List Subformula) (rules at : ℕ) (u : UpTo s i t rules at) where
  ends : {b : Bool} → leb (at + line_length (get_or s at 0)) (length s) ≡ b → leb (offset s (suc i)) (length s) ≡ b
  unfolding offset
  ends e = rw (← u.place) e

  keeps : {b : Bool} → good_line (get_or s 0 0) i (fields_at s at) ≡ b → good_line (get_or s 0 0) i (fields_at s (offset s i)) ≡ b
  keeps e = rw (← u.place) e

  pub cut : (n : ℕ) → i < n → leb (at + line_length (get_or s at 0)) (length s) ≡ false → Refuses (lines_checks s n) (TruncatedPolicy (length s))
  unfolding line_checks
  cut n h e = refused_line s i n _ h u.accepted (here (ends e))

  -- the code's fields of that line
  module _ (f : Fields) (same : f ≡ fields_at s at) (whole : leb (at + line_length (get_or s at 0)) (length s) ≡ true) where
    its_map : f.map ≡ get_or s at 0
    unfolding fields_at
    its_map = rw same

    pub bad : (n : ℕ) → i < n → good_line (get_or s 0 0) i f ≡ false → Refuses (lines_checks s n) (BadSubformula at)
    unfolding line_checks
    bad n h g = rw u.place (refused_line s i n _ h u.accepted (there (ends whole) (here (keeps (rw (← same) g)))))

    pub one_line : {v : Subformula} {n m : ℕ} → i < 64 → good_line (get_or s 0 0) i f ≡ true → v ≡ subformula_of f
        → (n ≡ size (has f.map 5) 1) × (n ≤ 1) → m ≡ line_length f.map → UpTo s (suc i) (set t i v) (rules + n) (at + m)
    unfolding offset rules_up_to subformula_at line_checks
    one_line h g v n m =
        record {
          accepted = passed_line s i u.accepted (pass (ends whole) (pass (keeps (rw (← same) g)) none));
          place = rw (m, its_map, u.place);
          inside = rw (m, its_map) (leb-true _ _ whole);
          counted = rw (n.0, its_map, u.counted, u.place);
          few = omega (arith, u.few);
          table = rw (u.table, v, same, u.place) (one_more s i h);
        }

module _ (s : List ℕ) (n : ℕ) where
  pub refused_lines : (r : Refusal) → Refuses (lines_checks s n) r → ◌≡◌ {A = Result Scanned Refusal} (Err r) (scan_of s n)
  unfolding scan_of
  refused_lines r q = rw ((refusal_law (lines_checks s n) r).1 q)

  pub read_lines : (t : List Subformula) (rules at : ℕ) → UpTo s n t rules at
      → ◌≡◌ {A = Result Scanned Refusal} (Ok (record { at = at; rules = rules; subformulas = t })) (scan_of s n)
  unfolding scan_of
  read_lines t rules at u = rw ((passing_law (lines_checks s n)).1 u.accepted, u.place, u.counted, u.table)
