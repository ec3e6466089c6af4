-- 01, "Order": the checks of a call, or of a reader, stand in one list, in 01's order; the answer is that of the first that fails.
use Rattle.std.specs.Prelude.{ℕ, ◌≡◌, Bool, true, false, cond, List, [], ◌∷◌, Result, Err, Ok}
use Rattle.refusal.specs.declared.Refusal.{Refusal}
use Rattle.refusal.specs.Numbers.{refusal_number, refusal_place}

-- what checks answer, one after another: they let a call pass, or the first that fails refuses it
abbrev pub Checked : Type 0
Checked = Result (Unit {0}) Refusal

-- a test, and the refusal where it fails
pub record Check : Type 0 where
  pub passed : Bool
  pub refusal : Refusal

abbrev pub check : Bool → Refusal → Check
check passed r = record { passed = passed; refusal = r }

-- the refusal of the first that fails; accepted where none does
abbrev pub first_failed : List Check → Checked
first_failed [] = Ok tt
first_failed (c ∷ cs) = cond c.passed (first_failed cs) (Err c.refusal)

-- what is given, unless a check refuses it
abbrev pub give_unless : {A : Type 0} → Checked → A → Result A Refusal
give_unless (Ok _) x = Ok x
give_unless (Err r) x = Err r

-- whether it was refused, whatever it gives
abbrev pub reply : {A : Type 0} → Result A Refusal → Checked
reply (Ok x) = Ok tt
reply (Err r) = Err r

-- one answer after another
abbrev pub and_then : Checked → Checked → Checked
and_then (Ok _) next = next
and_then (Err r) next = Err r

-- ---- what the answers mean

-- every test passes
pub data Passed : List Check → Type 0 where
  none : Passed []
  pass : {c : Check} {cs : List Check} → c.passed ≡ true → Passed cs → Passed (c ∷ cs)

-- r is the refusal of a test that fails, and every test before it passes
pub data Refuses : List Check → Refusal → Type 0 where
  here : {c : Check} {cs : List Check} → c.passed ≡ false → Refuses (c ∷ cs) c.refusal
  there : {c : Check} {cs : List Check} {r : Refusal} → c.passed ≡ true → Refuses cs r → Refuses (c ∷ cs) r

-- the answer is a refusal with this number and place of 01's table
pub record RefusedWith (a : Checked) (n at : ℕ) : Type 0 where
  pub refusal : Refusal
  pub is : a ≡ Err refusal
  pub number : refusal_number refusal ≡ n
  pub place : refusal_place refusal ≡ at
