-- All stations have reported, from the bytes of slips: under U, "mark 0 within the next minute", with M = 4 and a reach of 1. The only observation is at
-- minute 2 or at minute 3, with a false mark, and an alive at 4 closes the shift. At minute 2 the sheet shows broken; at minute 3, where t + reach is M, it
-- is blank.
use Rattle.std.specs.Prelude.{ℕ, suc, ◌≡◌, true, false, eqb}
use Rattle.std.proofs.Common.{arith, ne_eqb}
use mathlib.Core.List.{List, [], ◌∷◌, Memᴰ}
use Rattle.bits.specs.Bits.{bit}
use Rattle.policy.specs.Format.{policy_of}
use Rattle.message.specs.declared.Event.TheVariants.{Observation, Alive}
use Rattle.message.specs.Fixes.{meaning_of}
use Rattle.message.specs.declared.Message.{Message}
use Rattle.knowledge.specs.Trace.{Trace}
use Rattle.reach.specs.Reaches.{rule_reach}
use Rattle.completeness.specs.Complete.{Every}
use Rattle.completeness.specs.Reports.{Reports}
use Rattle.monitor.specs.State.{State, Receive, after, accepted, Call}
use Rattle.monitor.specs.Demands.{sizes_of, shown}
use Rattle.demands.specs.Small.{U, false_at_2, false_at_3, alive_at_4}

-- the shift with one observation, at minute n, and a mark that is never true
abbrev pub shift : ℕ → Trace (sizes_of U)
shift n = record {
  observes = λ c t. eqb t n;
  value = λ i t. false;
  end = suc n;
  ended = λ c t l h. ne_eqb t n (omega arith);
}

abbrev pub takes : List ℕ → List Call
takes b = Receive b ∷ Receive alive_at_4 ∷ []

-- the messages accepted in the list
abbrev pub Sent : State → List ℕ → Message → Type 0
Sent y b m = Memᴰ m (accepted U y (takes b))

pub record ReportedShifts (y : State) : Type 0 where
  pub reach_is : rule_reach (policy_of U) 0 ≡ 1
  pub minutes : (sizes_of U).minutes ≡ 4
  -- all stations have reported: every observation, with every mark, and an alive at M
  pub reports_2 : Reports (sizes_of U) Every (shift 2) (Sent y false_at_2)
  pub reports_3 : Reports (sizes_of U) Every (shift 3) (Sent y false_at_3)
  -- 2 + 1 is below 4, and 3 + 1 is 4
  pub broken_2 : shown (policy_of U) (after U y (takes false_at_2)) 0 2 ≡ 2
  pub blank_3 : shown (policy_of U) (after U y (takes false_at_3)) 0 3 ≡ 0

-- ---- the slips

-- station 0, its first observation at minute n, mark 0 false
pub record Says (b : List ℕ) (n : ℕ) : Type 0 where
  pub component : (meaning_of b).component ≡ 0
  pub event : (meaning_of b).event ≡ Observation n 1 1 0

-- one mark, one station, four minutes; and the alive at the end, after one observation
pub record Closes : Type 0 where
  pub propositions : (sizes_of U).propositions ≡ 1
  pub components : (sizes_of U).components ≡ 1
  pub minutes : (sizes_of U).minutes ≡ 4
  pub component : (meaning_of alive_at_4).component ≡ 0
  pub event : (meaning_of alive_at_4).event ≡ Alive (sizes_of U).minutes 1
  pub first_bit : bit 1 0 ≡ true
