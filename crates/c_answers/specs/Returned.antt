-- What the exported calls give, for C and Rust: a number, a detail beside it, and the lent buffers.
use Rattle.refusal.specs.declared.Refusal.{Refusal}
use Rattle.monitor.specs.declared.Verdict.{Verdict}
use Rattle.std.specs.Prelude.{ℕ, not, List, eqb, Option, None, Some, Err, Ok, Result}
use Rattle.refusal.specs.Writes.{Output}
use Rattle.policy.specs.declared.PolicyNumbers.{PolicyNumbers}
use Rattle.line_table.specs.Table.{lines_from}
use Rattle.message.specs.declared.MessageNumbers.{MessageNumbers}
use Rattle.refusal.specs.Numbers.{refusal_number, refusal_place}
use Rattle.monitor.specs.declared.Stopped.{Stopped}
use Rattle.monitor.specs.State.{State, Outcome, PacketOutcome}
use Rattle.monitor.specs.Lookup.{verdict_code}

-- 0 where a call is not refused, and else the refusal's number
abbrev pub number_of : {A : Type 0} → Result A Refusal → ℕ
number_of (Ok x) = 0
number_of (Err r) = refusal_number r

-- what it gives, as a number; of a refusal its place
abbrev pub detail_of : {A : Type 0} → (A → ℕ) → Result A Refusal → ℕ
detail_of given (Ok x) = given x
detail_of given (Err r) = refusal_place r

-- the number, the detail, and the state it leaves
pub record Returned : Type 0 where
  pub number : ℕ
  pub detail : ℕ
  pub state : State

-- a call's outcome as C sees it: an opening gives nothing
abbrev pub returned_opening : Outcome (Unit {0}) → Returned
returned_opening o = record { number = number_of o.answer; detail = detail_of (λ u. 0) o.answer; state = o.state }

-- and a take how many verdicts stand
abbrev pub returned : Outcome ℕ → Returned
returned o = record { number = number_of o.answer; detail = detail_of (λ n. n) o.answer; state = o.state }

-- the same for a packet: 0 where it was taken to its end, and else the refusal's number, with its place counted from the packet's start
abbrev pub stop_number : Option Stopped → ℕ
stop_number None = 0
stop_number (Some e) = refusal_number e.refusal

abbrev pub stop_place : Option Stopped → ℕ
stop_place None = 0
stop_place (Some e) = e.place

pub record ReturnedPacket : Type 0 where
  pub number : ℕ
  -- how many messages were taken
  pub taken : ℕ
  pub place : ℕ
  pub state : State

abbrev pub returned_packet : PacketOutcome → ReturnedPacket
returned_packet o = record { number = stop_number o.answer.stop; taken = o.answer.taken; place = stop_place o.answer.stop; state = o.state }

-- the same for a look: the detail is the verdict's code (0 blank, 1 kept, 2 broken)
abbrev pub look_detail : Result Verdict Refusal → ℕ
look_detail a = detail_of verdict_code a

-- ---- the writers (02, request 3)

-- 0 where the text is written, and else the refusal's number; the detail is the text's length, or the refusal's place; and the buffer it leaves
pub record ReturnedText : Type 0 where
  pub number : ℕ
  pub detail : ℕ
  pub out : List ℕ

abbrev pub returned_text : Output → ReturnedText
returned_text o = record { number = number_of o.answer; detail = detail_of (λ n. n) o.answer; out = o.out }

-- the numbers of a policy, as C lends them: 64 lines, of which there are `count`
abbrev pub policy_numbers : ℕ → ℕ → ℕ → ℕ → List ℕ → PolicyNumbers
policy_numbers propositions components minutes count f =
    record { propositions = propositions; components = components; minutes = minutes; count = count; lines = lines_from f 64 }

-- those of a message: any number but 0 for an alive slip
abbrev pub message_numbers : ℕ → ℕ → ℕ → ℕ → ℕ → ℕ → MessageNumbers
message_numbers component alive minute number named values =
    record { component = component; alive = not (eqb alive 0); minute = minute; number = number; named = named; values = values }
