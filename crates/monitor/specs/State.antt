-- The state, and what an opening, a take and a packet do, as functions of the bytes and the state. The contracts and the demands speak of these.
use Rattle.std.specs.Prelude.{ℕ, suc, ◌+◌, ◌*◌, ◌≡◌, Bool, ◌&&◌, eqb, length, replicate, take, Option, None, Some, Result, Err, Ok}
use Rattle.std.specs.Borrow.{MutBor}
use mathlib.Core.List.{List, [], ◌∷◌, ◌++◌, map, Memᴰ}
use Rattle.refusal.specs.declared.Refusal.{Refusal}
use Rattle.refusal.specs.declared.Refusal.TheVariants.{BufferSize, CorruptKnowledge, Conflict, OtherPolicy}
use Rattle.refusal.specs.Numbers.{packet_place}
use Rattle.policy.specs.declared.Policy.{Policy}
use Rattle.refusal.specs.Checks.{Checked}
use Rattle.refusal.specs.Checks.{Check, check, first_failed}
use Rattle.policy.specs.Format.{policy_checks, policy_of}
use Rattle.message.specs.Format.{message_checks, messages_of}
use Rattle.message.specs.Fixes.{meaning_of}
use Rattle.message.specs.declared.Message.{Message}
use Rattle.knowledge.specs.Knowledge.{Knowledge, sound, fresh, stored, admits}
use Rattle.valuation.specs.Sheets.{valuation_of, verdicts_of, standing}
use Rattle.monitor.specs.declared.Lengths.{Lengths}
use Rattle.monitor.specs.declared.Buffers.{Buffers}
use Rattle.monitor.specs.declared.PacketAnswer.{PacketAnswer}
use Rattle.monitor.specs.declared.Stopped.{Stopped}
use Rattle.origin.specs.Origin.{Origin, stamped, origin_of, opened_under}

-- "Four lent buffers", and what 02 adds to them. One that is added later joins this list, `lent` and, if it is a buffer, `lengths_of`
pub record State : Type 0 where
  -- counts and facts
  pub known : Knowledge
  -- the work sheet
  pub valuation : List ℕ
  -- the verdict sheet
  pub verdicts : List ℕ
  -- the card it was opened under (02, request 5)
  pub origin : Origin

-- the lent buffers as a state
abbrev pub lent : List ℕ → List ℕ → List ℕ → List ℕ → Origin → State
lent numbers facts valuation verdicts origin =
    record { known = record { numbers = numbers; facts = facts }; valuation = valuation; verdicts = verdicts; origin = origin }

-- those of a call, as it is lent them, and as it leaves them
abbrev pub given : Buffers → State
given b = lent b.numbers.now b.facts.now b.valuation.now b.verdicts.now (stamped b.origin.now b.extent.now)

abbrev pub Left : Type 0
Left = MutBor (List ℕ) × (MutBor (List ℕ) × (MutBor (List ℕ) × (MutBor (List ℕ) × (MutBor (List ℕ) × (MutBor ℕ × Unit {0})))))

abbrev pub left : Left → State
left b = lent b.0.now b.1.0.now b.1.1.0.now b.1.1.1.0.now (stamped b.1.1.1.1.0.now b.1.1.1.1.1.0.now)

-- how long they are
abbrev pub lengths_of : State → Lengths
lengths_of x = record {
  numbers = length x.known.numbers;
  facts = length x.known.facts;
  valuation = length x.valuation;
  verdicts = length x.verdicts;
  origin = length x.origin.bytes;
}

-- what a call answers, and the state it leaves
pub record Outcome (A : Type 0) : Type 0 where
  pub answer : Result A Refusal
  pub state : State

-- "a take also gives how many verdicts stand"
abbrev pub Received : Type 0
Received = Result ℕ Refusal

-- a call's answer, and its lent buffers as it returns
abbrev pub outcome : {A : Type 0} → Result A Refusal → List ℕ → List ℕ → List ℕ → List ℕ → Origin → Outcome A
outcome a numbers facts valuation verdicts origin = record { answer = a; state = lent numbers facts valuation verdicts origin }

-- the same of a call that is lent them together
abbrev pub ended : {A : Type 0} → Result A Refusal → Left → Outcome A
ended a b = record { answer = a; state = left b }

-- "A refusal gives number and place and writes nothing": what a call does, unless one of its checks refuses it
abbrev pub unless : {A : Type 0} → Checked → State → Outcome A → Outcome A
unless (Ok _) x done = done
unless (Err r) x done = record { answer = Err r; state = x }

module _ (p : Policy) where
  -- "Four lent buffers of exact size": the record and both sheets, which are all that most functions are lent
  pub record SizedSheets (k : Knowledge) (v d : List ℕ) : Type 0 where
    pub numbers : length k.numbers ≡ p.sizes.components * suc p.sizes.minutes
    pub facts : length k.facts ≡ 2 * p.sizes.minutes
    pub valuation : length v ≡ p.count * p.sizes.minutes
    pub verdicts : length d ≡ p.rules * p.sizes.minutes

  -- and the buffer of 02, request 5, which has one size under every card
  pub record Sized (x : State) : Type 0 where
    pub sheets : SizedSheets x.known x.valuation x.verdicts
    pub origin : length x.origin.bytes ≡ 517

  -- the same as a test, of the lengths
  unfoldable pub sizes_fit : Lengths → Bool
  sizes_fit l =
      eqb l.numbers (p.sizes.components * suc p.sizes.minutes)
      && (eqb l.facts (2 * p.sizes.minutes)
      && (eqb l.valuation (p.count * p.sizes.minutes)
      && (eqb l.verdicts (p.rules * p.sizes.minutes)
      && eqb l.origin 517)))

  abbrev pub sized : State → Bool
  sized x = sizes_fit (lengths_of x)

  -- "Opening makes a fresh record; the verdict sheet is blank and the work sheet holds the reading over that record"
  unfoldable pub opened : Origin → State
  opened o = record {
    known = fresh p.sizes;
    valuation = valuation_of p (fresh p.sizes);
    verdicts = replicate (p.rules * p.sizes.minutes) 0;
    origin = o;
  }

  -- the state over some knowledge: both sheets are the reading
  abbrev pub over : Origin → Knowledge → State
  over o k = record { known = k; valuation = valuation_of p k; verdicts = verdicts_of p k; origin = o }

  -- "An accepted slip makes known in the record all that it fixes"; both sheets "are rewritten whole"; "a take also gives how many
  -- verdicts stand"
  abbrev pub rewritten : Origin → Knowledge → Outcome ℕ
  rewritten o k = record { answer = Ok (standing (verdicts_of p k)); state = over o k }

  abbrev pub settled : State → Message → Outcome ℕ
  settled x m = rewritten x.origin (stored p.sizes x.known m)

  -- 7 and 8, then 9: "no shift fits record and slip"
  abbrev pub slip_checks : State → List ℕ → List Check
  slip_checks x b = message_checks p.sizes b ++ (check (admits p.sizes x.known (meaning_of b)) Conflict ∷ [])

  abbrev pub take_message : State → List ℕ → Outcome ℕ
  take_message x b = unless (first_failed (slip_checks x b)) x (settled x (meaning_of b))

-- ---- the calls, each with its checks in 01's order; s are the bytes of the card

-- 1 to 4, then 5, from the buffers' lengths: every call that is lent a state starts with these
abbrev pub size_checks : List ℕ → Lengths → List Check
size_checks s l = policy_checks s ++ (check (sizes_fit (policy_of s) l) BufferSize ∷ [])

-- "Opening stops after 5"
abbrev pub opening_checks : List ℕ → State → List Check
opening_checks s x = size_checks s (lengths_of x)

-- "an opening answers done"
abbrev pub opened_as : State → Outcome (Unit {0})
opened_as x = record { answer = Ok tt; state = x }

-- "Opening writes both": the buffer and the number of 02, request 5
unfoldable pub open_state : List ℕ → State → Outcome (Unit {0})
open_state s x = unless (first_failed (opening_checks s x)) x (opened_as (opened (policy_of s) (origin_of s)))

-- "12, other card, after 5 and before 6"
abbrev pub origin_checks : List ℕ → State → List Check
origin_checks s x = opening_checks s x ++ (check (opened_under s x.origin) OtherPolicy ∷ [])

-- "A call added later that is lent a record checks 1 to 6 as a take does", and 12 with them
abbrev pub record_checks : List ℕ → State → List Check
record_checks s x = origin_checks s x ++ (check (sound (policy_of s).sizes x.known) CorruptKnowledge ∷ [])

-- 1 to 4, "after it 5, 6, 7, 8, 9", with 12 between 5 and 6
abbrev pub take_checks : List ℕ → State → List ℕ → List Check
take_checks s x b = record_checks s x ++ slip_checks (policy_of s) x b

unfoldable pub receive : List ℕ → State → List ℕ → Outcome ℕ
receive s x b = unless (first_failed (take_checks s x b)) x (settled (policy_of s) x (meaning_of b))

-- ---- packets (02, request 1)

-- what a packet is answered, and the state it leaves
pub record PacketOutcome : Type 0 where
  pub answer : PacketAnswer
  pub state : State

abbrev pub packet_outcome : PacketAnswer → List ℕ → List ℕ → List ℕ → List ℕ → Origin → PacketOutcome
packet_outcome a numbers facts valuation verdicts origin = record { answer = a; state = lent numbers facts valuation verdicts origin }

abbrev pub ended_packet : PacketAnswer → Left → PacketOutcome
ended_packet a b = record { answer = a; state = left b }

-- "It gives the number taken, and the refusal": n are taken, and then the packet stops
abbrev pub stopped : ℕ → Option Stopped → State → PacketOutcome
stopped n e x = record { answer = record { taken = n; stop = e }; state = x }

-- a refusal of the message that starts at byte `at`, ".. with its place counted from the packet's start"
abbrev pub refused_at : ℕ → Refusal → Option Stopped
refused_at at r = Some (record { refusal = r; place = packet_place at r })

-- a take with this answer ends the packet, or lets it go on
abbrev pub ends_or : Received → (Refusal → PacketOutcome) → PacketOutcome → PacketOutcome
ends_or (Ok n) ends next = next
ends_or (Err r) ends next = ends r

-- "A packet call takes slips until the packet ends or one is refused, and leaves everything as the same takes one by one would": n messages are taken
-- already, from `at` bytes. "Slips taken before the refusal remain taken"
abbrev pub take_each : List ℕ → State → ℕ → ℕ → List (List ℕ) → PacketOutcome
take_each s x n at [] = stopped n None x
take_each s x n at (m ∷ ms) =
    ends_or (receive s x m).answer
    (λ r. stopped n (refused_at at r) (receive s x m).state)
    (take_each s (receive s x m).state (n + 1) (at + length m) ms)

-- "A call added later that is lent a record checks 1 to 6 as a take does", an empty packet too; "those checked before 7 keep their places"
abbrev pub unless_packet : Checked → State → PacketOutcome → PacketOutcome
unless_packet (Ok _) x done = done
unless_packet (Err r) x done = stopped 0 (refused_at 0 r) x

unfoldable pub receive_packet : List ℕ → State → List ℕ → PacketOutcome
receive_packet s x b = unless_packet (first_failed (record_checks s x)) x (take_each s x 0 0 (messages_of b))

-- ---- lists of calls

pub data Call : Type 0 where
  -- a take, which offers a message of any bytes
  Receive : List ℕ → Call

-- a call that is lent the card and the state as the last call left it
abbrev pub step : List ℕ → State → Call → Outcome ℕ
step s x (Receive b) = receive s x b

abbrev pub run_calls : List ℕ → State → List Call → State
run_calls s x [] = x
run_calls s x (c ∷ cs) = run_calls s (step s x c).state cs

-- "A list of takes starts right after an opening": the state after it, where x are the buffers before the opening
abbrev pub after : List ℕ → State → List Call → State
after s x cs = run_calls s (open_state s x).state cs

-- "The slip is accepted if its take isn't refused"
abbrev pub Taken : Received → Type 0
Taken (Ok n) = Unit
Taken (Err r) = ⊥

-- the message of a take with this answer, if it was accepted
abbrev pub took : Received → List ℕ → List Message
took (Ok n) b = meaning_of b ∷ []
took (Err r) b = []

-- the messages that a call accepts
abbrev pub accepted_by : List ℕ → State → Call → List Message
accepted_by s x (Receive b) = took (receive s x b).answer b

-- and those that the calls of a list accept, in order
abbrev pub accepted_from : List ℕ → State → List Call → List Message
accepted_from s x [] = []
accepted_from s x (c ∷ cs) = accepted_by s x c ++ accepted_from s (step s x c).state cs

abbrev pub accepted : List ℕ → State → List Call → List Message
accepted s x cs = accepted_from s (open_state s x).state cs

-- the call offers these bytes as a message
pub data Offers : Call → List ℕ → Type 0 where
  by_take : (b : List ℕ) → Offers (Receive b) b

-- some call of the list does
pub record Offered (b : List ℕ) (cs : List Call) : Type 0 where
  pub call : Call
  pub is_call : Memᴰ call cs
  pub offers : Offers call b

-- ---- lists that hold packets

pub data Entry : Type 0 where
  -- a call of demand 3's lists
  Single : Call → Entry
  -- a packet, of any bytes
  Packet : List ℕ → Entry

-- the state that a take or a packet leaves
abbrev pub entry_state : List ℕ → State → Entry → State
entry_state s x (Single c) = (step s x c).state
entry_state s x (Packet b) = (receive_packet s x b).state

-- what it accepts: of a packet as many of its messages as it says were taken
abbrev pub entry_accepted : List ℕ → State → Entry → List Message
entry_accepted s x (Single c) = accepted_by s x c
entry_accepted s x (Packet b) = map meaning_of (take (receive_packet s x b).answer.taken (messages_of b))

-- the rest of the takes, where the first is not refused
abbrev pub if_taken : Received → List Call → List Call
if_taken (Ok n) cs = cs
if_taken (Err r) cs = []

-- the takes that offer byte strings one by one, until one is refused
abbrev pub offers_each : List ℕ → State → List (List ℕ) → List Call
offers_each s x [] = []
offers_each s x (m ∷ ms) = Receive m ∷ if_taken (receive s x m).answer (offers_each s (receive s x m).state ms)

-- "the same takes one by one"
abbrev pub entry_takes : List ℕ → State → Entry → List Call
entry_takes s x (Single c) = c ∷ []
entry_takes s x (Packet b) = offers_each s x (messages_of b)

-- over a list, each entry lent the state as the last one left it
abbrev pub run_entries : List ℕ → State → List Entry → State
run_entries s x [] = x
run_entries s x (e ∷ es) = run_entries s (entry_state s x e) es

abbrev pub accepted_entries : List ℕ → State → List Entry → List Message
accepted_entries s x [] = []
accepted_entries s x (e ∷ es) = entry_accepted s x e ++ accepted_entries s (entry_state s x e) es

abbrev pub takes_entries : List ℕ → State → List Entry → List Call
takes_entries s x [] = []
takes_entries s x (e ∷ es) = entry_takes s x e ++ takes_entries s (entry_state s x e) es
