-- What was demanded, as types. Read this file first; each statement stands below the sentence that it formalises. `demand_1`, `demand_2`,
-- `demand_3`, `packets`, `demand_3_packets`, `writers`, `time_points`, `one_policy` and `complete_shifts` of the crate demands have these types.
--
-- s are the bytes of a card, any bytes; `policy_of s` is what they say where they are accepted. x is a state: the lent buffers, of any length and
-- content, and the lent number. b are the bytes of a slip, any bytes; where packets are spoken of, b are the bytes of a packet and m those of a slip in it.
use Rattle.monitor.specs.declared.Verdict.{Verdict}
use Rattle.std.specs.Prelude.{ℕ, ◌+◌, ◌*◌, ◌≤◌, ◌<◌, ◌≡◌, Bool, true, false, cond, ◌⊎◌, ◌↔◌, ◌≢◌, get_or, length, take, Option, None, Some, Err, Ok, Result}
use mathlib.Core.List.{List, [], ◌∷◌, ◌++◌, map, Memᴰ}
use Rattle.kleene.specs.Truth.{true3, false3, code_of}
use Rattle.mtl.specs.Textbook.{Holds}
use Rattle.refusal.specs.declared.Refusal.{Refusal}
use Rattle.refusal.specs.declared.Refusal.TheVariants.{Conflict}
use Rattle.refusal.specs.Checks.{Checked, RefusedWith, reply}
use Rattle.refusal.specs.Numbers.{refusal_number}
use Rattle.refusal.specs.Table.{Table, PacketTable}
use Rattle.policy.specs.declared.Sizes.{Sizes}
use Rattle.policy.specs.declared.Policy.{Policy}
use Rattle.policy.specs.Format.{policy_of, count_of, rules_up_to}
use Rattle.policy.specs.declared.PolicyNumbers.{PolicyNumbers}
use Rattle.policy.specs.Format.{answer_of as policy_answer}
use Rattle.policy.specs.Text.{encode_of as encode_policy}
use Rattle.policy.specs.Written.{EncodeCauses as PolicyEncoded, RoundTrip as PolicyRoundTrip}
use Rattle.policy.specs.Proper.{formula_at, rules_of, Between, Cut, Misheaded, Misformed, Whole}
use Rattle.message.specs.declared.MessageNumbers.{MessageNumbers}
use Rattle.message.specs.Format.{length_of, messages_of}
use Rattle.message.specs.Text.{encode_of as encode_message}
use Rattle.message.specs.Written.{EncodeCauses as MessageEncoded, SizesIn, RoundTrip as MessageRoundTrip, Encodes}
use Rattle.message.specs.Packet.{Packed}
use Rattle.message.specs.Encoded.{IsMessage}
use Rattle.message.specs.Fixes.{FixesNumber, FixesFact, WellFormed, meaning_of}
use Rattle.message.specs.declared.Message.{Message}
use Rattle.message.specs.Proper.{Cut as CutMessage}
use Rattle.knowledge.specs.Trace.{Trace, Admits, AdmitsAll, time_point}
use Rattle.knowledge.specs.Knowledge.{Knowledge, none, noted, valued, fact, number, Sound, Agrees, KnownPoint, KnownNone}
use Rattle.knowledge.specs.Exact.{ExactPoints}
use Rattle.valuation.specs.Sheets.{value, verdict, standing}
use Rattle.reach.specs.Reach.{reach_from, reach}
use Rattle.reach.specs.Reaches.{rule_reach, rule_reaches}
use Rattle.reach.specs.Called.{ReachCauses}
use Rattle.completeness.specs.Complete.{Complete, Every, Named, NoBlanks}
use Rattle.completeness.specs.Reports.{AllTold}
use Rattle.completeness.specs.Reports.{Reports}
use Rattle.monitor.specs.declared.Verdict.TheVariants.{Unknown, Satisfied, Violated}
use Rattle.monitor.specs.Lookup.{lookup_of}
use Rattle.monitor.specs.declared.Stopped.{Stopped}
use Rattle.origin.specs.Origin.{origin_of, same_bytes, HoldsCard}
use Rattle.monitor.specs.State.{State, Outcome, Sized, open_state, receive, PacketOutcome, take_each, receive_packet, Call, Receive, run_calls, after, Taken, accepted_from, accepted, Offered, Entry, Single, Packet, offers_each, run_entries, accepted_entries, takes_entries}

-- ---- words

-- the sizes of the card
abbrev pub sizes_of : List ℕ → Sizes
sizes_of s = (policy_of s).sizes

-- "The code at rule times M + minute of the verdict sheet"
abbrev pub shown : Policy → State → ℕ → ℕ → ℕ
shown p x r t = get_or x.verdicts (r * p.sizes.minutes + t) 0

-- the line that is rule r
abbrev pub rule_line : Policy → ℕ → ℕ
rule_line p r = get_or (rules_of p) r 0

-- some shift fits the record and the slip
abbrev pub SomeTrace : Sizes → Knowledge → Message → Type 0
SomeTrace z k m = (w : Trace z) × Agrees z w k × Admits z w m

-- "The plain two-valued verdict of a rule at a busy minute of that shift is kept where its line so reads true, broken where it reads false; a
-- quiet minute has none." The reading is the textbook one: a proposition
pub data Plain (p : Policy) (w : Trace p.sizes) (r t : ℕ) : ℕ → Type 0 where
  kept : time_point p.sizes w t ≡ true → Holds (time_point p.sizes w) w.value (formula_at p) (rule_line p r) t → Plain p w r t 1
  broken : time_point p.sizes w t ≡ true → (Holds (time_point p.sizes w) w.value (formula_at p) (rule_line p r) t → ⊥) → Plain p w r t 2

-- The sheets are the reading over the state's knowledge: "the sheet shows kept or broken at a minute exactly when that minute is known busy
-- and the three-valued MTL reading of the rule over what is known is true or false; otherwise blank"
pub record Sheets (p : Policy) (x : State) : Type 0 where
  pub valuation : (l t : ℕ) → l < p.count → t < p.sizes.minutes
      → get_or x.valuation (l * p.sizes.minutes + t) 0 ≡ code_of (value p x.known l t)
  pub kept : (r t : ℕ) → r < p.rules → t < p.sizes.minutes
      → (shown p x r t ≡ 1) ↔ (KnownPoint p.sizes x.known t × (value p x.known (rule_line p r) t ≡ true3))
  pub broken : (r t : ℕ) → r < p.rules → t < p.sizes.minutes
      → (shown p x r t ≡ 2) ↔ (KnownPoint p.sizes x.known t × (value p x.known (rule_line p r) t ≡ false3))
  pub blank : (r t : ℕ) → r < p.rules → t < p.sizes.minutes → shown p x r t ≢ 1 → shown p x r t ≢ 2 → shown p x r t ≡ 0

-- The knowledge is what the opening and the messages of Q fix: a number or a fact is known exactly when one of them fixes it, and at that
-- value; every other cell says "not known"
pub record Exact (z : Sizes) (k : Knowledge) (Q : Message → Type 0) : Type 0 where
  pub numbers : (c p n : ℕ) → c < z.components → p ≤ z.minutes → n < none
      → (number z k c p ≡ n) ↔ (((p ≡ 0) × (n ≡ 0)) ⊎ ((m : Message) × Q m × (m.component ≡ c) × FixesNumber m.event p n))
  pub facts : (i t : ℕ) (b : Bool) → i < z.propositions → t < z.minutes
      → (fact k i t ≡ cond b true3 false3) ↔ ((m : Message) × Q m × FixesFact m.event i t b)
  -- a number that is not known is 65535; no value bit where its mark isn't known, and no mark beyond the card (Sound), of 32 bits
  pub unknown_number : (c p : ℕ) → c < z.components → p ≤ z.minutes → number z k c p ≤ none
  pub words : (i : ℕ) → get_or k.facts i 0 < 4294967296
  pub sound : Sound z k

-- ---- demand 1

-- "Each refusal carries its number": each is answered, with its number and place of 01's table, exactly for its own cause, and none earlier. "No
-- refused call changes anything lent to it." (That no call reads or writes out of bounds, wraps a sum or fails to end is proved of every function
-- of the code.)

-- 1 to 4, of any call that is lent a card; the others have place 0
pub record PolicyCauses (s : List ℕ) (a : Checked) : Type 0 where
  pub one : (at : ℕ) → RefusedWith a 1 at ↔ Cut s at
  pub two : (at : ℕ) → RefusedWith a 2 at ↔ Misheaded s at
  pub three : (at : ℕ) → RefusedWith a 3 at ↔ Misformed s at
  pub four : (at : ℕ) → RefusedWith a 4 at ↔ ((at ≡ 0) × Whole s × (Between 1 8 (rules_up_to s (count_of s)) → ⊥))

-- the card is accepted: checks 1 to 4 let it pass
abbrev pub PolicyPassed : List ℕ → Type 0
PolicyPassed s = Whole s × Between 1 8 (rules_up_to s (count_of s))

-- an opening, whose outcome is o: 1 to 5. "Opening stops after 5"; "an opening answers done, or its refusal"
pub record OpeningCauses (s : List ℕ) (x : State) (o : Outcome (Unit {0})) : Type 0 where
  pub policy : PolicyCauses s (reply o.answer)
  pub five : (at : ℕ) → RefusedWith (reply o.answer) 5 at ↔ ((at ≡ 0) × PolicyPassed s × (Sized (policy_of s) x → ⊥))
  pub no_other : (n at : ℕ) → RefusedWith (reply o.answer) n at → (1 ≤ n) × (n ≤ 5)
  pub done : (o.answer ≡ Ok tt) ↔ (PolicyPassed s × Sized (policy_of s) x)
  pub unwritten : (r : Refusal) → o.answer ≡ Err r → o.state ≡ x

-- the checks 1 to 6, and 12 between 5 and 6, let the card and the record pass
pub record Passed (s : List ℕ) (x : State) : Type 0 where
  pub policy : PolicyPassed s
  pub sized : Sized (policy_of s) x
  pub origin : x.origin ≡ origin_of s
  pub sound : Sound (sizes_of s) x.known

-- a take, whose outcome is o: 1 to 9, and 12 (02, request 5): "12, other card, after 5 and before 6, when the stored length or any of the 517 bytes isn't
-- what opening that card writes; 5 covers the new buffer" (Sized)
pub record TakeCauses (s : List ℕ) (x : State) (b : List ℕ) (o : Outcome ℕ) : Type 0 where
  pub policy : PolicyCauses s (reply o.answer)
  pub five : (at : ℕ) → RefusedWith (reply o.answer) 5 at ↔ ((at ≡ 0) × PolicyPassed s × (Sized (policy_of s) x → ⊥))
  pub twelve : (at : ℕ) → RefusedWith (reply o.answer) 12 at
      ↔ ((at ≡ 0) × PolicyPassed s × Sized (policy_of s) x × (x.origin ≡ origin_of s → ⊥))
  pub six : (at : ℕ) → RefusedWith (reply o.answer) 6 at
      ↔ ((at ≡ 0) × PolicyPassed s × Sized (policy_of s) x × (x.origin ≡ origin_of s) × (Sound (sizes_of s) x.known → ⊥))
  pub seven : (at : ℕ) → RefusedWith (reply o.answer) 7 at ↔ (Passed s x × CutMessage b at)
  pub eight : (at : ℕ) → RefusedWith (reply o.answer) 8 at
      ↔ ((at ≡ 0) × Passed s x × (length b ≡ length_of b) × (IsMessage (sizes_of s) b → ⊥))
  pub nine : (at : ℕ) → RefusedWith (reply o.answer) 9 at
      ↔ ((at ≡ 0) × Passed s x × WellFormed (sizes_of s) b × (SomeTrace (sizes_of s) x.known (meaning_of b) → ⊥))
  pub no_other : (n at : ℕ) → RefusedWith (reply o.answer) n at → ((1 ≤ n) × (n ≤ 9)) ⊎ (n ≡ 12)
  pub taken : Taken o.answer ↔ (Passed s x × WellFormed (sizes_of s) b × SomeTrace (sizes_of s) x.known (meaning_of b))
  pub unwritten : (r : Refusal) → o.answer ≡ Err r → o.state ≡ x

-- what a look is lent and asked is of the card
pub record OnSheet (s verdicts : List ℕ) (rule minute : ℕ) : Type 0 where
  pub policy : PolicyPassed s
  pub sized : length verdicts ≡ (policy_of s).rules * (sizes_of s).minutes
  pub rule_in : rule < (policy_of s).rules
  pub minute_in : minute < (sizes_of s).minutes

-- "the code at rule times M + minute"
abbrev pub code : List ℕ → List ℕ → ℕ → ℕ → ℕ
code s verdicts rule minute = get_or verdicts (rule * (sizes_of s).minutes + minute) 0

-- a look, whose answer is a: 1 to 5 (the verdict sheet only) and then 10. "A look gives the code at rule times M + minute of the lent verdict sheet,
-- other codes than 1 and 2 read as blank"
pub record LookCauses (s verdicts : List ℕ) (rule minute : ℕ) (a : Result Verdict Refusal) : Type 0 where
  pub policy : PolicyCauses s (reply a)
  pub five : (at : ℕ) → RefusedWith (reply a) 5 at
      ↔ ((at ≡ 0) × PolicyPassed s × (length verdicts ≡ (policy_of s).rules * (sizes_of s).minutes → ⊥))
  pub ten : (at : ℕ) → RefusedWith (reply a) 10 at
      ↔ ((at ≡ 0) × PolicyPassed s × (length verdicts ≡ (policy_of s).rules * (sizes_of s).minutes)
      × ((rule < (policy_of s).rules) × (minute < (sizes_of s).minutes) → ⊥))
  pub no_other : (n at : ℕ) → RefusedWith (reply a) n at → ((1 ≤ n) × (n ≤ 5)) ⊎ (n ≡ 10)
  pub kept : (a ≡ Ok Satisfied) ↔ (OnSheet s verdicts rule minute × (code s verdicts rule minute ≡ 1))
  pub broken : (a ≡ Ok Violated) ↔ (OnSheet s verdicts rule minute × (code s verdicts rule minute ≡ 2))
  pub blank : (a ≡ Ok Unknown) ↔ (OnSheet s verdicts rule minute × (code s verdicts rule minute ≢ 1) × (code s verdicts rule minute ≢ 2))

pub record Demand1 : Type 0 where
  -- the numbers and places are those of 01's table
  pub table : Table
  pub opening : (s : List ℕ) (x : State) → OpeningCauses s x (open_state s x)
  pub take : (s : List ℕ) (x : State) (b : List ℕ) → TakeCauses s x b (receive s x b)
  pub look : (s verdicts : List ℕ) (rule minute : ℕ) → LookCauses s verdicts rule minute (lookup_of s verdicts rule minute)

-- ---- the opening

-- "Opening makes a fresh record: only each first count is known, as 0; no facts; the verdict sheet is blank and the work sheet holds the reading over
-- that record". "Opening writes both": the buffer and the number of 02, request 5
pub record Opened (s : List ℕ) (p : Policy) (x : State) : Type 0 where
  pub sized : Sized p x
  pub first_number : (c : ℕ) → c < p.sizes.components → number p.sizes x.known c 0 ≡ 0
  pub other_number : (c q : ℕ) → c < p.sizes.components → 0 < q → q ≤ p.sizes.minutes → number p.sizes x.known c q ≡ none
  pub no_fact : (i : ℕ) → get_or x.known.facts i 0 ≡ 0
  pub blank : (r t : ℕ) → shown p x r t ≡ 0
  pub valuation : (l t : ℕ) → l < p.count → t < p.sizes.minutes
      → get_or x.valuation (l * p.sizes.minutes + t) 0 ≡ code_of (value p x.known l t)
  -- they hold the card s, as `origin_of` says and as 02's words say
  pub origin : x.origin ≡ origin_of s
  pub holds : HoldsCard s x.origin

-- ---- demand 2

-- "An accepted slip makes known in the record all that it fixes, at the values it fixes, and changes nothing else in counts or facts"
pub record Gains (z : Sizes) (k k' : Knowledge) (m : Message) : Type 0 where
  pub number_fixed : (p n : ℕ) → FixesNumber m.event p n → number z k' m.component p ≡ n
  pub number_kept : (c p : ℕ) → p ≤ z.minutes → ((n : ℕ) → m.component ≡ c → FixesNumber m.event p n → ⊥) → number z k' c p ≡ number z k c p
  pub fact_fixed : (i t : ℕ) (b : Bool) → i < 32 → FixesFact m.event i t b → (noted k' i t ≡ true) × (valued k' i t ≡ b)
  pub fact_kept : (i t : ℕ) → i < 32 → ((b : Bool) → FixesFact m.event i t b → ⊥) → (noted k' i t ≡ noted k i t) × (valued k' i t ≡ valued k i t)

pub record Demand2 : Type 0 where
  pub opening : (s : List ℕ) (x : State) → (open_state s x).answer ≡ Ok tt → Opened s (policy_of s) (open_state s x).state
  -- "After every accepted slip the sheet shows .." (Sheets), over the record with what the slip fixes
  pub sheets : (s : List ℕ) (x : State) (b : List ℕ) → Taken (receive s x b).answer → Sheets (policy_of s) (receive s x b).state
  pub gains : (s : List ℕ) (x : State) (b : List ℕ) → Taken (receive s x b).answer → Gains (sizes_of s) x.known (receive s x b).state.known (meaning_of b)
  -- no take writes the card that the record was opened under
  pub origin : (s : List ℕ) (x : State) (b : List ℕ) → (receive s x b).state.origin ≡ x.origin
  -- "a take also gives how many verdicts stand": the total "equals the non-blank cells"
  pub total : (s : List ℕ) (x : State) (b : List ℕ) → Taken (receive s x b).answer
      → (receive s x b).answer ≡ Ok (standing (receive s x b).state.verdicts)
  -- "A well_formed slip that no earlier check turns away is refused as a clash exactly when no shift fits the record and the slip"
  pub conflict : (s : List ℕ) (x : State) (b : List ℕ) → Passed s x → WellFormed (sizes_of s) b
      → ((receive s x b).answer ≡ Err Conflict) ↔ (SomeTrace (sizes_of s) x.known (meaning_of b) → ⊥)
  -- and some shift fits every sound record
  pub fits : (z : Sizes) (k : Knowledge) → Sound z k → (w : Trace z) × Agrees z w k

-- ---- demand 3

-- the messages that the well_formed slips of a list say
abbrev pub Sends : Sizes → List Call → Message → Type 0
Sends z cs m = (b : List ℕ) × Offered b cs × WellFormed z b × (meaning_of b ≡ m)

-- in this list a slip is accepted exactly when it is well-formed: "accept all of these and no others"
abbrev pub AllTaken : List ℕ → State → List Call → Type 0
AllTaken s x cs = (us : List Call) (b : List ℕ) (vs : List Call) → cs ≡ us ++ (Receive b ∷ vs)
    → Taken (receive s (after s x us) b).answer ↔ WellFormed (sizes_of s) b

-- what two lists with the same well_formed slips share
pub record Same (s : List ℕ) (x y : State) (xs ys : List Call) : Type 0 where
  pub left : AllTaken s x xs
  pub right : AllTaken s y ys
  -- "the same record, work sheet and verdict sheet", in every cell
  pub state : after s x xs ≡ after s y ys
  -- "those that 01 gives for what the opening and these slips make known"
  pub sized : Sized (policy_of s) (after s x xs)
  pub exact : Exact (sizes_of s) (after s x xs).known (Sends (sizes_of s) xs)
  pub sheets : Sheets (policy_of s) (after s x xs)

-- "For every list of takes, refused ones included, from a fresh record under one card": right after an opening that answered done, whatever
-- the buffers x held before. 02, request 5: "Order-freeness is wanted for records opened under the card that is lent"; the record has the new buffer and
-- the new number, and these are of the state too
pub record Demand3 : Type 0 where
  -- "a slip is accepted exactly when it is well_formed and some one shift could have sent it and every slip accepted before it"
  pub accept : (s : List ℕ) (x : State) → (open_state s x).answer ≡ Ok tt → (cs : List Call) (b : List ℕ)
      → Taken (receive s (after s x cs) b).answer
      ↔ (WellFormed (sizes_of s) b × ((w : Trace (sizes_of s)) × AdmitsAll (sizes_of s) w (accepted s x cs) × Admits (sizes_of s) w (meaning_of b)))
  -- "every kept or broken after any beginning of the list stands at its end"
  pub stand : (s : List ℕ) (x : State) → (open_state s x).answer ≡ Ok tt → (cs ds : List Call) (r t : ℕ) → r < (policy_of s).rules → t < (sizes_of s).minutes
      → shown (policy_of s) (after s x cs) r t ≢ 0 → shown (policy_of s) (after s x (cs ++ ds)) r t ≡ shown (policy_of s) (after s x cs) r t
  -- "and is the plain two-valued verdict in every shift that could have sent the slips accepted in that beginning"
  pub truth : (s : List ℕ) (x : State) → (open_state s x).answer ≡ Ok tt → (cs : List Call) (r t : ℕ) → r < (policy_of s).rules → t < (sizes_of s).minutes
      → shown (policy_of s) (after s x cs) r t ≢ 0 → (w : Trace (sizes_of s)) → AdmitsAll (sizes_of s) w (accepted s x cs)
      → Plain (policy_of s) w r t (shown (policy_of s) (after s x cs) r t)
  -- "Two such lists with the same well_formed slips (any order, any repeats, anything ill-formed between), all of which some one shift could
  -- have sent, both accept all of these and no others and leave the same record, work sheet and verdict sheet"
  pub same : (s : List ℕ) (x y : State) → (open_state s x).answer ≡ Ok tt → (open_state s y).answer ≡ Ok tt → (xs ys : List Call)
      → ((b : List ℕ) → WellFormed (sizes_of s) b → Offered b xs ↔ Offered b ys)
      → (w : Trace (sizes_of s)) → ((b : List ℕ) → Offered b xs → WellFormed (sizes_of s) b → Admits (sizes_of s) w (meaning_of b))
      → Same s x y xs ys

-- ---- packets (02, request 1)

-- The packet stops at a refusal with this number; its place is "counted from the packet's start"
pub record StoppedWith (e : Option Stopped) (n at : ℕ) : Type 0 where
  pub refusal : Refusal
  pub place : ℕ
  pub is : e ≡ Some (record { refusal = refusal; place = place })
  pub number : refusal_number refusal ≡ n
  pub counted : place ≡ at

-- byte strings that are taken one after another, and how many bytes they are
abbrev pub EachTaken : List ℕ → State → List (List ℕ) → Type 0
EachTaken s x [] = Unit
EachTaken s x (m ∷ ms) = Taken (receive s x m).answer × EachTaken s (receive s x m).state ms

abbrev pub bytes_in : List (List ℕ) → ℕ
bytes_in [] = 0
bytes_in (m ∷ ms) = length m + bytes_in ms

-- the takes of packet b come to message m: those before it are taken; it starts at byte `at`, and is offered to the state y
pub record ComesTo (s : List ℕ) (x : State) (b m : List ℕ) (at : ℕ) (y : State) : Type 0 where
  pub before : List (List ℕ)
  pub behind : List (List ℕ)
  pub cut : messages_of b ≡ before ++ (m ∷ behind)
  pub taken : EachTaken s x before
  pub starts : at ≡ bytes_in before
  pub state : y ≡ run_calls s x (map Receive before)

-- a packet, whose outcome is o: 1 to 9, and 12
pub record PacketCauses (s : List ℕ) (x : State) (b : List ℕ) (o : PacketOutcome) : Type 0 where
  -- "checks 1 to 6 as a take does", and 12 with them, whatever its message: "those checked before 7 keep their places"
  pub first_six : (m : List ℕ) (n at : ℕ) → (n ≤ 6) ⊎ (n ≡ 12) → StoppedWith o.answer.stop n at ↔ RefusedWith (reply (receive s x m).answer) n at
  -- 7: the packet ends inside a message, so that its place is the packet's length
  pub seven : (at : ℕ) → StoppedWith o.answer.stop 7 at
      ↔ (Passed s x × (at ≡ length b) × ((m : List ℕ) × (start : ℕ) × (y : State) × ComesTo s x b m start y × (length m < length_of m)))
  -- 8 and 9: "the slip's first byte"
  pub eight : (at : ℕ) → StoppedWith o.answer.stop 8 at
      ↔ (Passed s x × ((m : List ℕ) × (y : State) × ComesTo s x b m at y × (length m ≡ length_of m) × (IsMessage (sizes_of s) m → ⊥)))
  pub nine : (at : ℕ) → StoppedWith o.answer.stop 9 at
      ↔ (Passed s x × ((m : List ℕ) × (y : State) × ComesTo s x b m at y × WellFormed (sizes_of s) m
      × (SomeTrace (sizes_of s) y.known (meaning_of m) → ⊥)))
  pub no_other : (n at : ℕ) → StoppedWith o.answer.stop n at → ((1 ≤ n) × (n ≤ 9)) ⊎ (n ≡ 12)
  pub at_end : (o.answer.stop ≡ None) ↔ (Passed s x × EachTaken s x (messages_of b))
  -- "It gives the number taken"
  pub taken : o.answer.taken ≡ length (accepted_from s x (offers_each s x (messages_of b)))
  -- "'A refused call changes nothing' is meant of each take in the packet": before the first message is taken, nothing is written
  pub unwritten : o.answer.taken ≡ 0 → o.state ≡ x
  -- "An empty packet takes none and writes nothing"
  pub empty : b ≡ [] → (o.answer.taken ≡ 0) × (o.state ≡ x)

pub record Packets : Type 0 where
  -- the places are those of 02's sentence
  pub table : PacketTable
  -- the byte strings of a packet stand in it end to end, and no other list of them does
  pub cut : (b : List ℕ) (ms : List (List ℕ)) → Packed b ms ↔ (ms ≡ messages_of b)
  pub causes : (s : List ℕ) (x : State) (b : List ℕ) → PacketCauses s x b (receive_packet s x b)
  -- a packet with a message is take after take and nothing else: the checks 1 to 6 and 12 are then its first take's
  pub plain : (s : List ℕ) (x : State) (b : List ℕ) → 0 < length b → receive_packet s x b ≡ take_each s x 0 0 (messages_of b)
  -- "and leaves everything as the same takes one by one would"
  pub state : (s : List ℕ) (x : State) (b : List ℕ) → (receive_packet s x b).state ≡ run_calls s x (offers_each s x (messages_of b))
  -- "Slips taken before the refusal remain taken; 'a refused call changes nothing' is meant of each take in the packet": the state is that after the
  -- messages taken
  pub remain : (s : List ℕ) (x : State) (b : List ℕ)
      → (receive_packet s x b).state ≡ run_calls s x (map Receive (take (receive_packet s x b).answer.taken (messages_of b)))
  -- the takes that it is: of the messages taken and then, if there is one, of the one that is refused
  pub offered : (s : List ℕ) (x : State) (b : List ℕ)
      → offers_each s x (messages_of b) ≡ map Receive (take ((receive_packet s x b).answer.taken + 1) (messages_of b))
  -- demand 2, of a packet that took a message
  pub sheets : (s : List ℕ) (x : State) (b : List ℕ) → 0 < (receive_packet s x b).answer.taken → Sheets (policy_of s) (receive_packet s x b).state

-- ---- demand 3, of lists that hold packets: each take inside a packet counts

-- the state after such a list, the messages that it accepts, and the takes that it is
abbrev pub after_entries : List ℕ → State → List Entry → State
after_entries s x es = run_entries s (open_state s x).state es

abbrev pub accepted_in : List ℕ → State → List Entry → List Message
accepted_in s x es = accepted_entries s (open_state s x).state es

abbrev pub takes_of : List ℕ → State → List Entry → List Call
takes_of s x es = takes_entries s (open_state s x).state es

-- the byte strings of a list: those of its takes and of its packets, whether they come to be offered or not
pub data Brings : Entry → List ℕ → Type 0 where
  alone : (b : List ℕ) → Brings (Single (Receive b)) b
  inside : (b m : List ℕ) → Memᴰ m (messages_of b) → Brings (Packet b) m

pub record Brought (b : List ℕ) (es : List Entry) : Type 0 where
  pub entry : Entry
  pub is_entry : Memᴰ entry es
  pub brings : Brings entry b

pub record Demand3Packets : Type 0 where
  -- the list of takes that has, in each packet's place, the byte strings it offered leaves the same state, and accepts the same messages in the same
  -- order
  pub takes : (s : List ℕ) (x : State) (es : List Entry)
      → (after_entries s x es ≡ after s x (takes_of s x es)) × (accepted_in s x es ≡ accepted s x (takes_of s x es))
  -- so demand 3's claims hold of it: a take after such a list,
  pub accept : (s : List ℕ) (x : State) → (open_state s x).answer ≡ Ok tt → (es : List Entry) (b : List ℕ)
      → Taken (receive s (after_entries s x es) b).answer
      ↔ (WellFormed (sizes_of s) b × ((w : Trace (sizes_of s)) × AdmitsAll (sizes_of s) w (accepted_in s x es) × Admits (sizes_of s) w (meaning_of b)))
  -- and each message m of a packet that it comes to, those before it being taken
  pub accept_in : (s : List ℕ) (x : State) → (open_state s x).answer ≡ Ok tt → (es : List Entry) (b : List ℕ)
      → (before : List (List ℕ)) (m : List ℕ) (behind : List (List ℕ)) → messages_of b ≡ before ++ (m ∷ behind)
      → length before ≤ (receive_packet s (after_entries s x es) b).answer.taken
      → (length before < (receive_packet s (after_entries s x es) b).answer.taken)
      ↔ (WellFormed (sizes_of s) m
      × ((w : Trace (sizes_of s)) × AdmitsAll (sizes_of s) w (accepted_in s x es ++ map meaning_of before) × Admits (sizes_of s) w (meaning_of m)))
  pub stand : (s : List ℕ) (x : State) → (open_state s x).answer ≡ Ok tt → (es ds : List Entry) (r t : ℕ) → r < (policy_of s).rules → t < (sizes_of s).minutes
      → shown (policy_of s) (after_entries s x es) r t ≢ 0
      → shown (policy_of s) (after_entries s x (es ++ ds)) r t ≡ shown (policy_of s) (after_entries s x es) r t
  pub truth : (s : List ℕ) (x : State) → (open_state s x).answer ≡ Ok tt → (es : List Entry) (r t : ℕ) → r < (policy_of s).rules → t < (sizes_of s).minutes
      → shown (policy_of s) (after_entries s x es) r t ≢ 0 → (w : Trace (sizes_of s)) → AdmitsAll (sizes_of s) w (accepted_in s x es)
      → Plain (policy_of s) w r t (shown (policy_of s) (after_entries s x es) r t)
  -- two lists that offer the same well_formed slips, in takes or in packets
  pub same : (s : List ℕ) (x y : State) → (open_state s x).answer ≡ Ok tt → (open_state s y).answer ≡ Ok tt → (xs ys : List Entry)
      → ((b : List ℕ) → WellFormed (sizes_of s) b → Offered b (takes_of s x xs) ↔ Offered b (takes_of s y ys))
      → (w : Trace (sizes_of s))
      → ((b : List ℕ) → Offered b (takes_of s x xs) → WellFormed (sizes_of s) b → Admits (sizes_of s) w (meaning_of b))
      → Same s x y (takes_of s x xs) (takes_of s y ys) × (after_entries s x xs ≡ after_entries s y ys)
  -- and where all that they bring is well_formed and some one shift could have sent it, no matter how it is packed: all of it is taken, and the state is
  -- the same
  pub repacked : (s : List ℕ) (x y : State) → (open_state s x).answer ≡ Ok tt → (open_state s y).answer ≡ Ok tt → (xs ys : List Entry)
      → ((b : List ℕ) → Brought b xs ↔ Brought b ys)
      → (w : Trace (sizes_of s))
      → ((b : List ℕ) → Brought b xs → WellFormed (sizes_of s) b × Admits (sizes_of s) w (meaning_of b))
      → ((b : List ℕ) → Brought b xs ↔ Offered b (takes_of s x xs))
      × Same s x y (takes_of s x xs) (takes_of s y ys)
      × (after_entries s x xs ≡ after_entries s y ys)

-- ---- writing (02, request 3)

-- "Given the fields (for a slip also its card, checked first), write the card or slip with only its non-zero fields and give its length." The fields are
-- numbers, p of a card and n of a slip; which are in range is said of them alone, in 01's words, in `policy/specs/Text` and `message/specs/Text`, and so
-- is the text that is written for them. The records are those of `Written` in the two crates, where each line stands below its sentence.
pub record Writers : Type 0 where
  -- "Out-of-range fields are refused with the reader's numbers 2, 3, 4 and 8, in that order, at place 0. Checks: 11, short paper, when the lent buffer is
  -- shorter than the text, tested after those; nothing is written then": each is answered exactly for its own cause
  pub policy_causes : (p : PolicyNumbers) (out : List ℕ) → PolicyEncoded p out (encode_policy p out)
  pub message_causes : (s : List ℕ) (n : MessageNumbers) (out : List ℕ) → MessageEncoded s n out (encode_message s n out)
  -- "Reading gives the fields again, and writing an accepted card or slip gives its own bytes"; and the readers accept the texts and no other bytes
  pub policies : PolicyRoundTrip
  pub messages : (z : Sizes) → SizesIn z → MessageRoundTrip z
  pub under_policy : (s : List ℕ) → policy_answer s ≡ Ok tt → SizesIn (sizes_of s) × Encodes s

-- ---- known busy and known quiet (02, request 4)

-- "In a sound record a minute is then known busy exactly when it is busy in every shift that fits the record, and known quiet exactly when it is quiet in all
-- of them; both are to be shown." The shifts are demand 3's: they may run past M. The record `ExactPoints` of the crate knowledge has both sentences, and
-- that an open minute is busy in one of these shifts and quiet in another
pub record TimePoints : Type 0 where
  pub of_record : (z : Sizes) (k : Knowledge) → Sound z k → (t : ℕ) → t < z.minutes → ExactPoints z k t
  -- so, after any list of takes from a fresh record: exactly when it is so in every shift that could have sent the slips accepted
  pub busy : (s : List ℕ) (x : State) → (open_state s x).answer ≡ Ok tt → (cs : List Call) (t : ℕ) → t < (sizes_of s).minutes
      → KnownPoint (sizes_of s) (after s x cs).known t
      ↔ ((w : Trace (sizes_of s)) → AdmitsAll (sizes_of s) w (accepted s x cs) → time_point (sizes_of s) w t ≡ true)
  pub quiet : (s : List ℕ) (x : State) → (open_state s x).answer ≡ Ok tt → (cs : List Call) (t : ℕ) → t < (sizes_of s).minutes
      → KnownNone (sizes_of s) (after s x cs).known t
      ↔ ((w : Trace (sizes_of s)) → AdmitsAll (sizes_of s) w (accepted s x cs) → time_point (sizes_of s) w t ≡ false)

-- ---- one record, one card (02, request 5)

-- "Users swap cards at lunch and lend yesterday's record." A list of openings, takes and packets in which each call is lent a card of its own, s, and the
-- state as the last call left it
pub data Lending : Type 0 where
  Opening : List ℕ → Lending
  -- a take of a slip, and a packet, each after its card
  Taking : List ℕ → List ℕ → Lending
  Packing : List ℕ → List ℕ → Lending

abbrev pub lending_state : State → Lending → State
lending_state x (Opening s) = (open_state s x).state
lending_state x (Taking s b) = (receive s x b).state
lending_state x (Packing s b) = (receive_packet s x b).state

abbrev pub run_lendings : State → List Lending → State
run_lendings x [] = x
run_lendings x (c ∷ cs) = run_lendings (lending_state x c) cs

-- no opening of the list is done, from x on
abbrev pub NoneDone : State → List Lending → Type 0
NoneDone x cs = (us : List Lending) (s : List ℕ) (vs : List Lending) → cs ≡ us ++ (Opening s ∷ vs) → (open_state s (run_lendings x us)).answer ≡ Ok tt → ⊥

-- the last opening of the list that is done is under the card s
pub record LastDone (x : State) (cs : List Lending) (s : List ℕ) : Type 0 where
  pub before : List Lending
  pub behind : List Lending
  pub cut : cs ≡ before ++ (Opening s ∷ behind)
  pub done : (open_state s (run_lendings x before)).answer ≡ Ok tt
  pub none_later : NoneDone (open_state s (run_lendings x before)).state behind

-- the call is let past 12: none of the checks up to it, 1 to 5 and 12, refuses it
abbrev pub PastTwelve : Checked → Type 0
PastTwelve a = (n at : ℕ) → RefusedWith a n at → (6 ≤ n) × (n ≢ 12)

-- and the same of a packet
abbrev pub StoppedPastTwelve : Option Stopped → Type 0
StoppedPastTwelve e = (n at : ℕ) → StoppedWith e n at → (6 ≤ n) × (n ≢ 12)

-- those takes and packets of a list that are lent the card r
abbrev pub own : List ℕ → List Lending → List Entry
own r [] = []
own r (Opening s ∷ cs) = own r cs
own r (Taking s b ∷ cs) = cond (same_bytes s r) (Single (Receive b) ∷ own r cs) (own r cs)
own r (Packing s b ∷ cs) = cond (same_bytes s r) (Packet b ∷ own r cs) (own r cs)

pub record OnePolicy : Type 0 where
  -- in demand 3's lists, where every take is lent the card of the opening, 12 is never answered: what is refused there is refused with 7, 8 or 9
  pub takes : (s : List ℕ) (x : State) → (open_state s x).answer ≡ Ok tt → (cs : List Call) (b : List ℕ) (n at : ℕ)
      → RefusedWith (reply (receive s (after s x cs) b).answer) n at → (7 ≤ n) × (n ≤ 9)
  pub packets : (s : List ℕ) (x : State) → (open_state s x).answer ≡ Ok tt → (es : List Entry) (b : List ℕ) (n at : ℕ)
      → StoppedWith (receive_packet s (after_entries s x es) b).answer.stop n at → (7 ≤ n) × (n ≤ 9)
  -- in any list, from any buffers, some opening that is done is the last, or none is
  pub opened : (x : State) (cs : List Lending) → ((r : List ℕ) × LastDone x cs r) ⊎ NoneDone x cs
  -- a take, or a packet, is let past 12 exactly when the last opening that was done was under the card that it is lent
  pub past : (x : State) (cs : List Lending) (r : List ℕ) → LastDone x cs r → (s b : List ℕ)
      → PastTwelve (reply (receive s (run_lendings x cs) b).answer) ↔ (s ≡ r)
  pub past_packet : (x : State) (cs : List Lending) (r : List ℕ) → LastDone x cs r → (s b : List ℕ)
      → StoppedPastTwelve (receive_packet s (run_lendings x cs) b).answer.stop ↔ (s ≡ r)
  -- where none was done, buffer and number are what they were before the list
  pub untouched : (x : State) (cs : List Lending) → NoneDone x cs → (run_lendings x cs).origin ≡ x.origin
  -- what is lent another card changes nothing: the state is that after the last opening's own takes and packets, of which demand 3 speaks
  pub own_calls : (x : State) (cs : List Lending) (r : List ℕ) (l : LastDone x cs r)
      → run_lendings x cs ≡ after_entries r (run_lendings x l.before) (own r l.behind)

-- ---- complete shifts (02, request 8)

-- a full sheet: each busy minute t of the shift w with t + reach below M has a verdict, the plain one in every shift that could have sent these slips
abbrev pub FullSheet : (s : List ℕ) → Trace (sizes_of s) → State → List Message → Type 0
FullSheet s w x ms = (r t : ℕ) → r < (policy_of s).rules → time_point (sizes_of s) w t ≡ true → t + rule_reach (policy_of s) r < (sizes_of s).minutes
    → (shown (policy_of s) x r t ≢ 0) × ((v : Trace (sizes_of s)) → AdmitsAll (sizes_of s) v ms → Plain (policy_of s) v r t (shown (policy_of s) x r t))

-- "Complete shifts leave no blanks. When all stations have reported, packers expect a full sheet." A rule's reach is `rule_reach` (crate reach); when a record
-- is complete is `Complete`, and when all stations have reported is `Reports` (crate completeness). P are the marks that are asked for
pub record CompleteShifts : Type 1 where
  -- "Call a line's reach 0 for true and marks, the larger of its operands' reaches for others, plus upper for until, eventually and always": `reach_from` has
  -- a line for each kind, and the operands' reaches are the reaches of these lines
  pub reaches : (s : List ℕ) → policy_answer s ≡ Ok tt → (l : ℕ)
      → reach (formula_at (policy_of s)) l ≡ reach_from (reach (formula_at (policy_of s))) (formula_at (policy_of s) l)
  -- the call that gives them, one for each rule
  pub asked : (s out : List ℕ) → ReachCauses s out (rule_reaches s out)
  -- "Show: if every minute is known busy or quiet and every mark is known at every busy minute, then each busy minute t with t + reach below M has a verdict"
  pub of_record : (s : List ℕ) → policy_answer s ≡ Ok tt → (k : Knowledge) → Complete (sizes_of s) Every k → NoBlanks (policy_of s) k
  -- and already where only the marks are known that lines of the card name
  pub of_named : (s : List ℕ) → policy_answer s ≡ Ok tt → (k : Knowledge) → Complete (sizes_of s) (Named (policy_of s)) k → NoBlanks (policy_of s) k
  -- a verdict that a sound record gives, of 32-bit facts, is the plain two-valued one in every shift that fits it
  pub truth : (s : List ℕ) (k : Knowledge) → Sound (sizes_of s) k → ((i : ℕ) → get_or k.facts i 0 < 4294967296) → (r t : ℕ)
      → verdict (policy_of s) k r t ≢ 0 → (w : Trace (sizes_of s)) → Agrees (sizes_of s) w k → Plain (policy_of s) w r t (verdict (policy_of s) k r t)
  -- on the lent sheet, after an accepted slip
  pub sheet : (s : List ℕ) (x : State) (b : List ℕ) → Taken (receive s x b).answer
      → Complete (sizes_of s) (Named (policy_of s)) (receive s x b).state.known → (r t : ℕ) → r < (policy_of s).rules
      → KnownPoint (sizes_of s) (receive s x b).state.known t → t + rule_reach (policy_of s) r < (sizes_of s).minutes
      → shown (policy_of s) (receive s x b).state r t ≢ 0
  -- "When all stations have reported": after demand 3's lists, where the slips accepted hold, for each station of the shift w, an observation that names the
  -- marks at each of its observations below M, and an alive at M
  pub reported : (s : List ℕ) (x : State) → (open_state s x).answer ≡ Ok tt → (cs : List Call) (P : ℕ → Type 0) (w : Trace (sizes_of s))
      → Reports (sizes_of s) P w (λ m. Memᴰ m (accepted s x cs)) → AllTold (sizes_of s) P w (after s x cs).known
  -- in lists that hold packets too
  pub reported_packets : (s : List ℕ) (x : State) → (open_state s x).answer ≡ Ok tt → (es : List Entry) (P : ℕ → Type 0) (w : Trace (sizes_of s))
      → Reports (sizes_of s) P w (λ m. Memᴰ m (accepted_in s x es)) → AllTold (sizes_of s) P w (after_entries s x es).known
  -- and it is enough that they are offered, where w could have sent every well_formed slip of the list
  pub offered : (s : List ℕ) (x : State) → (open_state s x).answer ≡ Ok tt → (cs : List Call) (P : ℕ → Type 0) (w : Trace (sizes_of s))
      → ((b : List ℕ) → Offered b cs → WellFormed (sizes_of s) b → Admits (sizes_of s) w (meaning_of b))
      → Reports (sizes_of s) P w (Sends (sizes_of s) cs) → AllTold (sizes_of s) P w (after s x cs).known
  -- "packers expect a full sheet"
  pub full : (s : List ℕ) (x : State) → (open_state s x).answer ≡ Ok tt → (cs : List Call) (w : Trace (sizes_of s))
      → AllTold (sizes_of s) (Named (policy_of s)) w (after s x cs).known → FullSheet s w (after s x cs) (accepted s x cs)
  pub full_packets : (s : List ℕ) (x : State) → (open_state s x).answer ≡ Ok tt → (es : List Entry) (w : Trace (sizes_of s))
      → AllTold (sizes_of s) (Named (policy_of s)) w (after_entries s x es).known → FullSheet s w (after_entries s x es) (accepted_in s x es)
