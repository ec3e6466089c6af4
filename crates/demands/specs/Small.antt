-- 01, "A small shift to check by": the starred cases, jointly, from the bytes of 01 to the verdict sheet and the refusals. They hold whatever the
-- buffers held before the opening.
use Rattle.std.specs.Prelude.{ℕ, ◌≡◌, List, [], ◌∷◌, ◌++◌, map, replicate, set, Err, Ok, Option, None, Some}
use Rattle.refusal.specs.declared.Refusal.TheVariants.{BufferSize, CorruptKnowledge, TruncatedMessage, BadMessage, Conflict, OtherPolicy}
use Rattle.monitor.specs.State.{Received}
use Rattle.monitor.specs.declared.PacketAnswer.{PacketAnswer}
use Rattle.monitor.specs.declared.Stopped.{Stopped}
use Rattle.origin.specs.Origin.{Origin, stamped, origin_of}
use Rattle.monitor.specs.State.{State, open_state, receive, PacketOutcome, receive_packet, Receive, after}

-- "mark 0 at some time in the last 2 minutes"
abbrev pub K : List ℕ
K = 0x01 ∷ 0x01 ∷ 0x04 ∷ 0x00 ∷ 0x03 ∷ 0x00 ∷ 0x01 ∷ 0x01 ∷ 0x35 ∷ 0x04 ∷ 0x01 ∷ 0x02 ∷ 0x00 ∷ []

-- K with another last line, "mark 0 within the next minute"
abbrev pub U : List ℕ
U = 0x01 ∷ 0x01 ∷ 0x04 ∷ 0x00 ∷ 0x03 ∷ 0x00 ∷ 0x01 ∷ 0x01 ∷ 0x35 ∷ 0x05 ∷ 0x01 ∷ 0x01 ∷ 0x00 ∷ []

abbrev pub A : List ℕ
A = 0x0C ∷ 0x01 ∷ 0x00 ∷ 0x01 ∷ 0x00 ∷ 0x00 ∷ 0x00 ∷ 0x00 ∷ []

abbrev pub B : List ℕ
B = 0x0E ∷ 0x02 ∷ 0x00 ∷ 0x02 ∷ 0x00 ∷ 0x01 ∷ 0x00 ∷ 0x00 ∷ 0x00 ∷ 0x01 ∷ []

abbrev pub D : List ℕ
D = 0x06 ∷ 0x03 ∷ 0x00 ∷ 0x03 ∷ 0x00 ∷ []

-- A with last byte 01
abbrev pub A' : List ℕ
A' = 0x0C ∷ 0x01 ∷ 0x00 ∷ 0x01 ∷ 0x00 ∷ 0x00 ∷ 0x00 ∷ 0x01 ∷ []

-- a false mark at minute 3, or at minute 2, the station's first observation; and alive at minute 4 after one
abbrev pub false_at_3 : List ℕ
false_at_3 = 0x0E ∷ 0x03 ∷ 0x00 ∷ 0x01 ∷ 0x00 ∷ 0x01 ∷ 0x00 ∷ 0x00 ∷ 0x00 ∷ 0x00 ∷ []

abbrev pub false_at_2 : List ℕ
false_at_2 = 0x0E ∷ 0x02 ∷ 0x00 ∷ 0x01 ∷ 0x00 ∷ 0x01 ∷ 0x00 ∷ 0x00 ∷ 0x00 ∷ 0x00 ∷ []

abbrev pub alive_at_4 : List ℕ
alive_at_4 = 0x16 ∷ 0x04 ∷ 0x00 ∷ 0x01 ∷ 0x00 ∷ []

-- the verdict sheet after the takes of a list, and the answer to one more
abbrev pub sheet : List ℕ → State → List (List ℕ) → List ℕ
sheet s x bs = (after s x (map Receive bs)).verdicts

abbrev pub reply : List ℕ → State → List (List ℕ) → List ℕ → Received
reply s x bs b = (receive s (after s x (map Receive bs)) b).answer

abbrev row : ℕ → ℕ → ℕ → ℕ → List ℕ
row a b c d = a ∷ b ∷ c ∷ d ∷ []

-- x are the buffers before the opening under K, y those before the opening under U
pub record SmallShift (x y : State) : Type 0 where
  pub nothing : sheet K x [] ≡ row 0 0 0 0
  pub a : sheet K x (A ∷ []) ≡ row 2 0 0 0
  pub b : sheet K x (B ∷ []) ≡ row 0 0 1 0
  pub ab : sheet K x (A ∷ B ∷ []) ≡ row 2 0 1 0
  pub ba : sheet K x (B ∷ A ∷ []) ≡ row 2 0 1 0
  pub abd : sheet K x (A ∷ B ∷ D ∷ []) ≡ row 2 0 1 1
  pub d : sheet K x (D ∷ []) ≡ row 0 0 0 0
  -- `10` is taken and changes nothing
  pub idle : reply K x [] (0x10 ∷ []) ≡ Ok 0
  pub idle_state : after K x (Receive (0x10 ∷ []) ∷ []) ≡ after K x []
  -- `00` is 8, `04 02 00` is 9, and after A `12 01 00` is 9 and so is A with last byte 01
  pub bad : reply K x [] (0x00 ∷ []) ≡ Err BadMessage
  pub conflict : reply K x [] (0x04 ∷ 0x02 ∷ 0x00 ∷ []) ≡ Err Conflict
  pub conflict_alive : reply K x (A ∷ []) (0x12 ∷ 0x01 ∷ 0x00 ∷ []) ≡ Err Conflict
  pub conflict_fact : reply K x (A ∷ []) A' ≡ Err Conflict
  -- 65535 is well_formed and no count
  pub conflict_none : reply K x [] (0x16 ∷ 0x04 ∷ 0x00 ∷ 0xFF ∷ 0xFF ∷ []) ≡ Err Conflict
  -- how many verdicts stand
  pub total : reply K x (A ∷ B ∷ []) D ≡ Ok 3
  -- a false mark at a busy minute 3 gives blank; at minute 2 with minute 3 quiet, broken
  pub until_blank : sheet U y (false_at_3 ∷ []) ≡ row 0 0 0 0
  pub until_broken : sheet U y (false_at_2 ∷ alive_at_4 ∷ []) ≡ row 0 0 2 0

-- 02, request 1: packets from the opening on. x are the buffers before the opening under K
abbrev pub frame : State → List ℕ → PacketOutcome
frame x b = receive_packet K (after K x []) b

-- how many messages are taken, and where the packet stops
abbrev ended : ℕ → Option Stopped → PacketAnswer
ended n e = record { taken = n; stop = e }

pub record SmallPackets (x : State) : Type 0 where
  -- A, B and D in one packet, or in another order
  pub abd : (frame x (A ++ B ++ D)).answer ≡ ended 3 None
  pub abd_sheet : (frame x (A ++ B ++ D)).state.verdicts ≡ row 2 0 1 1
  pub dba_state : (frame x (D ++ B ++ A)).state ≡ (frame x (A ++ B ++ D)).state
  -- it ends inside its second message: 7 at the packet's length, and A remains taken
  pub cut : (frame x (A ++ (0x06 ∷ 0x03 ∷ []))).answer ≡ ended 1 (Some (record { refusal = (TruncatedMessage 2); place = 10 }))
  pub cut_sheet : (frame x (A ++ (0x06 ∷ 0x03 ∷ []))).state.verdicts ≡ row 2 0 0 0
  -- `00` is 8 at its first byte, and B behind it is not taken
  pub bad : (frame x (A ++ (0x00 ∷ B))).answer ≡ ended 1 (Some (record { refusal = BadMessage; place = 8 }))
  pub bad_sheet : (frame x (A ++ (0x00 ∷ B))).state.verdicts ≡ row 2 0 0 0
  -- `12 01 00` after A is 9 at its first byte
  pub conflict : (frame x (A ++ (0x12 ∷ 0x01 ∷ 0x00 ∷ D))).answer ≡ ended 1 (Some (record { refusal = Conflict; place = 8 }))
  -- the first message is refused, and the packet is empty: nothing is written
  pub first_bad : (frame x (0x00 ∷ A)).answer ≡ ended 0 (Some (record { refusal = BadMessage; place = 0 }))
  pub first_bad_state : (frame x (0x00 ∷ A)).state ≡ after K x []
  pub empty : (frame x []).answer ≡ ended 0 None
  pub empty_state : (frame x []).state ≡ after K x []

-- 02, request 4: "A mixer lost two slips at minutes 0 and 1, then reported count 3 at minute 2." Under T, whose one rule is "true", the sheet shows kept at
-- the minutes known busy, and blank elsewhere. The starred cases above are as they were before this request: each minute that is busy by a full run there
-- is busy by neighbouring counts too
abbrev pub T : List ℕ
T = 0x01 ∷ 0x01 ∷ 0x04 ∷ 0x00 ∷ 0x01 ∷ 0x20 ∷ []

-- an observation at minute 2, of count 3 or 2, and alive at minute 3, after count 3
abbrev pub mixer : List ℕ
mixer = 0x06 ∷ 0x02 ∷ 0x00 ∷ 0x03 ∷ 0x00 ∷ []

abbrev pub one_short : List ℕ
one_short = 0x06 ∷ 0x02 ∷ 0x00 ∷ 0x02 ∷ 0x00 ∷ []

abbrev pub alive_at_3 : List ℕ
alive_at_3 = 0x16 ∷ 0x03 ∷ 0x00 ∷ 0x03 ∷ 0x00 ∷ []

-- x are the buffers before the opening under T
pub record LostSlips (x : State) : Type 0 where
  -- all three minutes are busy; of minute 3 nothing is known
  pub all_three : sheet T x (mixer ∷ []) ≡ row 1 1 1 0
  pub total : reply T x [] mixer ≡ Ok 3
  -- so they are if the mixer reports no observation, but that it is alive after three
  pub by_alive : sheet T x (alive_at_3 ∷ []) ≡ row 1 1 1 0
  -- with count 2 one of the minutes 0 and 1 was quiet, and which is not known; once minute 0 is known quiet, it was that one
  pub one_open : sheet T x (one_short ∷ []) ≡ row 0 0 1 0
  pub then_known : sheet T x (one_short ∷ (0x12 ∷ 0x01 ∷ 0x00 ∷ []) ∷ []) ≡ row 0 1 1 0

-- 02, request 5: K and U have the same sizes, so that a record opened under one of them can be lent with the other. The state x with another origin, and
-- with another first count
abbrev restamped : State → Origin → State
restamped x o = record { known = x.known; valuation = x.valuation; verdicts = x.verdicts; origin = o }

abbrev unsound : State → State
unsound x = record { known = record { numbers = set x.known.numbers 0 1; facts = x.known.facts }; valuation = x.valuation; verdicts = x.verdicts; origin = x.origin }

-- what opening K writes, but for one of the 517 bytes, or for the length
abbrev byte_off : ℕ → ℕ → Origin
byte_off i b = stamped (set (origin_of K).bytes i b) 13

abbrev length_off : ℕ → Origin
length_off n = stamped (origin_of K).bytes n

-- x is the state right after an opening under K
pub record TwoCards (x : State) : Type 0 where
  -- K's 13 bytes and 504 zeros are stored, and their number
  pub stored : x.origin ≡ stamped (K ++ replicate 504 0) 13
  -- under K and then lent U, a take and a packet, an empty one too, are 12 and change nothing; lent K again they are taken
  pub take_other : receive U (receive K x A).state B ≡ record { answer = Err OtherPolicy; state = (receive K x A).state }
  pub packet_other : receive_packet U (receive K x A).state B ≡ record { answer = ended 0 (Some (record { refusal = OtherPolicy; place = 0 })); state = (receive K x A).state }
  pub empty_other : (receive_packet U (receive K x A).state []).answer ≡ ended 0 (Some (record { refusal = OtherPolicy; place = 0 }))
  pub take_own : (receive K (receive K x A).state B).answer ≡ Ok 2
  -- opened under U it is U's, and no longer K's
  pub opened_anew : (open_state U (receive K x A).state).answer ≡ Ok tt
  pub then_own : (receive U (open_state U (receive K x A).state).state false_at_3).answer ≡ Ok 0
  pub then_other : (receive K (open_state U (receive K x A).state).state A).answer ≡ Err OtherPolicy
  -- a byte of the card, the first behind it, and the last; a length one less, one more, and above 517
  pub in_card : (receive K (restamped x (byte_off 12 1)) A).answer ≡ Err OtherPolicy
  pub behind_card : (receive K (restamped x (byte_off 13 1)) A).answer ≡ Err OtherPolicy
  pub last_byte : (receive K (restamped x (byte_off 516 1)) A).answer ≡ Err OtherPolicy
  pub shorter : (receive K (restamped x (length_off 12)) A).answer ≡ Err OtherPolicy
  pub longer : (receive K (restamped x (length_off 14)) A).answer ≡ Err OtherPolicy
  pub past_all : (receive K (restamped x (length_off 518)) A).answer ≡ Err OtherPolicy
  -- after 5: a buffer of 516 bytes; before 6: a record that is not sound
  pub short_buffer : (receive K (restamped x (stamped (replicate 516 0) 13)) A).answer ≡ Err BufferSize
  pub unsound_other : (receive U (unsound x) A).answer ≡ Err OtherPolicy
  pub unsound_own : (receive K (unsound x) A).answer ≡ Err CorruptKnowledge

-- 02, request 6: and, implies, once, historically, eventually and always, each a rule: of marks 0 and 1, or of mark 0 from 0 to 1 minutes away
abbrev pub N : List ℕ
N =
    0x02 ∷ 0x01 ∷ 0x04 ∷ 0x00 ∷ 0x08
    ∷ 0x01 ∷ 0x01
    ∷ 0x03 ∷ 0x01 ∷ 0x01
    ∷ 0x25 ∷ 0x06 ∷ 0x01
    ∷ 0x25 ∷ 0x07 ∷ 0x01
    ∷ 0x31 ∷ 0x08 ∷ 0x01 ∷ 0x00
    ∷ 0x31 ∷ 0x09 ∷ 0x01 ∷ 0x00
    ∷ 0x31 ∷ 0x0A ∷ 0x01 ∷ 0x00
    ∷ 0x31 ∷ 0x0B ∷ 0x01 ∷ 0x00
    ∷ []

-- mark 0 alone at minute 0, and, as the next observation, mark 1 alone at minute 2: minute 1 is quiet, minute 3 open
abbrev pub first_at_0 : List ℕ
first_at_0 = 0x0C ∷ 0x01 ∷ 0x00 ∷ 0x03 ∷ 0x00 ∷ 0x00 ∷ 0x00 ∷ 0x01 ∷ []

abbrev pub second_at_2 : List ℕ
second_at_2 = 0x0E ∷ 0x02 ∷ 0x00 ∷ 0x02 ∷ 0x00 ∷ 0x03 ∷ 0x00 ∷ 0x00 ∷ 0x00 ∷ 0x02 ∷ []

-- x are the buffers before the opening under N
pub record SixKinds (x : State) : Type 0 where
  -- a rule a row; an eventually that may still hold at minute 3, or past it, is blank
  pub verdicts : sheet N x (first_at_0 ∷ second_at_2 ∷ [])
      ≡ row 2 0 2 0 ++ row 2 0 1 0 ++ row 1 0 2 0 ++ row 1 0 2 0 ++ row 1 0 0 0 ++ row 1 0 2 0
  -- the work sheet, after the marks' own rows: at the quiet minute 1 once, historically, eventually and always have values, and no verdict
  pub values : (after N x (map Receive (first_at_0 ∷ second_at_2 ∷ []))).valuation
      ≡ row 1 0 2 0 ++ row 2 0 1 0 ++ row 2 0 2 0 ++ row 2 0 1 0 ++ row 1 1 2 0 ++ row 1 1 2 2 ++ row 1 2 0 0 ++ row 1 2 2 0
  pub total : reply N x (first_at_0 ∷ []) second_at_2 ≡ Ok 11
