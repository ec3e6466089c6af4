-- The messages of 01's small shift, under K's sizes: one mark, one station, four minutes.
use Rattle.refusal.specs.declared.Refusal.{Refusal}
use Rattle.message.specs.declared.Message.{Message}
use Rattle.std.specs.Prelude.{◌≡◌, ℕ, List, [], ◌∷◌, ◌++◌, true, false, Err, Ok, Result}
use Rattle.refusal.specs.declared.Refusal.TheVariants.{TruncatedMessage, BadMessage, ShortBuffer}
use Rattle.policy.specs.declared.Sizes.{Sizes}
use Rattle.refusal.specs.Writes.{Written}
use Rattle.message.specs.declared.MessageNumbers.{MessageNumbers}
use Rattle.message.specs.declared.Event.{Event}
use Rattle.message.specs.declared.Event.TheVariants.{Observation, Alive}
use Rattle.message.specs.Format.{decode_of, first_of, rest_of, messages_of}
use Rattle.message.specs.Text.{text_of, encode_under}

abbrev sizes : Sizes
sizes = record { propositions = 1; components = 1; minutes = 4 }

abbrev says : Event → Result Message Refusal
says e = Ok (record { component = 0; event = e })

pub record SmallShift : Type 0 where
  -- A: minute 0, mark 0 false
  pub a : decode_of sizes (0x0C ∷ 0x01 ∷ 0x00 ∷ 0x01 ∷ 0x00 ∷ 0x00 ∷ 0x00 ∷ 0x00 ∷ []) ≡ says (Observation 0 1 1 0)
  -- B: minute 2, mark 0 true
  pub b : decode_of sizes (0x0E ∷ 0x02 ∷ 0x00 ∷ 0x02 ∷ 0x00 ∷ 0x01 ∷ 0x00 ∷ 0x00 ∷ 0x00 ∷ 0x01 ∷ []) ≡ says (Observation 2 2 1 1)
  -- D: minute 3, no mark
  pub d : decode_of sizes (0x06 ∷ 0x03 ∷ 0x00 ∷ 0x03 ∷ 0x00 ∷ []) ≡ says (Observation 3 3 0 0)
  pub alive : decode_of sizes (0x10 ∷ []) ≡ says (Alive 0 0)
  pub no_number : decode_of sizes (0x00 ∷ []) ≡ Err BadMessage
  pub empty : decode_of sizes [] ≡ Err (TruncatedMessage 0)

-- One message with every field, and one for each rule that a message can break.
abbrev larger : Sizes
larger = record { propositions = 3; components = 2; minutes = 4 }

pub record Rules : Type 0 where
  -- station 1, minute 3, count 258, marks 0 and 2, the second of them true
  pub every :
      decode_of larger (0x0F ∷ 0x01 ∷ 0x03 ∷ 0x00 ∷ 0x02 ∷ 0x01 ∷ 0x05 ∷ 0x00 ∷ 0x00 ∷ 0x00 ∷ 0x02 ∷ [])
      ≡ Ok (record { component = 1; event = Observation 3 258 5 4 })
  -- "an observation at minute 4 is 8"; an alive slip at minute 4 is taken, and "minute 5 in its place is 8"
  pub late : decode_of sizes (0x06 ∷ 0x04 ∷ 0x00 ∷ 0x03 ∷ 0x00 ∷ []) ≡ Err BadMessage
  pub alive_last : decode_of sizes (0x16 ∷ 0x04 ∷ 0x00 ∷ 0x02 ∷ 0x00 ∷ []) ≡ says (Alive 4 2)
  pub alive_late : decode_of sizes (0x16 ∷ 0x05 ∷ 0x00 ∷ 0x02 ∷ 0x00 ∷ []) ≡ Err BadMessage
  pub alive_named : decode_of sizes (0x18 ∷ 0x01 ∷ 0x00 ∷ 0x00 ∷ 0x00 ∷ 0x00 ∷ []) ≡ Err BadMessage
  -- a station of the card's number, a mark of its number, a spare value bit, bit 5, and a minute written as 0
  pub station : decode_of larger (0x11 ∷ 0x02 ∷ []) ≡ Err BadMessage
  pub mark : decode_of sizes (0x0C ∷ 0x01 ∷ 0x00 ∷ 0x02 ∷ 0x00 ∷ 0x00 ∷ 0x00 ∷ 0x00 ∷ []) ≡ Err BadMessage
  pub spare_value : decode_of sizes (0x0C ∷ 0x01 ∷ 0x00 ∷ 0x01 ∷ 0x00 ∷ 0x00 ∷ 0x00 ∷ 0x02 ∷ []) ≡ Err BadMessage
  pub spare_bit : decode_of sizes (0x30 ∷ []) ≡ Err BadMessage
  pub written_zero : decode_of sizes (0x12 ∷ 0x00 ∷ 0x00 ∷ []) ≡ Err BadMessage

-- 02, request 1: packets of the small shift's messages.
abbrev A : List ℕ
A = 0x0C ∷ 0x01 ∷ 0x00 ∷ 0x01 ∷ 0x00 ∷ 0x00 ∷ 0x00 ∷ 0x00 ∷ []

abbrev D : List ℕ
D = 0x06 ∷ 0x03 ∷ 0x00 ∷ 0x03 ∷ 0x00 ∷ []

pub record Packets : Type 0 where
  -- the first message, and what follows it
  pub first : first_of sizes (A ++ D) ≡ says (Observation 0 1 1 0)
  pub first_rest : rest_of (A ++ D) ≡ D
  -- 8: what follows the message is handed back; alone it would be 7, at its length
  pub bad : first_of sizes (0x00 ∷ A) ≡ Err BadMessage
  pub bad_rest : rest_of (0x00 ∷ A) ≡ A
  pub bad_alone : decode_of sizes (0x00 ∷ A) ≡ Err (TruncatedMessage 1)
  -- 7: nothing is handed back
  pub early : first_of sizes (0x0C ∷ 0x01 ∷ 0x00 ∷ []) ≡ Err (TruncatedMessage 3)
  pub early_rest : rest_of (0x0C ∷ 0x01 ∷ 0x00 ∷ []) ≡ []
  -- end to end; the last one may be cut
  pub three : messages_of (A ++ D ++ A) ≡ A ∷ D ∷ A ∷ []
  pub cut : messages_of (D ++ (0x0C ∷ 0x01 ∷ [])) ≡ D ∷ (0x0C ∷ 0x01 ∷ []) ∷ []
  pub empty : messages_of [] ≡ []

-- 02, request 3: messages from their numbers.
abbrev observation : ℕ → ℕ → ℕ → ℕ → ℕ → MessageNumbers
observation component minute number named values =
    record { component = component; alive = false; minute = minute; number = number; named = named; values = values }

abbrev alive_at : ℕ → ℕ → ℕ → MessageNumbers
alive_at minute number named = record { component = 0; alive = true; minute = minute; number = number; named = named; values = 0 }

-- what is answered under the small shift's sizes, into a buffer of two bytes
abbrev answers : MessageNumbers → Written
answers n = (encode_under sizes n (7 ∷ 7 ∷ [])).answer

pub record Texts : Type 0 where
  -- A and D of the small shift, and the alive that "is taken and changes nothing"
  pub a : text_of (observation 0 0 1 1 0) ≡ A
  pub d : text_of (observation 0 3 3 0 0) ≡ D
  pub alive : text_of (alive_at 0 0 0) ≡ 0x10 ∷ []
  -- every field, and values of marks 0, 2, 4, 8 to 12 and 31: nine marks, two bytes
  pub every : text_of (observation 1 3 258 5 4) ≡ 0x0F ∷ 0x01 ∷ 0x03 ∷ 0x00 ∷ 0x02 ∷ 0x01 ∷ 0x05 ∷ 0x00 ∷ 0x00 ∷ 0x00 ∷ 0x02 ∷ []
  pub nine : text_of (observation 0 0 1 0x80001F15 0x80000A04) ≡ 0x0C ∷ 0x01 ∷ 0x00 ∷ 0x15 ∷ 0x1F ∷ 0x00 ∷ 0x80 ∷ 0x52 ∷ 0x01 ∷ []
  -- into a buffer that is longer, and one that is short; "nothing is written then"
  pub longer : encode_under sizes (alive_at 0 0 0) (7 ∷ 7 ∷ []) ≡ record { answer = Ok 1; out = 0x10 ∷ 7 ∷ [] }
  pub short : encode_under sizes (observation 0 3 3 0 0) (7 ∷ 7 ∷ []) ≡ record { answer = Err ShortBuffer; out = 7 ∷ 7 ∷ [] }
  -- a station of the card's number and one past a byte, minutes 4 and 5, counts 0, 65535 and 65536, mark 1, a value where nothing is named, an alive that
  -- names; 8 before 11
  pub station : answers (observation 1 0 1 0 0) ≡ Err BadMessage
  pub station_256 : answers (observation 256 0 1 0 0) ≡ Err BadMessage
  pub late : answers (observation 0 4 1 0 0) ≡ Err BadMessage
  pub alive_late : answers (alive_at 5 0 0) ≡ Err BadMessage
  pub uncounted : answers (observation 0 0 0 0 0) ≡ Err BadMessage
  pub most : encode_under sizes (observation 0 0 65535 0 0) (7 ∷ 7 ∷ 7 ∷ []) ≡ record { answer = Ok 3; out = 0x04 ∷ 0xFF ∷ 0xFF ∷ [] }
  pub past_most : answers (observation 0 0 65536 0 0) ≡ Err BadMessage
  pub mark : answers (observation 0 0 1 2 0) ≡ Err BadMessage
  pub unnamed : answers (observation 0 0 1 0 1) ≡ Err BadMessage
  pub alive_named : answers (alive_at 0 0 1) ≡ Err BadMessage
