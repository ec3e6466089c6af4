-- 02, request 3: a message from its numbers. Which numbers are in range, in 01's words; the bytes that are written for them; and what the writer
-- answers. RoundTrip shows that reading and writing are each other's inverse.
use Rattle.std.specs.Prelude.{ℕ, ◌+◌, ◌≤◌, ◌<◌, ◌^◌, ◌≡◌, Bool, true, false, cond, ◌&&◌, List, [], ◌∷◌, ◌++◌, eqb, ltb, leb, get_or, length}
use Rattle.std.specs.Int.Bits.{bit_or}
use Rattle.bits.specs.Bits.{bit}
use Rattle.bits.specs.Digits.{gathered}
use Rattle.encoding.specs.Text.{bytes_of, bits_of, text}
use Rattle.refusal.specs.declared.Refusal.TheVariants.{BadMessage, ShortBuffer}
use Rattle.refusal.specs.Checks.{Check, check, first_failed}
use Rattle.refusal.specs.Writes.{Output, written}
use Rattle.policy.specs.declared.Sizes.{Sizes}
use Rattle.policy.specs.Format.{policy_checks, policy_of}
use Rattle.message.specs.declared.Event.{Event}
use Rattle.message.specs.declared.Event.TheVariants.{Observation, Alive}
use Rattle.message.specs.declared.MessageNumbers.{MessageNumbers}
use Rattle.message.specs.Format.{widths, value_bytes}
use Rattle.message.specs.declared.Message.{Message}

-- the numbers of what a reader gives: a station and its event
abbrev pub event_numbers : ℕ → Event → MessageNumbers
event_numbers c (Observation t s named values) = record { component = c; alive = false; minute = t; number = s; named = named; values = values }
event_numbers c (Alive t s) = record { component = c; alive = true; minute = t; number = s; named = 0; values = 0 }

abbrev pub numbers_of : Message → MessageNumbers
numbers_of m = event_numbers m.component m.event

-- ---- in range

-- "An observation at minute t (below M) with count s, at least 1"; "the mark map's bit k names mark k", a mark of the card; a value "belongs to" a named
-- mark
pub record Observes (z : Sizes) (n : MessageNumbers) : Type 0 where
  pub minute_in : n.minute < z.minutes
  pub counted : 1 ≤ n.number
  pub named_in : (k : ℕ) → bit n.named k ≡ true → k < z.propositions
  pub values_in : (k : ℕ) → bit n.values k ≡ true → bit n.named k ≡ true

-- "An alive slip at minute t (at most M) .. names no marks"
pub record Lives (z : Sizes) (n : MessageNumbers) : Type 0 where
  pub minute_in : n.minute ≤ z.minutes
  pub no_names : n.named ≡ 0
  pub no_values : n.values ≡ 0

-- a station of the card, and a count of two bytes: "count (2)"
pub record InRange (z : Sizes) (n : MessageNumbers) : Type 0 where
  pub component_in : n.component < z.components
  pub number_in : n.number < 65536
  pub observation : n.alive ≡ false → Observes z n
  pub alive : n.alive ≡ true → Lives z n

-- ---- the bytes

-- the fields in the order of their bits: "bit 0 station, bit 1 minute, bit 2 count, bit 3 mark map"
abbrev pub field_of : MessageNumbers → ℕ → ℕ
field_of n k = get_or (n.component ∷ n.minute ∷ n.number ∷ n.named ∷ []) k 0

-- the map: "bit 4 makes it an alive slip"
abbrev pub text_map : MessageNumbers → ℕ
text_map n = bits_of (field_of n) 4 + cond n.alive 16 0

-- "A bit map, then fields"
abbrev pub fields_part : MessageNumbers → List ℕ
fields_part n = text widths (field_of n) n.alive

-- the mark map "followed by its values": "if n marks are named, the values are n/8 bytes rounded up; value bit j belongs to the j-th named mark, lowest
-- first, and spare bits are 0"
abbrev pub values_part : MessageNumbers → List ℕ
values_part n = bytes_of (value_bytes n.named) (gathered 32 n.named n.values)

unfoldable pub text_of : MessageNumbers → List ℕ
text_of n = fields_part n ++ values_part n

-- ---- what the writer answers

abbrev pub observation_good : Sizes → MessageNumbers → Bool
observation_good z n =
    ltb n.minute z.minutes
    && (leb 1 n.number
    && (ltb n.named (2 ^ z.propositions)
    && eqb (bit_or n.named n.values) n.named))

abbrev pub alive_good : Sizes → MessageNumbers → Bool
alive_good z n = leb n.minute z.minutes && (eqb n.named 0 && eqb n.values 0)

abbrev pub kind_good : Sizes → MessageNumbers → Bool
kind_good z n = cond n.alive (alive_good z n) (observation_good z n)

unfoldable pub numbers_good : Sizes → MessageNumbers → Bool
numbers_good z n = ltb n.component z.components && (leb n.number 65535 && kind_good z n)

-- 8, at place 0, then "11, short paper, when the lent buffer is shorter than the text, tested after those"
unfoldable pub writing_checks : Sizes → MessageNumbers → ℕ → List Check
writing_checks z n room = check (numbers_good z n) BadMessage ∷ check (leb (length (text_of n)) room) ShortBuffer ∷ []

unfoldable pub encode_under : Sizes → MessageNumbers → List ℕ → Output
encode_under z n out = written (first_failed (writing_checks z n (length out))) (text_of n) out

-- "For a slip also its card, checked first": 1 to 4 before these
unfoldable pub encode_checks : List ℕ → MessageNumbers → ℕ → List Check
encode_checks s n room = policy_checks s ++ writing_checks (policy_of s).sizes n room

unfoldable pub encode_of : List ℕ → MessageNumbers → List ℕ → Output
encode_of s n out = written (first_failed (encode_checks s n (length out))) (text_of n) out
