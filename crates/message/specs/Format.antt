-- 01, "The slip", as functions of the bytes. Each definition opens with its sentence.
use Rattle.message.specs.declared.Message.{Message}
use Rattle.std.specs.Prelude.{ℕ, zero, suc, ◌+◌, ◌/◌, ◌^◌, Bool, true, false, cond, ◌&&◌, List, [], ◌∷◌, eqb, ltb, leb, get_or, length, take, drop, None, Option, Result, Some}
use Rattle.bits.specs.Digits.{below, expanded}
use Rattle.encoding.specs.Fields.{has, long_of, field8, written}
use Rattle.encoding.specs.Layout.{start, extent, field}
use Rattle.refusal.specs.declared.Refusal.{Refusal}
use Rattle.refusal.specs.declared.Refusal.TheVariants.{TruncatedMessage, BadMessage}
use Rattle.policy.specs.declared.Sizes.{Sizes}
use Rattle.refusal.specs.Checks.{Checked, Check, check, first_failed, give_unless}
use Rattle.message.specs.declared.Fields.{Fields}
use Rattle.message.specs.declared.Event.{Event}
use Rattle.message.specs.declared.Event.TheVariants.{Observation, Alive}

-- ---- the fields

abbrev pub map_of : List ℕ → ℕ
map_of s = get_or s 0 0

-- "A bit map, then fields: bit 0 station (1 byte), bit 1 minute (2), bit 2 count (2), bit 3 mark map (4)": how many bytes each takes
abbrev pub widths : List ℕ
widths = 1 ∷ 2 ∷ 2 ∷ 4 ∷ []

-- where the minute, the sequence number (count) and the mark map start; the mark map is "followed by its values"
abbrev pub minute_at : ℕ → ℕ
minute_at map = start widths map 0 1

abbrev pub number_at : ℕ → ℕ
number_at map = start widths map 0 2

abbrev pub named_at : ℕ → ℕ
named_at map = start widths map 0 3

abbrev pub values_at : ℕ → ℕ
values_at map = extent widths map

unfoldable pub component_of : List ℕ → ℕ
component_of s = field widths s 0 0

unfoldable pub minute_of : List ℕ → ℕ
minute_of s = field widths s 0 1

unfoldable pub number_of : List ℕ → ℕ
number_of s = field widths s 0 2

-- "The mark map's bit k names mark k"
unfoldable pub named_of : List ℕ → ℕ
named_of s = field widths s 0 3

-- "If n marks are named, the values are n/8 bytes rounded up"
abbrev pub value_bytes : ℕ → ℕ
value_bytes named = (below 32 named + 7) / 8

-- the value bytes as one number, the first byte lowest
abbrev pub packed_at : List ℕ → ℕ → ℕ → ℕ
packed_at s n at = long_of (field8 s (ltb 0 n) at) (field8 s (ltb 1 n) (at + 1)) (field8 s (ltb 2 n) (at + 2)) (field8 s (ltb 3 n) (at + 3))

unfoldable pub packed_of : List ℕ → ℕ
packed_of s = packed_at s (value_bytes (named_of s)) (values_at (map_of s))

-- what the rules are about
unfoldable pub fields_of : List ℕ → Fields
fields_of s =
    record { map = map_of s; component = component_of s; minute = minute_of s; number = number_of s; named = named_of s; packed = packed_of s }

-- ---- the length

-- Bits 4 to 7 never change it. Bytes past the end read as 0, so where the map or the mark map is cut this is more than there are
unfoldable pub length_of : List ℕ → ℕ
length_of s = values_at (map_of s) + value_bytes (named_of s)

unfoldable pub measured : List ℕ → Option ℕ
measured s = cond (leb (length_of s) (length s)) (Some (length_of s)) None

-- ---- the rules

-- "An alive slip at minute t (at most M) .. names no marks"
unfoldable pub good_alive : Sizes → Fields → Bool
good_alive z f = eqb f.named 0 && leb f.minute z.minutes

-- "An observation at minute t (below M) with count s, at least 1"; it names marks of the card, and "spare bits are 0"
unfoldable pub good_observation : Sizes → Fields → Bool
good_observation z f =
    ltb f.minute z.minutes
    && (leb 1 f.number
    && (ltb f.named (2 ^ z.propositions)
    && ltb f.packed (2 ^ below 32 f.named)))

-- "Bit 4 makes it an alive slip"
abbrev pub good_event : Sizes → Fields → Bool
good_event z f = cond (has f.map 4) (good_alive z f) (good_observation z f)

-- "A written field is not 0; the value bytes are exempt"
unfoldable pub all_written : Fields → Bool
all_written f =
    written (has f.map 0) f.component
    && (written (has f.map 1) f.minute
    && (written (has f.map 2) f.number
    && written (has f.map 3) f.named))

-- "Bits 5 to 7 are 0." A station of the card
unfoldable pub good_fields : Sizes → Fields → Bool
good_fields z f =
    ltb f.map 32
    && (all_written f
    && (ltb f.component z.components
    && good_event z f))

abbrev pub good_message : Sizes → List ℕ → Bool
good_message z s = good_fields z (fields_of s)

-- ---- the answer to a message that is taken alone

-- 7 where it ends early, at its length, or where bytes follow, at the first of them; then 8
abbrev pub message_checks : Sizes → List ℕ → List Check
message_checks z s =
    check (leb (length_of s) (length s)) (TruncatedMessage (length s))
    ∷ check (eqb (length_of s) (length s)) (TruncatedMessage (length_of s))
    ∷ check (good_message z s) BadMessage
    ∷ []

unfoldable pub answer_of : Sizes → List ℕ → Checked
answer_of z s = first_failed (message_checks z s)

-- "A slip read is either an observation or an alive": bit 4 tells which
abbrev pub event_if : Bool → Fields → Event
event_if true f = Alive f.minute f.number
event_if false f = Observation f.minute f.number f.named (expanded 32 f.named f.packed)

unfoldable pub event_in : Fields → Event
event_in f = event_if (has f.map 4) f

abbrev pub event_of : List ℕ → Event
event_of s = event_in (fields_of s)

-- ".. inside one answer that also holds its station"
abbrev pub message_in : Fields → Message
message_in f = record { component = f.component; event = event_in f }

unfoldable pub decode_of : Sizes → List ℕ → Result Message Refusal
decode_of z s = give_unless (answer_of z s) (message_in (fields_of s))

-- ---- the first message of a byte string, and what follows it (02, request 1)

-- "The slip reader must read the first slip": 7 where it ends early, at the length of what was given; then 8. What follows it is not looked at
abbrev pub first_checks : Sizes → List ℕ → List Check
first_checks z s = check (leb (length_of s) (length s)) (TruncatedMessage (length s)) ∷ check (good_message z s) BadMessage ∷ []

unfoldable pub first_answer : Sizes → List ℕ → Checked
first_answer z s = first_failed (first_checks z s)

unfoldable pub first_of : Sizes → List ℕ → Result Message Refusal
first_of z s = give_unless (first_answer z s) (message_in (fields_of s))

-- how many bytes it takes: all there are where it ends early
unfoldable pub used_of : List ℕ → ℕ
used_of s = cond (leb (length_of s) (length s)) (length_of s) (length s)

-- ".. and hand back the remaining part of the packet": "on 7 the part handed back is empty, on 8 it is what follows the slip"
abbrev pub rest_of : List ℕ → List ℕ
rest_of s = drop (used_of s) s

-- "The new radio fills a frame with as many slips as fit, end to end, without length bytes": the byte strings that a packet offers one by one. No
-- message is empty, so there are at most as many as bytes
abbrev pub messages_within : ℕ → List ℕ → List (List ℕ)
messages_within zero s = []
messages_within (suc k) [] = []
messages_within (suc k) (x ∷ xs) = take (used_of (x ∷ xs)) (x ∷ xs) ∷ messages_within k (rest_of (x ∷ xs))

unfoldable pub messages_of : List ℕ → List (List ℕ)
messages_of s = messages_within (length s) s
