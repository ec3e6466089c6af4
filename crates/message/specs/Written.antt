-- What a station maker may rely on: which numbers are refused and why, that reading gives them again, and that writing what was read gives its own
-- bytes. `Refusals` and `RoundTrip` prove it.
use Rattle.std.specs.Prelude.{ℕ, ◌≤◌, ◌<◌, ◌≡◌, ◌⊎◌, ◌↔◌, List, ◌++◌, length, take, drop, Err, Ok}
use Rattle.encoding.specs.Text.{ByteString}
use Rattle.refusal.specs.declared.Refusal.{Refusal}
use Rattle.refusal.specs.Checks.{RefusedWith, reply}
use Rattle.refusal.specs.Writes.{Output}
use Rattle.policy.specs.Encoded.{PropositionsIn, ComponentsIn, MinutesIn}
use Rattle.policy.specs.declared.Sizes.{Sizes}
use Rattle.policy.specs.Format.{policy_of}
use Rattle.policy.specs.Format.{answer_of as policy_answer}
use Rattle.message.specs.declared.MessageNumbers.{MessageNumbers}
use Rattle.message.specs.Fixes.{WellFormed, meaning_of}
use Rattle.message.specs.declared.Message.{Message}
use Rattle.message.specs.Text.{numbers_of, InRange, text_of, encode_of}

-- the writer's outcome o, given the bytes s of a card, the numbers n and the lent buffer
pub record EncodeCauses (s : List ℕ) (n : MessageNumbers) (out : List ℕ) (o : Output) : Type 0 where
  -- "its card, checked first": 1 to 4 as the card's reader answers them, with its places
  pub policy : (k at : ℕ) → k ≤ 4 → RefusedWith (reply o.answer) k at ↔ RefusedWith (policy_answer s) k at
  -- "Out-of-range fields are refused with the reader's numbers .. 8, .. at place 0"
  pub eight : (at : ℕ) → RefusedWith (reply o.answer) 8 at
      ↔ ((at ≡ 0) × (policy_answer s ≡ Ok tt) × (InRange (policy_of s).sizes n → ⊥))
  -- "11, short paper, when the lent buffer is shorter than the text, tested after those"
  pub eleven : (at : ℕ) → RefusedWith (reply o.answer) 11 at
      ↔ ((at ≡ 0) × (policy_answer s ≡ Ok tt) × InRange (policy_of s).sizes n × (length out < length (text_of n)))
  pub no_other : (k at : ℕ) → RefusedWith (reply o.answer) k at → ((1 ≤ k) × (k ≤ 4)) ⊎ ((k ≡ 8) ⊎ (k ≡ 11))
  -- "write the slip .. and give its length"
  pub done : (k : ℕ) → (o.answer ≡ Ok k)
      ↔ ((policy_answer s ≡ Ok tt) × InRange (policy_of s).sizes n × (length (text_of n) ≤ length out) × (k ≡ length (text_of n)))
  -- "a call added later that writes into a longer buffer keeps the rest of it"
  pub text : (k : ℕ) → o.answer ≡ Ok k → o.out ≡ text_of n ++ drop k out
  -- "nothing is written then"
  pub unwritten : (r : Refusal) → o.answer ≡ Err r → o.out ≡ out

-- "A card fixes how many marks (1 to 32), stations (1 to 16) and minutes M (1 to 1,024) a shift has"
pub record SizesIn (z : Sizes) : Type 0 where
  pub propositions_in : PropositionsIn z.propositions
  pub components_in : ComponentsIn z.components
  pub minutes_in : MinutesIn z.minutes

pub record RoundTrip (z : Sizes) : Type 0 where
  -- "Reading gives the fields again"
  pub reads_back : (n : MessageNumbers) → InRange z n → WellFormed z (text_of n) × (numbers_of (meaning_of (text_of n)) ≡ n)
  -- the same of a station and an event
  pub reads_event : (m : Message) → InRange z (numbers_of m) → meaning_of (text_of (numbers_of m)) ≡ m
  -- "writing an accepted .. slip gives its own bytes"
  pub writes_back : (s : List ℕ) → ByteString s → WellFormed z s → InRange z (numbers_of (meaning_of s)) × (text_of (numbers_of (meaning_of s)) ≡ s)
  -- the reader takes just the texts
  pub texts : (s : List ℕ) → ByteString s → WellFormed z s ↔ ((n : MessageNumbers) × InRange z n × (s ≡ text_of n))
  -- and a message has one text
  pub one_text : (s t : List ℕ) → ByteString s → ByteString t → WellFormed z s → WellFormed z t → meaning_of s ≡ meaning_of t → s ≡ t
  -- which is of bytes, 14 of them at most
  pub bytes : (n : MessageNumbers) → ByteString (text_of n)
  pub short : (n : MessageNumbers) → InRange z n → length (text_of n) ≤ 14

-- the same of the call, under a card that is accepted
pub record Encodes (s : List ℕ) : Type 0 where
  -- it never refuses what the reader reads, and writes it again
  pub again : (b out : List ℕ) → ByteString b → WellFormed (policy_of s).sizes b → length b ≤ length out
      → ((encode_of s (numbers_of (meaning_of b)) out).answer ≡ Ok (length b))
      × ((encode_of s (numbers_of (meaning_of b)) out).out ≡ b ++ drop (length b) out)
  -- and never writes what the reader refuses
  pub readable : (n : MessageNumbers) (out : List ℕ) (k : ℕ) → (encode_of s n out).answer ≡ Ok k
      → WellFormed (policy_of s).sizes (take k (encode_of s n out).out)
