-- 02, request 1, a second time: what the reader of the first message answers and hands back, what a single take makes of it, and which byte strings a
-- packet is made of. Each is pinned by what 02 says of the bytes, and not by how they are read.
use Rattle.refusal.specs.declared.Refusal.{Refusal}
use Rattle.message.specs.declared.Message.{Message}
use Rattle.std.specs.Prelude.{ℕ, ◌≤◌, ◌<◌, ◌≡◌, ◌↔◌, List, [], ◌∷◌, ◌++◌, length, take, Err, Ok, Result}
use Rattle.refusal.specs.declared.Refusal.TheVariants.{TruncatedMessage, BadMessage}
use Rattle.policy.specs.declared.Sizes.{Sizes}
use Rattle.message.specs.declared.Step.{Step}
use Rattle.message.specs.Format.{length_of, decode_of, first_answer, first_of, used_of, rest_of}
use Rattle.message.specs.Encoded.{IsMessage}

-- what the reader says of the first message, and how many bytes follow it
abbrev pub step_of : Result Message Refusal → List ℕ → Step
step_of d rest = record { decoded = d; left = length rest }

-- The reader of the first message: each answer has its own cause
pub record FirstCauses (z : Sizes) (s : List ℕ) : Type 0 where
  -- 7: it ends early, at the length of what was given; "on 7 the part handed back is empty"
  pub seven : (at : ℕ) → (first_answer z s ≡ Err (TruncatedMessage at)) ↔ ((at ≡ length s) × (length s < length_of s))
  pub seven_rest : length s < length_of s → rest_of s ≡ []
  -- 8: all its bytes are there, and they are no message; "on 8 it is what follows the slip", and so where it is read
  pub eight : (first_answer z s ≡ Err BadMessage) ↔ ((length_of s ≤ length s) × (IsMessage z (take (length_of s) s) → ⊥))
  pub accepted : (first_answer z s ≡ Ok tt) ↔ IsMessage z (take (length_of s) s)
  pub rest : length_of s ≤ length s → take (length_of s) s ++ rest_of s ≡ s
  -- it says what the message alone says: nothing hangs on what follows
  pub alone : first_of z s ≡ decode_of z (take (used_of s) s)

-- "A single take tests, before 8, that this part is empty": what a message taken alone is answered, from what the reader hands back
pub record Single (z : Sizes) (s : List ℕ) : Type 0 where
  pub empty : rest_of s ≡ [] → decode_of z s ≡ first_of z s
  pub followed : 0 < length (rest_of s) → decode_of z s ≡ Err (TruncatedMessage (length_of s))

-- The byte strings of a packet, end to end: each is as long as its own fields say, but the last may end early
pub data Packed : List ℕ → List (List ℕ) → Type 0 where
  no_more : Packed [] []
  whole : (m : List ℕ) {rest : List ℕ} {ms : List (List ℕ)} → length m ≡ length_of m → Packed rest ms → Packed (m ++ rest) (m ∷ ms)
  cut : (m : List ℕ) → 0 < length m → length m < length_of m → Packed m (m ∷ [])
