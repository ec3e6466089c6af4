-- How a take and a packet are worked: the record first, message by message, and the sheets once. That this leaves what the takes one by one leave is
-- proved where the calls are.
use Rattle.message.specs.declared.Message.{Message}
use Rattle.std.specs.Prelude.{ℕ, ◌+◌, cond, List, [], ◌∷◌, eqb, length, Option, None, Err, Ok, Result}
use Rattle.refusal.specs.declared.Refusal.{Refusal}
use Rattle.refusal.specs.declared.Refusal.TheVariants.{Conflict}
use Rattle.refusal.specs.Checks.{Checked, check, first_failed}
use Rattle.policy.specs.declared.Sizes.{Sizes}
use Rattle.policy.specs.declared.Policy.{Policy}
use Rattle.message.specs.Format.{decode_of, messages_of}
use Rattle.message.specs.Fixes.{Fits}
use Rattle.knowledge.specs.Knowledge.{Knowledge, stored, admits}
use Rattle.knowledge.specs.Run.{held}
use Rattle.monitor.specs.declared.PacketAnswer.{PacketAnswer}
use Rattle.monitor.specs.declared.Stopped.{Stopped}
use Rattle.monitor.specs.State.{State, Outcome, over, rewritten, PacketOutcome, refused_at}

-- ---- one message

-- whether the message is stored, and the record then
pub record Stored : Type 0 where
  pub answer : Checked
  pub known : Knowledge

abbrev pub stored_as : Checked → List ℕ → List ℕ → Stored
stored_as a numbers facts = record { answer = a; known = held numbers facts }

abbrev pub stored_unless : Checked → Knowledge → Knowledge → Stored
stored_unless (Ok _) k next = record { answer = Ok tt; known = next }
stored_unless (Err r) k next = record { answer = Err r; known = k }

-- 9
abbrev pub may_store : Sizes → Knowledge → Message → Checked
may_store z k m = first_failed (check (admits z k m) Conflict ∷ [])

unfoldable pub store_message : Sizes → Knowledge → Message → Stored
store_message z k m = stored_unless (may_store z k m) k (stored z k m)

-- what was read is in the ranges of its policy
abbrev pub Ranged : Sizes → Result Message Refusal → Type 0
Ranged z (Ok m) = Fits z m
Ranged z (Err r) = Unit

-- one that was read is stored; else what its reader answers
abbrev pub store_read : Sizes → Knowledge → Result Message Refusal → Stored
store_read z k (Ok m) = store_message z k m
store_read z k (Err r) = record { answer = Err r; known = k }

-- then both sheets
abbrev pub sheets_after : Policy → State → Checked → Knowledge → Outcome ℕ
sheets_after p x (Ok _) k = rewritten p x.origin k
sheets_after p x (Err r) k = record { answer = Err r; state = x }

abbrev pub settle_message : Policy → State → Message → Outcome ℕ
settle_message p x m = sheets_after p x (store_message p.sizes x.known m).answer (store_message p.sizes x.known m).known

-- ---- a packet

pub record StoredPacket : Type 0 where
  pub answer : PacketAnswer
  pub known : Knowledge

abbrev pub stored_packet : PacketAnswer → List ℕ → List ℕ → StoredPacket
stored_packet a numbers facts = record { answer = a; known = held numbers facts }

abbrev pub stores : ℕ → Option Stopped → Knowledge → StoredPacket
stores n e k = record { answer = record { taken = n; stop = e }; known = k }

abbrev pub stores_or : Checked → (Refusal → StoredPacket) → StoredPacket → StoredPacket
stores_or (Ok _) ends next = next
stores_or (Err r) ends next = ends r

-- the messages of a packet, stored until one is refused
abbrev pub store_each : Sizes → Knowledge → ℕ → ℕ → List (List ℕ) → StoredPacket
store_each z k n at [] = stores n None k
store_each z k n at (m ∷ ms) =
    stores_or (store_read z k (decode_of z m)).answer
    (λ r. stores n (refused_at at r) k)
    (store_each z (store_read z k (decode_of z m)).known (n + 1) (at + length m) ms)

-- the sheets, worked once where at least one was taken
abbrev pub sheets_once : Policy → State → StoredPacket → PacketOutcome
sheets_once p x o = record { answer = o.answer; state = cond (eqb o.answer.taken 0) x (over p x.origin o.known) }

abbrev pub take_packet : Policy → State → List ℕ → PacketOutcome
take_packet p x b = sheets_once p x (store_each p.sizes x.known 0 0 (messages_of b))
