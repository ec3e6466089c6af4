-- 01, "Reasons to turn a call away", with 11 to 14 of 02, requests 3, 5 and 7: the number and the place of each.
use Rattle.std.specs.Prelude.{ℕ, ◌+◌, [], ◌∷◌, get_or}
use Rattle.refusal.specs.declared.Refusal.{Refusal}
use Rattle.refusal.specs.declared.Refusal.TheVariants.{TruncatedPolicy, BadHeading, BadSubformula, RuleCount, BufferSize, CorruptKnowledge, TruncatedMessage, BadMessage, Conflict, OutOfRange, ShortBuffer, OtherPolicy, RuleSyntax, RuleLimit}

abbrev pub refusal_number : Refusal → ℕ
refusal_number (TruncatedPolicy at) = 1
refusal_number (BadHeading at) = 2
refusal_number (BadSubformula at) = 3
refusal_number RuleCount = 4
refusal_number BufferSize = 5
refusal_number CorruptKnowledge = 6
refusal_number (TruncatedMessage at) = 7
refusal_number BadMessage = 8
refusal_number Conflict = 9
refusal_number OutOfRange = 10
refusal_number ShortBuffer = 11
refusal_number OtherPolicy = 12
refusal_number (RuleSyntax at) = 13
refusal_number (RuleLimit at) = 14

-- the place named in the table, and 0 where it names none
abbrev pub refusal_place : Refusal → ℕ
refusal_place (TruncatedPolicy at) = at
refusal_place (BadHeading at) = at
refusal_place (BadSubformula at) = at
refusal_place RuleCount = 0
refusal_place BufferSize = 0
refusal_place CorruptKnowledge = 0
refusal_place (TruncatedMessage at) = at
refusal_place BadMessage = 0
refusal_place Conflict = 0
refusal_place OutOfRange = 0
refusal_place ShortBuffer = 0
refusal_place OtherPolicy = 0
refusal_place (RuleSyntax at) = at
refusal_place (RuleLimit at) = at

-- 02, request 1: in a packet the "place counted from the packet's start (the slip's first byte for refusals checked after 7; those checked before it
-- keep their places)", where the slip starts at byte `start`
abbrev pub packet_place : ℕ → Refusal → ℕ
packet_place start (TruncatedPolicy at) = refusal_place (TruncatedPolicy at)
packet_place start (BadHeading at) = refusal_place (BadHeading at)
packet_place start (BadSubformula at) = refusal_place (BadSubformula at)
packet_place start RuleCount = refusal_place RuleCount
packet_place start BufferSize = refusal_place BufferSize
packet_place start CorruptKnowledge = refusal_place CorruptKnowledge
packet_place start (TruncatedMessage at) = start + at
packet_place start BadMessage = start
packet_place start Conflict = start
packet_place start OutOfRange = refusal_place OutOfRange
packet_place start ShortBuffer = refusal_place ShortBuffer
packet_place start OtherPolicy = refusal_place OtherPolicy
packet_place start (RuleSyntax at) = refusal_place (RuleSyntax at)
packet_place start (RuleLimit at) = refusal_place (RuleLimit at)

-- the refusal with this number and place, the numbers in order from 1
abbrev pub refusal_of : ℕ → ℕ → Refusal
refusal_of n at =
    get_or (OutOfRange ∷ TruncatedPolicy at ∷ BadHeading at ∷ BadSubformula at ∷ RuleCount ∷ BufferSize ∷ CorruptKnowledge ∷ TruncatedMessage at ∷ BadMessage ∷ Conflict ∷ OutOfRange ∷ ShortBuffer ∷ OtherPolicy ∷ RuleSyntax at ∷ RuleLimit at ∷ []) n OutOfRange
