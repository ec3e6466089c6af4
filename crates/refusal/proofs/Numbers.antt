-- Laws of the definitions in specs/Numbers. Assumes nothing.
use Rattle.std.specs.Prelude.{◌≡◌, refl}
use Rattle.std.proofs.Common.{zero-add}
use Rattle.refusal.specs.declared.Refusal.{Refusal}
use Rattle.refusal.specs.declared.Refusal.TheVariants.{TruncatedPolicy, BadHeading, BadSubformula, RuleCount, BufferSize, CorruptKnowledge, TruncatedMessage, BadMessage, Conflict, OutOfRange, ShortBuffer, OtherPolicy, RuleSyntax, RuleLimit}
use Rattle.refusal.specs.Numbers.{packet_place, refusal_number, refusal_of, refusal_place}

-- at the packet's start each keeps its place
pub first_place : (r : Refusal) → packet_place 0 r ≡ refusal_place r
first_place (TruncatedPolicy at) = refl
first_place (BadHeading at) = refl
first_place (BadSubformula at) = refl
first_place RuleCount = refl
first_place BufferSize = refl
first_place CorruptKnowledge = refl
first_place (TruncatedMessage at) = zero-add at
first_place BadMessage = refl
first_place Conflict = refl
first_place OutOfRange = refl
first_place ShortBuffer = refl
first_place OtherPolicy = refl
first_place (RuleSyntax at) = refl
first_place (RuleLimit at) = refl

-- it is the only one
pub only_one : (r : Refusal) → refusal_of (refusal_number r) (refusal_place r) ≡ r
only_one (TruncatedPolicy at) = refl
only_one (BadHeading at) = refl
only_one (BadSubformula at) = refl
only_one RuleCount = refl
only_one BufferSize = refl
only_one CorruptKnowledge = refl
only_one (TruncatedMessage at) = refl
only_one BadMessage = refl
only_one Conflict = refl
only_one OutOfRange = refl
only_one ShortBuffer = refl
only_one OtherPolicy = refl
only_one (RuleSyntax at) = refl
only_one (RuleLimit at) = refl
