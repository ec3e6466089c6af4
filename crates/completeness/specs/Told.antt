-- When all components have reported, the knowledge is complete. Each number that is known is the trace's count, and there is one at every observation's two
-- places, before minute 0 and at M: so a minute without an observation lies between two known counts that are equal.
use Rattle.std.specs.Prelude.{ℕ, ◌<◌, ◌≡◌, Bool, true}
use Rattle.policy.specs.declared.Sizes.{Sizes}
use Rattle.message.specs.Fixes.{FixesNumber, FixesFact}
use Rattle.message.specs.declared.Message.{Message}
use Rattle.knowledge.specs.Knowledge.{Knowledge, none, noted, number}

-- the knowledge has what the messages of Q fix
pub record Told (z : Sizes) (k : Knowledge) (Q : Message → Type 0) : Type 0 where
  pub numbers : (m : Message) → Q m → (p n : ℕ) → FixesNumber m.event p n → (n < none) × (number z k m.component p ≡ n)
  pub facts : (m : Message) → Q m → (i t : ℕ) (b : Bool) → i < z.propositions → FixesFact m.event i t b → noted k i t ≡ true
