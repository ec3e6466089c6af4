-- What storing a message does to each sequence number and each fact.
use Rattle.std.specs.Prelude.{ℕ, ◌≡◌, Bool, true, ◌⊎◌}
use Rattle.knowledge.specs.Knowledge.{Knowledge, noted, valued}
use Rattle.message.specs.declared.Event.{Event}
use Rattle.message.specs.Fixes.{FixesFact}

-- a fact that is known, in two parts
pub record Fact (k : Knowledge) (i t : ℕ) (b : Bool) : Type 0 where
  pub is : noted k i t ≡ true
  pub so : valued k i t ≡ b

-- the knowledge l instead of k, after the event x
abbrev pub FactCases : Event → Knowledge → Knowledge → ℕ → ℕ → Type 0
FactCases x k l i t = ((b : Bool) × FixesFact x i t b × Fact l i t b) ⊎ ((noted l i t ≡ noted k i t) × (valued l i t ≡ valued k i t))
