-- What a message is, apart from its bytes, and what it fixes.
use Rattle.std.specs.Prelude.{ℕ, suc, ◌-◌, ◌≤◌, ◌<◌, ◌≡◌, Bool, true, ◌⊎◌, List, Ok}
use Rattle.bits.specs.Bits.{bit}
use Rattle.policy.specs.declared.Sizes.{Sizes}
use Rattle.message.specs.declared.Message.{Message}
use Rattle.message.specs.declared.Event.{Event}
use Rattle.message.specs.declared.Event.TheVariants.{Observation, Alive}
use Rattle.message.specs.Format.{answer_of, component_of, event_of}

-- "A slip that neither 7 nor 8 turns away is well_formed"
abbrev pub WellFormed : Sizes → List ℕ → Type 0
WellFormed z s = answer_of z s ≡ Ok tt

unfoldable pub meaning_of : List ℕ → Message
meaning_of s = record { component = component_of s; event = event_of s }

-- The sequence number at place p: place 0 stands for "before minute 0", place t + 1 for minute t.
-- "An observation at minute t with count s fixes its station's count at t to s and at t − 1 to s − 1"; "an alive slip at minute t with
-- count s fixes the count at t − 1 to s"
abbrev pub FixesNumber : Event → ℕ → ℕ → Type 0
FixesNumber (Observation t s named values) p n = ((p ≡ suc t) × (n ≡ s)) ⊎ ((p ≡ t) × (n ≡ s - 1))
FixesNumber (Alive t s) p n = (p ≡ t) × (n ≡ s)

-- ".. and fixes the named marks at t": proposition i at minute u to b
abbrev pub FixesFact : Event → ℕ → ℕ → Bool → Type 0
FixesFact (Observation t s named values) i u b = (u ≡ t) × (bit named i ≡ true) × (b ≡ bit values i)
FixesFact (Alive t s) i u b = ⊥

-- the ranges of a well_formed message
abbrev pub FitsEvent : Sizes → Event → Type 0
FitsEvent z (Observation t s named values) =
    (t < z.minutes) × (1 ≤ s) × (named < 4294967296) × (values < 4294967296)
    × ((i : ℕ) → bit named i ≡ true → i < z.propositions) × ((i : ℕ) → bit values i ≡ true → bit named i ≡ true)
FitsEvent z (Alive t s) = t ≤ z.minutes

pub record Fits (z : Sizes) (m : Message) : Type 0 where
  pub component_in : m.component < z.components
  pub event_in : FitsEvent z m.event
