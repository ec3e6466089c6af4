-- 01, "The slip", a second time: which numbers are a message, and how they stand in the bytes. Nothing is read or tested here.
use Rattle.std.specs.Prelude.{ℕ, ◌+◌, ◌/◌, ◌^◌, ◌≤◌, ◌<◌, ◌≡◌, Bool, true, false, List, [], ◌∷◌, get_or, length}
use Rattle.bits.specs.Bits.{bit}
use Rattle.bits.specs.Digits.{below}
use Rattle.encoding.specs.Fields.{has}
use Rattle.encoding.specs.Layout.{bytes_at, follows, Laid}
use Rattle.policy.specs.declared.Sizes.{Sizes}
use Rattle.message.specs.declared.Event.{Event}
use Rattle.message.specs.declared.Event.TheVariants.{Observation, Alive}
use Rattle.message.specs.Format.{widths}

-- how many marks a mark map names: "the mark map's bit k names mark k"
abbrev pub ones : ℕ → ℕ
ones named = below 32 named

-- "Value bit j belongs to the j-th named mark, lowest first": the values at the marks' own bits
pub record Values (named packed values : ℕ) : Type 0 where
  pub small : values < 2 ^ 32
  pub named_value : (k : ℕ) → k < 32 → bit named k ≡ true → bit values k ≡ bit packed (below k named)
  pub other_value : (k : ℕ) → bit named k ≡ false → bit values k ≡ false

-- The numbers of a message, its values in so many bits, and what it says. "An observation at minute t (below M) with count s, at least 1", which names
-- marks of the card; "spare bits are 0". "An alive slip at minute t (at most M) .. names no marks". Both are of a station of the card
pub data IsEvent (z : Sizes) : ℕ → ℕ → ℕ → ℕ → ℕ → Event → Type 0 where
  is_observation : (component minute number named packed values : ℕ) → component < z.components → minute < z.minutes → 1 ≤ number
      → ((k : ℕ) → bit named k ≡ true → k < z.propositions) → ((j : ℕ) → bit packed j ≡ true → j < ones named) → Values named packed values
      → IsEvent z component minute number named packed (Observation minute number named values)
  is_alive : (component minute number : ℕ) → component < z.components → minute ≤ z.minutes → IsEvent z component minute number 0 0 (Alive minute number)

-- "Bit 4 makes it an alive slip"
abbrev pub is_alive_event : Event → Bool
is_alive_event (Observation minute number named values) = false
is_alive_event (Alive minute number) = true

-- The bytes are a message: "a bit map, then fields", the mark map "followed by its values": "if n marks are named, the values are n/8 bytes rounded
-- up"; and nothing after them
pub record IsMessage (z : Sizes) (s : List ℕ) : Type 0 where
  pub component : ℕ
  pub minute : ℕ
  pub number : ℕ
  pub named : ℕ
  pub packed : ℕ
  pub event : Event
  pub is_event : IsEvent z component minute number named packed event
  pub laid : Laid widths s 0 (λ k. get_or (component ∷ minute ∷ number ∷ named ∷ []) k 0)
  pub alive : has (get_or s 0 0) 4 ≡ is_alive_event event
  -- "Bits 5 to 7 are 0"
  pub spare : get_or s 0 0 < 32
  pub at : ℕ
  pub behind : at ≡ follows widths (λ k. get_or (component ∷ minute ∷ number ∷ named ∷ []) k 0) 0 (length widths)
  pub values : bytes_at s at ((ones named + 7) / 8) ≡ packed
  pub ends : length s ≡ at + (ones named + 7) / 8
