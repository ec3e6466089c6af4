-- The exact cause of 7 and of 8.
use Rattle.std.specs.Prelude.{ℕ, ◌<◌, ◌≡◌, ◌↔◌, List, length, Err, Ok}
use Rattle.refusal.specs.declared.Refusal.TheVariants.{TruncatedMessage, BadMessage}
use Rattle.policy.specs.declared.Sizes.{Sizes}
use Rattle.message.specs.Format.{length_of, answer_of}
use Rattle.message.specs.Encoded.{IsMessage}

-- 7: it ends early, or bytes follow
pub data Cut (s : List ℕ) : ℕ → Type 0 where
  early : length s < length_of s → Cut s (length s)
  extra : length_of s < length s → Cut s (length_of s)

-- each number is answered exactly for its own cause
pub record Causes (z : Sizes) (s : List ℕ) : Type 0 where
  pub seven : (at : ℕ) → (answer_of z s ≡ Err (TruncatedMessage at)) ↔ Cut s at
  pub eight : (answer_of z s ≡ Err BadMessage) ↔ ((length s ≡ length_of s) × (IsMessage z s → ⊥))
  pub accepted : (answer_of z s ≡ Ok tt) ↔ IsMessage z s
