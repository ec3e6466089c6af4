-- A line passes its tests exactly when one of 01's lines stands there. Assumes nothing.
use Prim.Native.Nat.{ℕ}
use Rattle.std.specs.Prelude.{◌≡◌, true, ◌↔◌, List}
use Rattle.policy.specs.Encoded.{Line, LineAt}
use Rattle.policy.specs.Format.{fields_at, good_line}
use Rattle.policy.specs.Stands.{line_of}
use Rattle.policy.proofs.Stands.{stands, passes}

module _ (s : List ℕ) (m i at : ℕ) where
  pub line_law : (good_line m i (fields_at s at) ≡ true) ↔ ((l : Line) × LineAt s m i at l)
  line_law = (λ e. (line_of (fields_at s at), stands s m i at e), λ l. passes s m i at l.0 l.1)
