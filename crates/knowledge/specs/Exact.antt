-- 02, request 4: "In a sound record a minute is then known busy exactly when it is busy in every shift that fits the record, and known quiet exactly when it
-- is quiet in all of them; both are to be shown." The shifts are demand 3's: they may run past M.
use Rattle.std.specs.Prelude.{ℕ, ◌≡◌, Bool, true, false, ◌↔◌}
use Rattle.kleene.specs.Truth.{unknown, true3, false3}
use Rattle.policy.specs.declared.Sizes.{Sizes}
use Rattle.knowledge.specs.Trace.{Trace, time_point}
use Rattle.knowledge.specs.Knowledge.{Knowledge, Agrees, KnownPoint, KnownNone, point_known}

-- minute t is busy (b is true) or quiet (b is false) "in every shift that fits the record"
abbrev pub InAll : (z : Sizes) → Knowledge → ℕ → Bool → Type 0
InAll z k t b = (w : Trace z) → Agrees z w k → time_point z w t ≡ b

-- and in one of them
abbrev pub InSome : (z : Sizes) → Knowledge → ℕ → Bool → Type 0
InSome z k t b = (w : Trace z) × Agrees z w k × (time_point z w t ≡ b)

pub record ExactPoints (z : Sizes) (k : Knowledge) (t : ℕ) : Type 0 where
  -- "a minute is then known busy exactly when it is busy in every shift that fits the record"
  pub busy : KnownPoint z k t ↔ InAll z k t true
  -- "and known quiet exactly when it is quiet in all of them"
  pub quiet : KnownNone z k t ↔ InAll z k t false
  -- so what is read of the minute is what all of them say; an open minute is busy in one and quiet in another
  pub read_busy : (point_known z k t ≡ true3) ↔ InAll z k t true
  pub read_quiet : (point_known z k t ≡ false3) ↔ InAll z k t false
  pub open_minute : (point_known z k t ≡ unknown) ↔ (InSome z k t true × InSome z k t false)
