-- 01: a shift. "A shift gives every station a set of minutes and every mark a truth value at every minute; it may run any finite number of
-- minutes past M."
use Rattle.std.specs.Prelude.{ℕ, zero, suc, ◌+◌, ◌≤◌, ◌<◌, ◌≡◌, Bool, false, cond}
use mathlib.Core.List.{List, Memᴰ}
use Rattle.mtl.specs.Algebra.{two, any}
use Rattle.mtl.specs.Reading.{World}
use Rattle.mtl.specs.Textbook.{plain}
use Rattle.policy.specs.declared.Sizes.{Sizes}
use Rattle.message.specs.Fixes.{FixesNumber, FixesFact}
use Rattle.message.specs.declared.Message.{Message}

pub record Trace (z : Sizes) : Type 0 where
  -- does the component (01: station) make an observation in the minute
  pub observes : ℕ → ℕ → Bool
  -- the proposition's (01: mark's) value at the minute
  pub value : ℕ → ℕ → Bool
  pub end : ℕ
  pub ended : (c t : ℕ) → c < z.components → end ≤ t → observes c t ≡ false

-- how many of the first p minutes e has
abbrev pub tally : (ℕ → Bool) → ℕ → ℕ
tally e zero = 0
tally e (suc p) = cond (e p) 1 0 + tally e p

module _ (z : Sizes) where
  -- "Its count at minute t is the number of its observations up to and including t; before minute 0 it is 0": place p counts the first p
  -- minutes, so place 0 stands for "before minute 0" and place t + 1 for minute t
  abbrev pub made : Trace z → ℕ → ℕ → ℕ
  made w c p = tally (w.observes c) p

  -- the trace agrees with everything that the message fixes
  pub record Admits (w : Trace z) (m : Message) : Type 0 where
    pub numbers : (p n : ℕ) → FixesNumber m.event p n → made w m.component p ≡ n
    pub facts : (i t : ℕ) (b : Bool) → FixesFact m.event i t b → w.value i t ≡ b

  -- "A shift could have sent a list of slips if it agrees with everything that each of them fixes"
  abbrev pub AdmitsAll : Trace z → List Message → Type 0
  AdmitsAll w ms = (m : Message) → Memᴰ m ms → Admits w m

  -- "A minute is busy in a shift if at least one station made an observation in it"
  abbrev pub time_point : Trace z → ℕ → Bool
  time_point w t = any two 0 z.components (λ c. w.observes c t)

  -- the two-valued world: "e and marks Boolean, from M on too, and no busy minute after its end"
  abbrev pub trace_world : Trace z → World Bool
  trace_world w = plain (time_point w) w.value
