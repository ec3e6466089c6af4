-- A shift that runs past M may decide a rule below it: under U, "mark 0 within the next minute", with a false mark at the busy minute 3, the last one.
-- In one shift that could have sent this slip an observation at minute 4 has the mark true, and the rule is kept at minute 3; in another there is
-- none, and it is broken. So the sheet shows blank.
use Rattle.std.specs.Prelude.{◌≡◌, true}
use mathlib.Core.List.{[], ◌∷◌}
use Rattle.policy.specs.Format.{policy_of}
use Rattle.knowledge.specs.Trace.{Trace, AdmitsAll}
use Rattle.monitor.specs.State.{State, Receive, after, accepted}
use Rattle.monitor.specs.Demands.{sizes_of, shown, Plain}
use Rattle.demands.specs.Small.{U, false_at_3}

pub record PastTheLastMinute (y : State) : Type 0 where
  pub one : Trace (sizes_of U)
  pub other : Trace (sizes_of U)
  -- M is 4
  pub minutes : (sizes_of U).minutes ≡ 4
  pub past : one.observes 0 4 ≡ true
  -- both could have sent what was accepted
  pub one_admits : AdmitsAll (sizes_of U) one (accepted U y (Receive false_at_3 ∷ []))
  pub other_admits : AdmitsAll (sizes_of U) other (accepted U y (Receive false_at_3 ∷ []))
  pub one_kept : Plain (policy_of U) one 0 3 1
  pub other_broken : Plain (policy_of U) other 0 3 2
  pub blank : shown (policy_of U) (after U y (Receive false_at_3 ∷ [])) 0 3 ≡ 0
