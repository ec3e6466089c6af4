-- Which minutes are known busy and known quiet (02, request 4), proved: of a sound record in the crate knowledge, and from there of demand 3's lists.
-- Assumes nothing.
use Rattle.std.specs.Prelude.{ℕ, ◌<◌, ◌≡◌, Bool, ◌↔◌, Ok}
use Rattle.std.proofs.Common.{sym, subst}
use mathlib.Core.List.{List, Memᴰ}
use Rattle.policy.specs.Format.{policy_of}
use Rattle.policy.proofs.Laws.{accepted as policy_proper}
use Rattle.knowledge.specs.Trace.{Trace, AdmitsAll, time_point}
use Rattle.knowledge.specs.Exact.{InAll, ExactPoints}
use Rattle.knowledge.proofs.Exact.{exact_points}
use Rattle.origin.specs.Origin.{origin_of}
use Rattle.monitor.specs.State.{State, open_state, run_calls, Call, after, accepted_from, accepted}
use Rattle.monitor.specs.Demands.{sizes_of, TimePoints}
use Rattle.demands.proofs.Invariant.{KeptUp}
use Rattle.demands.proofs.Keeping.{agrees_law}
use Rattle.demands.proofs.Runs.{start}
use Rattle.demands.proofs.Proved.{opens, ranged}

module _ (s : List ℕ) (x : State) (d : (open_state s x).answer ≡ Ok tt) (cs : List Call) where
  pub up : KeptUp (policy_of s) (origin_of s) (after s x cs) (λ m. Memᴰ m (accepted s x cs))
  up =
      let o = opens s x d in
      subst (λ (y : State). KeptUp (policy_of s) (origin_of s) (run_calls s y cs) (λ m. Memᴰ m (accepted_from s y cs))) (sym o.state)
      (start s o.card (policy_proper s o.card) (ranged s o.card) cs)

  -- the shifts that fit the record are those that could have sent the slips accepted
  in_all : (t : ℕ) (b : Bool)
      → InAll (sizes_of s) (after s x cs).known t b
      ↔ ((w : Trace (sizes_of s)) → AdmitsAll (sizes_of s) w (accepted s x cs) → time_point (sizes_of s) w t ≡ b)
  in_all t b = (λ h w a. h w ((agrees_law (policy_of s) (origin_of s) _ _ up w).1 a), λ h w g. h w ((agrees_law (policy_of s) (origin_of s) _ _ up w).0 g))

  exactly : (t : ℕ) → t < (sizes_of s).minutes → ExactPoints (sizes_of s) (after s x cs).known t
  exactly t h = exact_points (sizes_of s) (after s x cs).known up.exact.sound t h

-- one equivalence after another
then : {A B C : Type 0} → A ↔ B → B ↔ C → A ↔ C
then f g = (λ a. g.0 (f.0 a), λ c. f.1 (g.1 c))

pub time_points : TimePoints
time_points = record {
  of_record = exact_points;
  busy = λ s x d cs t h. then (exactly s x d cs t h).busy (in_all s x d cs t _);
  quiet = λ s x d cs t h. then (exactly s x d cs t h).quiet (in_all s x d cs t _);
}
