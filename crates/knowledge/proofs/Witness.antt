-- Sound knowledge has a trace that agrees with it: each component makes the observations of its largest count, up to M.
use Rattle.std.specs.Prelude.{ℕ, zero, suc, ◌+◌, ◌≤◌, ◌<◌, ◌≡◌, refl, Bool, cond, ◌&&◌, ltb}
use Rattle.std.proofs.Common.{arith, ap, ap₂, ◌∙◌, lt-ltb, le-ltb}
use Rattle.policy.specs.declared.Sizes.{Sizes}
use Rattle.knowledge.specs.Trace.{tally, Trace}
use Rattle.knowledge.specs.Knowledge.{Knowledge, valued, number, Sound, Agrees}
use Rattle.knowledge.specs.Counts.{counted, Through, largest}
use Rattle.knowledge.proofs.Counts.{tally_counted, largest_through}

-- observations from minute m on do not show before it
tally_cut : (e : ℕ → Bool) (m p : ℕ) → p ≤ m → tally (λ t. ltb t m && e t) p ≡ tally e p
tally_cut e m zero h = refl
tally_cut e m (suc p) h = ap₂ ◌+◌ (ap (λ (x : Bool). cond (x && e p) 1 0) (lt-ltb p m h)) (tally_cut e m p (omega arith))

module _ (z : Sizes) (k : Knowledge) where
  -- the trace of a count for each component, with the values of the knowledge
  abbrev pub trace_of : (ℕ → ℕ → ℕ) → Trace z
  trace_of g = record {
    observes = λ c t. ltb t z.minutes && counted (g c) t;
    value = valued k;
    end = z.minutes;
    ended = λ c t l h. ap (λ (x : Bool). x && counted (g c) t) (le-ltb t z.minutes h);
  }

  pub trace_agrees : (g : ℕ → ℕ → ℕ) → ((c : ℕ) → c < z.components → Through (number z k c) z.minutes (g c)) → Agrees z (trace_of g) k
  trace_agrees g h = record {
    numbers = λ c p l i n. tally_cut (counted (g c)) z.minutes p i ∙ tally_counted (g c) (h c l).count p ∙ (h c l).there p i n;
    facts = λ i t l h e. refl;
  }

  pub agreed : Sound z k → (w : Trace z) × Agrees z w k
  agreed s = (_, trace_agrees (λ c. largest (number z k c) z.minutes) (λ c l. largest_through (number z k c) z.minutes (s.runs c l)))
