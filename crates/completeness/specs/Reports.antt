-- 02, request 8: "When all stations have reported". What each component (01: station) of a trace (01: shift) has to send: an observation that names the
-- propositions at each of its observations below M, and an alive at M.
use Rattle.std.specs.Prelude.{ℕ, ◌<◌, ◌≡◌, true, false}
use Rattle.policy.specs.declared.Sizes.{Sizes}
use Rattle.knowledge.specs.Trace.{Trace, time_point, Admits}
use Rattle.knowledge.specs.Knowledge.{Knowledge, KnownPoint, KnownNone}
use Rattle.completeness.specs.Complete.{Complete}
use Rattle.bits.specs.Bits.{bit}
use Rattle.message.specs.declared.Event.TheVariants.{Observation, Alive}
use Rattle.message.specs.declared.Message.{Message}

module _ (z : Sizes) (P : ℕ → Type 0) (w : Trace z) (Q : Message → Type 0) where
  -- a message of Q of component c, which the trace could have sent
  pub record Report (c : ℕ) : Type 0 where
    pub message : Message
    pub is_sent : Q message
    pub of_trace : Admits z w message
    pub of_component : message.component ≡ c

  -- an observation at minute t that names each proposition of P
  pub record Observed (c t : ℕ) : Type 0 where
    pub report : Report c
    pub number : ℕ
    pub named : ℕ
    pub values : ℕ
    pub is : report.message.event ≡ Observation t number named values
    pub names : (i : ℕ) → i < z.propositions → P i → bit named i ≡ true

  -- an alive at M
  pub record Closed (c : ℕ) : Type 0 where
    pub report : Report c
    pub number : ℕ
    pub is : report.message.event ≡ Alive z.minutes number

  pub record Reports : Type 0 where
    pub observations : (c t : ℕ) → c < z.components → t < z.minutes → w.observes c t ≡ true → Observed c t
    pub alives : (c : ℕ) → c < z.components → Closed c

-- what all of them have told: the record is complete, and each minute is known for what it is in the trace
pub record AllTold (z : Sizes) (P : ℕ → Type 0) (w : Trace z) (k : Knowledge) : Type 0 where
  pub complete : Complete z P k
  pub busy : (t : ℕ) → t < z.minutes → time_point z w t ≡ true → KnownPoint z k t
  pub quiet : (t : ℕ) → t < z.minutes → time_point z w t ≡ false → KnownNone z k t
