-- A verdict that the knowledge gives is the plain two-valued one in every trace that agrees: the reading is decided, and so says what the two-valued one says.
use Rattle.std.specs.Prelude.{ℕ, ◌<◌, ◌≡◌, refl, Bool, true, false, ◌↔◌, ◌≢◌}
use Rattle.std.proofs.Common.{sym, ◌∙◌, true≢false}
use Rattle.kleene.specs.Truth.{Truth, unknown, true3, false3, code_of}
use Rattle.mtl.specs.Algebra.{two}
use Rattle.mtl.specs.Reading.{reading}
use Rattle.mtl.specs.Knowing.{Settles, open3, is_true, is_false}
use Rattle.mtl.proofs.Knowing.{reading_decides}
use Rattle.mtl.proofs.Textbook.{textbook}
use Rattle.mtl.specs.Textbook.{Holds}
use Rattle.policy.specs.declared.Policy.{Policy}
use Rattle.policy.specs.Proper.{formula_at}
use Rattle.knowledge.specs.Trace.{Trace, time_point, trace_world}
use Rattle.knowledge.specs.Knowledge.{Knowledge, noted, Agrees, is_point, world}
use Rattle.knowledge.proofs.Laws.{point_law}
use Rattle.knowledge.proofs.Worlds.{point_so, world_so}
use Rattle.valuation.specs.Sheets.{value, verdict}
use Rattle.monitor.specs.Demands.{rule_line, Plain, kept, broken}
use Rattle.demands.proofs.Keeping.{verdict_point}

-- a verdict that is shown is the plain one, where the three-valued reading says what the two-valued one says
plain_of : (p : Policy) (w : Trace p.sizes) (r t : ℕ) (a : Truth) (b : Bool) → Settles a b → code_of a ≢ 0 → time_point p.sizes w t ≡ true
    → (b ≡ true) ↔ Holds (time_point p.sizes w) w.value (formula_at p) (rule_line p r) t → Plain p w r t (code_of a)
plain_of p w r t unknown b open3 n e h = absurd (n refl)
plain_of p w r t true3 true is_true n e h = kept e (h.0 refl)
plain_of p w r t true3 false x5 n e h = elim x5 [ ]
plain_of p w r t false3 true x6 n e h = elim x6 [ ]
plain_of p w r t false3 false is_false n e h = broken e (λ z. true≢false (sym (h.1 z)))

module _ (p : Policy) (k : Knowledge) (marked : (i t : ℕ) → t < p.sizes.minutes → noted k i t ≡ true → i < p.sizes.propositions) where
  pub plain_verdict : (r t : ℕ) → verdict p k r t ≢ 0 → (w : Trace p.sizes) → Agrees p.sizes w k → Plain p w r t (verdict p k r t)
  plain_verdict r t n w g = rw (← z.1) plain
    where
      z : (is_point p.sizes k t ≡ true) × (code_of (value p k (rule_line p r) t) ≡ verdict p k r t)
      z = verdict_point p k r t (verdict p k r t) refl n

      plain : Plain p w r t (code_of (value p k (rule_line p r) t))
      plain =
          plain_of p w r t (value p k (rule_line p r) t) (reading two (trace_world p.sizes w) (formula_at p) (rule_line p r) t)
          (reading_decides (world p.sizes k) (trace_world p.sizes w) (world_so p.sizes w k g marked) (formula_at p) (rule_line p r) t)
          (λ q. n (sym z.1 ∙ q))
          (point_so p.sizes w k g t ((point_law p.sizes k t).0 z.0))
          (textbook (time_point p.sizes w) w.value (formula_at p) (rule_line p r) t)
