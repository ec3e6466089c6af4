-- Complete knowledge leaves no blanks: its world is complete, so that each line is decided as far as its reach allows. Nothing is asked of soundness: where
-- a minute is known to be a time point and known to be none, the first counts.
use Rattle.std.specs.Prelude.{ℕ, ◌<◌, ◌≡◌, refl, Bool, true, false, cond, ◌⊎◌, ◌≢◌, get_or}
use Rattle.std.proofs.Common.{arith, sym, ap, subst, ◌∙◌, inl, inr, lt-ltb}
use Rattle.std.proofs.lemmas.Bool.{false≢true}
use Rattle.kleene.specs.Truth.{Truth, unknown, true3, false3, code_of}
use Rattle.mtl.specs.Algebra.{three}
use Rattle.mtl.specs.Reading.{point}
use Rattle.mtl.specs.Syntax.{Proposes}
use Rattle.policy.specs.declared.Sizes.{Sizes}
use Rattle.policy.specs.declared.Policy.{Policy}
use Rattle.policy.specs.Proper.{Proper, formula_at, rules_of}
use Rattle.policy.proofs.RuleLines.{rule_below}
use Rattle.knowledge.specs.Knowledge.{Knowledge, says, noted, valued, KnownPoint, KnownNone, is_point, is_none, world}
use Rattle.knowledge.proofs.Laws.{point_law, none_law}
use Rattle.knowledge.proofs.Window.{window}
use Rattle.valuation.specs.Sheets.{value}
use Rattle.reach.specs.Decided.{Decided, it_is, it_is_not, CompleteWorld}
use Rattle.reach.proofs.Decided.{decided_within}
use Rattle.completeness.specs.Complete.{Complete, Named, NoBlanks}

decided_code : {x : Truth} → Decided x → code_of x ≢ 0
decided_code it_is e = omega arith
decided_code it_is_not e = omega arith

-- what is known of a minute, and of a fact
says_decided : (p q : Bool) → (p ≡ true) ⊎ (q ≡ true) → Decided (says p q)
says_decided true q h = it_is
says_decided false true h = it_is_not
says_decided false false (inl e) = absurd (false≢true e)
says_decided false false (inr e) = absurd (false≢true e)

fact_decided : (b v : Bool) → b ≡ true → Decided (cond b (cond v true3 false3) unknown)
fact_decided true true e = it_is
fact_decided true false e = it_is_not
fact_decided false v e = absurd (false≢true e)

says_point : (p q : Bool) → says p q ≡ true3 → p ≡ true
says_point true q e = refl
says_point false true e = absurd (omega (arith, ap code_of e))
says_point false false e = absurd (omega (arith, ap code_of e))

-- the first premise is the stronger one
pub for_fewer : (z : Sizes) (P Q : ℕ → Type 0) (k : Knowledge) → ((i : ℕ) → Q i → P i) → Complete z P k → Complete z Q k
for_fewer z P Q k f c = record { minutes = c.minutes; propositions = λ i t l q h b. c.propositions i t l (f i q) h b }

module _ (p : Policy) (proper : Proper p) (k : Knowledge) (c : Complete p.sizes (Named p) k) where
  -- a proposition that a line names is one of the policy's
  in_policy : (i : ℕ) → Named p i → i < p.sizes.propositions
  in_policy i n = subst (Proposes p.sizes.propositions) n.names (proper.proposes n.line)

  complete_world : CompleteWorld (world p.sizes k) p.sizes.minutes (Named p)
  complete_world = record {
    seen_all = λ t h. lt-ltb t p.sizes.minutes h;
    points = λ t h. says_decided (is_point p.sizes k t) (is_none p.sizes k t) (tested t (c.minutes t h));
    propositions = λ i t n h e.
        fact_decided (noted k i t) (valued k i t)
        (c.propositions i t (in_policy i n) n h ((point_law p.sizes k t).0 (says_point (is_point p.sizes k t) (is_none p.sizes k t) e)));
  }
    where
      tested : (t : ℕ) → KnownPoint p.sizes k t ⊎ KnownNone p.sizes k t → (is_point p.sizes k t ≡ true) ⊎ (is_none p.sizes k t ≡ true)
      tested t (inl b) = inl ((point_law p.sizes k t).1 b)
      tested t (inr q) = inr ((none_law p.sizes k t).1 q)

  pub no_blanks : NoBlanks p k
  no_blanks r t l b h e =
      let is : is_point p.sizes k t ≡ true = (point_law p.sizes k t).1 b in
      let here : point three (world p.sizes k) t ≡ true3 =
      (window p.sizes k).point_inside t (omega arith) ∙ ap (λ (x : Bool). says x (is_none p.sizes k t)) is in
      decided_code
      (decided_within (world p.sizes k) p.sizes.minutes (Named p) complete_world (formula_at p) proper.earlier p.count
      (λ l i u q. record { line = l; is_line = u; names = q }) (get_or (rules_of p) r 0) (rule_below p.subformulas p.count r (omega (arith, proper.rules_counted))) t h here)
      (sym (ap (λ (x : Bool). cond x (code_of (value p k (get_or (rules_of p) r 0) t)) 0) is) ∙ e)
