-- Another length or another start answers no; else what stands behind the policy's bytes decides. Assumes nothing.
use Rattle.std.proofs.Common.{length, sym, ◌∙◌, eqb-true, arith}
use Rattle.std.proofs.lemmas.Bool.{false≢true}
use Rattle.std.proofs.lemmas.Slice.{between_to_end}
use Rattle.std.proofs.lemmas.Slice.Eq.{slice_eq-Decides}
use Rattle.std.proofs.lemmas.Bool.Decides.{Decides-eqb}
use Rattle.origin.proofs.Comparing.{all_zero, other_length, other_start, by_rest}
use Rattle.origin.proofs.is_of.Goals as goal
use Rattle.origin.proofs.is_of.Goals.{then-extent-policy, else-extent-policy}

pub returns-then-starts_with : goal.returns-then-starts_with
returns-then-starts_with c =
    let a = c.args in
    elim c.if-extent-policy.branch [
      | then-extent-policy w ↦ λ l e.
          let start = slice_eq-Decides Decides-eqb _ _ _ w.starts_with.ensures.value in
          let rest = between_to_end a.origin.now (length a.policy.now) (length a.origin.now) (omega arith) in
          c.is_zero.ensures
          ∙ by_rest a.policy.now a.origin.now a.extent l e _ _ w.if-extent-policy.true (start.0 (sym w.value-is ∙ c.if-starts_with.true)) rest (all_zero _)
      | else-extent-policy w ↦ absurd (w.if-extent-policy.false (eqb-true _ _ (sym w.value-is ∙ c.if-starts_with.true)))
    ]

pub returns-else-starts_with : goal.returns-else-starts_with
returns-else-starts_with c =
    let a = c.args in
    elim c.if-extent-policy.branch [
      | then-extent-policy w ↦ λ l e.
          let start = slice_eq-Decides Decides-eqb _ _ _ w.starts_with.ensures.value in
          c.if-starts_with.false
          ∙ other_start a.policy.now a.origin.now a.extent l e (λ q. false≢true (sym c.if-starts_with.false ∙ w.value-is ∙ start.1 q))
      | else-extent-policy w ↦ λ l e. c.if-starts_with.false ∙ other_length a.policy.now a.origin.now a.extent l e w.if-extent-policy.false
    ]
