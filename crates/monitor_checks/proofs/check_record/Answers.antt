-- The checks of the sizes answer first; then the state was opened under the policy or not, and then the record is sound or not.
-- Assumes nothing.
use Rattle.std.proofs.Common.{ℕ, List, sym, ◌∙◌}
use Rattle.std.proofs.lemmas.Result.{err_from_is_err_and}
use Rattle.origin.specs.Origin.{stamped}
use Rattle.monitor.specs.State.{State, lent}
use Rattle.monitor.proofs.Laws.{knowledge_sized}
use Rattle.monitor_checks.proofs.Checking.{limits, sizes_read, sizes_passed, policy_short, record_refused, record_other, record_corrupt, record_fine}
use Rattle.monitor_checks.proofs.check_record.Goals as goal

abbrev state : List ℕ → List ℕ → List ℕ → List ℕ → List ℕ → ℕ → State
state numbers facts valuation verdicts origin extent = lent numbers facts valuation verdicts (stamped origin extent)

pub returns-in_err-p : goal.returns-in_err-p
returns-in_err-p c =
    let q = err_from_is_err_and c.from_residual.result c.from_residual.ensures.1 in
    rw (q.1, q.2) (record_refused c.args.policy.now (state c.args.numbers.now c.args.facts.now c.args.valuation.now c.args.verdicts.now c.args.origin.now c.args.extent) _ c.in_err-p.ensures)

pub returns-then-not-own : goal.returns-then-not-own
returns-then-not-own c =
    let s = c.args.policy.now in
    let x = state c.args.numbers.now c.args.facts.now c.args.valuation.now c.args.verdicts.now c.args.origin.now c.args.extent in
    let e = c.in_ok-p.ensures in
    record_other s x _ e (sym (c.is_of-own.ensures (policy_short s x _ e) (sizes_passed s x _ e).origin) ∙ c.if-not-own.true)

pub is_sound-requires : goal.is_sound-requires
is_sound-requires c =
    let s = c.args.policy.now in
    let x = state c.args.numbers.now c.args.facts.now c.args.valuation.now c.args.verdicts.now c.args.origin.now c.args.extent in
    let e = c.in_ok-p.ensures in
    (limits _ (sizes_read s x _ e).proper, knowledge_sized _ (sizes_passed s x _ e).sheets)

pub returns-then-not-is_sound : goal.returns-then-not-is_sound
returns-then-not-is_sound c =
    let s = c.args.policy.now in
    let x = state c.args.numbers.now c.args.facts.now c.args.valuation.now c.args.verdicts.now c.args.origin.now c.args.extent in
    let e = c.in_ok-p.ensures in
    let own = sym (c.is_of-own.ensures (policy_short s x _ e) (sizes_passed s x _ e).origin) ∙ c.if-not-own.false in
    record_corrupt s x _ e own (sym c.is_sound.ensures ∙ c.if-not-is_sound.true)

pub returns : goal.returns
returns c =
    let s = c.args.policy.now in
    let x = state c.args.numbers.now c.args.facts.now c.args.valuation.now c.args.verdicts.now c.args.origin.now c.args.extent in
    let e = c.in_ok-p.ensures in
    let own = sym (c.is_of-own.ensures (policy_short s x _ e) (sizes_passed s x _ e).origin) ∙ c.if-not-own.false in
    record_fine s x _ e own (sym c.is_sound.ensures ∙ c.if-not-is_sound.false)
