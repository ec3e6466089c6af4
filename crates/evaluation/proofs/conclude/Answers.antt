-- `evaluation::conclude` meets its contract. The invariant of its loop: the verdicts of the rules among the first i lines are written and counted.
-- Assumes nothing.
use mathlib.Core.Path.{◌≡◌, sym, ap, ◌∙◌}
use mathlib.Core.List.{◌++◌}
use Prim.Native.Nat.{ℕ, ◌+◌, ◌-◌, ◌*◌, ◌≤◌}
use native.Mathlib.Omega.{arith}
use borrow.Author.Rules.{rules}
use lib.ListN.{length, take, drop, length-take, length-drop}
use Rattle.evaluation.proofs.Work.{given_back}
use Rattle.evaluation.proofs.Standing.{standing_le}
use Rattle.evaluation.proofs.Concluding.{none_yet, no_rule, rule_fits, renamed, one_rule, all_lines}
use Rattle.evaluation.proofs.conclude.Goals as goal
use Rattle.evaluation.proofs.conclude.Goals.{then-policy-i, else-policy-i}

pub loop-i-init : goal.loop-i-init
loop-i-init c = none_yet _ _ _ _

pub overflow_add-end : goal.overflow_add-end
overflow_add-end c =
    let pre = c.requires in
    let done = c.loop-i.invariant in
    let room = rule_fits _ _ _ _ _ _ _ _ done pre.0 c.loop-i-test.true c.if-policy-i.true (omega (arith, done.long, pre.2)) in
    omega (arith, room)

pub slice_bounds-verdict_row-end-then-policy-i-2 : goal.slice_bounds-verdict_row-end-then-policy-i-2
slice_bounds-verdict_row-end-then-policy-i-2 c =
    let pre = c.requires in
    let done = c.loop-i.invariant in
    let room = rule_fits _ _ _ _ _ _ _ _ done pre.0 c.loop-i-test.true c.if-policy-i.true (omega (arith, done.long, pre.2)) in
    search rules

pub overflow_add-total : goal.overflow_add-total
overflow_add-total c =
    let m = c.args.policy.sizes.minutes in
    let pre = c.requires in
    let done = c.loop-i.invariant in
    let at = c.loop-i.at in
    let room = rule_fits _ _ _ _ _ _ _ _ done pre.0 c.loop-i-test.true c.if-policy-i.true (omega (arith, done.long, pre.2)) in
    let v = c.verdict_row-total in
    let part : length (take (at + m - at) (drop at c.loop-i.verdicts)) ≤ m = simp (length-take, length-drop) (omega arith) in
    omega (arith, room, done.few, v.ensures.counted, standing_le v.new.verdicts, v.ensures.written.long, part)

pub loop-i-preserved : goal.loop-i-preserved
loop-i-preserved c =
    let p = c.args.policy in
    let m = p.sizes.minutes in
    let pre = c.requires in
    let done = c.loop-i.invariant in
    let i = c.loop-i.i in
    let at = c.loop-i.at in
    let new = c.loop-i.verdicts in
    let valuation = c.args.valuation.now in
    let n : at + m - at ≡ m = omega arith in
    let f : i * m + m - i * m ≡ m = omega arith in
    elim c.if-policy-i.branch [
      | then-policy-i w ↦
          let v = w.verdict_row-total in
          let run = v.new.verdicts in
          renamed p _ valuation _ (take at new ++ (run ++ drop (at + m) new)) _ (i + 1) _ _ (at + m) _
          (w.verdicts-is ∙ sym (given_back at m new run)) w.total-is w.at-is
          (one_rule p _ valuation _ new i _ at done pre.0 c.loop-i-test.true w.if-policy-i.true (omega (arith, done.long, pre.2)) _ _ run v.result
          (ap (λ (k : ℕ). take k (drop (i * m) valuation)) f) (ap (λ (k : ℕ). take k (drop at new)) n) v.ensures)
      | else-policy-i w ↦
          renamed p _ valuation _ new _ (i + 1) _ _ _ _ w.verdicts-is w.total-is w.at-is
          (no_rule p _ valuation _ new i _ at done w.if-policy-i.false)
    ]

pub returns : goal.returns
returns c k q v =
    let last : c.loop-i.i ≡ c.args.policy.count = omega arith in
    all_lines _ _ _ _ _ _ _ _ c.requires.0 c.requires.2 last c.loop-i.invariant k q v
