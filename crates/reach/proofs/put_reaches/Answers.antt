-- Invariant: the reaches of the rules among the first i lines are written. Assumes nothing.
use Rattle.std.proofs.Common.{◌≡◌, ◌+◌, arith}
use Rattle.reach.proofs.Putting.{none_yet, no_rule, rule_few, rule_fits, one_rule, renamed, all_lines}
use Rattle.reach.proofs.put_reaches.Goals as goal
use Rattle.reach.proofs.put_reaches.Goals.{then-policy-i, else-policy-i}

pub loop-i-init : goal.loop-i-init
loop-i-init c = none_yet _ _

pub offset_bounds-out-at : goal.offset_bounds-out-at
offset_bounds-out-at c = let f = rule_few _ _ _ _ _ c.loop-i.invariant c.requires.0 c.loop-i-test.true c.if-policy-i.true c.requires.1 in omega arith

pub bounds-out-at : goal.bounds-out-at
bounds-out-at c = rule_fits _ _ _ _ _ c.loop-i.invariant c.requires.0 c.loop-i-test.true c.if-policy-i.true c.requires.1

pub overflow_add-at : goal.overflow_add-at
overflow_add-at c = let f = rule_few _ _ _ _ _ c.loop-i.invariant c.requires.0 c.loop-i-test.true c.if-policy-i.true c.requires.1 in omega arith

pub loop-i-preserved : goal.loop-i-preserved
loop-i-preserved c =
    let p = c.args.policy in
    let old = c.args.out.now in
    let l = c.loop-i in
    let step = c.if-policy-i in
    elim step.branch [
      | then-policy-i w ↦ renamed p old _ step.out (l.i + 1) (l.at + 1) step.at w.out-is w.at-is
          (one_rule p old l.out l.i l.at l.invariant c.requires.0 c.loop-i-test.true w.if-policy-i.true c.requires.1 _ (c.requires.2 l.i c.loop-i-test.true))
      | else-policy-i w ↦ renamed p old l.out step.out (l.i + 1) l.at step.at w.out-is w.at-is (no_rule p old l.out l.i l.at l.invariant w.if-policy-i.false)
    ]

pub returns : goal.returns
returns c = let last : c.loop-i.i ≡ c.args.policy.count = omega arith in all_lines _ _ _ _ _ c.requires.0 c.requires.1 last c.loop-i.invariant
