-- The nesting falls from a term to a group in it; each return is a law of `Descent`. Assumes nothing.
use Rattle.std.proofs.Common.{sym, ◌∙◌, arith}
use Rattle.std.proofs.lemmas.Result.{err_from_is_err_and}
use Rattle.rule_text.proofs.Descent.{term_refused, run_few, term_nested, leaf_refused, leaf_grown, term_leaf, group_refused, group_grown, term_group, group_left, left_grown, group_word, group_right, right_grown, group_read}
use Rattle.rule_parser.proofs.Source.+group_term.Goals as goal

pub group-returns-in_err-left : goal.group-returns-in_err-left
group-returns-in_err-left t c =
    let p = err_from_is_err_and c.from_residual.result c.from_residual.ensures.1 in
    rw (p.1, p.2) (group_left _ _ _ _ _ _ _ _ _ c.term.ensures _ c.in_err-left.was)

pub group-returns-in_err-joint : goal.group-returns-in_err-joint
group-returns-in_err-joint t c =
    let p = err_from_is_err_and c.from_residual-in_err-joint.result c.from_residual-in_err-joint.ensures.1 in
    rw (p.1, p.2) (group_word _ _ _ _ _ _ _ _ _ c.term.ensures _ c.in_ok-left.was _ c.joint_at.ensures _ c.in_err-joint.was)

pub group-term-requires-2 : goal.group-term-requires-2
group-term-requires-2 t c =
    let g = left_grown _ _ _ _ _ _ _ _ _ c.term.ensures _ c.in_ok-left.was in
    (omega (arith, c.decreases), g.1)

pub group-returns-in_err-right : goal.group-returns-in_err-right
group-returns-in_err-right t c =
    let p = err_from_is_err_and c.from_residual-in_err-right.result c.from_residual-in_err-right.ensures.1 in
    rw (p.1, p.2) (group_right _ _ _ _ _ _ _ _ _ c.term.ensures _ c.in_ok-left.was _ c.joint_at.ensures _ c.in_ok-joint.was _ _ c.term-2.ensures _ c.in_err-right.was)

pub group-close-requires : goal.group-close-requires
group-close-requires t c =
    let g = left_grown _ _ _ _ _ _ _ _ _ c.term.ensures _ c.in_ok-left.was in
    let r = right_grown _ _ _ _ _ _ _ _ _ c.term.ensures _ c.in_ok-left.was _ c.joint_at.ensures _ c.in_ok-joint.was _ _ c.term-2.ensures _ c.in_ok-right.was in
    (omega (arith, r.0), omega (arith, r.1), omega (arith, g.0), omega (arith, g.1))

pub group-returns : goal.group-returns
group-returns t c =
    group_read _ _ _ _ _ _ _ _ _ c.term.ensures _ c.in_ok-left.was _ c.joint_at.ensures _ c.in_ok-joint.was _ _ c.term-2.ensures _ c.in_ok-right.was _ _ c.close.ensures

pub term-returns-in_err-nots : goal.term-returns-in_err-nots
term-returns-in_err-nots t c =
    let p = err_from_is_err_and c.from_residual.result c.from_residual.ensures.1 in
    rw (p.1, p.2) (term_refused _ _ _ _ _ _ _ c.told-fields _ c.nots_at.ensures _ c.in_err-nots.was)

pub term-leaf-requires : goal.term-leaf-requires
term-leaf-requires t c =
    omega (arith, (run_few _ _ _ _ _ c.nots_at.ensures c.in_ok-nots.was).0)

pub term-returns-in_err-leaf : goal.term-returns-in_err-leaf
term-returns-in_err-leaf t c =
    let p = err_from_is_err_and c.from_residual-in_err-leaf.result c.from_residual-in_err-leaf.ensures.1 in
    rw (p.1, p.2) (leaf_refused _ _ _ _ _ _ _ c.told-fields _ c.nots_at.ensures _ c.in_ok-nots.was _ _ (λ e. c.if-byte_at-ne40.true (c.byte_at.ensures ∙ e)) c.leaf.ensures _ c.in_err-leaf.was)

pub term-negated-requires : goal.term-negated-requires
term-negated-requires t c =
    let g = leaf_grown _ _ _ _ _ c.args.nesting _ c.told-fields _ c.nots_at.ensures _ c.in_ok-nots.was _ _ (λ e. c.if-byte_at-ne40.true (c.byte_at.ensures ∙ e)) c.leaf.ensures _ c.in_ok-leaf.was in
    (omega (arith, g.0), omega (arith, g.1))

pub term-returns-then-byte_at-ne40 : goal.term-returns-then-byte_at-ne40
term-returns-then-byte_at-ne40 t c =
    term_leaf _ _ _ _ _ _ _ c.told-fields _ c.nots_at.ensures _ c.in_ok-nots.was _ _ (λ e. c.if-byte_at-ne40.true (c.byte_at.ensures ∙ e)) c.leaf.ensures _ c.in_ok-leaf.was _ _ c.negated.ensures

pub term-returns-then-nesting-eq0 : goal.term-returns-then-nesting-eq0
term-returns-then-nesting-eq0 t c =
    term_nested _ _ _ _ _ _ _ c.told-fields _ c.nots_at.ensures _ c.in_ok-nots.was (sym c.byte_at.ensures ∙ c.if-byte_at-ne40.false) c.if-nesting-eq0.true

pub term-overflow_add-around : goal.term-overflow_add-around
term-overflow_add-around t c =
    omega (arith, (run_few _ _ _ _ _ c.nots_at.ensures c.in_ok-nots.was).0)

pub term-group-requires : goal.term-group-requires
term-group-requires t c =
    (omega (arith, c.decreases, c.if-nesting-eq0.false), omega (arith, (run_few _ _ _ _ _ c.nots_at.ensures c.in_ok-nots.was).0))

pub term-returns-in_err-group : goal.term-returns-in_err-group
term-returns-in_err-group t c =
    let p = err_from_is_err_and c.from_residual-in_err-group.result c.from_residual-in_err-group.ensures.1 in
    rw (p.1, p.2) (group_refused _ _ _ _ _ _ _ c.told-fields _ c.nots_at.ensures _ c.in_ok-nots.was _ _ (sym c.byte_at.ensures ∙ c.if-byte_at-ne40.false) c.if-nesting-eq0.false c.group.ensures _ c.in_err-group.was)

pub term-negated-requires-2 : goal.term-negated-requires-2
term-negated-requires-2 t c =
    let g = group_grown _ _ _ _ _ _ _ c.told-fields _ c.nots_at.ensures _ c.in_ok-nots.was _ _ (sym c.byte_at.ensures ∙ c.if-byte_at-ne40.false) c.if-nesting-eq0.false c.group.ensures _ c.in_ok-group.was in
    (omega (arith, g.0), omega (arith, g.1))

pub term-returns : goal.term-returns
term-returns t c =
    term_group _ _ _ _ _ _ _ c.told-fields _ c.nots_at.ensures _ c.in_ok-nots.was _ _ (sym c.byte_at.ensures ∙ c.if-byte_at-ne40.false) c.if-nesting-eq0.false c.group.ensures _ c.in_ok-group.was _ _ c.negated-2.ensures
