-- Each turn one "not " more has been read (`Negations`). Assumes nothing.
use mathlib.Core.Path.{sym, ◌∙◌}
use Rattle.std.proofs.lemmas.Result.{err_from_is_err_and}
use Rattle.rule_text.proofs.Descent.{nots_start, nots_many, nots_read, nots_cut, nots_next}
use native.Mathlib.Omega.{arith}
use Rattle.rule_lexer.proofs.nots_at.Goals as goal

pub loop-count-init : goal.loop-count-init
loop-count-init c = nots_start _ _ _ c.requires

pub returns-then-byte_at-ne110 : goal.returns-then-byte_at-ne110
returns-then-byte_at-ne110 c = nots_read _ _ _ _ _ c.loop-count.invariant (omega (arith, c.loop-count-test.true)) (λ e. c.if-byte_at-ne110.true (c.byte_at.ensures ∙ e))

pub returns-in_err-place : goal.returns-in_err-place
returns-in_err-place c =
    let p = err_from_is_err_and c.from_residual.result c.from_residual.ensures.1 in
    rw (p.1, p.2) (nots_cut _ _ _ _ _ c.loop-count.invariant (omega (arith, c.loop-count-test.true)) (sym c.byte_at.ensures ∙ c.if-byte_at-ne110.false) _ c.word_at.ensures _ c.in_err-place.was)

pub loop-count-preserved : goal.loop-count-preserved
loop-count-preserved c = nots_next _ _ _ _ _ c.loop-count.invariant (omega (arith, c.loop-count-test.true)) (sym c.byte_at.ensures ∙ c.if-byte_at-ne110.false) _ c.word_at.ensures _ c.in_ok-place.was

pub returns : goal.returns
returns c = nots_many _ _ _ _ _ c.loop-count.invariant (omega (arith, c.loop-count-test.false))
