-- The word stands there, or part of it; then its interval. Assumes nothing.
use Rattle.std.proofs.Common.{sym, ◌∙◌, arith}
use Rattle.std.proofs.lemmas.Result.{err_from_is_err_and}
use Rattle.rule_text.proofs.Terms.{timed_cut, timed_refused, narrow, no_space, timed_done}
use Rattle.rule_lexer.proofs.timed_word.Goals as goal

pub returns-in_err-end : goal.returns-in_err-end
returns-in_err-end c = let p = err_from_is_err_and c.from_residual.result c.from_residual.ensures.1 in rw (p.1, p.2) (timed_cut _ _ _ _ _ c.word_at.ensures _ c.in_err-end.was)

pub returns-in_err-bounds : goal.returns-in_err-bounds
returns-in_err-bounds c =
    let p = err_from_is_err_and c.from_residual-in_err-bounds.result c.from_residual-in_err-bounds.ensures.1 in
    rw (p.1, p.2) (timed_refused _ _ _ _ _ c.word_at.ensures _ c.in_ok-end.was _ c.interval_at.ensures _ c.in_err-bounds.was)

pub returns-then-byte_at-ne32 : goal.returns-then-byte_at-ne32
returns-then-byte_at-ne32 c = no_space _ _ _ _ _ c.word_at.ensures _ c.in_ok-end.was _ c.interval_at.ensures _ c.in_ok-bounds.was (λ e. c.if-byte_at-ne32.true (c.byte_at.ensures ∙ e))

pub overflow_cast-result : goal.overflow_cast-result
overflow_cast-result c = omega (arith, (narrow _ _ _ _ c.interval_at.ensures c.in_ok-bounds.was).0)

pub overflow_cast-result-2 : goal.overflow_cast-result-2
overflow_cast-result-2 c = omega (arith, (narrow _ _ _ _ c.interval_at.ensures c.in_ok-bounds.was).1)

pub returns : goal.returns
returns c = timed_done _ _ _ _ _ c.word_at.ensures _ c.in_ok-end.was _ c.interval_at.ensures _ c.in_ok-bounds.was (sym c.byte_at.ensures ∙ c.if-byte_at-ne32.false)
