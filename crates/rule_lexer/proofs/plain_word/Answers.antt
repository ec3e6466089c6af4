-- The word stands there, or part of it. Assumes nothing.
use Rattle.std.proofs.lemmas.Result.{err_from_is_err_and}
use Rattle.rule_text.proofs.Terms.{word_refused, word_done}
use Rattle.rule_lexer.proofs.plain_word.Goals as goal

pub returns-in_err-end : goal.returns-in_err-end
returns-in_err-end c = let p = err_from_is_err_and c.from_residual.result c.from_residual.ensures.1 in rw (p.1, p.2) (word_refused _ _ _ _ _ c.word_at.ensures _ c.in_err-end.was)

pub returns : goal.returns
returns c = word_done _ _ _ _ _ c.word_at.ensures _ c.in_ok-end.was
