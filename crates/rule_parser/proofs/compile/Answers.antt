-- Each return is a law of `Writing`. Assumes nothing.
use Rattle.std.proofs.Common.{sym, ◌∙◌}
use Rattle.std.proofs.lemmas.Result.{err_from_is_err_and}
use Rattle.rule_text.proofs.Writing.{compiled_bad, compiled_refused, read_count, compiled_read, encoded_with}
use Rattle.rule_parser.proofs.compile.Goals as goal

pub returns-then-not-heading_good : goal.returns-then-not-heading_good
returns-then-not-heading_good c = compiled_bad _ _ _ _ _ (sym c.heading_good.ensures ∙ c.if-not-heading_good.true)

pub rule_lines-requires : goal.rule_lines-requires
rule_lines-requires c = read_count _ _ _ _ _ c.rule.ensures c.in_ok-end.was

pub returns-in_err-end : goal.returns-in_err-end
returns-in_err-end c =
    let p = err_from_is_err_and c.from_residual.result c.from_residual.ensures.1 in
    rw (p.1, p.2) (compiled_refused _ _ _ _ _ _ _ _ (sym c.heading_good.ensures ∙ c.if-not-heading_good.false) c.rule.ensures c.in_err-end.was)

pub returns : goal.returns
returns c = compiled_read _ _ _ _ _ _ _ _ c.rule.ensures c.in_ok-end.was _ (sym c.heading_good.ensures ∙ c.if-not-heading_good.false) (encoded_with _ _ _ _ _ _ _ _ c.rule_lines.ensures c.encode.ensures)
