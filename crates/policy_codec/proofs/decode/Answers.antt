-- Each way out is one check of `answer_of`, with the checks before it passed (`Decoding`). Assumes nothing.
use Rattle.std.proofs.lemmas.Result.{err_from_is_err_and}
use Rattle.policy_codec.proofs.Decoding.{heading_cut, heading_refused, few_lines, lines_refused, closing_refused, accepts}
use Rattle.policy_codec.proofs.decode.Goals as goal

pub returns-then-length-lt-HEADING : goal.returns-then-length-lt-HEADING
returns-then-length-lt-HEADING c = heading_cut _ c.if-length-lt-HEADING.true

pub returns-in_err-heading_answer : goal.returns-in_err-heading_answer
returns-in_err-heading_answer c = let p = err_from_is_err_and c.from_residual.result c.from_residual.ensures.1 in
    rw (p.1, p.2) (heading_refused _ c.if-length-lt-HEADING.false _ c.in_err-heading_answer.ensures)

pub scan-requires : goal.scan-requires
scan-requires c = (c.if-length-lt-HEADING.false, few_lines _ c.if-length-lt-HEADING.false c.in_ok-heading_answer.ensures)

pub returns-in_err-lines : goal.returns-in_err-lines
returns-in_err-lines c = let p = err_from_is_err_and c.from_residual-in_err-lines.result c.from_residual-in_err-lines.ensures.1 in
    rw (p.1, p.2) (lines_refused _ c.if-length-lt-HEADING.false c.in_ok-heading_answer.ensures _ c.in_err-lines.ensures)

pub returns-in_err-closing_answer : goal.returns-in_err-closing_answer
returns-in_err-closing_answer c = let p = err_from_is_err_and c.from_residual-in_err-closing_answer.result c.from_residual-in_err-closing_answer.ensures.1 in
    rw (p.1, p.2) (closing_refused _ c.if-length-lt-HEADING.false c.in_ok-heading_answer.ensures _ c.in_ok-lines.ensures _ c.in_err-closing_answer.ensures)

pub returns : goal.returns
returns c = accepts _ c.if-length-lt-HEADING.false c.in_ok-heading_answer.ensures _ c.in_ok-lines.ensures c.in_ok-closing_answer.ensures _ c.sizes_of-sizes.ensures
