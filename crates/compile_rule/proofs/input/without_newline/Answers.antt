-- What `strip_suffix` tests and leaves is a text and its line end. Assumes nothing.
use Rattle.compile_rule.proofs.Line.{kept, stripped}
use Rattle.compile_rule.proofs.input.without_newline.Goals as goal

pub returns-in-Some : goal.returns-in-Some
returns-in-Some c =
    let line = c.in-Some.ensures.cases in
    let rest = stripped c.args.text.now c.in-Some.line c.strip_suffix-in-Some.result line.0 (record { is = line.1; less = line.2 }) c.strip_suffix-in-Some.ensures.cases in
    rw c.unwrap_or.ensures rest

pub returns-in-None : goal.returns-in-None
returns-in-None c = kept c.args.text.now c.in-None.ensures.cases
