-- Each turn one line more is stored (`Put`). Assumes nothing.
use Rattle.rule_text.proofs.Descent.{put_none, put_one, put_all, negated_read}
use Rattle.rule_parser.proofs.negated.Goals as goal

pub loop-i-init : goal.loop-i-init
loop-i-init c = put_none _ _ _ c.told-fields

pub loop-i-preserved : goal.loop-i-preserved
loop-i-preserved c = put_one _ _ _ _ _ _ _ c.loop-i.invariant c.requires.0 c.requires.1 c.loop-i-test.true c.line.ensures c.set_line.ensures

pub returns : goal.returns
returns c = negated_read _ _ _ _ (put_all _ _ _ _ _ c.loop-i.invariant c.loop-i-test.false)
