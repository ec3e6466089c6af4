-- The ")" decides. Assumes nothing.
use Rattle.std.proofs.Common.{ap, ℕ, false, ◌-◌, sym, ◌∙◌}
use Rattle.line_table.specs.Table.{set_line}
use Rattle.policy.specs.Text.{numbered}
use Rattle.rule_text.proofs.Laws.{kind_is}
use Rattle.rule_text.proofs.Descent.{closed_not, closed_read}
use Rattle.rule_parser.proofs.Source.close.Goals as goal

pub returns-then-byte_at-ne41 : goal.returns-then-byte_at-ne41
returns-then-byte_at-ne41 c = closed_not _ _ _ _ _ c.told-fields (λ e. c.if-byte_at-ne41.true (c.byte_at.ensures ∙ e))

pub returns : goal.returns
returns c = closed_read _ _ _ _ _ c.told-fields _ (c.requires.0, c.requires.1) (sym c.byte_at.ensures ∙ c.if-byte_at-ne41.false)
    (c.set_line.ensures ∙ ap (λ (n : ℕ). set_line c.args.fields.now c.args.right.lines (numbered n (c.args.left - 1) (c.args.right.lines - 1) c.args.joint.lower c.args.joint.upper false)) (kind_is c.args.joint.kind))
