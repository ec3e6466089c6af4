-- Bit 4 picks the kind, and the values are expanded as the definition has them. Assumes nothing.
use mathlib.Core.Path.{sym, ◌∙◌}
use Rattle.message.specs.Format.{event_in}
use Rattle.message_codec.proofs.event_in.Goals as goal

pub returns-then-has : goal.returns-then-has
unfolding event_in
returns-then-has c = simp (sym c.has.ensures ∙ c.if-has.true)

pub returns : goal.returns
unfolding event_in
returns c = simp (sym c.has.ensures ∙ c.if-has.false, c.expand-values.ensures)
