-- Bit 4 picks the rules of its kind. Assumes nothing.
use mathlib.Core.Path.{sym, ◌∙◌}
use Rattle.message_codec.proofs.good_event.Goals as goal

pub returns-then-has : goal.returns-then-has
returns-then-has c = simp (sym c.has.ensures ∙ c.if-has.true, c.good_alive.ensures)

pub returns : goal.returns
returns c = simp (sym c.has.ensures ∙ c.if-has.false, c.good_observation.ensures)
