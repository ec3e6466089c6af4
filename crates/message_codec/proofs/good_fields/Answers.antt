-- The tests are the conjuncts of `good_fields`, in its order. Assumes nothing.
use Rattle.message.specs.Format.{good_fields}
use Rattle.message_codec.proofs.good_fields.Goals as goal

pub returns : goal.returns
unfolding good_fields
returns c = rw (c.all_written-written.ensures, c.good_event-event.ensures)
