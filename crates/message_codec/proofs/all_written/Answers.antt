-- The tests are the conjuncts of `all_written`, in its order; each bit of the map is the one that the definition names. Assumes nothing.
use Rattle.message.specs.Format.{all_written}
use Rattle.message_codec.proofs.all_written.Goals as goal

pub returns : goal.returns
unfolding all_written
returns c =
    rw (
      c.is_written-component.ensures,
      c.has.ensures,
      c.is_written-minute.ensures,
      c.has-2.ensures,
      c.is_written-number.ensures,
      c.has-3.ensures,
      c.is_written-named.ensures,
      c.has-4.ensures,
    )
