-- The map, the fields that are not 0, and the value bytes. Assumes nothing.
use native.Mathlib.Omega.{arith}
use Rattle.message_codec.proofs.Writing.{fields_long, text_long}
use Rattle.message_codec.proofs.text_size.Goals as goal

pub returns : goal.returns
returns c = let n = c.args.n in omega (arith, text_long n, fields_long n, c.field_length-component.ensures, c.field_length-minute.ensures, c.field_length-number.ensures, c.field_length-named.ensures, c.value_bytes.ensures)
