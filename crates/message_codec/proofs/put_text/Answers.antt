-- The values stand behind the fields (`Writing`). Assumes nothing.
use native.Mathlib.Omega.{arith}
use Rattle.message_codec.proofs.Writing.{text_long, values_put}
use Rattle.message_codec.proofs.put_text.Goals as goal

pub put_bytes-requires : goal.put_bytes-requires
put_bytes-requires c = omega (arith, text_long c.args.n, c.requires, c.put_fields-values.ensures.0, c.value_bytes.ensures.0)

pub returns : goal.returns
returns c = values_put c.args.n _ _ _ _ _ _ _ c.requires c.put_fields-values.ensures c.value_bytes.ensures.0 c.gather-packed.ensures c.put_bytes.ensures
