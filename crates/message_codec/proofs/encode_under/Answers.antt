-- Each way through the checks answers what the definition does (`Writing`). Assumes nothing.
use native.Mathlib.Omega.{arith}
use Rattle.std.proofs.Common.{sym}
use Rattle.message_codec.proofs.Writing.{bad_refused, short_refused, all_written}
use Rattle.message_codec.proofs.encode_under.Goals as goal

pub returns-then-not-numbers_good : goal.returns-then-not-numbers_good
returns-then-not-numbers_good c = bad_refused c.args.sizes c.args.n c.args.out.now (sym c.if-not-numbers_good.ensures)

pub returns-then-out-size : goal.returns-then-out-size
returns-then-out-size c = short_refused c.args.sizes c.args.n c.args.out.now (sym c.if-not-numbers_good.ensures) _ c.text_size-size.ensures.0 c.if-out-size.true

pub put_text-requires : goal.put_text-requires
put_text-requires c = omega (arith, c.text_size-size.ensures.0, c.if-out-size.false)

pub returns : goal.returns
returns c = all_written c.args.sizes c.args.n c.args.out.now (sym c.if-not-numbers_good.ensures) _ c.text_size-size.ensures.0 (omega (arith, c.if-out-size.false)) _ c.put_text.ensures
