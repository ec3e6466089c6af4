-- The map, and then the fields that are not 0, one after another. Assumes nothing.
use native.Mathlib.Omega.{arith}
use mathlib.Core.Path.{◌∙◌}
use native.Mathlib.Nat.{zero-add}
use Rattle.encoding.proofs.Putting.{byte_put, then_field}
use Rattle.message.specs.Text.{text_map}
use Rattle.message_codec.proofs.Writing.{fields_long, text_long}
use Rattle.message_codec.proofs.put_fields.Goals as goal

pub put-component-requires : goal.put-component-requires
put-component-requires c = omega (arith, text_long c.args.n, fields_long c.args.n, c.requires)

pub put_field-minute-requires : goal.put_field-minute-requires
put_field-minute-requires c = omega (arith, text_long c.args.n, fields_long c.args.n, c.requires, c.put-component.ensures.0)

pub put_field-number-requires : goal.put_field-number-requires
put_field-number-requires c = omega (arith, text_long c.args.n, fields_long c.args.n, c.requires, c.put-component.ensures.0, c.put_field-minute.ensures.0)

pub put_field-named-requires : goal.put_field-named-requires
put_field-named-requires c = omega (arith, text_long c.args.n, fields_long c.args.n, c.requires, c.put-component.ensures.0, c.put_field-minute.ensures.0, c.put_field-number.ensures.0)

pub put_field-requires : goal.put_field-requires
put_field-requires c = omega (arith, text_long c.args.n, fields_long c.args.n, c.requires, c.put-component.ensures.0, c.put_field-minute.ensures.0, c.put_field-number.ensures.0, c.put_field-named.ensures.0)

pub returns : goal.returns
returns c = let p = (then_field (then_field (then_field (then_field (byte_put c.args.out.now 0 _ (text_map c.args.n) _ _ c.text_map.ensures c.put-component.ensures) 1 c.args.n.component _ _ c.put_field-minute.ensures) 2 c.args.n.minute _ _ c.put_field-number.ensures) 2 c.args.n.number _ _ c.put_field-named.ensures) 4 c.args.n.named _ _ c.put_field.ensures) in (p.place ∙ zero-add _, p.stored)
