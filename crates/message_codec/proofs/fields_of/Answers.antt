-- In a whole message every field that its map writes lies inside (`Inside`), and each is read at its own place. Assumes nothing.
use Rattle.message.specs.Format.{fields_of, component_of, minute_of, number_of, packed_of}
use Rattle.message_codec.proofs.Reading.{inside, named_found}
use Rattle.message_codec.proofs.fields_of.Goals as goal

pub bounds-s-0 : goal.bounds-s-0
bounds-s-0 c = (inside c.args.s.now c.requires).map_in

pub read8-component-requires : goal.read8-component-requires
read8-component-requires c = rw c.has.ensures (inside c.args.s.now c.requires).component_in

pub read16-minute-requires : goal.read16-minute-requires
read16-minute-requires c = rw (c.has-2.ensures, c.minute_at.ensures.0) (inside c.args.s.now c.requires).minute_in

pub read16-number-requires : goal.read16-number-requires
read16-number-requires c = rw (c.has-3.ensures, c.number_at.ensures.0) (inside c.args.s.now c.requires).number_in

pub read32-named-requires : goal.read32-named-requires
read32-named-requires c = rw (c.has-4.ensures, c.named_at.ensures.0) (inside c.args.s.now c.requires).named_in

pub packed_at-packed-requires : goal.packed_at-packed-requires
packed_at-packed-requires c =
    let s = c.args.s.now in
    let named = named_found s c.read32-named.ensures c.has-4.ensures c.named_at.ensures.0 in
    rw (c.values_at.ensures.0, c.value_bytes.ensures.0, named) (inside s c.requires).values_in

pub returns : goal.returns
unfolding fields_of component_of minute_of number_of packed_of
returns c =
    let s = c.args.s.now in
    let named = named_found s c.read32-named.ensures c.has-4.ensures c.named_at.ensures.0 in
    simp (
      c.packed_at-packed.ensures,
      c.values_at.ensures.0,
      c.value_bytes.ensures.0,
      named,
      c.read16-number.ensures,
      c.number_at.ensures.0,
      c.has-3.ensures,
      c.read16-minute.ensures,
      c.minute_at.ensures.0,
      c.has-2.ensures,
      c.read8-component.ensures,
      c.has.ensures,
    )
