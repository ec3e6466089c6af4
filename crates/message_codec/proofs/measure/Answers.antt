-- The bytes up to the values give the length, and where they are not all there the message is longer than what is there. Assumes nothing.
use Rattle.std.specs.Prelude.{Some}
use mathlib.Core.Path.{ap, sym, ◌∙◌}
use Rattle.std.proofs.Common.{eqb-true}
use native.Mathlib.Omega.{arith}
use Rattle.message_codec.proofs.Reading.{named_found, length_found, length_more, ends_early, is_whole}
use Rattle.message_codec.proofs.measure.Goals as goal

pub returns-then-is_empty : goal.returns-then-is_empty
returns-then-is_empty c = let s = c.args.s.now in let e = eqb-true _ _ (sym c.is_empty.ensures ∙ c.if-is_empty.true) in ends_early s (omega (arith, e, length_more s))

pub returns-then-s-values : goal.returns-then-s-values
returns-then-s-values c = let s = c.args.s.now in ends_early s (omega (arith, length_more s))

pub read32-named-requires : goal.read32-named-requires
read32-named-requires c = rw (c.has.ensures, c.named_at.ensures.0) (omega arith)

pub returns-then-s-whole : goal.returns-then-s-whole
returns-then-s-whole c =
    let s = c.args.s.now in
    let named = named_found s c.read32-named.ensures c.has.ensures c.named_at.ensures.0 in
    let e = length_found s c.values_at-values.ensures.0 c.value_bytes.ensures.0 named in
    ends_early s (omega (arith, e))

pub returns : goal.returns
returns c =
    let s = c.args.s.now in
    let named = named_found s c.read32-named.ensures c.has.ensures c.named_at.ensures.0 in
    let e = length_found s c.values_at-values.ensures.0 c.value_bytes.ensures.0 named in
    ap Some e ∙ is_whole s (omega (arith, e))
