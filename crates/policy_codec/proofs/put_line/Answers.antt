-- The map, and then the fields that are not 0, one after another. Assumes nothing.
use Rattle.encoding.proofs.Putting.{byte_put, then_field}
use Rattle.policy.specs.Text.{line_text}
use Rattle.policy_codec.proofs.put_line.Goals as goal

pub returns : goal.returns
unfolding line_text
returns c =
    let kind = byte_put _ _ _ _ _ _ c.line_map.ensures c.put-kind.ensures in
    let first = then_field kind 1 _ _ _ c.put_field-first.ensures in
    let second = then_field first 1 _ _ _ c.put_field-second.ensures in
    let lower = then_field second 1 _ _ _ c.put_field-lower.ensures in
    let upper = then_field lower 2 _ _ _ c.put_field-upper.ensures in
    let all = then_field upper 2 _ _ _ c.put_field.ensures in
    (all.place, all.stored)
