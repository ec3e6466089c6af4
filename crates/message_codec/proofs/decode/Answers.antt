-- Each return is the answer to its cause (`First`): the length tells the first, the rules the last two. Assumes nothing.
use Rattle.std.proofs.Common.{sym, ap, not, ◌∙◌}
use Rattle.message.specs.Format.{good_fields}
use Rattle.message.proofs.First.{answered, answer_early, answer_bad, answer_good}
use Rattle.message_codec.proofs.Reading.{told_none, told_some, accepted}
use Rattle.message_codec.proofs.decode.Goals as goal

pub returns-then-is_none : goal.returns-then-is_none
returns-then-is_none c =
    let a = c.args in
    let s = a.packet.now in
    sym (answered a.sizes s _ (answer_early a.sizes s (told_none s c.measure.ensures (c.is_none.ensures ∙ ap not c.if-is_none.true))))

pub fields_of-f-requires : goal.fields_of-f-requires
fields_of-f-requires c = told_some c.args.packet.now c.measure.ensures (c.is_none.ensures ∙ ap not c.if-is_none.false)

pub returns-then-not-good_fields : goal.returns-then-not-good_fields
returns-then-not-good_fields c =
    let a = c.args in
    let s = a.packet.now in
    let whole = told_some s c.measure.ensures (c.is_none.ensures ∙ ap not c.if-is_none.false) in
    sym (answered a.sizes s _ (answer_bad a.sizes s whole (ap (good_fields a.sizes) (sym c.fields_of-f.ensures) ∙ sym c.good_fields.ensures ∙ c.if-not-good_fields.true)))

pub returns : goal.returns
returns c =
    let a = c.args in
    let s = a.packet.now in
    let whole = told_some s c.measure.ensures (c.is_none.ensures ∙ ap not c.if-is_none.false) in
    accepted c.event_in.ensures c.fields_of-f.ensures
    ∙ sym (answered a.sizes s _ (answer_good a.sizes s whole (ap (good_fields a.sizes) (sym c.fields_of-f.ensures) ∙ sym c.good_fields.ensures ∙ c.if-not-good_fields.false)))
