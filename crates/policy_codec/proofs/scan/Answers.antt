-- Invariant: the first i lines are accepted and read (`UpTo`). A line that fails refuses all, since the answer of the lines keeps its first refusal. Assumes nothing.
use Rattle.policy_codec.proofs.Lines.{nothing_read, cut, bad, one_line, refused_lines, read_lines}
use native.Mathlib.Numerals.{add-one}
use native.Mathlib.Omega.{arith}
use mathlib.Core.Path.{◌≡◌, sym}
use Prim.Native.Nat.{◌<◌}
use Rattle.policy_codec.proofs.scan.Goals as goal

pub loop-i-init : goal.loop-i-init
loop-i-init c = nothing_read _ c.requires.0

pub returns-then-not-is_whole : goal.returns-then-not-is_whole
returns-then-not-is_whole c = let l = c.loop-i in
    let short = sym c.if-not-is_whole.ensures in
    refused_lines _ _ _ (cut c.args.s.now l.i _ _ l.at l.invariant _ c.loop-i-test.true short)

pub returns-then-not-good_line : goal.returns-then-not-good_line
returns-then-not-good_line c = let l = c.loop-i in
    let whole = sym c.if-not-is_whole.ensures in
    let broken = sym c.if-not-good_line.ensures in
    refused_lines _ _ _ (bad c.args.s.now l.i l.subformulas l.rules l.at l.invariant _ c.fields_at-fields.ensures whole _ c.loop-i-test.true broken)

pub loop-i-preserved : goal.loop-i-preserved
loop-i-preserved c = let l = c.loop-i in
    let whole = sym c.if-not-is_whole.ensures in
    let good = sym c.if-not-good_line.ensures in
    let small : l.i < 64 = omega (arith, c.requires.1) in
    rw add-one
    (one_line c.args.s.now l.i l.subformulas l.rules l.at l.invariant _ c.fields_at-fields.ensures whole small good
    c.subformula_of.ensures c.field_size-rules.ensures c.line_length-at.ensures.0)

pub returns : goal.returns
returns c = let e : c.loop-i.i ≡ c.args.count = omega arith in read_lines _ _ _ _ _ (rw (← e) c.loop-i.invariant)
