-- Each way through the checks answers what the definition does (`Encoding`). Assumes nothing.
use Rattle.std.proofs.Common.{sym, arith}
use Rattle.policy_codec.proofs.Encoding.{heading_refused, line_refused, rules_refused, short_refused, all_written}
use Rattle.policy_codec.proofs.encode.Goals as goal

pub returns-then-not-heading_good : goal.returns-then-not-heading_good
returns-then-not-heading_good c = heading_refused c.args.p c.args.out.now (sym c.if-not-heading_good.ensures)

pub returns-then-not-lines_good : goal.returns-then-not-lines_good
returns-then-not-lines_good c = let a = sym c.if-not-heading_good.ensures in
    line_refused c.args.p c.args.out.now (omega arith) a (sym c.if-not-lines_good.ensures)

pub returns-then-not-in_range : goal.returns-then-not-in_range
returns-then-not-in_range c = let a = sym c.if-not-heading_good.ensures in
    let b = sym c.if-not-lines_good.ensures in
    rules_refused c.args.p c.args.out.now (omega arith) a b _ c.rules_among.ensures (sym c.if-not-in_range.ensures)

pub returns-then-out-size : goal.returns-then-out-size
returns-then-out-size c = let a = sym c.if-not-heading_good.ensures in
    let b = sym c.if-not-lines_good.ensures in
    let r = sym c.if-not-in_range.ensures in
    short_refused c.args.p c.args.out.now (omega arith) a b _ c.rules_among.ensures r _ c.lines_size-size.ensures.0 c.if-out-size.true

pub returns : goal.returns
returns c = let a = sym c.if-not-heading_good.ensures in
    let b = sym c.if-not-lines_good.ensures in
    let r = sym c.if-not-in_range.ensures in
    all_written c.args.p c.args.out.now (omega arith) a b _ c.rules_among.ensures r _ c.lines_size-size.ensures.0 c.if-out-size.false _ _ _ c.put_heading.ensures c.put_lines.ensures
