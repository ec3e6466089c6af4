-- The chain asks each line with its number (`Chains`). Assumes nothing.
use Rattle.std.proofs.Common.{rules, tests, sym, ◌∙◌}
use Rattle.std.proofs.lemmas.Iterator.{YieldsList-from_slice}
use Rattle.std.proofs.lemmas.Iterator.Consumers.{YieldsList-from_enumerate}
use Rattle.std.proofs.lemmas.Iterator.Search.{all_from_yields_List}
use Rattle.policy_codec.proofs.Chains.{numbered_good, all_good}
use Rattle.policy_codec.proofs.lines_good.Goals as goal

pub returns : goal.returns
returns c =
    let lines = c.args.lines.now in
    let m = c.args.propositions in
    all_from_yields_List (numbered_good m) _ _ _ c.all.ensures.ran (YieldsList-from_enumerate (YieldsList-from_slice lines cc) cc) (λ x b q k. search (rules, tests))
    ∙ sym (all_good lines m)
