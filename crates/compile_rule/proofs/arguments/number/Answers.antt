-- The test and the fold are those of the definition. Assumes nothing.
use Rattle.std.proofs.Common.{◌≡◌, rules}
use Rattle.std.specs.List.{fold, list_all}
use Rattle.std.proofs.lemmas.Iterator.{YieldsList-from_slice}
use Rattle.std.proofs.lemmas.Iterator.Search.{all_from_yields_List}
use Rattle.compile_rule.specs.Choices.{digit}
use Rattle.compile_rule.specs.Arguments.{with_digit}
use Rattle.compile_rule.proofs.Numbered.{numbered_by}
use Rattle.compile_rule.proofs.arguments.number.Goals as goal

pub returns : goal.returns
unfolding digit
returns c =
    let digits = c.args.digits.now in
    let value : c.fold-value.result ≡ fold with_digit 0 digits = search rules in
    let whole : c.all.result ≡ list_all digit digits = all_from_yields_List digit _ _ _ c.all.ensures.ran (YieldsList-from_slice digits cc) (λ x b q k. search rules) in
    rw (c.then_some.ensures, c.is_empty.ensures, value, whole) (numbered_by digits)
