-- The first byte that is no digit is where `position` finds it, or the bytes' end. Assumes nothing.
use Rattle.std.proofs.Common.{◌≡◌, true, false, rules}
use Rattle.std.proofs.lemmas.Iterator.{IsFirst-from_position, YieldsList-from_slice}
use Rattle.compile_rule.specs.Choices.{digit}
use Rattle.compile_rule.proofs.Words.{digits_stop}
use Rattle.compile_rule.proofs.excess.digits_end.Goals as goal

pub returns : goal.returns
unfolding digit
returns c =
    let text = c.args.text.now in
    let first = IsFirst-from_position _ _ _ (λ x. digit x ≡ false) (λ x. digit x ≡ true) c.position-end.ensures.ran (YieldsList-from_slice text cc) (λ x q k. search rules) (λ x q k. search rules) in
    rw c.unwrap_or.ensures (digits_stop text c.position-end.result first)
