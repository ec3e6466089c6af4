-- Each return is a law of `Descent`. Assumes nothing.
use Rattle.std.proofs.Common.{sym, ◌∙◌, arith}
use Rattle.std.proofs.lemmas.Result.{err_from_is_err_and}
use Rattle.rule_text.proofs.Descent.{leaf_cut, leaf_true, leaf_other, leaf_no_number, leaf_far, leaf_mark}
use Rattle.rule_parser.proofs.Source.leaf.Goals as goal

pub returns-in_err-end-in-116 : goal.returns-in_err-end-in-116
returns-in_err-end-in-116 c =
    let p = err_from_is_err_and c.from_residual.result c.from_residual.ensures.1 in
    rw (p.1, p.2) (leaf_cut _ _ _ _ _ c.told-fields c.requires (sym c.byte_at.ensures ∙ c.in-116.is) _ c.word_at.ensures _ c.in_err-end-in-116.was)

pub returns-in_ok-end-in-116 : goal.returns-in_ok-end-in-116
returns-in_ok-end-in-116 c =
    leaf_true _ _ _ _ _ c.told-fields c.requires (sym c.byte_at.ensures ∙ c.in-116.is) _ c.word_at.ensures _ _ _ c.in_ok-end-in-116.was c.set_line.ensures c.line.ensures

pub returns-then-number-first : goal.returns-then-number-first
returns-then-number-first c = leaf_no_number _ _ _ _ _ c.told-fields c.requires (sym c.byte_at.ensures ∙ c.in-109.is) _ _ c.number_at-number.ensures c.if-number-first.true

pub returns-then-self-number : goal.returns-then-self-number
returns-then-self-number c = leaf_far _ _ _ _ _ c.told-fields c.requires (sym c.byte_at.ensures ∙ c.in-109.is) _ _ c.number_at-number.ensures c.if-number-first.false c.if-self-number.true

pub returns-else-self-number : goal.returns-else-self-number
returns-else-self-number c =
    leaf_mark _ _ _ _ _ c.told-fields c.requires (sym c.byte_at.ensures ∙ c.in-109.is) _ _ _ _ c.number_at-number.ensures c.if-number-first.false c.if-self-number.false c.args.self.now.few c.set_line-in-109.ensures c.line-in-109.ensures

pub returns-in_default : goal.returns-in_default
returns-in_default c = leaf_other _ _ _ _ _ c.told-fields c.requires (λ e. omega (arith, c.byte_at.ensures)) (λ e. omega (arith, c.byte_at.ensures))
