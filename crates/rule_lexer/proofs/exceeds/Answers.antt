-- By length, else by the first digit that differs. Assumes nothing.
use Rattle.std.proofs.Common.{arith, refl, sym, ap, ap₂, ◌∙◌, length, ltb}
use Rattle.std.proofs.lemmas.Bool.Decides.{nat_tests}
use Rattle.std.proofs.lemmas.Cmp.{same_from_slice_cmp_tested}
use Rattle.std.specs.Ordering.{nat_cmp, is_lt}
use Rattle.rule_text.proofs.Laws.{before, by_length, by_digits}
use Rattle.rule_lexer.proofs.exceeds.Goals as goal

pub returns-then-first-second : goal.returns-then-first-second
returns-then-first-second c = λ x y f g. let h = same_from_slice_cmp_tested nat_cmp is_lt before refl (λ _ _. refl) (λ _ _. refl) (λ x y xs ys o h. grind (arith, nat_tests)) c.args.second.now c.args.first.now c.lt.result c.lt.ensures in
    h ∙ ap₂ before g f ∙ by_digits x y (sym (ap length f) ∙ c.if-first-second.true ∙ ap length g)

pub returns : goal.returns
returns c = λ x y f g. ap₂ (λ u w. ltb (length u) (length w)) g f ∙ by_length x y (λ e. c.if-first-second.false (ap length f ∙ e ∙ sym (ap length g)))
