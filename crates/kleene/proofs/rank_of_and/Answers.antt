-- `kleene::rank_of_and` meets its contract: its two tests are of whether `not x or not y` is true and whether it is false. Assumes nothing.
use Prim.Native.Nat.{ℕ}
use mathlib.Core.Path.{◌≡◌, ap₂, ◌∙◌}
use mathlib.Core.Bool.{Bool, false, not, ◌&&◌, ◌||◌}
use lib.Dec.{eqb}
use Rattle.kleene.specs.Truth.{Truth, value_of, not3, or3}
use Rattle.kleene.specs.Rank.{rank_of}
use Rattle.kleene.specs.Tests.{known_code, literal, says}
use Rattle.kleene.proofs.Tests.{not_says, or_says, says_true, says_false, says_neither}
use Rattle.kleene.proofs.rank_of_and.Goals as goal

abbrev either_not : Bool → ℕ → ℕ → Truth
either_not negated x y = or3 (not3 (value_of x)) (not3 (literal negated (value_of y)))

abbrev rank : Truth → ℕ
rank v = rank_of (not3 v)

rule : (negated : Bool) (x y n z : ℕ) → n ≡ known_code negated → z ≡ known_code (not negated)
    → either_not negated x y ≡ says (eqb x 2 || eqb y n) (eqb x 1 && eqb y z)
rule negated x y n z p q = rw (p, q) (ap₂ or3 (not_says false x) (not_says negated y) ∙ or_says _ _ _ _)

pub returns-then-x-y : goal.returns-then-x-y
unfolding rank_of
returns-then-x-y c =
    let x = c.args in
    says_true rank (either_not x.negated x.x x.y) _ _
    (rule x.negated x.x x.y _ _ c.known-no.ensures c.known-yes.ensures) c.if-x-y.true

pub returns-then-x-y-2 : goal.returns-then-x-y-2
unfolding rank_of
returns-then-x-y-2 c =
    let x = c.args in
    says_false rank (either_not x.negated x.x x.y) _ _
    (rule x.negated x.x x.y _ _ c.known-no.ensures c.known-yes.ensures) c.if-x-y.false c.if-x-y-2.true

pub returns : goal.returns
unfolding rank_of
returns c =
    let x = c.args in
    says_neither rank (either_not x.negated x.x x.y) _ _
    (rule x.negated x.x x.y _ _ c.known-no.ensures c.known-yes.ensures) c.if-x-y.false c.if-x-y-2.false
