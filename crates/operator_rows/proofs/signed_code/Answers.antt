-- `operator_rows::signed_code` meets its contract: a value is known by the thresholds that it reaches. Assumes nothing.
use mathlib.Core.Path.{sym, ap, ◌∙◌}
use Prim.Native.Nat.{ℕ}
use mathlib.Core.Bool.{Bool}
use borrow.Author.Tests.{leb-true, leb-false}
use Rattle.kleene.specs.Truth.{Truth, code_of}
use Rattle.kleene.specs.Rank.{rank_of}
use Rattle.kleene.proofs.Rank.{reaches_true, reaches_unknown, reaches_none}
use Rattle.kleene.specs.Tests.{literal}
use Rattle.kleene.proofs.Tests.{known_true, known_false, known_open}
use Rattle.operator_rows.proofs.signed_code.Goals as goal

abbrev signed : Bool → Truth → ℕ
signed negated x = code_of (literal negated x)

pub returns-then-sure : goal.returns-then-sure
returns-then-sure c x s m =
    let n = c.args.negated in
    c.known-yes.ensures ∙ known_true n ∙ sym (ap (signed n) (reaches_true x (leb-true 2 (rank_of x) (sym s ∙ c.if-sure.true))))

pub returns-then-may : goal.returns-then-may
returns-then-may c x s m =
    let n = c.args.negated in
    known_open n ∙ sym (ap (signed n) (reaches_unknown x (leb-false 2 (rank_of x) (sym s ∙ c.if-sure.false)) (leb-true 1 (rank_of x) (sym m ∙ c.if-may.true))))

pub returns : goal.returns
returns c x s m =
    let n = c.args.negated in
    c.known-no.ensures ∙ known_false n ∙ sym (ap (signed n) (reaches_none x (leb-false 1 (rank_of x) (sym m ∙ c.if-may.false))))
