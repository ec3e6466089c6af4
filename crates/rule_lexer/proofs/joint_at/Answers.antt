-- Each word is told by its first byte. Assumes nothing.
use mathlib.Core.Path.{refl, sym, ◌∙◌}
use Rattle.rule_grammar.specs.Term.{Or, And, Since, Until}
use Rattle.policy.specs.declared.LineKind.TheVariants as K
use Rattle.rule_text.proofs.Terms.{joint_no_space, no_joint, plain_joint, timed_joint}
use native.Mathlib.Omega.{arith}
use Rattle.rule_lexer.proofs.joint_at.Goals as goal

pub returns-then-byte_at-ne32 : goal.returns-then-byte_at-ne32
returns-then-byte_at-ne32 c = joint_no_space _ _ (λ e. c.if-byte_at-ne32.true (c.byte_at.ensures ∙ e))

pub returns-in-111 : goal.returns-in-111
returns-in-111 c = plain_joint _ _ (sym c.byte_at.ensures ∙ c.if-byte_at-ne32.false) 111 (sym c.byte_at-2.ensures ∙ c.in-111.is) refl (omega arith) Or _ K.Or _ (λ k. refl) refl (λ a b. refl) (refl, omega arith, (refl, omega arith, tt)) c.plain_word.ensures

pub returns-in-97 : goal.returns-in-97
returns-in-97 c = plain_joint _ _ (sym c.byte_at.ensures ∙ c.if-byte_at-ne32.false) 97 (sym c.byte_at-2.ensures ∙ c.in-97.is) refl (omega arith) And _ K.And _ (λ k. refl) refl (λ a b. refl) (refl, omega arith, (refl, omega arith, (refl, omega arith, tt))) c.plain_word-in-97.ensures

pub returns-in-115 : goal.returns-in-115
returns-in-115 c = timed_joint _ _ (sym c.byte_at.ensures ∙ c.if-byte_at-ne32.false) 115 (sym c.byte_at-2.ensures ∙ c.in-115.is) refl (omega arith) Since _ K.Since _ (λ k. refl) (λ x y. refl) (λ x y a b. refl) (refl, omega arith, (refl, omega arith, (refl, omega arith, (refl, omega arith, tt)))) c.timed_word.ensures

pub returns-in-117 : goal.returns-in-117
returns-in-117 c = timed_joint _ _ (sym c.byte_at.ensures ∙ c.if-byte_at-ne32.false) 117 (sym c.byte_at-2.ensures ∙ c.in-117.is) refl (omega arith) Until _ K.Until _ (λ k. refl) (λ x y. refl) (λ x y a b. refl) (refl, omega arith, (refl, omega arith, (refl, omega arith, (refl, omega arith, tt)))) c.timed_word-in-117.ensures

pub returns-in_default : goal.returns-in_default
returns-in_default c = no_joint _ _ (sym c.byte_at.ensures ∙ c.if-byte_at-ne32.false) (λ e. omega (arith, c.byte_at-2.ensures)) (λ e. omega (arith, c.byte_at-2.ensures)) (λ e. omega (arith, c.byte_at-2.ensures)) (λ e. omega (arith, c.byte_at-2.ensures))
