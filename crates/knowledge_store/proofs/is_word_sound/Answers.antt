-- `knowledge_store::is_word_sound` meets its contract: the values lie among the known, and a word below 2 ^ p has digits below p only.
-- Assumes nothing.
use mathlib.Core.Path.{sym, ap, ◌∙◌}
use Prim.Native.Nat.{ℕ}
use native.Mathlib.Omega.{arith}
use lib.Dec.{ltb}
use borrow.Author.Tests.{ne_eqb}
use Rattle.knowledge_store.proofs.Words.{word_fails, word_limit}
use Rattle.knowledge_store.proofs.is_word_sound.Goals as goal

pub returns-then-known-values : goal.returns-then-known-values
returns-then-known-values c p e =
    let x = c.args in
    ap (λ (n : ℕ). ltb x.known n) e ∙ word_limit p x.known x.values (omega arith) (omega arith) c.if-known-values.true

pub returns-else-known-values : goal.returns-else-known-values
returns-else-known-values c p e =
    let x = c.args in
    ne_eqb _ _ c.if-known-values.false ∙ sym (word_fails p x.known x.values (omega arith) (omega arith) c.if-known-values.false)
