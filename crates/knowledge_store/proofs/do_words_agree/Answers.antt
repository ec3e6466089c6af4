-- `knowledge_store::do_words_agree` meets its contract: the masked difference is 0 just where no bit of it stands.
-- Assumes nothing.
use native.Mathlib.Omega.{arith}
use Rattle.knowledge_store.proofs.Words.{words_mask}
use Rattle.knowledge_store.proofs.do_words_agree.Goals as goal

pub returns : goal.returns
returns c =
    let x = c.args in
    words_mask x.known x.old x.named x.values (omega arith) (omega arith) (omega arith) (omega arith)
