-- The message goes with the record or not; then it is stored.
-- Assumes nothing.
use Rattle.std.proofs.Common.{sym, ap₂, ◌∙◌, List, ℕ}
use Rattle.knowledge.specs.Run.{held}
use Rattle.monitor_calls.proofs.Storing.{store_conflict, store_taken}
use Rattle.monitor_calls.proofs.store_message.Goals as goal

pub returns-then-not-admits_message : goal.returns-then-not-admits_message
returns-then-not-admits_message c =
    let a = c.args in
    store_conflict a.sizes (held a.numbers.now a.facts.now) a.message (sym c.admits_message.ensures ∙ c.if-not-admits_message.true)

pub returns : goal.returns
returns c =
    let a = c.args in
    store_taken a.sizes (held a.numbers.now a.facts.now) a.message _ (sym c.admits_message.ensures ∙ c.if-not-admits_message.false)
    (ap₂ (λ (n f : List ℕ). held n f) c.store.ensures.stores_numbers c.store.ensures.stores_facts)
