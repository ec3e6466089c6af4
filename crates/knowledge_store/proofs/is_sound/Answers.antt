-- `knowledge_store::is_sound` meets its contract: the definition is the runs' part and then the words'. Assumes nothing.
use mathlib.Core.Path.{sym, ◌∙◌}
use Rattle.counter_runs.proofs.Parts.{sound_fails, sound_words}
use Rattle.knowledge_store.proofs.is_sound.Goals as goal

pub returns-then-are_steady : goal.returns-then-are_steady
returns-then-are_steady c =
    let x = c.args in
    c.are_facts_sound.ensures ∙ sym (sound_words x.sizes x.numbers.now x.facts.now (sym c.are_steady.ensures ∙ c.if-are_steady.true))

pub returns-else-are_steady : goal.returns-else-are_steady
returns-else-are_steady c =
    let x = c.args in
    c.if-are_steady.false ∙ sym (sound_fails x.sizes x.numbers.now x.facts.now (sym c.are_steady.ensures ∙ c.if-are_steady.false))
