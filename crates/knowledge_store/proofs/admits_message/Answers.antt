-- `knowledge_store::admits_message` meets its contract: the answer is read from the component's own run and the minute's facts (`Own`).
-- Assumes nothing.
use mathlib.Core.Path.{sym, ap, subst, ◌∙◌}
use native.Mathlib.Omega.{arith}
use Rattle.message.specs.declared.Event.{Event}
use Rattle.message.specs.Fixes.{Fits}
use Rattle.knowledge.specs.Knowledge.{admits}
use Rattle.knowledge.specs.Run.{held, sent}
use Rattle.knowledge_store.proofs.Own.{own_long, own_steady, own_observation, own_alive}
use Rattle.knowledge_store.proofs.admits_message.Goals as goal

pub admits_observation-requires : goal.admits_observation-requires
admits_observation-requires c =
    let x = c.args in
    let fits : Fits x.sizes (sent x.message.component _) = subst (λ (v : Event). Fits x.sizes (sent x.message.component v)) c.in-Observation.is c.requires.3 in
    let n = own_long x.sizes x.numbers.now x.facts.now c.requires.1 c.requires.2 x.message.component c.requires.3.component_in in
    let f = c.requires.1.facts in
    let t = fits.event_in.0 in
    let o = fits.event_in.1 in
    (omega arith, own_steady x.sizes x.numbers.now x.facts.now c.requires.1 c.requires.2 x.message.component c.requires.3.component_in, omega arith, omega arith, omega arith)

pub may_store-requires : goal.may_store-requires
may_store-requires c =
    let x = c.args in
    let fits : Fits x.sizes (sent x.message.component _) = subst (λ (v : Event). Fits x.sizes (sent x.message.component v)) c.in-Alive.is c.requires.3 in
    let n = own_long x.sizes x.numbers.now x.facts.now c.requires.1 c.requires.2 x.message.component c.requires.3.component_in in
    let t = fits.event_in in
    (omega arith, own_steady x.sizes x.numbers.now x.facts.now c.requires.1 c.requires.2 x.message.component c.requires.3.component_in, omega arith)

pub returns-in-Observation : goal.returns-in-Observation
returns-in-Observation c =
    let x = c.args in
    let fits : Fits x.sizes (sent x.message.component _) = subst (λ (v : Event). Fits x.sizes (sent x.message.component v)) c.in-Observation.is c.requires.3 in
    c.admits_observation.ensures
    ∙ own_observation x.sizes x.numbers.now x.facts.now c.requires.1 c.requires.2 x.message.component c.requires.3.component_in _ _ _ _ fits
    ∙ ap (λ (v : Event). admits x.sizes (held x.numbers.now x.facts.now) (sent x.message.component v)) (sym c.in-Observation.is)

pub returns-in-Alive : goal.returns-in-Alive
returns-in-Alive c =
    let x = c.args in
    let fits : Fits x.sizes (sent x.message.component _) = subst (λ (v : Event). Fits x.sizes (sent x.message.component v)) c.in-Alive.is c.requires.3 in
    c.may_store.ensures
    ∙ own_alive x.sizes x.numbers.now x.facts.now c.requires.1 c.requires.2 x.message.component c.requires.3.component_in _ _ fits
    ∙ ap (λ (v : Event). admits x.sizes (held x.numbers.now x.facts.now) (sent x.message.component v)) (sym c.in-Alive.is)
