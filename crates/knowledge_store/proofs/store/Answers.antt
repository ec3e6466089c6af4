-- `knowledge_store::store` meets its contract: its stores are those of the definition, one after another.
-- Assumes nothing.
use mathlib.Core.Path.{◌≡◌, refl, sym, ap, subst, ◌∙◌}
use mathlib.Core.List.{List}
use Prim.Native.Nat.{ℕ, suc, ◌+◌, ◌-◌, ◌*◌, ◌≤◌, ◌<◌}
use native.Mathlib.Numerals.{add-one}
use native.Mathlib.Omega.{arith}
use lib.ListN.{length, set}
use Rattle.policy.specs.declared.Sizes.{Sizes}
use Rattle.message.specs.declared.Event.{Event}
use Rattle.message.specs.declared.Event.TheVariants.{Observation, Alive}
use Rattle.message.specs.Fixes.{Fits}
use Rattle.knowledge.specs.Knowledge.{Sized, stored}
use Rattle.knowledge.specs.Run.{held, sent}
use Rattle.counter_runs.proofs.Parts.{room}
use Rattle.knowledge_store.proofs.store.Goals as goal

module _ (z : Sizes) (numbers facts : List ℕ) (c t n : ℕ) where
  place : c * (z.minutes + 1) + t ≡ c * suc z.minutes + t
  place = ap (λ (x : ℕ). c * x + t) (add-one z.minutes)

  observation_numbers : (named values : ℕ)
      → set (set numbers (suc (c * (z.minutes + 1) + t)) n) (c * (z.minutes + 1) + t) (n - 1)
      ≡ (stored z (held numbers facts) (sent c (Observation t n named values))).numbers
  unfolding stored
  observation_numbers named values =
      let next : suc (c * (z.minutes + 1) + t) ≡ c * suc z.minutes + suc t = omega (arith, place) in
      rw (next, place) refl

  alive_numbers : set numbers (c * (z.minutes + 1) + t) n ≡ (stored z (held numbers facts) (sent c (Alive t n))).numbers
  unfolding stored
  alive_numbers = rw place refl

-- the message's places are in the lists
module _ (z : Sizes) (numbers facts : List ℕ) (long : Sized z (held numbers facts)) (c : ℕ) (x : Event) (fits : Fits z (sent c x)) where
  observation_in : (t n named values : ℕ) → x ≡ Observation t n named values
      → (c * suc z.minutes + suc t < length numbers) × (1 ≤ n) × (2 * t + 1 < length facts)
  observation_in t n named values e =
      let f : Fits z (sent c (Observation t n named values)) = subst (λ (y : Event). Fits z (sent c y)) e fits in
      omega (arith, long.numbers, long.facts, room c z.components (suc z.minutes) f.component_in, f.event_in.0, f.event_in.1)

  alive_in : (t n : ℕ) → x ≡ Alive t n → c * suc z.minutes + t < length numbers
  alive_in t n e =
      let f : Fits z (sent c (Alive t n)) = subst (λ (y : Event). Fits z (sent c y)) e fits in
      omega (arith, long.numbers, room c z.components (suc z.minutes) f.component_in, f.event_in)

pub returns-in-Observation : goal.returns-in-Observation
unfolding stored
returns-in-Observation c =
    let x = c.args in
    let after : Event → List ℕ = λ v. (stored x.sizes (held x.numbers.now x.facts.now) (sent x.message.component v)).numbers in
    let noted : Event → List ℕ = λ v. (stored x.sizes (held x.numbers.now x.facts.now) (sent x.message.component v)).facts in record {
      stores_numbers = c.store_numbers.ensures
          ∙ observation_numbers x.sizes x.numbers.now x.facts.now x.message.component c.in-Observation.minute c.in-Observation.number c.in-Observation.named c.in-Observation.values
          ∙ ap after (sym c.in-Observation.is);
      stores_facts = c.store_facts.ensures ∙ ap noted (sym c.in-Observation.is);
    }

pub returns-in-Alive : goal.returns-in-Alive
unfolding stored
returns-in-Alive c =
    let x = c.args in
    let after : Event → List ℕ = λ v. (stored x.sizes (held x.numbers.now x.facts.now) (sent x.message.component v)).numbers in
    let noted : Event → List ℕ = λ v. (stored x.sizes (held x.numbers.now x.facts.now) (sent x.message.component v)).facts in record {
      stores_numbers = alive_numbers x.sizes x.numbers.now x.facts.now x.message.component _ _ ∙ ap after (sym c.in-Alive.is);
      stores_facts = ap noted (sym c.in-Alive.is);
    }
