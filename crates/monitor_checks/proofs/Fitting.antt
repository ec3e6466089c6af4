-- The sizes, tested one after another; the products are small. Assumes nothing.
use mathlib.Core.Path.{◌≡◌, refl, sym, ap, ◌∙◌}
use mathlib.Core.Bool.{true, false}
use Prim.Native.Nat.{ℕ, suc, ◌+◌, ◌*◌}
use native.Mathlib.Numerals.{add-one}
use lib.Dec.{eqb}
use borrow.Author.Tests.{eq-eqb, ne_eqb}
use Rattle.policy.specs.declared.Policy.{Policy}
use Rattle.monitor.specs.declared.Lengths.{Lengths}
use Rattle.monitor.specs.State.{sizes_fit}

module _ (p : Policy) (l : Lengths) where
  same : p.sizes.components * (p.sizes.minutes + 1) ≡ p.sizes.components * suc p.sizes.minutes
  same = ap (λ (m : ℕ). p.sizes.components * m) (add-one p.sizes.minutes)

  pub numbers_off : (l.numbers ≡ p.sizes.components * (p.sizes.minutes + 1) → ⊥) → false ≡ sizes_fit p l
  unfolding sizes_fit
  numbers_off h = rw (ne_eqb l.numbers (p.sizes.components * suc p.sizes.minutes) (λ e. h (e ∙ sym same))) refl

  module _ (a : l.numbers ≡ p.sizes.components * (p.sizes.minutes + 1)) where
    numbers_fit : eqb l.numbers (p.sizes.components * suc p.sizes.minutes) ≡ true
    numbers_fit = eq-eqb l.numbers (p.sizes.components * suc p.sizes.minutes) (a ∙ same)

    pub facts_off : (l.facts ≡ 2 * p.sizes.minutes → ⊥) → false ≡ sizes_fit p l
    unfolding sizes_fit
    facts_off h = rw (numbers_fit, ne_eqb l.facts (2 * p.sizes.minutes) h) refl

    module _ (b : l.facts ≡ 2 * p.sizes.minutes) where
      facts_fit : eqb l.facts (2 * p.sizes.minutes) ≡ true
      facts_fit = eq-eqb l.facts (2 * p.sizes.minutes) b

      pub valuation_off : (l.valuation ≡ p.count * p.sizes.minutes → ⊥) → false ≡ sizes_fit p l
      unfolding sizes_fit
      valuation_off h = rw (numbers_fit, facts_fit, ne_eqb l.valuation (p.count * p.sizes.minutes) h) refl

      module _ (c : l.valuation ≡ p.count * p.sizes.minutes) where
        valuation_fit : eqb l.valuation (p.count * p.sizes.minutes) ≡ true
        valuation_fit = eq-eqb l.valuation (p.count * p.sizes.minutes) c

        pub verdicts_off : (l.verdicts ≡ p.rules * p.sizes.minutes → ⊥) → false ≡ sizes_fit p l
        unfolding sizes_fit
        verdicts_off h = rw (numbers_fit, facts_fit, valuation_fit, ne_eqb l.verdicts (p.rules * p.sizes.minutes) h) refl

        pub origin_test : l.verdicts ≡ p.rules * p.sizes.minutes → eqb l.origin 517 ≡ sizes_fit p l
        unfolding sizes_fit
        origin_test h = rw (numbers_fit, facts_fit, valuation_fit, eq-eqb l.verdicts (p.rules * p.sizes.minutes) h) refl
