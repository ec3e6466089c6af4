-- 01: "From M on, e and every line are unknown"; before it, e and the propositions are what is known, and a line is made of the lines before it.
use Rattle.std.specs.Prelude.{ℕ, ◌≤◌, ◌<◌, ◌≡◌, refl, Bool, true, false}
use Rattle.std.proofs.Common.{ap, ◌∙◌, arith, lt-ltb, le-ltb, ltb-true}
use Rattle.kleene.specs.Truth.{Truth, unknown}
use Rattle.mtl.specs.declared.Formula.{Formula}
use Rattle.mtl.specs.Abbreviations.{proposition'}
use Rattle.mtl.specs.Algebra.{three}
use Rattle.mtl.specs.Syntax.{Earlier}
use Rattle.mtl.specs.Reading.{seen, point, meaning, reading}
use Rattle.mtl.proofs.Unroll.{reading_past}
use Rattle.mtl.specs.Plainly.{Dark}
use Rattle.mtl.proofs.Plainly.{plainly}
use Rattle.mtl.specs.Plainly.{direct}
use Rattle.policy.specs.declared.Sizes.{Sizes}
use Rattle.knowledge.specs.Knowledge.{Knowledge, fact, point_known, world}

module _ (z : Sizes) (k : Knowledge) where
  -- line l of some lines at minute t
  abbrev pub line_value : (ℕ → Formula) → ℕ → ℕ → Truth
  line_value line l t = reading three (world z k) line l t

  pub record Window : Type 0 where
    -- below M: e, the propositions, and each line of lines that name earlier ones only
    pub point_inside : (t : ℕ) → t < z.minutes → point three (world z k) t ≡ point_known z k t
    pub proposition_inside : (v : ℕ → ℕ → Truth) (i t : ℕ) → t < z.minutes → meaning three (world z k) v (proposition' i) t ≡ fact k i t
    pub line_inside : (line : ℕ → Formula) → Earlier line → (l t : ℕ) → t < z.minutes → line_value line l t ≡ direct (world z k) (line_value line) (line l) t
    -- from M on
    pub point_past : (t : ℕ) → z.minutes ≤ t → point three (world z k) t ≡ unknown
    pub line_past : (line : ℕ → Formula) (l t : ℕ) → z.minutes ≤ t → line_value line l t ≡ unknown

  inside : (t : ℕ) (x : Truth) → t < z.minutes → seen (world z k) t x ≡ x
  inside t x h = ap (λ (b : Bool). elim b as (λ _. Truth) [ true ↦ x | false ↦ unknown ]) (lt-ltb t z.minutes h)

  past : (t : ℕ) (x : Truth) → z.minutes ≤ t → seen (world z k) t x ≡ unknown
  past t x h = ap (λ (b : Bool). elim b as (λ _. Truth) [ true ↦ x | false ↦ unknown ]) (le-ltb t z.minutes h)

  -- what `plainly` asks of a world
  dark : Dark (world z k)
  dark = record { unknown_outside = refl; closed = λ s t l e. lt-ltb s z.minutes (omega (arith, ltb-true t z.minutes e)) }

  pub window : Window
  window = record {
    point_inside = λ t h. inside t (point_known z k t) h;
    proposition_inside = λ v i t h. inside t (fact k i t) h;
    line_inside = λ line f l t h. plainly (world z k) dark line f l t ∙ inside t _ h;
    point_past = λ t h. past t (point_known z k t) h;
    line_past = λ line l t h. reading_past three (world z k) line l t (le-ltb t z.minutes h);
  }
