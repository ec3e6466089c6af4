-- Each test decides its place.
use Prim.Native.Nat.{ℕ, ◌<◌}
use Rattle.std.specs.Prelude.{◌≡◌}
use mathlib.Core.List.{List, ◌∷◌, ◌++◌}
use Rattle.rule_grammar.specs.Numeral.{digits}

abbrev pub Crossed : List ℕ → Type 0
Crossed u = (a b : ℕ) × (q : List ℕ) × (u ≡ digits a ++ 44 ∷ (digits b ++ 93 ∷ q)) × (b < a)
