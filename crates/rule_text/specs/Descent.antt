-- Laws of the reader's functions: runs of "not", leaves, groups and terms.
use Prim.Native.Nat.{ℕ, ◌+◌, ◌-◌, ◌≤◌}
use Rattle.std.specs.Prelude.{◌≡◌}
use mathlib.Core.List.{List, ◌∷◌, ◌++◌}
use Rattle.std.proofs.Math.ListN.{length, drop}
use Rattle.rule_grammar.specs.Automaton.{Wanted, term}
use Rattle.rule_grammar.specs.Progress.{State}
use Rattle.rule_text.specs.Gathered.{Writes, not_lines}
use Rattle.rule_text.specs.Steps.{not_text}

-- ---- a run of "not"

pub record Negations (text : List ℕ) (at started place count : ℕ) : Type 0 where
  pub few : started + count ≤ 64
  pub state : (m : ℕ) (k : List Wanted) → State m text (term ∷ k) at started → State m text (term ∷ k) place (started + count)
  pub stands : drop at text ≡ not_text count ++ drop place text

pub record Put (f g : List ℕ) (l count i : ℕ) : Type 0 where
  pub few : i ≤ count
  pub size : length g ≡ 384
  pub written : Writes f g l (not_lines (l - 1) i)
