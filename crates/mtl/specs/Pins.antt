-- Computed cases that pin the reading: each fails for a wrong reading that the theorems alone would let pass.
use Rattle.std.specs.Prelude.{ℕ, ◌≡◌, List, [], ◌∷◌, ltb, get_or}
use Rattle.kleene.specs.Truth.{Truth, unknown, true3, false3}
use Rattle.mtl.specs.declared.Formula.{Formula}
use Rattle.mtl.specs.declared.Formula.TheVariants.{True, Proposition, Not, Or, Since, Until, And, Implies, Once, Historically, Eventually, Always}
use Rattle.mtl.specs.Algebra.{three}
use Rattle.mtl.specs.Reading.{World, reading}
use Rattle.mtl.specs.Replacing.{replaced}

abbrev row : Truth → Truth → Truth → Truth → List Truth
row a b c d = a ∷ b ∷ c ∷ d ∷ []

-- four minutes: e, and two propositions
abbrev world : List Truth → List Truth → List Truth → World Truth
world e p q = record {
  time_point = λ t. get_or e t unknown;
  proposition = λ i t. get_or (get_or (p ∷ q ∷ []) i []) t unknown;
  window = λ t. ltb t 4;
  outside = unknown;
}

-- subformulas 0 true, 1 and 2 the propositions p and q, 3 false, 4 the one that is read
abbrev line : Formula → ℕ → Formula
line φ i = get_or (True ∷ Proposition 0 ∷ Proposition 1 ∷ Not 0 ∷ φ ∷ []) i True

-- φ at minute t, where e, p and q are these
abbrev read : Formula → ℕ → List Truth → List Truth → List Truth → Truth
read φ t e p q = reading three (world e p q) (line φ) 4 t

abbrev busy : List Truth
busy = row true3 true3 true3 true3

abbrev never : List Truth
never = row false3 false3 false3 false3

-- true at one minute only
abbrev at0 : List Truth
at0 = row true3 false3 false3 false3

abbrev at1 : List Truth
at1 = row false3 true3 false3 false3

abbrev at2 : List Truth
at2 = row false3 false3 true3 false3

-- false at one minute only
abbrev but0 : List Truth
but0 = row false3 true3 true3 true3

abbrev but1 : List Truth
but1 = row true3 false3 true3 true3

abbrev but2 : List Truth
but2 = row true3 true3 false3 true3

-- e where minute 1 is quiet, and where it is open
abbrev quiet1 : List Truth
quiet1 = but1

abbrev open1 : List Truth
open1 = row true3 unknown true3 true3

pub record Pins : Type 0 where
  -- α is not tested at j itself, in a since and in an until
  pub since_at_j : read (Since 1 2 0 2) 2 busy never at2 ≡ true3
  pub until_at_j : read (Until 1 2 0 2) 0 busy at0 at1 ≡ true3
  -- but it is tested at t in a since whose j is earlier, and at t in an until whose j is later
  pub since_at_t : read (Since 1 2 0 2) 2 busy at1 at1 ≡ false3
  pub until_at_t : read (Until 1 2 0 2) 0 busy at1 at1 ≡ false3
  -- both sides of both ends of a since's window
  pub since_lower_in : read (Since 0 2 1 2) 2 busy never at1 ≡ true3
  pub since_lower_out : read (Since 0 2 1 2) 2 busy never at2 ≡ false3
  pub since_upper_in : read (Since 0 2 0 1) 2 busy never at1 ≡ true3
  pub since_upper_out : read (Since 0 2 0 1) 2 busy never at0 ≡ false3
  -- before minute 0 there is nothing
  pub since_before : read (Since 0 2 2 3) 1 busy never busy ≡ false3
  -- both sides of both ends of an until's window
  pub until_lower_in : read (Until 0 2 1 2) 0 busy never at1 ≡ true3
  pub until_lower_out : read (Until 0 2 1 2) 0 busy never at0 ≡ false3
  pub until_upper_in : read (Until 0 2 0 1) 0 busy never at1 ≡ true3
  pub until_upper_out : read (Until 0 2 0 1) 0 busy never at2 ≡ false3
  -- a minute between that is no time point breaks nothing, and one that is not known to be one leaves it open
  pub since_quiet : read (Since 1 2 0 2) 2 (row true3 false3 true3 true3) at2 at0 ≡ true3
  pub since_open : read (Since 1 2 0 2) 2 (row true3 unknown true3 true3) at2 at0 ≡ unknown
  pub until_quiet : read (Until 1 2 0 2) 0 (row true3 false3 true3 true3) at0 at2 ≡ true3
  -- where β holds, but at no time point, nothing begins
  pub since_no_point : read (Since 0 2 0 0) 1 (row true3 false3 true3 true3) never at1 ≡ false3
  -- every subformula is unknown from M on, false ones too, and so is e
  pub until_past : read (Until 0 3 1 1) 3 busy never never ≡ unknown
  pub until_past_point : read (Until 0 0 1 1) 3 busy never never ≡ unknown
  -- though it had a value of its own there
  pub until_past_none : read (Until 0 0 1 1) 3 (true3 ∷ true3 ∷ true3 ∷ true3 ∷ false3 ∷ []) never never ≡ unknown
  -- a proposition that is not known is unknown
  pub missing : read (Or 1 1) 1 busy (row true3 unknown true3 true3) never ≡ unknown
  -- "p or not p" with p unknown stays unknown
  pub excluded_middle : reading three (world busy (row unknown unknown unknown unknown) never) (λ i. get_or (Proposition 0 ∷ Not 0 ∷ Or 0 1 ∷ []) i True) 2 0 ≡ unknown
  -- 02, request 6. And: false and unknown is false
  pub and_both : read (And 1 2) 1 busy at1 at1 ≡ true3
  pub and_one : read (And 1 2) 1 busy at1 at0 ≡ false3
  pub and_open : read (And 1 2) 1 busy open1 at1 ≡ unknown
  pub and_false : read (And 1 2) 1 busy open1 at0 ≡ false3
  -- a value at a quiet minute and at an open one, none past M
  pub and_at_quiet : read (And 1 2) 1 quiet1 at1 at1 ≡ true3
  pub and_at_open : read (And 1 2) 1 open1 at1 at1 ≡ true3
  pub and_past : read (And 1 2) 4 busy never never ≡ unknown
  -- implies goes from first to second
  pub implies_there : read (Implies 1 2) 1 busy at1 at0 ≡ false3
  pub implies_back : read (Implies 1 2) 1 busy at0 at1 ≡ true3
  pub implies_self_open : read (Implies 1 1) 1 busy open1 at0 ≡ unknown
  pub implies_at_quiet : read (Implies 1 2) 1 quiet1 at1 at0 ≡ false3
  pub implies_at_open : read (Implies 1 2) 1 open1 at1 at0 ≡ false3
  pub implies_past : read (Implies 1 2) 4 busy never never ≡ unknown
  -- once: both sides of both ends, before minute 0, no time point, an open one
  pub once_lower_in : read (Once 1 1 2) 2 busy at1 never ≡ true3
  pub once_lower_out : read (Once 1 1 2) 2 busy at2 never ≡ false3
  pub once_upper_in : read (Once 1 0 1) 2 busy at1 never ≡ true3
  pub once_upper_out : read (Once 1 0 1) 2 busy at0 never ≡ false3
  pub once_before : read (Once 1 2 3) 1 busy busy never ≡ false3
  pub once_quiet : read (Once 1 0 1) 2 quiet1 at1 never ≡ false3
  pub once_none : read (Once 1 0 1) 2 never busy never ≡ false3
  pub once_open : read (Once 1 0 1) 2 open1 at1 never ≡ unknown
  -- a value at a quiet minute, none past M
  pub once_at_quiet : read (Once 1 0 1) 1 quiet1 at0 never ≡ true3
  pub once_past : read (Once 1 0 1) 4 busy busy busy ≡ unknown
  -- historically: the same; nothing is asked before minute 0 or at a quiet minute
  pub historically_lower_in : read (Historically 1 1 2) 2 busy but1 never ≡ false3
  pub historically_lower_out : read (Historically 1 1 2) 2 busy but2 never ≡ true3
  pub historically_upper_in : read (Historically 1 0 1) 2 busy but1 never ≡ false3
  pub historically_upper_out : read (Historically 1 0 1) 2 busy but0 never ≡ true3
  pub historically_before : read (Historically 1 2 3) 1 busy never never ≡ true3
  pub historically_part : read (Historically 1 0 3) 1 busy busy never ≡ true3
  pub historically_none : read (Historically 1 0 1) 2 never never never ≡ true3
  pub historically_quiet : read (Historically 1 0 1) 2 quiet1 but1 never ≡ true3
  pub historically_open : read (Historically 1 0 1) 2 open1 but1 never ≡ unknown
  pub historically_at_quiet : read (Historically 1 0 1) 1 quiet1 but0 never ≡ false3
  pub historically_past : read (Historically 1 0 1) 4 busy busy never ≡ unknown
  -- eventually: both sides of both ends, quiet, open, past M
  pub eventually_lower_in : read (Eventually 1 1 2) 0 busy at1 never ≡ true3
  pub eventually_lower_out : read (Eventually 1 1 2) 0 busy at0 never ≡ false3
  pub eventually_upper_in : read (Eventually 1 0 1) 0 busy at1 never ≡ true3
  pub eventually_upper_out : read (Eventually 1 0 1) 0 busy at2 never ≡ false3
  pub eventually_quiet : read (Eventually 1 1 1) 0 quiet1 at1 never ≡ false3
  pub eventually_open : read (Eventually 1 1 1) 0 open1 at1 never ≡ unknown
  pub eventually_at_quiet : read (Eventually 1 0 1) 1 quiet1 at2 never ≡ true3
  pub eventually_past : read (Eventually 1 0 1) 3 busy never never ≡ unknown
  pub eventually_from_m : read (Eventually 1 0 1) 4 busy busy never ≡ unknown
  -- the "true" inside breaks nothing where the interval leaves the window
  pub eventually_across : read (Eventually 1 0 5) 1 busy at2 never ≡ true3
  -- always over an interval past M: unknown, not true; false if it fails before
  pub always_lower_in : read (Always 1 1 2) 0 busy but1 never ≡ false3
  pub always_lower_out : read (Always 1 1 2) 0 busy but0 never ≡ true3
  pub always_upper_in : read (Always 1 0 1) 0 busy but1 never ≡ false3
  pub always_upper_out : read (Always 1 0 1) 0 busy but2 never ≡ true3
  pub always_quiet : read (Always 1 1 1) 0 quiet1 but1 never ≡ true3
  pub always_open : read (Always 1 1 1) 0 open1 but1 never ≡ unknown
  pub always_at_quiet : read (Always 1 0 1) 1 quiet1 but2 never ≡ false3
  pub always_past : read (Always 1 0 1) 3 busy busy never ≡ unknown
  pub always_from_m : read (Always 1 0 1) 4 busy never never ≡ unknown
  pub always_across : read (Always 1 0 5) 1 busy but2 never ≡ false3
  -- written out, with the later line's numbers moved
  pub and_lines : replaced (Proposition 0 ∷ Proposition 1 ∷ []) (And 0 1) (Implies 1 2 ∷ [])
      ≡ Proposition 0 ∷ Proposition 1 ∷ Not 0 ∷ Not 1 ∷ Or 2 3 ∷ Not 4 ∷ Implies 1 5 ∷ []
  pub historically_lines : replaced (Proposition 0 ∷ []) (Historically 0 2 5) (And 0 1 ∷ [])
      ≡ Proposition 0 ∷ True ∷ Not 0 ∷ Since 1 2 2 5 ∷ Not 3 ∷ And 0 4 ∷ []
