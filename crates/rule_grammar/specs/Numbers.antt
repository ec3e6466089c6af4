-- Words and numbers in a text, and what they are to a reader.
use Rattle.std.specs.Prelude.{ℕ, suc, ◌+◌, ◌≤◌, ◌<◌, ◌≡◌, true, false, cond, List, [], ◌∷◌, ◌++◌, eqb, length, take, drop, get_or}
use Rattle.rule_grammar.specs.Numeral.{digits, Calm}
use Rattle.rule_grammar.specs.Automaton.{Wanted, number}
use Rattle.rule_grammar.specs.Tests.{is_too_much, starts_below}
use Rattle.rule_grammar.specs.Runs.{Reached}
use Rattle.rule_grammar.specs.Progress.{begun, plain}

-- ---- words

-- n bytes of a word stand at place i, and the next one, if there is one, does not
pub record Matching (text : List ℕ) (i : ℕ) (word : List ℕ) (n : ℕ) : Type 0 where
  pub short : n ≤ length word
  pub inside : i + n ≤ length text
  pub alike : drop i text ≡ take n word ++ drop (i + n) text
  pub differs : n < length word → 0 < get_or word n 0 → get_or text (i + n) 0 ≡ get_or word n 0 → ⊥

-- all bytes of a word are plain, and none is 0
abbrev pub PlainWord : List ℕ → Type 0
PlainWord [] = Unit
PlainWord (c ∷ u) = (plain c ≡ true) × (0 < c) × PlainWord u

-- ---- numbers

-- the number at place i is n and ends at e, all its digits taken; behind "0" a digit may stand
pub record Spelled (text : List ℕ) (i e n : ℕ) : Type 0 where
  pub inside : e ≤ length text
  pub spells : drop i text ≡ digits n ++ drop e text
  pub calm : (n ≡ 0 → ⊥) → Calm (drop e text)

-- the limit of a number, by the byte before it
pub data Opener : ℕ → Type 0 where
  of_mark : Opener 109
  of_lower : Opener 91
  of_upper : Opener 44

abbrev pub limit : ℕ → ℕ → ℕ
limit m c = cond (eqb c 109) m 1024

-- a number is due at place i, behind the byte c
pub record Opened (m : ℕ) (text : List ℕ) (c : ℕ) (k : List Wanted) (i n : ℕ) : Type 0 where
  pub reached : Reached text (number ∷ k) i
  pub clear : (j : ℕ) → j < i → is_too_much m (begun text) j ≡ false
  pub opener : ℕ
  pub behind : i ≡ suc opener
  pub byte_is : get_or (begun text) opener 0 ≡ c
  pub started : starts_below (begun text) i ≡ n
