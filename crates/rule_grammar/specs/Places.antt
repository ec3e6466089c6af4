-- Document 02, request 7: what a text is answered. No reader is in it.
use Rattle.std.specs.Prelude.{ℕ, suc, ◌+◌, ◌≤◌, ◌<◌, ◌≡◌, ◌⊎◌, cond, List, [], ◌∷◌, ◌++◌, length, take, eqb}
use Prim.Native.Char.{code}
use Rattle.rule_grammar.specs.Ascii.{ascii}
use Rattle.rule_grammar.specs.Numeral.{digits}
use Rattle.rule_grammar.specs.Term.{Term, interval, looks}

-- a text of the grammar
abbrev pub Readable : List ℕ → Type 0
Readable text = (x : Term) × (looks x ≡ text)

-- some text of the grammar begins so
abbrev pub GoesOn : List ℕ → Type 0
GoesOn begun = (x : Term) × (rest : List ℕ) × (looks x ≡ begun ++ rest)

-- the longest beginning of the text that goes on has v bytes
pub record Longest (text : List ℕ) (v : ℕ) : Type 0 where
  pub inside : v ≤ length text
  pub goes_on : GoesOn (take v text)
  pub no_longer : (i : ℕ) → i ≤ length text → GoesOn (take i text) → i ≤ v

-- how often a byte stands in a text
abbrev pub count : ℕ → List ℕ → ℕ
count c [] = 0
count c (x ∷ u) = cond (eqb x c) 1 0 + count c u

-- the places of 14 in a beginning of the grammar
pub data TooMuch (propositions : ℕ) (begun : List ℕ) : ℕ → Type 0 where
  -- a "(" inside 32 open ones
  nested : (p q : List ℕ) → begun ≡ p ++ ascii "(" ++ q → 32 + count (code ")") p ≤ count (code "(") p → TooMuch propositions begun (length p)
  -- the first digit of a number past its range, whether or not more digits follow: behind "m", and behind "[" or ","
  mark : (p q : List ℕ) (n : ℕ) → begun ≡ p ++ ascii "m" ++ digits n ++ q → propositions ≤ n → TooMuch propositions begun (suc (length p))
  bound : (p q : List ℕ) (c n : ℕ) → (c ≡ code "[") ⊎ (c ≡ code ",") → begun ≡ p ++ c ∷ [] ++ digits n ++ q → 1023 < n → TooMuch propositions begun (suc (length p))
  -- where a 65th term would start: the byte "m" could stand there and at 64 places before it, and "m" only ever begins a term
  many : (at : ℕ → ℕ) → ((k : ℕ) → k < 64 → at k < at (suc k)) → at 64 ≤ length begun
      → ((k : ℕ) → k ≤ 64 → GoesOn (take (at k) begun ++ ascii "m")) → TooMuch propositions begun (at 64)
  -- the "[" of a closed interval with a above b
  above : (p q : List ℕ) (a b : ℕ) → begun ≡ p ++ interval a b ++ q → b < a → TooMuch propositions begun (length p)

-- the refusals that a text earns, each with its place
pub data Cause (propositions : ℕ) (text : List ℕ) : ℕ → ℕ → Type 0 where
  unreadable : (v : ℕ) → Longest text v → (Readable text → ⊥) → Cause propositions text 13 v
  too_much : (v i : ℕ) → Longest text v → TooMuch propositions (take v text) i → Cause propositions text 14 i

pub data Answer : Type 0 where
  Taken : Term → Answer
  Refused : ℕ → ℕ → Answer

-- taken as it reads where nothing speaks against it; else refused for the earliest cause, 14 at a tie
abbrev pub Answered : ℕ → List ℕ → Answer → Type 0
Answered propositions text (Taken x) = (looks x ≡ text) × ((number place : ℕ) → Cause propositions text number place → ⊥)
Answered propositions text (Refused number place) =
    Cause propositions text number place
    × ((other later : ℕ) → Cause propositions text other later → (place < later) ⊎ ((place ≡ later) × (other ≤ number)))
