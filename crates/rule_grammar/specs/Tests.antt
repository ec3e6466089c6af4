-- The places of 14 as tests that compute.
use Rattle.std.specs.Prelude.{ℕ, zero, suc, ◌+◌, ◌-◌, ◌*◌, Bool, true, false, not, ◌&&◌, ◌||◌, List, [], ◌∷◌, ◌++◌, eqb, leb, ltb, length, take, drop, get_or}
use Prim.Native.Char.{code}
use Rattle.rule_grammar.specs.Ascii.{ascii}
use Rattle.rule_grammar.specs.Numeral.{digit}
use Rattle.rule_grammar.specs.Automaton.{term, eats, left, may_end}
use Rattle.rule_grammar.specs.Places.{count}

-- the number that a text begins with, and what follows its digits
abbrev pub read : ℕ → List ℕ → ℕ
read v [] = v
read v (c ∷ u) = elim (digit c) [ true ↦ read (10 * v + (c - 48)) u | false ↦ v ]

abbrev pub rest : List ℕ → List ℕ
rest [] = []
rest (c ∷ u) = elim (digit c) [ true ↦ rest u | false ↦ c ∷ u ]

-- it begins with a number, all its digits taken
abbrev pub starts_calm : List ℕ → Bool
starts_calm [] = true
starts_calm (c ∷ u) = not (digit c)

abbrev pub numeral : List ℕ → Bool
numeral [] = false
numeral (c ∷ u) = digit c && elim (eqb c 48) [ true ↦ starts_calm u | false ↦ true ]

-- it begins with a number of at least n, perhaps not all its digits taken
abbrev pub past : ℕ → List ℕ → Bool
past n [] = false
past n (c ∷ u) = digit c && leb n (elim (eqb c 48) [ true ↦ 0 | false ↦ read (10 * 0 + (c - 48)) u ])

abbrev pub goes : List ℕ → Bool
goes w = eqb (eats (term ∷ []) w) (length w)

-- it begins with "a,b]", a above b
abbrev pub crossed : List ℕ → Bool
crossed u =
    let w = drop 1 (rest u) in
    numeral u && (eqb (get_or (rest u) 0 0) (code ",") && (numeral w && (eqb (get_or (rest w) 0 0) (code "]") && ltb (read 0 w) (read 0 u))))

abbrev pub one_if : Bool → ℕ
one_if true = 1
one_if false = 0

module _ (begun : List ℕ) where
  abbrev pub is_nested : ℕ → Bool
  is_nested i = eqb (get_or begun i 0) (code "(") && leb (32 + count (code ")") (take i begun)) (count (code "(") (take i begun))

  -- behind the byte at j
  abbrev pub is_past : ℕ → ℕ → ℕ → Bool
  is_past c n j = eqb (get_or begun j 0) c && past n (drop (suc j) begun)

  abbrev pub starts : ℕ → Bool
  starts i = goes (take i begun ++ ascii "m")

  abbrev pub starts_below : ℕ → ℕ
  starts_below zero = 0
  starts_below (suc i) = starts_below i + one_if (starts i)

  abbrev pub is_many : ℕ → Bool
  is_many i = leb i (length begun) && (starts i && leb 64 (starts_below i))

  abbrev pub is_above : ℕ → Bool
  is_above i = eqb (get_or begun i 0) (code "[") && crossed (drop (suc i) begun)

module _ (propositions : ℕ) (begun : List ℕ) where
  abbrev pub is_far : ℕ → Bool
  is_far zero = false
  is_far (suc j) = is_past begun (code "m") propositions j || (is_past begun (code "[") 1024 j || is_past begun (code ",") 1024 j)

  -- a place of 14
  abbrev pub is_too_much : ℕ → Bool
  is_too_much i = is_nested begun i || (is_many begun i || (is_above begun i || is_far i))

pub data Found : Type 0 where
  nowhere : Found
  found : ℕ → Found

-- the first of n places
abbrev pub first : (ℕ → Bool) → ℕ → Found
first f zero = nowhere
first f (suc n) = elim (first f n) [ nowhere ↦ elim (f n) [ true ↦ found n | false ↦ nowhere ] | found i ↦ found i ]

pub data Verdict : Type 0 where
  Good : Verdict
  Bad : ℕ → ℕ → Verdict

abbrev pub verdict : ℕ → List ℕ → Verdict
verdict propositions text =
    let v = eats (term ∷ []) text in
    elim (first (is_too_much propositions (take v text)) (suc v)) [
      | nowhere ↦ elim (eqb v (length text) && may_end (left (term ∷ []) text)) [ true ↦ Good | false ↦ Bad 13 v ]
      | found i ↦ Bad 14 i
    ]
