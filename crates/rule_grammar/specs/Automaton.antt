-- The grammar, a byte at a time: what is still wanted, as a stack. A reader by two functions in a cycle has it as its own call stack.
use Rattle.std.specs.Prelude.{ℕ, suc, Bool, true, false, List, [], ◌∷◌, eqb}
use Prim.Native.Char.{code}
use Rattle.rule_grammar.specs.Ascii.{ascii}
use Rattle.rule_grammar.specs.Numeral.{digit}

pub data Wanted : Type 0 where
  -- this byte
  byte : ℕ → Wanted
  -- a term; a number; the digits of a number after one that isn't "0"; what follows "(x "
  term number more joint : Wanted

pub data Next : Type 0 where
  stuck : Next
  on : List Wanted → Next

-- these bytes, then k
abbrev pub bytes : List ℕ → List Wanted → List Wanted
bytes [] k = k
bytes (c ∷ u) k = byte c ∷ bytes u k

abbrev pub pick : {A : Type 0} → ℕ → ℕ → ℕ → ℕ → A → A → A → A → A → ℕ → A
pick a b c d x y z w e v = elim (eqb v a) [ true ↦ x | false ↦ elim (eqb v b) [ true ↦ y | false ↦ elim (eqb v c) [ true ↦ z | false ↦ elim (eqb v d) [ true ↦ w | false ↦ e ] ] ] ]

-- " y)", and "[a,b] y)" but its "["
abbrev pub right : List Wanted → List Wanted
right k = byte (code " ") ∷ term ∷ byte (code ")") ∷ k

abbrev pub bounds : List Wanted → List Wanted
bounds k = number ∷ byte (code ",") ∷ number ∷ byte (code "]") ∷ right k

abbrev pub step : List Wanted → ℕ → Next
step [] c = stuck
step (byte b ∷ k) c = elim (eqb c b) [ true ↦ on k | false ↦ stuck ]
step (term ∷ k) c =
    pick (code "t") (code "m") (code "n") (code "(") (on (bytes (ascii "rue") k)) (on (number ∷ k)) (on (bytes (ascii "ot ") (term ∷ k)))
    (on (term ∷ byte (code " ") ∷ joint ∷ k)) stuck c
step (joint ∷ k) c =
    pick (code "o") (code "a") (code "s") (code "u") (on (byte (code "r") ∷ right k)) (on (bytes (ascii "nd") (right k))) (on (bytes (ascii "ince[") (bounds k)))
    (on (bytes (ascii "ntil[") (bounds k))) stuck c
step (number ∷ k) c = elim (eqb c (code "0")) [ true ↦ on k | false ↦ elim (digit c) [ true ↦ on (more ∷ k) | false ↦ stuck ] ]
step (more ∷ k) c = elim (digit c) [ true ↦ on (more ∷ k) | false ↦ step k c ]

-- how many bytes of a text can be taken, and what is wanted then
abbrev pub eats : List Wanted → List ℕ → ℕ
eats k [] = 0
eats k (c ∷ u) = elim (step k c) [ stuck ↦ 0 | on l ↦ suc (eats l u) ]

abbrev pub left : List Wanted → List ℕ → List Wanted
left k [] = k
left k (c ∷ u) = elim (step k c) [ stuck ↦ k | on l ↦ left l u ]

-- nothing need follow
abbrev pub may_end : List Wanted → Bool
may_end [] = true
may_end (byte c ∷ k) = false
may_end (term ∷ k) = false
may_end (number ∷ k) = false
may_end (more ∷ k) = may_end k
may_end (joint ∷ k) = false
