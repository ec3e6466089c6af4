-- What the stack says of 14: the brackets that are open, and where a term would start.
use Rattle.std.specs.Prelude.{ℕ, suc, ◌+◌, ◌≡◌, Bool, true, false, cond, List, [], ◌∷◌, eqb}
use Prim.Native.Char.{code}
use Rattle.rule_grammar.specs.Automaton.{Wanted, byte, term, number, more, joint, Next, stuck, on}

-- the ")" that are still to come
abbrev pub closers : List Wanted → ℕ
closers [] = 0
closers (byte b ∷ k) = cond (eqb b (code ")")) 1 0 + closers k
closers (term ∷ k) = closers k
closers (number ∷ k) = closers k
closers (more ∷ k) = closers k
closers (joint ∷ k) = suc (closers k)

-- no "(" and no "m" is wanted as such
abbrev pub Usual : List Wanted → Type 0
Usual [] = Unit
Usual (byte b ∷ k) = (b ≡ code "(" → ⊥) × (b ≡ code "m" → ⊥) × Usual k
Usual (term ∷ k) = Usual k
Usual (number ∷ k) = Usual k
Usual (more ∷ k) = Usual k
Usual (joint ∷ k) = Usual k

abbrev pub one : Bool → ℕ
one b = cond b 1 0

abbrev pub Balanced : List Wanted → ℕ → Next → Type 0
Balanced k c stuck = Unit
Balanced k c (on l) = Usual l × (one (eqb c 40) + closers k ≡ one (eqb c 41) + closers l)

-- ---- terms

abbrev pub wants_term : List Wanted → Bool
wants_term [] = false
wants_term (byte b ∷ k) = false
wants_term (term ∷ k) = true
wants_term (number ∷ k) = false
wants_term (more ∷ k) = wants_term k
wants_term (joint ∷ k) = false
