-- No two terms look alike.
use Rattle.std.specs.Prelude.{ℕ, ◌≡◌, refl, List, [], ◌∷◌, ◌++◌}
use Rattle.std.proofs.Common.{arith, sym, ap, ◌∙◌, append_assoc}
use Rattle.rule_grammar.specs.Numeral.{digits, Calm}
use Rattle.rule_grammar.proofs.Numeral.{head, tail, one_numeral}
use Rattle.rule_grammar.specs.Term.{Joint, Or, And, Since, Until, Term, True, Mark, Not, Group, interval, word, looks}

abbrev Same : {A : Type 0} → A → A → List ℕ → List ℕ → Type 0
Same a b u w = (a ≡ b) × (u ≡ w)

-- what follows is moved inwards
pub two : (x y u : List ℕ) (c d : ℕ) → (x ++ c ∷ [] ++ y ++ d ∷ []) ++ u ≡ x ++ c ∷ (y ++ d ∷ u)
two x y u c d = simp append_assoc

pub three : (x y z u : List ℕ) (c d e : ℕ) → (x ++ c ∷ [] ++ y ++ d ∷ [] ++ z ++ e ∷ []) ++ u ≡ x ++ c ∷ (y ++ d ∷ (z ++ e ∷ u))
three x y z u c d e = simp append_assoc

one_interval : (a b c d : ℕ) (u w : List ℕ) → interval a b ++ 32 ∷ u ≡ interval c d ++ 32 ∷ w → (a ≡ c) × (b ≡ d) × (u ≡ w)
one_interval a b c d u w e =
    let h = one_numeral a c (44 ∷ (digits b ++ 93 ∷ 32 ∷ u)) (44 ∷ (digits d ++ 93 ∷ 32 ∷ w)) refl refl
    (sym (two (digits a) (digits b) (32 ∷ u) 44 93) ∙ tail e ∙ two (digits c) (digits d) (32 ∷ w) 44 93) in
    let k = one_numeral b d (93 ∷ 32 ∷ u) (93 ∷ 32 ∷ w) refl refl (tail h.1) in
    (h.0, k.0, tail (tail k.1))

one_joint : (i j : Joint) (u w : List ℕ) → word i ++ 32 ∷ u ≡ word j ++ 32 ∷ w → Same i j u w
one_joint Or Or u w e = (refl, tail (tail (tail e)))
one_joint Or And u w e = absurd (omega (arith, head e))
one_joint Or (Since c d) u w e = absurd (omega (arith, head e))
one_joint Or (Until c d) u w e = absurd (omega (arith, head e))
one_joint And Or u w e = absurd (omega (arith, head e))
one_joint And And u w e = (refl, tail (tail (tail (tail e))))
one_joint And (Since c d) u w e = absurd (omega (arith, head e))
one_joint And (Until c d) u w e = absurd (omega (arith, head e))
one_joint (Since a b) Or u w e = absurd (omega (arith, head e))
one_joint (Since a b) And u w e = absurd (omega (arith, head e))
one_joint (Since a b) (Since c d) u w e = let h = one_interval a b c d u w (tail (tail (tail (tail (tail e))))) in let f = h.0 in let g = h.1 in (cc, h.2)
one_joint (Since a b) (Until c d) u w e = absurd (omega (arith, head e))
one_joint (Until a b) Or u w e = absurd (omega (arith, head e))
one_joint (Until a b) And u w e = absurd (omega (arith, head e))
one_joint (Until a b) (Since c d) u w e = absurd (omega (arith, head e))
one_joint (Until a b) (Until c d) u w e = let h = one_interval a b c d u w (tail (tail (tail (tail (tail e))))) in let f = h.0 in let g = h.1 in (cc, h.2)

-- whatever follows the two, as long as no digit does
pub one_beginning : (x y : Term) (u w : List ℕ) → Calm u → Calm w → looks x ++ u ≡ looks y ++ w → Same x y u w
one_beginning True True u w p q e = (refl, tail (tail (tail (tail e))))
one_beginning True (Mark n) u w p q e = absurd (omega (arith, head e))
one_beginning True (Not y) u w p q e = absurd (omega (arith, head e))
one_beginning True (Group y j z) u w p q e = absurd (omega (arith, head e))
one_beginning (Mark n) True u w p q e = absurd (omega (arith, head e))
one_beginning (Mark n) (Mark m) u w p q e = let h = one_numeral n m u w p q (tail e) in (ap Mark h.0, h.1)
one_beginning (Mark n) (Not y) u w p q e = absurd (omega (arith, head e))
one_beginning (Mark n) (Group y j z) u w p q e = absurd (omega (arith, head e))
one_beginning (Not x) True u w p q e = absurd (omega (arith, head e))
one_beginning (Not x) (Mark n) u w p q e = absurd (omega (arith, head e))
one_beginning (Not x) (Not y) u w p q e = let h = one_beginning x y u w p q (tail (tail (tail (tail e)))) in (ap Not h.0, h.1)
one_beginning (Not x) (Group y j z) u w p q e = absurd (omega (arith, head e))
one_beginning (Group x i a) True u w p q e = absurd (omega (arith, head e))
one_beginning (Group x i a) (Mark n) u w p q e = absurd (omega (arith, head e))
one_beginning (Group x i a) (Not y) u w p q e = absurd (omega (arith, head e))
one_beginning (Group x i a) (Group y j b) u w p q e =
    let h = one_beginning x y (32 ∷ (word i ++ 32 ∷ (looks a ++ 41 ∷ u))) (32 ∷ (word j ++ 32 ∷ (looks b ++ 41 ∷ w))) refl refl
    (sym (three (looks x) (word i) (looks a) u 32 32 41) ∙ tail e ∙ three (looks y) (word j) (looks b) w 32 32 41) in
    let k = one_joint i j (looks a ++ 41 ∷ u) (looks b ++ 41 ∷ w) (tail h.1) in
    let l = one_beginning a b (41 ∷ u) (41 ∷ w) refl refl k.1 in
    let f = h.0 in
    let g = k.0 in
    let m = l.0 in
    (cc, tail l.1)

-- one reading
pub one_reading : (x y : Term) → looks x ≡ looks y → x ≡ y
one_reading x y e = (one_beginning x y [] [] tt tt (ap (λ u. u ++ []) e)).0
