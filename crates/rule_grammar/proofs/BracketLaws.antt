-- Laws of the definitions in specs/Brackets. Assumes nothing.
use Rattle.std.specs.Prelude.{ℕ, suc, ◌+◌, ◌≡◌, refl, Bool, true, false, List, [], ◌∷◌, ◌++◌, eqb, length}
use Rattle.std.proofs.Common.{arith, sym, ap, subst, ◌∙◌, true≢false, eqb-true, eq-eqb}
use Rattle.std.proofs.lemmas.Bool.{false≢true}
use Rattle.rule_grammar.specs.Numeral.{digit}
use Rattle.rule_grammar.specs.Places.{count}
use Rattle.rule_grammar.specs.Automaton.{Wanted, byte, term, number, more, joint, Next, stuck, on, bytes, right, bounds, step, eats, left}
use Rattle.rule_grammar.proofs.Decided.{pick_law}
use Rattle.rule_grammar.specs.Brackets.{Balanced, Usual, closers, one, wants_term}

differ : (a b : ℕ) → (a ≡ b → ⊥) → eqb a b ≡ false
differ a b h = go (eqb a b) refl
  where
    go : (x : Bool) → eqb a b ≡ x → eqb a b ≡ false
    go true e = absurd (h (eqb-true a b e))
    go false e = e

-- a digit is no bracket
digit_plain : (c : ℕ) → digit c ≡ true → (eqb c 40 ≡ false) × (eqb c 41 ≡ false)
digit_plain c e = (differ c 40 (λ f. true≢false (sym e ∙ ap digit f)), differ c 41 (λ f. true≢false (sym e ∙ ap digit f)))

same_count : (a b n : ℕ) (x y : Bool) → x ≡ false → y ≡ false → one x + n ≡ one y + n
same_count a b n x y e f = rw (e, f) refl

plain : List ℕ → Bool
plain [] = true
plain (c ∷ p) = elim (eqb c 40) [ true ↦ false | false ↦ elim (eqb c 109) [ true ↦ false | false ↦ plain p ] ]

usual_bytes : (p : List ℕ) (k : List Wanted) → plain p ≡ true → Usual k → Usual (bytes p k)
unfolding plain
usual_bytes [] k e u = u
usual_bytes (c ∷ p) k e u = go (eqb c 40) refl (eqb c 109) refl e (usual_bytes p k)
  where
    go : (x : Bool) → eqb c 40 ≡ x → (y : Bool) → eqb c 109 ≡ y → (elim x [ true ↦ false | false ↦ elim y [ true ↦ false | false ↦ plain p ] ]) ≡ true
        → (plain p ≡ true → Usual k → Usual (bytes p k)) → Usual (byte c ∷ bytes p k)
    go true f y g h ih = absurd (false≢true h)
    go false f true g h ih = absurd (false≢true h)
    go false f false g h ih = (λ z. true≢false (sym (eq-eqb c 40 z) ∙ f), λ z. true≢false (sym (eq-eqb c 109 z) ∙ g), ih h u)

usual_right : (k : List Wanted) → Usual k → Usual (right k)
unfolding plain
usual_right k u = usual_bytes (32 ∷ []) (term ∷ byte 41 ∷ k) refl (usual_bytes (41 ∷ []) k refl u)

usual_bounds : (k : List Wanted) → Usual k → Usual (bounds k)
unfolding plain
usual_bounds k u = usual_bytes (44 ∷ []) (number ∷ byte 93 ∷ right k) refl (usual_bytes (93 ∷ []) (right k) refl (usual_right k u))

pub balanced : (k : List Wanted) → Usual k → (c : ℕ) → Balanced k c (step k c)
unfolding plain
balanced [] u c = tt
balanced (byte b ∷ k) u c = go (eqb c b) refl
  where
    go : (x : Bool) → eqb c b ≡ x → Balanced (byte b ∷ k) c (elim x [ true ↦ on k | false ↦ stuck ])
    go true e =
        let f = eqb-true c b e in
        (u.2, subst (λ z. one (eqb c 40) + (one (eqb z 41) + closers k) ≡ one (eqb c 41) + closers k) f (ap (λ (x : Bool). one x + (one (eqb c 41) + closers k)) (differ c 40 (λ g. u.0 (sym f ∙ g))) ∙ omega arith))
    go false e = tt
balanced (term ∷ k) u c =
    pick_law (Balanced (term ∷ k)) 116 109 110 40 _ _ _ _ _
    (usual_bytes (114 ∷ 117 ∷ 101 ∷ []) k refl u, omega arith) (u, omega arith) (usual_bytes (111 ∷ 116 ∷ 32 ∷ []) (term ∷ k) refl u, omega arith)
    (usual_bytes (32 ∷ []) (joint ∷ k) refl u, omega arith) (λ v a b d e. tt) c
balanced (joint ∷ k) u c =
    pick_law (Balanced (joint ∷ k)) 111 97 115 117 _ _ _ _ _
    (usual_bytes (114 ∷ []) (right k) refl (usual_right k u), omega arith) (usual_bytes (110 ∷ 100 ∷ []) (right k) refl (usual_right k u), omega arith)
    (usual_bytes (105 ∷ 110 ∷ 99 ∷ 101 ∷ 91 ∷ []) (bounds k) refl (usual_bounds k u), omega arith)
    (usual_bytes (110 ∷ 116 ∷ 105 ∷ 108 ∷ 91 ∷ []) (bounds k) refl (usual_bounds k u), omega arith) (λ v a b d e. tt) c
balanced (number ∷ k) u c = go (eqb c 48) refl (digit c) refl
  where
    go : (x : Bool) → eqb c 48 ≡ x → (y : Bool) → digit c ≡ y → Balanced (number ∷ k) c (elim x [ true ↦ on k | false ↦ elim y [ true ↦ on (more ∷ k) | false ↦ stuck ] ])
    go true e y f = let z = eqb-true c 48 e in let d = digit_plain c (ap digit z) in (u, same_count c c (closers k) (eqb c 40) (eqb c 41) d.0 d.1)
    go false e true f = let d = digit_plain c f in (u, same_count c c (closers k) (eqb c 40) (eqb c 41) d.0 d.1)
    go false e false f = tt
balanced (more ∷ k) u c = go (digit c) refl (balanced k u c)
  where
    carry : (r : Next) → Balanced k c r → Balanced (more ∷ k) c r
    carry stuck h = tt
    carry (on l) h = h

    go : (y : Bool) → digit c ≡ y → Balanced k c (step k c) → Balanced (more ∷ k) c (elim y [ true ↦ on (more ∷ k) | false ↦ step k c ])
    go true f h = let d = digit_plain c f in (u, same_count c c (closers k) (eqb c 40) (eqb c 41) d.0 d.1)
    go false f h = carry (step k c) h

-- where all of a text is taken, the brackets still open are the ")" still to come
pub open_brackets : (k : List Wanted) (w : List ℕ) → Usual k → eats k w ≡ length w → count 40 w + closers k ≡ count 41 w + closers (left k w)
open_brackets k [] u e = refl
open_brackets k (c ∷ w) u e = go (step k c) (balanced k u c) (λ l h f. open_brackets l w h f) e
  where
    go : (r : Next) → Balanced k c r → ((l : List Wanted) → Usual l → eats l w ≡ length w → count 40 w + closers l ≡ count 41 w + closers (left l w))
        → ◌≡◌ {A = ℕ} (elim r [ stuck ↦ 0 | on l ↦ suc (eats l w) ]) (suc (length w))
        → one (eqb c 40) + count 40 w + closers k ≡ one (eqb c 41) + count 41 w + closers (elim r [ stuck ↦ k | on l ↦ left l w ])
    go stuck b ih f = absurd (omega arith)
    go (on l) b ih f = omega (arith, b.1, ih l b.0 (omega arith))

abbrev taken : Next → ℕ
taken stuck = 0
taken (on l) = 1

m_step : (k : List Wanted) → Usual k → taken (step k 109) ≡ one (wants_term k)
m_step [] u = refl
m_step (byte b ∷ k) u = ap (λ (x : Bool). taken (elim x as (λ _. Next) [ true ↦ on k | false ↦ stuck ])) (differ 109 b (λ e. u.1 (sym e)))
m_step (term ∷ k) u = refl
m_step (number ∷ k) u = refl
m_step (more ∷ k) u = m_step k u
m_step (joint ∷ k) u = refl

-- "m" is taken exactly where a term is wanted
pub would_start : (k : List Wanted) (w : List ℕ) → Usual k → eats k w ≡ length w → eats k (w ++ 109 ∷ []) ≡ length w + one (wants_term (left k w))
would_start k [] u e = last (step k 109) ∙ m_step k u ∙ omega arith
  where
    last : (r : Next) → ◌≡◌ {A = ℕ} (elim r [ stuck ↦ 0 | on l ↦ suc (eats l []) ]) (taken r)
    last stuck = refl
    last (on l) = refl
would_start k (c ∷ w) u e = go (step k c) (balanced k u c) (λ l h f. would_start l w h f) e
  where
    go : (r : Next) → Balanced k c r → ((l : List Wanted) → Usual l → eats l w ≡ length w → eats l (w ++ 109 ∷ []) ≡ length w + one (wants_term (left l w)))
        → ◌≡◌ {A = ℕ} (elim r [ stuck ↦ 0 | on l ↦ suc (eats l w) ]) (suc (length w))
        → ◌≡◌ {A = ℕ} (elim r [ stuck ↦ 0 | on l ↦ suc (eats l (w ++ 109 ∷ [])) ]) (suc (length w) + one (wants_term (elim r [ stuck ↦ k | on l ↦ left l w ])))
    go stuck b ih f = absurd (omega arith)
    go (on l) b ih f = omega (arith, ih l b.0 (omega arith))
