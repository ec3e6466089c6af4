-- A term that is taken is within the limits, so its lines are a policy's.
use Rattle.std.specs.Prelude.{ℕ, suc, ◌+◌, ◌≤◌, ◌<◌, ◌≡◌, true, ◌&&◌}
use native.Mathlib.Omega.{arith}
use Rattle.std.proofs.Math.Decide.{dec_lt}
use Rattle.std.proofs.Math.Path.{refl, sym, ap}
use Rattle.std.proofs.Common.{subst, ◌∙◌, inr, length-append, take_all, le-leb}
use mathlib.Core.List.{List, [], ◌∷◌, ◌++◌, append_assoc}
use Rattle.std.proofs.Math.Dec.{leb}
use Rattle.std.proofs.Math.ListN.{length, take}
use Rattle.std.proofs.Math.Seq.{take_at}
use Rattle.rule_grammar.specs.Numeral.{digits}
use Rattle.rule_grammar.specs.Term.{Joint, Or, And, Since, Until, Term, True, Mark, Not, Group, interval, word, looks}
use Rattle.rule_grammar.specs.Lines.{terms}
use Rattle.rule_grammar.specs.Tests.{starts, starts_below}
use Rattle.rule_grammar.proofs.TestLaws.{goes_is, counted, more_below, last, many_sound, and_both}
use Rattle.rule_grammar.specs.Places.{Readable, GoesOn, TooMuch, mark, bound, above, too_much, Taken, Answered}
use Rattle.rule_grammar.proofs.PlaceLaws.{readable_longest}
use Rattle.rule_grammar.specs.Watched.{Fair, Within, PolicyLines}
use Rattle.rule_grammar.proofs.Watched.{policy_lines}

left_of : (p x w y q : List ℕ) → p ++ (40 ∷ (x ++ 32 ∷ [] ++ w ++ 32 ∷ [] ++ y ++ 41 ∷ [])) ++ q ≡ (p ++ 40 ∷ []) ++ x ++ (32 ∷ (w ++ 32 ∷ (y ++ 41 ∷ q)))
left_of p x w y q = simp append_assoc

right_of : (p x w y q : List ℕ) → p ++ (40 ∷ (x ++ 32 ∷ [] ++ w ++ 32 ∷ [] ++ y ++ 41 ∷ [])) ++ q ≡ (p ++ 40 ∷ (x ++ 32 ∷ (w ++ 32 ∷ []))) ++ y ++ (41 ∷ q)
right_of p x w y q = simp append_assoc

word_of : (p x w y q : List ℕ) → p ++ (40 ∷ (x ++ 32 ∷ [] ++ w ++ 32 ∷ [] ++ y ++ 41 ∷ [])) ++ q ≡ (p ++ 40 ∷ (x ++ 32 ∷ [])) ++ w ++ (32 ∷ (y ++ 41 ∷ q))
word_of p x w y q = simp append_assoc

upper_of : (p a b q : List ℕ) → p ++ (91 ∷ (a ++ 44 ∷ [] ++ b ++ 93 ∷ [])) ++ q ≡ (p ++ 91 ∷ a) ++ 44 ∷ [] ++ b ++ (93 ∷ q)
upper_of p a b q = simp append_assoc

module _ (m : ℕ) (text : List ℕ) (none : (j : ℕ) → TooMuch m text j → ⊥) where
  fair_interval : (a b : ℕ) (p q : List ℕ) → text ≡ p ++ interval a b ++ q → (a ≤ b) × (b ≤ 1023)
  fair_interval a b p q e = (order (dec_lt b a), range (dec_lt 1023 b))
    where
      order : Dec (b < a) → a ≤ b
      order (yes h) = absurd (none _ (above p q a b e h))
      order (no h) = omega arith

      range : Dec (1023 < b) → b ≤ 1023
      range (yes h) = absurd (none _ (bound (p ++ 91 ∷ digits a) (93 ∷ q) 44 b (inr refl) (e ∙ upper_of p (digits a) (digits b) q) h))
      range (no h) = omega arith

  fair : (j : Joint) (p q : List ℕ) → text ≡ p ++ word j ++ q → Fair j
  fair Or p q e = tt
  fair And p q e = tt
  fair (Since a b) p q e = fair_interval a b (p ++ (115 ∷ 105 ∷ 110 ∷ 99 ∷ 101 ∷ [])) q (e ∙ ap (λ (z : List ℕ). z ++ q) (sym (append_assoc p (115 ∷ 105 ∷ 110 ∷ 99 ∷ 101 ∷ []) (interval a b))))
  fair (Until a b) p q e = fair_interval a b (p ++ (117 ∷ 110 ∷ 116 ∷ 105 ∷ 108 ∷ [])) q (e ∙ ap (λ (z : List ℕ). z ++ q) (sym (append_assoc p (117 ∷ 110 ∷ 116 ∷ 105 ∷ 108 ∷ []) (interval a b))))

  within : (x : Term) (p q : List ℕ) → text ≡ p ++ looks x ++ q → Within m x
  within True p q e = tt
  within (Mark n) p q e = go (dec_lt n m)
    where
      go : Dec (n < m) → n < m
      go (yes h) = h
      go (no h) = absurd (none _ (mark p q n (e ∙ ap (λ (z : List ℕ). z ++ q) (sym (append_assoc p (109 ∷ []) (digits n)))) (omega arith)))
  within (Not x) p q e =
      within x (p ++ (110 ∷ 111 ∷ 116 ∷ 32 ∷ [])) q (e ∙ ap (λ (z : List ℕ). z ++ q) (sym (append_assoc p (110 ∷ 111 ∷ 116 ∷ 32 ∷ []) (looks x))))
  within (Group x j y) p q e = (
    within x (p ++ 40 ∷ []) (32 ∷ (word j ++ 32 ∷ (looks y ++ 41 ∷ q))) (e ∙ left_of p (looks x) (word j) (looks y) q),
    fair j (p ++ 40 ∷ (looks x ++ 32 ∷ [])) (32 ∷ (looks y ++ 41 ∷ q)) (e ∙ word_of p (looks x) (word j) (looks y) q),
    within y (p ++ 40 ∷ (looks x ++ 32 ∷ (word j ++ 32 ∷ []))) (41 ∷ q) (e ∙ right_of p (looks x) (word j) (looks y) q),
  )

-- ---- how many terms

-- any term may stand after p
Due : List ℕ → Type 0
Due p = (q : List ℕ) × ((z : Term) → Readable (p ++ looks z ++ q))

nil : (u : List ℕ) → u ++ [] ≡ u
nil [] = refl
nil (c ∷ u) = ap (λ z. c ∷ z) (nil u)

due_not : (p : List ℕ) → Due p → Due (p ++ (110 ∷ 111 ∷ 116 ∷ 32 ∷ []))
unfolding Due
due_not p d = (d.0, λ z. let r = d.1 (Not z) in (r.0, r.1 ∙ ap (λ (w : List ℕ). w ++ d.0) (sym (append_assoc p (110 ∷ 111 ∷ 116 ∷ 32 ∷ []) (looks z)))))

due_left : (p : List ℕ) → Due p → Due (p ++ 40 ∷ [])
unfolding Due
due_left p d = (32 ∷ (word Or ++ 32 ∷ (looks True ++ 41 ∷ d.0)), λ z. let r = d.1 (Group z Or True) in (r.0, r.1 ∙ left_of p (looks z) (word Or) (looks True) d.0))

due_right : (p : List ℕ) (x : Term) (j : Joint) → Due p → Due (p ++ 40 ∷ (looks x ++ 32 ∷ (word j ++ 32 ∷ [])))
unfolding Due
due_right p x j d = (41 ∷ d.0, λ z. let r = d.1 (Group x j z) in (r.0, r.1 ∙ right_of p (looks x) (word j) (looks z) d.0))

module _ (b : List ℕ) where
  starts_there : (p q : List ℕ) → b ≡ p ++ q → Due p → starts b (length p) ≡ true
  unfolding Due
  starts_there p q e d =
      let r = d.1 (Mark 0) in
      let t : take (length p) b ≡ p = ap (take (length p)) e ∙ take_at p q (length p) refl in
      (goes_is (take (length p) b ++ 109 ∷ [])).whole
      (subst (λ (z : List ℕ). GoesOn (z ++ 109 ∷ [])) (sym t)
      (r.0, digits 0 ++ d.0, r.1 ∙ ap (λ (z : List ℕ). z ++ d.0) (sym (append_assoc p (109 ∷ []) (digits 0))) ∙ append_assoc (p ++ 109 ∷ []) (digits 0) d.0))

  count_terms : (x : Term) (p q : List ℕ) → b ≡ p ++ looks x ++ q → Due p → starts_below b (length p) + terms x ≤ starts_below b (length p + length (looks x))
  count_terms True p q e d =
      let c = counted b (length p) (starts_there p (looks True ++ q) (e ∙ append_assoc p (looks True) q) d) in
      omega (arith, c, more_below b (suc (length p)) (length p + 4) (omega arith))
  count_terms (Mark n) p q e d =
      let c = counted b (length p) (starts_there p (looks (Mark n) ++ q) (e ∙ append_assoc p (looks (Mark n)) q) d) in
      omega (arith, c, more_below b (suc (length p)) (length p + suc (length (digits n))) (omega arith))
  count_terms (Not x) p q e d =
      let s : List ℕ = 110 ∷ 111 ∷ 116 ∷ 32 ∷ [] in
      let c = counted b (length p) (starts_there p (looks (Not x) ++ q) (e ∙ append_assoc p (looks (Not x)) q) d) in
      let ih = count_terms x (p ++ s) q (e ∙ ap (λ (z : List ℕ). z ++ q) (sym (append_assoc p s (looks x)))) (due_not p d) in
      let l = length-append p s in
      let m = more_below b (suc (length p)) (length (p ++ s)) (omega arith) in
      let n = more_below b (length (p ++ s) + length (looks x)) (length p + length (looks (Not x))) (omega arith) in
      omega (arith, c, ih, m, n)
  count_terms (Group x j y) p q e d =
      let f = p ++ 40 ∷ [] in
      let g = p ++ 40 ∷ (looks x ++ 32 ∷ (word j ++ 32 ∷ [])) in
      let c = counted b (length p) (starts_there p (looks (Group x j y) ++ q) (e ∙ append_assoc p (looks (Group x j y)) q) d) in
      let i = count_terms x f (32 ∷ (word j ++ 32 ∷ (looks y ++ 41 ∷ q))) (e ∙ left_of p (looks x) (word j) (looks y) q) (due_left p d) in
      let k = count_terms y g (41 ∷ q) (e ∙ right_of p (looks x) (word j) (looks y) q) (due_right p x j d) in
      let l = length-append p (40 ∷ []) in
      let u = length-append p (40 ∷ (looks x ++ 32 ∷ (word j ++ 32 ∷ []))) in
      let v = length-append (looks x) (32 ∷ (word j ++ 32 ∷ [])) in
      let t = long (looks x) (word j) (looks y) in
      let o = long_right (word j) in
      let m = more_below b (suc (length p)) (length f) (omega arith) in
      let n = more_below b (length f + length (looks x)) (length g) (omega arith) in
      let r = more_below b (length g + length (looks y)) (length p + length (looks (Group x j y))) (omega arith) in
      omega (arith, c, i, k, m, n, r)
    where
      long : (x w y : List ℕ) → length (40 ∷ (x ++ 32 ∷ [] ++ w ++ 32 ∷ [] ++ y ++ 41 ∷ [])) ≡ length x + length w + length y + 4
      long x w y = simp length-append (omega arith)

      long_right : (w : List ℕ) → length (w ++ 32 ∷ []) ≡ length w + 1
      long_right w = length-append w (32 ∷ [])

-- what is taken is within the limits, and its lines are as a policy's must be
module _ (m : ℕ) (text : List ℕ) (x : Term) (h : Answered m text (Taken x)) where
  none : (j : ℕ) → TooMuch m text j → ⊥
  none j t =
      h.1 14 j (too_much (length text) j (readable_longest text (x, h.0)) (subst (λ z. TooMuch m z j) (sym (take_all (length text) text (omega arith))) t))

  whole : text ≡ [] ++ looks x ++ []
  whole = sym h.0 ∙ sym (nil (looks x))

  pub accepted : PolicyLines m x
  accepted = policy_lines m x (within m text none x [] [] whole)

  pub accepted_terms : terms x ≤ 64
  unfolding Due
  accepted_terms = go (dec_lt 64 (terms x))
    where
      go : Dec (64 < terms x) → terms x ≤ 64
      go (no l) = omega arith
      go (yes l) =
          let c = count_terms text x [] [] whole ([], λ z. (z, sym (nil (looks z)))) in
          let e : length (looks x) ≡ length text = ap length h.0 in
          let r = last text 64 (0 + length (looks x)) (omega arith) in
          absurd (none r.0 (many_sound m text r.0
          (and_both (leb r.0 (length text)) (starts text r.0 && leb 64 (starts_below text r.0)) (le-leb r.0 (length text) (omega (arith, r.1)))
          (and_both (starts text r.0) (leb 64 (starts_below text r.0)) r.2 (le-leb 64 (starts_below text r.0) r.3)))))
