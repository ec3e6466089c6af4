-- Laws of the definitions in specs/Answers. Assumes nothing.
use Rattle.std.specs.Prelude.{ℕ, zero, suc, ◌≤◌, ◌<◌, ◌≡◌, refl, Bool, true, false, ◌&&◌, List, [], ◌∷◌, eqb, length, take}
use Rattle.std.proofs.Common.{arith, sym, ap, ◌∙◌, true≢false, length-take-le, eqb-true, eq-eqb}
use Rattle.std.proofs.Math.Decide.{dec_lt}
use Rattle.std.proofs.lemmas.Bool.{false≢true}
use Rattle.rule_grammar.specs.Places.{Longest, TooMuch, Answer, Taken, Refused, Answered}
use Rattle.rule_grammar.proofs.PlaceLaws.{inside, refused_14, refused_13, taken}
use Rattle.rule_grammar.specs.Automaton.{term, eats, left, may_end}
use Rattle.rule_grammar.proofs.Decided.{longest_is, readable_is}
use Rattle.rule_grammar.specs.Tests.{is_too_much, Found, nowhere, found, first, Verdict, Good, Bad, verdict}
use Rattle.rule_grammar.proofs.TestLaws.{too_much_sound, too_much_whole}
use Rattle.rule_grammar.specs.Answers.{Stands}

abbrev Least : (ℕ → Bool) → ℕ → Found → Type 0
Least f n nowhere = (j : ℕ) → j < n → f j ≡ true → ⊥
Least f n (found i) = (f i ≡ true) × ((j : ℕ) → f j ≡ true → i ≤ j) × (i < n)

first_is : (f : ℕ → Bool) (n : ℕ) → Least f n (first f n)
first_is f zero = λ j l e. absurd (omega arith)
first_is f (suc n) = go (first f n) (first_is f n) (f n) refl
  where
    go : (r : Found) → Least f n r → (b : Bool) → f n ≡ b → Least f (suc n) (elim r [ nowhere ↦ elim b [ true ↦ found n | false ↦ nowhere ] | found i ↦ found i ])
    go nowhere h true e = (e, λ j g. side j g (dec_lt j n), omega arith)
      where
        side : (j : ℕ) → f j ≡ true → Dec (j < n) → n ≤ j
        side j g (yes l) = absurd (h j l g)
        side j g (no l) = omega arith
    go nowhere h false e = λ j l g. side j l g (dec_lt j n)
      where
        side : (j : ℕ) → j < suc n → f j ≡ true → Dec (j < n) → ⊥
        side j l g (yes k) = h j k g
        side j l g (no k) = let q : j ≡ n = omega arith in true≢false (sym g ∙ ap f q ∙ e)
    go (found i) h b e = (h.0, h.1, omega (arith, h.2))

module _ (propositions : ℕ) (text : List ℕ) where
  pub verdict_is : Stands propositions text (verdict propositions text)
  verdict_is = go (first test (suc v)) (first_is test (suc v)) (eqb v (length text) && may_end (left (term ∷ []) text)) refl
    where
      v : ℕ
      v = eats (term ∷ []) text

      test : ℕ → Bool
      test = is_too_much propositions (take v text)

      l : Longest text v
      l = longest_is text

      split : (a b : Bool) → (a && b) ≡ true → (a ≡ true) × (b ≡ true)
      split true b e = (refl, e)
      split false b e = absurd (false≢true e)

      join : (a b : Bool) → a ≡ true → b ≡ true → (a && b) ≡ true
      join a b e f = rw (e, f) refl

      none : ((j : ℕ) → j < suc v → test j ≡ true → ⊥) → (j : ℕ) → TooMuch propositions (take v text) j → ⊥
      none h j m =
          h j (omega (arith, inside propositions (take v text) j m, length-take-le v text l.inside)) (too_much_whole propositions (take v text) j m)

      go : (r : Found) → Least test (suc v) r → (b : Bool) → (eqb v (length text) && may_end (left (term ∷ []) text)) ≡ b
          → Stands propositions text (elim r [ nowhere ↦ elim b [ true ↦ Good | false ↦ Bad 13 v ] | found i ↦ Bad 14 i ])
      go (found i) h b e =
          refused_14 propositions text v l i (too_much_sound propositions (take v text) i h.0) (λ j m. h.1 j (too_much_whole propositions (take v text) j m))
      go nowhere h true e =
          let s = split (eqb v (length text)) (may_end (left (term ∷ []) text)) e in
          let r = (readable_is text).1 (eqb-true v (length text) s.0, s.1) in
          (r.0, taken propositions text v l r.0 r.1 (none h))
      go nowhere h false e =
          refused_13 propositions text v l
          (λ r. let w = (readable_is text).0 r in true≢false (sym (join (eqb v (length text)) (may_end (left (term ∷ []) text)) (eq-eqb v (length text) w.0) w.1) ∙ e))
          (none h)

module _ (propositions : ℕ) (text : List ℕ) where
  abbrev pub told : (v : Verdict) → Stands propositions text v → Answer
  told Good s = Taken s.0
  told (Bad number place) s = Refused number place

  right_told : (v : Verdict) (s : Stands propositions text v) → Answered propositions text (told v s)
  right_told Good s = s.1
  right_told (Bad number place) s = s

-- the answer to a text
unfoldable pub answer_of : ℕ → List ℕ → Answer
answer_of propositions text = told propositions text (verdict propositions text) (verdict_is propositions text)

-- it is one that the definition gives, and by `one_answer` there is no other
pub answered : (propositions : ℕ) (text : List ℕ) → Answered propositions text (answer_of propositions text)
unfolding answer_of
answered propositions text = right_told propositions text (verdict propositions text) (verdict_is propositions text)
