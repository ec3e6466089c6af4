-- There is at most one answer to a text; and how a reader comes by the longest beginning.
use Rattle.std.specs.Prelude.{ℕ, suc, ◌≤◌, ◌<◌, ◌≡◌, refl, ◌⊎◌, List, [], ◌∷◌, ◌++◌, length, take, drop}
use Rattle.std.proofs.Common.{arith, eq-or-lt_of_le, sym, ap, subst, ◌∙◌, inl, inr, ⊎_elim, append_assoc, take-append-drop, length-append, take-take, take_all, length-take-le}
use Rattle.std.proofs.Math.Decide.{dec_lt}
use Rattle.rule_grammar.specs.Term.{Term, looks}
use Rattle.rule_grammar.proofs.Reading.{one_reading}
use Rattle.rule_grammar.specs.Places.{Readable, GoesOn, Longest, TooMuch, nested, mark, bound, many, above, Cause, unreadable, too_much, Answer, Taken, Refused, Answered}

pub one_answer : (propositions : ℕ) (text : List ℕ) (a b : Answer) → Answered propositions text a → Answered propositions text b → a ≡ b
one_answer m s (Taken x) (Taken y) p q = ap Taken (one_reading x y (p.0 ∙ sym q.0))
one_answer m s (Taken x) (Refused n i) p q = absurd (p.1 n i q.0)
one_answer m s (Refused n i) (Taken y) p q = absurd (q.1 n i p.0)
one_answer m s (Refused n i) (Refused k j) p q = go (p.1 k j q.0) (q.1 n i p.0)
  where
    go : (i < j) ⊎ ((i ≡ j) × (k ≤ n)) → (j < i) ⊎ ((j ≡ i) × (n ≤ k)) → Refused n i ≡ Refused k j
    go (inl h) (inl g) = absurd (omega arith)
    go (inl h) (inr g) = absurd (omega arith)
    go (inr h) (inl g) = absurd (omega arith)
    go (inr h) (inr g) = let e : n ≡ k = omega arith in let f : i ≡ j = omega arith in cc

-- the beginning of one that goes on goes on
pub cut : (p q : List ℕ) → GoesOn (p ++ q) → GoesOn p
cut p q h = (h.0, q ++ h.1, h.2 ∙ append_assoc p q h.1)

pub cut_take : (i j : ℕ) (text : List ℕ) → i ≤ j → GoesOn (take j text) → GoesOn (take i text)
cut_take i j text l h = cut (take i text) (drop i (take j text)) (rw (← (take-take i j text l), take-append-drop) h)

-- it is enough to look at the next byte
pub longest : (text : List ℕ) (v : ℕ) → v ≤ length text → GoesOn (take v text) → (v < length text → GoesOn (take (suc v) text) → ⊥) → Longest text v
longest text v l h stop = record { inside = l; goes_on = h; no_longer = λ i m g. go i m g (dec_lt v i) }
  where
    go : (i : ℕ) → i ≤ length text → GoesOn (take i text) → Dec (v < i) → i ≤ v
    go i m g (yes a) = absurd (stop (omega arith) (cut_take (suc v) i text a g))
    go i m g (no a) = omega arith

-- there is one such beginning
pub one_longest : (text : List ℕ) (v w : ℕ) → Longest text v → Longest text w → v ≡ w
one_longest text v w a b = omega (arith, a.no_longer w b.inside b.goes_on, b.no_longer v a.inside a.goes_on)

-- a text of the grammar is its own longest beginning
pub readable_longest : (text : List ℕ) → Readable text → Longest text (length text)
readable_longest text h = longest text (length text) (omega arith) (h.0, [], h.1 ∙ sym (whole text)) (λ l. absurd (omega arith))
  where
    nil : (u : List ℕ) → u ++ [] ≡ u
    nil [] = refl
    nil (x ∷ u) = ap (λ v. x ∷ v) (nil u)

    whole : (u : List ℕ) → take (length u) u ++ [] ≡ u
    whole u = nil (take (length u) u) ∙ take_all (length u) u (omega arith)

-- ---- what a reader has to show

module _ (propositions : ℕ) where
  -- no place of 14 is past the longest beginning that goes on, so 14 wins wherever there is one
  pub inside : (begun : List ℕ) (i : ℕ) → TooMuch propositions begun i → i ≤ length begun
  inside begun _ (nested p q e h) = omega (arith, simp length-append at (ap length e))
  inside begun _ (mark p q n e h) = omega (arith, simp length-append at (ap length e))
  inside begun _ (bound p q c n o e h) = omega (arith, simp length-append at (ap length e))
  inside begun _ (many at up l h) = l
  inside begun _ (above p q a b e h) = omega (arith, simp length-append at (ap length e))

  module _ (text : List ℕ) (v : ℕ) (l : Longest text v) where
    before : (i : ℕ) → TooMuch propositions (take v text) i → i ≤ v
    before i m = omega (arith, inside (take v text) i m, length-take-le v text l.inside)

    same : (w i : ℕ) → Longest text w → TooMuch propositions (take w text) i → TooMuch propositions (take v text) i
    same w i k m = subst (λ n. TooMuch propositions (take n text) i) (one_longest text w v k l) m

    -- 14: the earliest of its places
    pub refused_14 : (i : ℕ) → TooMuch propositions (take v text) i → ((j : ℕ) → TooMuch propositions (take v text) j → i ≤ j) → Answered propositions text (Refused 14 i)
    refused_14 i m least = (too_much v i l m, go)
      where
        go : (other later : ℕ) → Cause propositions text other later → (i < later) ⊎ ((i ≡ later) × (other ≤ 14))
        go _ _ (unreadable w k n) = let e = one_longest text w v k l in near _ 13 (omega (arith, before i m)) (omega arith)
          where
            near : (j n : ℕ) → i ≤ j → n ≤ 14 → (i < j) ⊎ ((i ≡ j) × (n ≤ 14))
            near j n a b = ⊎_elim (λ c. inr (c, b)) (λ c. inl c) (eq-or-lt_of_le a)
        go _ _ (too_much w j k n) = ⊎_elim (λ c. inr (c, omega arith)) (λ c. inl c) (eq-or-lt_of_le (least j (same w j k n)))

    -- 13: where there is no place of 14
    pub refused_13 : (Readable text → ⊥) → ((j : ℕ) → TooMuch propositions (take v text) j → ⊥) → Answered propositions text (Refused 13 v)
    refused_13 r none = (unreadable v l r, go)
      where
        go : (other later : ℕ) → Cause propositions text other later → (v < later) ⊎ ((v ≡ later) × (other ≤ 13))
        go _ _ (unreadable w k n) = inr (one_longest text v w l k, omega arith)
        go _ _ (too_much w j k n) = absurd (none j (same w j k n))

    -- no cause at all
    pub taken : (x : Term) → looks x ≡ text → ((j : ℕ) → TooMuch propositions (take v text) j → ⊥) → Answered propositions text (Taken x)
    taken x e none = (e, go)
      where
        go : (number place : ℕ) → Cause propositions text number place → ⊥
        go _ _ (unreadable w k n) = n (x, e)
        go _ _ (too_much w j k n) = none j (same w j k n)
