-- Laws of the definitions in specs/Runs. Assumes nothing.
use Rattle.std.specs.Prelude.{ℕ, suc, ◌+◌, ◌<◌, ◌≡◌, refl, Bool, true, false, cond, List, [], ◌∷◌, ◌++◌, length, take, drop, get_or}
use Rattle.std.proofs.Common.{arith, zero-add, sym, ap, subst, ◌∙◌, take-append-drop, take-suc, drop-cons, length-take-le}
use Rattle.rule_grammar.specs.Numeral.{digit, Calm}
use Rattle.rule_grammar.specs.Automaton.{Wanted, more, Next, stuck, on, step, eats, left, may_end}
use Rattle.rule_grammar.specs.Decided.{rule}
use Rattle.rule_grammar.specs.Places.{count}
use Rattle.rule_grammar.specs.Brackets.{closers, wants_term}
use Rattle.rule_grammar.proofs.BracketLaws.{open_brackets, would_start}
use Rattle.rule_grammar.specs.Runs.{Like, Reached, ended, exactly, run}

differ : (l : List Wanted) → stuck ≡ on l → ⊥
differ l e = let z : ◌≡◌ {A = ℕ} 0 1 = cc in omega arith

same_stack : (k l : List Wanted) → on k ≡ on l → k ≡ l
same_stack k l e = cc

run_snoc : (k : List Wanted) (u : List ℕ) (c : ℕ) (l : List Wanted) → run k u ≡ on l → run k (u ++ c ∷ []) ≡ step l c
run_snoc k [] c l e = eta (step k c) ∙ ap (λ (s : List Wanted). step s c) (same_stack k l e)
  where
    eta : (r : Next) → (elim r [ stuck ↦ stuck | on s ↦ on s ]) ≡ r
    eta stuck = refl
    eta (on s) = refl
run_snoc k (x ∷ u) c l e = go (step k x) (λ s f. run_snoc s u c l f) e
  where
    go : (r : Next) → ((s : List Wanted) → run s u ≡ on l → run s (u ++ c ∷ []) ≡ step l c)
        → (elim r [ stuck ↦ stuck | on s ↦ run s u ]) ≡ on l → (elim r [ stuck ↦ stuck | on s ↦ run s (u ++ c ∷ []) ]) ≡ step l c
    go stuck ih f = absurd (differ l f)
    go (on s) ih f = ih s f

run_eats : (k : List Wanted) (u w : List ℕ) (l : List Wanted) → run k u ≡ on l → eats k (u ++ w) ≡ length u + eats l w
run_eats k [] w l e = ap (λ (s : List Wanted). eats s w) (same_stack k l e) ∙ sym (zero-add (eats l w))
run_eats k (x ∷ u) w l e = go (step k x) (λ s f. run_eats s u w l f) e
  where
    go : (r : Next) → ((s : List Wanted) → run s u ≡ on l → eats s (u ++ w) ≡ length u + eats l w)
        → (elim r [ stuck ↦ stuck | on s ↦ run s u ]) ≡ on l → ◌≡◌ {A = ℕ} (elim r [ stuck ↦ 0 | on s ↦ suc (eats s (u ++ w)) ]) (suc (length u) + eats l w)
    go stuck ih f = absurd (differ l f)
    go (on s) ih f = omega (arith, ih s f)

run_left : (k : List Wanted) (u w : List ℕ) (l : List Wanted) → run k u ≡ on l → left k (u ++ w) ≡ left l w
run_left k [] w l e = ap (λ (s : List Wanted). left s w) (same_stack k l e)
run_left k (x ∷ u) w l e = go (step k x) (λ s f. run_left s u w l f) e
  where
    go : (r : Next) → ((s : List Wanted) → run s u ≡ on l → left s (u ++ w) ≡ left l w)
        → (elim r [ stuck ↦ stuck | on s ↦ run s u ]) ≡ on l → (elim r [ stuck ↦ k | on s ↦ left s (u ++ w) ]) ≡ left l w
    go stuck ih f = absurd (differ l f)
    go (on s) ih f = ih s f

abbrev then_eats : List ℕ → Next → ℕ
then_eats u e = elim e [ stuck ↦ 0 | on l ↦ suc (eats l u) ]

abbrev then_left : List Wanted → List ℕ → Next → List Wanted
then_left k u e = elim e [ stuck ↦ k | on l ↦ left l u ]

more_step : (k : List Wanted) (c : ℕ) → digit c ≡ false → step (more ∷ k) c ≡ step k c
more_step k c e = ap (λ (b : Bool). elim b as (λ _. Next) [ true ↦ on (more ∷ k) | false ↦ step k c ]) e

no_digit : (k : List Wanted) (u : List ℕ) → Calm u → (eats (more ∷ k) u ≡ eats k u) × (may_end (left (more ∷ k) u) ≡ may_end (left k u))
no_digit k [] h = (refl, refl)
no_digit k (c ∷ u) h = go (step k c) (more_step k c h)
  where
    go : (e : Next) → step (more ∷ k) c ≡ e → (then_eats u (step (more ∷ k) c) ≡ then_eats u e) × (may_end (then_left (more ∷ k) u (step (more ∷ k) c)) ≡ may_end (then_left k u e))
    go e f = (ap (then_eats u) f, ap (λ (r : Next). may_end (then_left (more ∷ k) u r)) f ∙ last e)
      where
        last : (r : Next) → may_end (then_left (more ∷ k) u r) ≡ may_end (then_left k u r)
        last stuck = refl
        last (on l) = refl

alike_eats : {w : List ℕ} {s k : List Wanted} → Like w s k → (eats s w ≡ eats k w) × (may_end (left s w) ≡ may_end (left k w))
alike_eats (exactly k) = (refl, refl)
alike_eats {w = w} (ended s k c l) = let n = no_digit s w c in let r = alike_eats l in (n.0 ∙ r.0, n.1 ∙ r.1)

alike_step : {w : List ℕ} {s k : List Wanted} (c : ℕ) (u : List ℕ) → w ≡ c ∷ u → Like w s k → step s c ≡ step k c
alike_step c u e (exactly k) = refl
alike_step c u e (ended s k h l) = more_step s c (subst Calm e h) ∙ alike_step c u e l

alike_closers : {w : List ℕ} {s k : List Wanted} → Like w s k → closers s ≡ closers k
alike_closers (exactly k) = refl
alike_closers (ended s k c l) = alike_closers l

alike_term : {w : List ℕ} {s k : List Wanted} → Like w s k → wants_term s ≡ wants_term k
alike_term (exactly k) = refl
alike_term (ended s k c l) = alike_term l

pub at_start : (text : List ℕ) → Reached text rule 0
at_start text = record { inside = omega arith; stack = rule; is = refl; like = exactly rule }

-- a byte is taken
pub reached_next : (text : List ℕ) (k l : List Wanted) (i : ℕ) → Reached text k i → i < length text → step k (get_or text i 0) ≡ on l → Reached text l (suc i)
reached_next text k l i r h e =
    record {
      inside = h;
      stack = l;
      is = ap (run rule) (take-suc text i 0 h) ∙ run_snoc rule (take i text) (get_or text i 0) r.stack r.is
          ∙ alike_step (get_or text i 0) (drop (suc i) text) (drop-cons text i 0 h) r.like ∙ e;
      like = exactly l;
    }

-- a number ends
pub reached_end : (text : List ℕ) (k : List Wanted) (i : ℕ) → Reached text (more ∷ k) i → Calm (drop i text) → Reached text k i
reached_end text k i r c = record { inside = r.inside; stack = r.stack; is = r.is; like = shorter (more ∷ k) refl r.like }
  where
    shorter : {s : List Wanted} (t : List Wanted) → t ≡ more ∷ k → Like (drop i text) s t → Like (drop i text) s k
    shorter t e (exactly q) = subst (λ (z : List Wanted). Like (drop i text) z k) (sym e) (ended k k c (exactly k))
    shorter t e (ended s q d l) = ended s k d (shorter q e l)

module _ (text : List ℕ) (k : List Wanted) (i : ℕ) (r : Reached text k i) where
  split : take i text ++ drop i text ≡ text
  split = take-append-drop i text

  long : length (take i text) ≡ i
  long = length-take-le i text r.inside

  -- all of it is taken, and then what can be of the rest
  pub eaten : eats rule text ≡ i + eats k (drop i text)
  eaten =
      ap (eats rule) (sym split) ∙ run_eats rule (take i text) (drop i text) r.stack r.is ∙ ap (λ (n : ℕ). n + eats r.stack (drop i text)) long
      ∙ ap (λ (n : ℕ). i + n) (alike_eats r.like).0

  pub ending : may_end (left rule text) ≡ may_end (left k (drop i text))
  ending = ap (λ (u : List ℕ). may_end (left rule u)) (sym split) ∙ ap may_end (run_left rule (take i text) (drop i text) r.stack r.is) ∙ (alike_eats r.like).1

  nil : (u : List ℕ) → u ++ [] ≡ u
  nil [] = refl
  nil (c ∷ u) = ap (λ z. c ∷ z) (nil u)

  all_taken : eats rule (take i text) ≡ length (take i text)
  all_taken = ap (eats rule) (sym (nil (take i text))) ∙ run_eats rule (take i text) [] r.stack r.is ∙ omega arith

  its_left : left rule (take i text) ≡ r.stack
  its_left = ap (left rule) (sym (nil (take i text))) ∙ run_left rule (take i text) [] r.stack r.is

  -- the brackets that are open
  pub open_is : count 40 (take i text) ≡ count 41 (take i text) + closers k
  open_is =
      omega (arith, open_brackets rule (take i text) tt all_taken, ap closers its_left, alike_closers r.like)

  -- "m" could stand there exactly where a term is wanted
  pub start_is : eats rule (take i text ++ 109 ∷ []) ≡ i + cond (wants_term k) 1 0
  start_is =
      would_start rule (take i text) tt all_taken ∙ ap (λ (n : ℕ). n + cond (wants_term (left rule (take i text))) 1 0) long
      ∙ ap (λ (b : Bool). i + cond b 1 0) (ap wants_term its_left ∙ alike_term r.like)
