-- Laws of the definitions in specs/Progress. Assumes nothing.
use Rattle.std.specs.Prelude.{ℕ, suc, ◌+◌, ◌≤◌, ◌<◌, ◌≡◌, refl, Bool, true, false, cond, ◌&&◌, ◌||◌, List, [], ◌∷◌, ◌++◌, eqb, leb, length, take, drop, get_or}
use Rattle.std.proofs.Common.{arith, sym, ap, subst, ◌∙◌, true≢false, length-append, take-take, length-take-le, get_or-take, drop-cons, eqb-true, eq-eqb, ne_eqb, le-leb}
use Rattle.std.proofs.Math.Decide.{dec_lt}
use Rattle.std.proofs.lemmas.Bool.{false≢true, lt-leb}
use Rattle.std.proofs.Math.ListN.{get_or-eq_default}
use Rattle.std.proofs.Math.Seq.{drop-length}
use Rattle.rule_grammar.specs.Numeral.{digit}
use Rattle.rule_grammar.specs.Term.{Term, looks}
use Rattle.rule_grammar.specs.Automaton.{Wanted, Next, stuck, on, step, eats, left, may_end}
use Rattle.rule_grammar.specs.Decided.{rule}
use Rattle.rule_grammar.proofs.Decided.{longest_is, readable_is}
use Rattle.rule_grammar.specs.Places.{count, Readable, TooMuch, Taken, Refused, Answered}
use Rattle.rule_grammar.proofs.PlaceLaws.{inside, refused_13, refused_14, taken}
use Rattle.rule_grammar.specs.Tests.{is_nested, is_many, is_above, is_far, is_too_much, starts, starts_below, one_if, crossed}
use Rattle.rule_grammar.proofs.TestLaws.{too_much_sound, too_much_whole}
use Rattle.rule_grammar.specs.Brackets.{closers, wants_term}
use Rattle.rule_grammar.specs.Runs.{Reached}
use Rattle.rule_grammar.proofs.Runs.{at_start, reached_next, eaten, ending, open_is, start_is}
use Rattle.rule_grammar.specs.Progress.{State, begun, plain}

pub plain_not : (c d : ℕ) → plain d ≡ false → plain c ≡ true → c ≡ d → ⊥
plain_not c d f h e = true≢false (sym h ∙ ap plain e ∙ f)

pub digit_plain : (c : ℕ) → digit c ≡ true → plain c ≡ true
digit_plain c e = go (eqb c 40) (eqb c 91) (eqb c 109) (eqb c 44) (other 40 refl) (other 91 refl) (other 109 refl) (other 44 refl)
  where
    other : (d : ℕ) → digit d ≡ false → eqb c d ≡ false
    other d f = ne_eqb c d (λ g. true≢false (sym e ∙ ap digit g ∙ f))

    go : (x y z w : Bool) → x ≡ false → y ≡ false → z ≡ false → w ≡ false
        → (elim x [ true ↦ false | false ↦ elim y [ true ↦ false | false ↦ elim z [ true ↦ false | false ↦ elim w [ true ↦ false | false ↦ true ] ] ] ]) ≡ true
    go x y z w e f g h = rw (e, f, g, h) refl

none_of : (a b c d : Bool) → a ≡ false → b ≡ false → c ≡ false → d ≡ false → (a || (b || (c || d))) ≡ false
none_of a b c d e f g h = rw (e, f, g, h) refl

pub third_of : (a b c d : Bool) → c ≡ true → (a || (b || (c || d))) ≡ true
third_of true b c d e = refl
third_of false true c d e = refl
third_of false false c d e = rw e refl

pub fourth_of : (a b c d : Bool) → d ≡ true → (a || (b || (c || d))) ≡ true
fourth_of true b c d e = refl
fourth_of false true c d e = refl
fourth_of false false true d e = refl
fourth_of false false false d e = e

module _ (m : ℕ) (text : List ℕ) where
  -- ---- 14, and 13

  -- 14 at the first of its places
  pub refuse_limit : (i : ℕ) → ((j : ℕ) → j < i → is_too_much m (begun text) j ≡ false) → is_too_much m (begun text) i ≡ true → Answered m text (Refused 14 i)
  refuse_limit i c e = refused_14 m text (eats rule text) (longest_is text) i (too_much_sound m (begun text) i e) (λ j t. go j t (dec_lt j i))
    where
      go : (j : ℕ) → TooMuch m (begun text) j → Dec (j < i) → i ≤ j
      go j t (yes h) = absurd (true≢false (sym (too_much_whole m (begun text) j t) ∙ c j h))
      go j t (no h) = omega arith

  module _ (k : List Wanted) (i : ℕ) (r : Reached text k i) where
    pub in_begun : i ≤ eats rule text
    in_begun = omega (arith, eaten text k i r)

    same_taken : take i (begun text) ≡ take i text
    same_taken = take-take i (eats rule text) text in_begun

    long : length (take i text) ≡ i
    long = length-take-le i text r.inside

    starts_at : starts (begun text) i ≡ wants_term k
    starts_at =
        ap (λ (w : List ℕ). eqb (eats rule (w ++ 109 ∷ [])) (length (w ++ 109 ∷ []))) same_taken
        ∙ ap (λ (n : ℕ). eqb (eats rule (take i text ++ 109 ∷ [])) n) (length-append (take i text) (109 ∷ []) ∙ ap (λ (n : ℕ). n + 1) long)
        ∙ ap (λ (n : ℕ). eqb n (i + 1)) (start_is text k i r) ∙ go (wants_term k)
      where
        go : (w : Bool) → eqb (i + cond w 1 0) (i + 1) ≡ w
        go true = eq-eqb (i + 1) (i + 1) refl
        go false = ne_eqb (i + 0) (i + 1) (λ e. omega arith)

    not_many : (wants_term k ≡ true → starts_below (begun text) i < 64) → is_many (begun text) i ≡ false
    not_many h = go (leb i (length (begun text))) (starts (begun text) i) refl
      where
        go : (x y : Bool) → starts (begun text) i ≡ y → (x && (y && leb 64 (starts_below (begun text) i))) ≡ false
        go false y e = refl
        go true false e = refl
        go true true e = lt-leb 64 (starts_below (begun text) i) (h (sym starts_at ∙ e))

    not_nested : (get_or (begun text) i 0 ≡ 40 → closers k < 32) → is_nested (begun text) i ≡ false
    not_nested h = go (eqb (get_or (begun text) i 0) 40) refl
      where
        few : closers k < 32 → leb (32 + count 41 (take i (begun text))) (count 40 (take i (begun text))) ≡ false
        few l = lt-leb (32 + count 41 (take i (begun text))) (count 40 (take i (begun text)))
            (subst (λ (w : List ℕ). count 40 w < 32 + count 41 w) (sym same_taken) (omega (arith, open_is text k i r)))

        go : (x : Bool) → eqb (get_or (begun text) i 0) 40 ≡ x → (x && leb (32 + count 41 (take i (begun text))) (count 40 (take i (begun text)))) ≡ false
        go false e = refl
        go true e = few (h (eqb-true (get_or (begun text) i 0) 40 e))

    not_above : (get_or (begun text) i 0 ≡ 91 → crossed (drop (suc i) (begun text)) ≡ false) → is_above (begun text) i ≡ false
    not_above h = go (eqb (get_or (begun text) i 0) 91) refl
      where
        go : (x : Bool) → eqb (get_or (begun text) i 0) 91 ≡ x → (x && crossed (drop (suc i) (begun text))) ≡ false
        go false e = refl
        go true e = h (eqb-true (get_or (begun text) i 0) 91 e)

    -- where a byte is taken
    pub taken_in : (l : List Wanted) → i < length text → step k (get_or text i 0) ≡ on l → i < eats rule text
    taken_in l h e = omega (arith, eaten text l (suc i) (reached_next text k l i r h e))

    pub same_byte : (l : List Wanted) → i < length text → step k (get_or text i 0) ≡ on l → get_or (begun text) i 0 ≡ get_or text i 0
    same_byte l h e = get_or-take (eats rule text) text i 0 (taken_in l h e)

    -- where none is
    pub stops_at : step k (get_or text i 0) ≡ stuck → eats rule text ≡ i
    stops_at e = go (dec_lt i (length text))
      where
        go : Dec (i < length text) → eats rule text ≡ i
        go (yes h) =
            eaten text k i r
            ∙ ap (λ (n : ℕ). i + n) (ap (eats k) (drop-cons text i 0 h) ∙ ap (λ (x : Next). elim x as (λ _. ℕ) [ stuck ↦ 0 | on l ↦ suc (eats l (drop (suc i) text)) ]) e)
            ∙ omega arith
        go (no h) = let w = longest_is text in omega (arith, in_begun, w.inside, r.inside)

    no_byte : eats rule text ≡ i → get_or (begun text) i 0 ≡ 0
    no_byte e = get_or-eq_default (begun text) 0 (omega (arith, length-take-le (eats rule text) text (longest_is text).inside))

    unreadable : eats rule text ≡ i → (length text ≤ i → may_end k ≡ false) → Readable text → ⊥
    unreadable e f h =
        let w = (readable_is text).0 h in
        let l : i ≡ length text = sym e ∙ w.0 in
        let d : drop i text ≡ [] = ap (λ (n : ℕ). drop n text) l ∙ drop-length text in
        true≢false (sym w.1 ∙ ending text k i r ∙ ap (λ (u : List ℕ). may_end (left k u)) d ∙ f (omega arith))

    pub refuse_here : ((j : ℕ) → j < i → is_too_much m (begun text) j ≡ false) → is_far m (begun text) i ≡ false → step k (get_or text i 0) ≡ stuck
        → (length text ≤ i → may_end k ≡ false) → (wants_term k ≡ true → starts_below (begun text) i < 64) → Answered m text (Refused 13 i)
    refuse_here c far e f g =
        let s = stops_at e in
        subst (λ (n : ℕ). Answered m text (Refused 13 n)) s
        (refused_13 m text (eats rule text) (longest_is text) (unreadable s f) (λ j t. none j t (dec_lt j i)))
      where
        here : is_too_much m (begun text) i ≡ false
        here =
            let n = no_byte (stops_at e) in
            none_of (is_nested (begun text) i) (is_many (begun text) i) (is_above (begun text) i) (is_far m (begun text) i)
            (not_nested (λ x. absurd (omega (arith, n)))) (not_many g) (not_above (λ x. absurd (omega (arith, n)))) far

        none : (j : ℕ) → TooMuch m (begun text) j → Dec (j < i) → ⊥
        none j t (yes h) = true≢false (sym (too_much_whole m (begun text) j t) ∙ c j h)
        none j t (no h) =
            let l = inside m (begun text) j t in
            let q : j ≡ i = omega (arith, length-take-le (eats rule text) text (longest_is text).inside, stops_at e) in
            true≢false (sym (too_much_whole m (begun text) j t) ∙ ap (is_too_much m (begun text)) q ∙ here)

    -- a byte is taken, and the next place is clear
    pub clear_next : (l : List Wanted) → i < length text → step k (get_or text i 0) ≡ on l → (get_or text i 0 ≡ 40 → closers k < 32) → (wants_term k ≡ true → starts_below (begun text) i < 64)
        → (get_or text i 0 ≡ 91 → crossed (drop (suc i) (begun text)) ≡ false) → is_far m (begun text) i ≡ false → is_too_much m (begun text) i ≡ false
    clear_next l h e nest many cross far =
        let q = same_byte l h e in
        none_of (is_nested (begun text) i) (is_many (begun text) i) (is_above (begun text) i) (is_far m (begun text) i)
        (not_nested (λ x. nest (sym q ∙ x))) (not_many many) (not_above (λ x. cross (sym q ∙ x))) far

    pub started_next : starts_below (begun text) (suc i) ≡ starts_below (begun text) i + cond (wants_term k) 1 0
    started_next = ap (λ (x : Bool). starts_below (begun text) i + one_if x) starts_at ∙ go (wants_term k)
      where
        go : (x : Bool) → starts_below (begun text) i + one_if x ≡ starts_below (begun text) i + cond x 1 0
        go true = refl
        go false = refl

    pub many_here : wants_term k ≡ true → 64 ≤ starts_below (begun text) i → is_too_much m (begun text) i ≡ true
    many_here e h =
        second_of (is_nested (begun text) i) (is_many (begun text) i) (is_above (begun text) i) (is_far m (begun text) i)
        (rw (le-leb i (length (begun text)) (omega (arith, in_begun, length-take-le (eats rule text) text (longest_is text).inside)), starts_at, e, le-leb 64 (starts_below (begun text) i) h) refl)
      where
        second_of : (a b c d : Bool) → b ≡ true → (a || (b || (c || d))) ≡ true
        second_of true b c d e = refl
        second_of false b c d e = rw e refl

    pub nested_here : (l : List Wanted) → i < length text → step k (get_or text i 0) ≡ on l → get_or text i 0 ≡ 40 → 32 ≤ closers k → is_too_much m (begun text) i ≡ true
    nested_here l h e c n =
        first_of (is_nested (begun text) i) (is_many (begun text) i) (is_above (begun text) i) (is_far m (begun text) i)
        (rw (
          eq-eqb (get_or (begun text) i 0) 40 (same_byte l h e ∙ c),
          le-leb (32 + count 41 (take i (begun text))) (count 40 (take i (begun text))) (subst (λ (w : List ℕ). 32 + count 41 w ≤ count 40 w) (sym same_taken) (omega (arith, open_is text k i r))),
        ) refl)
      where
        first_of : (a b c d : Bool) → a ≡ true → (a || (b || (c || d))) ≡ true
        first_of a b c d e = rw e refl

  -- a byte that opens no number
  pub plain_far : (i c : ℕ) → get_or (begun text) i 0 ≡ c → (c ≡ 109 → ⊥) → (c ≡ 91 → ⊥) → (c ≡ 44 → ⊥) → is_far m (begun text) (suc i) ≡ false
  plain_far i c e x y z =
      rw (ne_eqb (get_or (begun text) i 0) 109 (λ f. x (sym e ∙ f)), ne_eqb (get_or (begun text) i 0) 91 (λ f. y (sym e ∙ f)), ne_eqb (get_or (begun text) i 0) 44 (λ f. z (sym e ∙ f))) refl

  pub clear_on : (i : ℕ) → ((j : ℕ) → j < i → is_too_much m (begun text) j ≡ false) → is_too_much m (begun text) i ≡ false
      → (j : ℕ) → j < suc i → is_too_much m (begun text) j ≡ false
  clear_on i c e j h = go (dec_lt j i)
    where
      go : Dec (j < i) → is_too_much m (begun text) j ≡ false
      go (yes l) = c j l
      go (no l) = let q : j ≡ i = omega arith in ap (is_too_much m (begun text)) q ∙ e

-- ---- ways of going on

module _ {m : ℕ} {text : List ℕ} where
  pub start : State m text rule 0 0
  start = record { reached = at_start text; clear = λ j h. absurd (omega arith); edge = refl; started = refl }

  module _ (k : List Wanted) (i n : ℕ) (s : State m text k i n) where
    few : (wants_term k ≡ true → n < 64) → wants_term k ≡ true → starts_below (begun text) i < 64
    few h e = omega (arith, s.started, h e)

    -- a byte is taken that is none of "[", "m" and ","
    pub advance : (l : List Wanted) (c : ℕ) → i < length text → get_or text i 0 ≡ c → step k c ≡ on l → (c ≡ 91 → ⊥) → (c ≡ 109 → ⊥) → (c ≡ 44 → ⊥)
        → (c ≡ 40 → closers k < 32) → (wants_term k ≡ true → n < 64) → State m text l (suc i) (n + cond (wants_term k) 1 0)
    advance l c h q e a b d nest many =
        let f : step k (get_or text i 0) ≡ on l = ap (step k) q ∙ e in
        let t = clear_next m text k i s.reached l h f (λ x. nest (sym q ∙ x)) (few many) (λ x. absurd (a (sym q ∙ x))) s.edge in
        record {
          reached = reached_next text k l i s.reached h f;
          clear = clear_on m text i s.clear t;
          edge = plain_far m text i c (same_byte m text k i s.reached l h f ∙ q) b a d;
          started = started_next m text k i s.reached ∙ ap (λ (x : ℕ). x + cond (wants_term k) 1 0) s.started;
        }

    -- 13
    pub refuse_syntax : step k (get_or text i 0) ≡ stuck → (length text ≤ i → may_end k ≡ false) → (wants_term k ≡ true → n < 64) → Answered m text (Refused 13 i)
    refuse_syntax e f g = refuse_here m text k i s.reached s.clear s.edge e f (few g)

    -- 14, where a 65th term would start
    pub refuse_many : wants_term k ≡ true → 64 ≤ n → Answered m text (Refused 14 i)
    refuse_many e h = refuse_limit m text i s.clear (many_here m text k i s.reached e (omega (arith, s.started)))

    -- 14, at a "(" inside 32 open ones
    pub refuse_nested : (l : List Wanted) → i < length text → get_or text i 0 ≡ 40 → step k 40 ≡ on l → 32 ≤ closers k → Answered m text (Refused 14 i)
    refuse_nested l h c e n = refuse_limit m text i s.clear (nested_here m text k i s.reached l h (ap (step k) c ∙ e) c n)

  -- the text is a rule
  pub accepts : (i n : ℕ) (x : Term) → State m text [] i n → i ≡ length text → looks x ≡ text → Answered m text (Taken x)
  accepts i n x s e l =
      let r = s.reached in
      let q : eats rule text ≡ i = omega (arith, in_begun m text [] i r, (longest_is text).inside) in
      taken m text (eats rule text) (longest_is text) x l (λ j t. go j t q (dec_lt j i))
    where
      last : eats rule text ≡ i → is_too_much m (begun text) i ≡ false
      last q =
          let y = no_byte m text [] i s.reached q in
          none_of (is_nested (begun text) i) (is_many (begun text) i) (is_above (begun text) i) (is_far m (begun text) i)
          (not_nested m text [] i s.reached (λ z. absurd (omega (arith, y)))) (not_many m text [] i s.reached (λ z. absurd (false≢true z)))
          (not_above m text [] i s.reached (λ z. absurd (omega (arith, y)))) s.edge

      go : (j : ℕ) → TooMuch m (begun text) j → eats rule text ≡ i → Dec (j < i) → ⊥
      go j t q (yes h) = true≢false (sym (too_much_whole m (begun text) j t) ∙ s.clear j h)
      go j t q (no h) =
          let w = inside m (begun text) j t in
          let p : j ≡ i = omega (arith, length-take-le (eats rule text) text (longest_is text).inside) in
          true≢false (sym (too_much_whole m (begun text) j t) ∙ ap (is_too_much m (begun text)) p ∙ last q)
