-- Laws of the definitions in specs/Numbers. Assumes nothing.
use Rattle.std.specs.Prelude.{ℕ, zero, suc, ◌+◌, ◌-◌, ◌*◌, ◌≤◌, ◌<◌, ◌≡◌, refl, Bool, true, false, cond, ◌&&◌, ◌||◌, List, [], ◌∷◌, ◌++◌, eqb, leb, length, take, drop, get_or}
use Rattle.std.proofs.Common.{arith, zero-add, suc-add, sym, ap, subst, ◌∙◌, true≢false, length-append, length-drop, length-take, take-append-drop, drop-cons, drop_at, length-take-le, take_all, eq-eqb, ne_eqb, le-leb}
use Rattle.std.proofs.Math.Decide.{dec_lt}
use Rattle.std.proofs.lemmas.Bool.{false≢true, lt-leb}
use Rattle.rule_grammar.specs.Numeral.{digits, digit, Calm, Digits, value}
use Rattle.rule_grammar.proofs.Numeral.{digits_digits, digits_value, head, tail}
use Rattle.rule_grammar.specs.Spelling.{Led}
use Rattle.rule_grammar.proofs.Spelling.{led, zero_is}
use Rattle.rule_grammar.specs.Automaton.{Wanted, byte, number, more, Next, stuck, on, bytes, step, eats}
use Rattle.rule_grammar.specs.Decided.{rule}
use Rattle.rule_grammar.specs.Places.{Refused, Answered}
use Rattle.rule_grammar.specs.Tests.{read, past, is_far, is_nested, is_many, is_above, crossed}
use Rattle.rule_grammar.specs.Brackets.{wants_term}
use Rattle.rule_grammar.specs.Runs.{Reached}
use Rattle.rule_grammar.proofs.Runs.{reached_next, reached_end}
use Rattle.rule_grammar.specs.Progress.{begun, State, plain}
use Rattle.rule_grammar.proofs.Progress.{digit_plain, plain_not, fourth_of, in_begun, same_byte, stops_at, refuse_limit, refuse_here, clear_next, started_next, clear_on, advance, refuse_syntax}
use Rattle.rule_grammar.specs.Numbers.{Matching, Opened, Opener, PlainWord, Spelled, limit, of_lower, of_mark, of_upper}

-- a byte stands where the text goes on with it
pub byte_here : (text : List ℕ) (i c : ℕ) (u : List ℕ) → drop i text ≡ c ∷ u → (i < length text) × (get_or text i 0 ≡ c) × (drop (suc i) text ≡ u)
byte_here text i c u e =
    let h : i < length text = inside (dec_lt i (length text)) in
    let f = sym (drop-cons text i 0 h) ∙ e in
    (h, head f, tail f)
  where
    inside : Dec (i < length text) → i < length text
    inside (yes l) = l
    inside (no l) = let z = ap length e in absurd (omega (arith, length-drop i text))

plain_step : (c : ℕ) (k : List Wanted) → step (byte c ∷ k) c ≡ on k
plain_step c k = ap (λ (b : Bool). elim b as (λ _. Next) [ true ↦ on k | false ↦ stuck ]) (eq-eqb c c refl)

module _ (m : ℕ) (text : List ℕ) where
  -- one plain byte
  pub plain_byte : (c : ℕ) (k : List Wanted) (i n : ℕ) → plain c ≡ true → State m text (byte c ∷ k) i n → i < length text → get_or text i 0 ≡ c → State m text k (suc i) n
  plain_byte c k i n p s h e =
      subst (λ (z : ℕ). State m text k (suc i) z) (omega arith)
      (advance (byte c ∷ k) i n s k c h e (plain_step c k) (plain_not c 91 refl p) (plain_not c 109 refl p) (plain_not c 44 refl p) (λ x. absurd (plain_not c 40 refl p x)) (λ x. absurd (false≢true x)))

  pub no_plain_byte : (c : ℕ) (k : List Wanted) (i n : ℕ) → State m text (byte c ∷ k) i n → (get_or text i 0 ≡ c → ⊥) → Answered m text (Refused 13 i)
  no_plain_byte c k i n s e =
      refuse_syntax (byte c ∷ k) i n s (ap (λ (b : Bool). elim b as (λ _. Next) [ true ↦ on k | false ↦ stuck ]) (ne_eqb (get_or text i 0) c e)) (λ l. refl) (λ x. absurd (false≢true x))

  pub word_taken : (w : List ℕ) (k : List Wanted) (i n : ℕ) (u : List ℕ) → PlainWord w → State m text (bytes w k) i n → drop i text ≡ w ++ u → State m text k (i + length w) n
  word_taken [] k i n u p s e = subst (λ (z : ℕ). State m text k z n) (omega arith) s
  word_taken (c ∷ w) k i n u p s e =
      let h = byte_here text i c (w ++ u) e in
      subst (λ (z : ℕ). State m text k z n) (omega arith)
      (word_taken w k (suc i) n u p.2 (plain_byte c (bytes w k) i n p.0 s h.0 h.1) h.2)

  -- the whole word stands there
  pub word_read : (w : List ℕ) (k : List Wanted) (i n : ℕ) → PlainWord w → State m text (bytes w k) i n → Matching text i w (length w) → State m text k (i + length w) n
  word_read w k i n p s r = word_taken w k i n (drop (i + length w) text) p s (r.alike ∙ ap (λ (z : List ℕ). z ++ drop (i + length w) text) (take_all (length w) w (omega arith)))

  -- part of it does
  pub word_broken : (w : List ℕ) (k : List Wanted) (i n j : ℕ) → PlainWord w → State m text (bytes w k) i n → Matching text i w j → j < length w → Answered m text (Refused 13 (i + j))
  word_broken w k i n zero p s r h = subst (λ (z : ℕ). Answered m text (Refused 13 z)) (omega arith) (go w p s (r.differs h) h)
    where
      go : (w : List ℕ) → PlainWord w → State m text (bytes w k) i n → (0 < get_or w 0 0 → get_or text (i + 0) 0 ≡ get_or w 0 0 → ⊥) → 0 < length w → Answered m text (Refused 13 i)
      go [] p s d l = absurd (omega arith)
      go (c ∷ w) p s d l = no_plain_byte c (bytes w k) i n s (λ e. let z : i + 0 ≡ i = omega arith in d p.1 (ap (λ (z : ℕ). get_or text z 0) z ∙ e))
  word_broken [] k i n (suc j) p s r h = absurd (omega arith)
  word_broken (c ∷ w) k i n (suc j) p s r h =
      let f = byte_here text i c (take j w ++ drop (i + suc j) text) r.alike in
      let z : i + suc j ≡ suc i + j = omega arith in
      subst (λ (x : ℕ). Answered m text (Refused 13 x)) (sym z)
      (word_broken w k (suc i) n j p.2 (plain_byte c (bytes w k) i n p.0 s f.0 f.1)
      (record {
        short = omega (arith, r.short);
        inside = omega (arith, r.inside);
        alike = f.2 ∙ ap (λ (x : ℕ). take j w ++ drop x text) z;
        differs = λ l q e. r.differs (omega arith) q (ap (λ (x : ℕ). get_or text x 0) z ∙ e);
      }) (omega arith))

-- a digit's value, read on
read_all : (v : ℕ) (d w : List ℕ) → Digits d → Calm w → read v (d ++ w) ≡ value v d
read_all v [] [] h c = refl
read_all v [] (x ∷ w) h c = ap (λ (b : Bool). elim b as (λ _. ℕ) [ true ↦ read (10 * v + (x - 48)) w | false ↦ v ]) c
read_all v (x ∷ d) w h c = ap (λ (b : Bool). elim b as (λ _. ℕ) [ true ↦ read (10 * v + (x - 48)) (d ++ w) | false ↦ v ]) h.0 ∙ read_all (10 * v + (x - 48)) d w h.1 c

not_zero : (n : ℕ) → (n ≡ 0 → ⊥) → (led n).first ≡ 48 → ⊥
not_zero n h e = h ((led n).zero_only e)

first_digit : (n : ℕ) → (digit (led n).first ≡ true) × Digits (led n).rest
first_digit n = let d : Digits ((led n).first ∷ (led n).rest) = subst Digits (led n).is (digits_digits n) in (d.0, d.1)

past_number : (l n : ℕ) (w : List ℕ) → ((n ≡ 0 → ⊥) → Calm w) → past l (digits n ++ w) ≡ leb l n
past_number l zero w c = ap (λ (d : List ℕ). past l (d ++ w)) zero_is
past_number l (suc n) w c =
    ap (λ (d : List ℕ). past l (d ++ w)) r.is
    ∙ two (digit r.first) (eqb r.first 48) f.0 (ne_eqb r.first 48 (not_zero (suc n) (λ e. omega arith)))
    ∙ ap (leb l) (read_all (10 * 0 + (r.first - 48)) r.rest w f.1 (c (λ e. omega arith)) ∙ ap (value 0) (sym r.is) ∙ digits_value (suc n))
  where
    r : Led (suc n) (digits (suc n))
    r = led (suc n)

    f : (digit (led (suc n)).first ≡ true) × Digits (led (suc n)).rest
    f = first_digit (suc n)

    two : (a b : Bool) → a ≡ true → b ≡ false → (a && leb l (elim b [ true ↦ 0 | false ↦ read (10 * 0 + (r.first - 48)) (r.rest ++ w) ])) ≡ leb l (read (10 * 0 + (r.first - 48)) (r.rest ++ w))
    two a b e g = rw (e, g) refl

take_add : (p q : List ℕ) (n : ℕ) → take (length p + n) (p ++ q) ≡ p ++ take n q
take_add [] q n = ap (λ (k : ℕ). take k q) (zero-add n)
take_add (x ∷ p) q n = ap (λ (k : ℕ). take k (x ∷ (p ++ q))) (suc-add (length p) n) ∙ ap (λ (w : List ℕ). x ∷ w) (take_add p q n)

calm_take : (n : ℕ) (u : List ℕ) → Calm u → Calm (take n u)
calm_take zero u h = tt
calm_take (suc n) [] h = tt
calm_take (suc n) (c ∷ u) h = h

-- what stands from place i on, cut at v
pub drop_cut : (text w u : List ℕ) (i v : ℕ) → i ≤ length text → drop i text ≡ w ++ u → i + length w ≤ v → (n : ℕ) × (drop i (take v text) ≡ w ++ take n u)
drop_cut text w u i v l e h =
    let p = take i text in
    let q : length p ≡ i = length-take-le i text l in
    let r : v ≡ length p + (length w + (v - (i + length w))) = omega arith in
    let t : text ≡ p ++ (w ++ u) = sym (take-append-drop i text) ∙ ap (λ (z : List ℕ). p ++ z) e in
    let f : take v text ≡ p ++ (w ++ take (v - (i + length w)) u) =
    ap (λ (z : List ℕ). take v z) t ∙ ap (λ (n : ℕ). take n (p ++ (w ++ u))) r ∙ take_add p (w ++ u) (length w + (v - (i + length w)))
    ∙ ap (λ (z : List ℕ). p ++ z) (take_add w u (v - (i + length w))) in
    (v - (i + length w), ap (drop i) f ∙ drop_at p (w ++ take (v - (i + length w)) u) i q)

far_is : (m : ℕ) (b : List ℕ) (o c : ℕ) → Opener c → get_or b o 0 ≡ c → is_far m b (suc o) ≡ past (limit m c) (drop (suc o) b)
far_is m b o c p e = ap (λ (z : ℕ). eqb z 109 && past m (drop (suc o) b) || (eqb z 91 && past 1024 (drop (suc o) b) || eqb z 44 && past 1024 (drop (suc o) b))) e ∙ go p
  where
    go : {d : ℕ} → Opener d
        → (eqb d 109 && past m (drop (suc o) b) || (eqb d 91 && past 1024 (drop (suc o) b) || eqb d 44 && past 1024 (drop (suc o) b))) ≡ past (limit m d) (drop (suc o) b)
    go of_mark = only (past m (drop (suc o) b))
      where
        only : (x : Bool) → (x || (false || false)) ≡ x
        only true = refl
        only false = refl
    go of_lower = only (past 1024 (drop (suc o) b))
      where
        only : (x : Bool) → (x || false) ≡ x
        only true = refl
        only false = refl
    go of_upper = refl

-- ---- the digits of a number are taken

number_step : (k : List Wanted) (c : ℕ) → digit c ≡ true → (c ≡ 48 → ⊥) → step (number ∷ k) c ≡ on (more ∷ k)
number_step k c e f = go (eqb c 48) (digit c) (ne_eqb c 48 f) e
  where
    go : (x y : Bool) → x ≡ false → y ≡ true → (elim x as (λ _. Next) [ true ↦ on k | false ↦ elim y as (λ _. Next) [ true ↦ on (more ∷ k) | false ↦ stuck ] ]) ≡ on (more ∷ k)
    go x y g h = rw (g, h) refl

no_number : (k : List Wanted) (c : ℕ) → digit c ≡ false → step (number ∷ k) c ≡ stuck
no_number k c e = go (eqb c 48) (digit c) (ne_eqb c 48 (λ f. true≢false (sym (ap digit f) ∙ e))) e
  where
    go : (x y : Bool) → x ≡ false → y ≡ false → (elim x as (λ _. Next) [ true ↦ on k | false ↦ elim y as (λ _. Next) [ true ↦ on (more ∷ k) | false ↦ stuck ] ]) ≡ stuck
    go x y g h = rw (g, h) refl

more_digit : (k : List Wanted) (c : ℕ) → digit c ≡ true → step (more ∷ k) c ≡ on (more ∷ k)
more_digit k c e = ap (λ (b : Bool). elim b as (λ _. Next) [ true ↦ on (more ∷ k) | false ↦ step k c ]) e

module _ (text : List ℕ) (k : List Wanted) where
  digits_reached : (d u : List ℕ) (i : ℕ) → Digits d → Reached text (more ∷ k) i → drop i text ≡ d ++ u → Reached text (more ∷ k) (i + length d)
  digits_reached [] u i h r e = subst (Reached text (more ∷ k)) (omega arith) r
  digits_reached (c ∷ d) u i h r e =
      let b = byte_here text i c (d ++ u) e in
      subst (Reached text (more ∷ k)) (omega arith)
      (digits_reached d u (suc i) h.1 (reached_next text (more ∷ k) (more ∷ k) i r b.0 (ap (step (more ∷ k)) b.1 ∙ more_digit k c h.0)) b.2)

  -- the place behind a number
  pub spelled_end : (i e n : ℕ) → Spelled text i e n → (i + length (digits n) ≡ e) × (i < length text)
  spelled_end i e n s =
      let l = ap length s.spells ∙ length-append (digits n) (drop e text) in
      let f : 0 < length (digits n) = subst (λ (z : List ℕ). 0 < length z) (sym (led n).is) (omega arith) in
      (omega (arith, length-drop i text, length-drop e text, s.inside), omega (arith, length-drop i text, length-drop e text, s.inside))

  pub number_reached : (i e n : ℕ) → Reached text (number ∷ k) i → Spelled text i e n → Reached text k e
  number_reached i e zero r s =
      let b = byte_here text i 48 (drop e text) (s.spells ∙ ap (λ (z : List ℕ). z ++ drop e text) zero_is) in
      let l = spelled_end i e 0 s in
      let q : suc i ≡ e = omega (arith, l.0, ap length zero_is) in
      subst (Reached text k) q (reached_next text (number ∷ k) k i r b.0 (ap (step (number ∷ k)) b.1))
  number_reached i e (suc n) r s =
      let w = led (suc n) in
      let f = first_digit (suc n) in
      let b = byte_here text i w.first (w.rest ++ drop e text) (s.spells ∙ ap (λ (z : List ℕ). z ++ drop e text) w.is) in
      let l = spelled_end i e (suc n) s in
      let q : suc i + length w.rest ≡ e = omega (arith, l.0, ap length w.is) in
      let first = reached_next text (number ∷ k) (more ∷ k) i r b.0 (ap (step (number ∷ k)) b.1 ∙ number_step k w.first f.0 (not_zero (suc n) (λ x. omega arith))) in
      reached_end text k e (subst (Reached text (more ∷ k)) q (digits_reached w.rest (drop e text) (suc i) f.1 first b.2)) (s.calm (λ x. omega arith))

module _ (m : ℕ) (text : List ℕ) (k : List Wanted) where
  digits_taken : (d u : List ℕ) (i n : ℕ) → Digits d → wants_term k ≡ false → State m text (more ∷ k) i n → drop i text ≡ d ++ u → State m text (more ∷ k) (i + length d) n
  digits_taken [] u i n h w s e = subst (λ (z : ℕ). State m text (more ∷ k) z n) (omega arith) s
  digits_taken (c ∷ d) u i n h w s e =
      let b = byte_here text i c (d ++ u) e in
      let p = digit_plain c h.0 in
      let f : n + cond (wants_term k) 1 0 ≡ n = ap (λ (x : Bool). n + cond x 1 0) w ∙ omega arith in
      subst (λ (z : ℕ). State m text (more ∷ k) z n) (omega arith)
      (digits_taken d u (suc i) n h.1 w
      (subst (λ (z : ℕ). State m text (more ∷ k) (suc i) z) f
      (advance (more ∷ k) i n s (more ∷ k) c b.0 b.1 (more_digit k c h.0) (plain_not c 91 refl p) (plain_not c 109 refl p) (plain_not c 44 refl p)
      (λ x. absurd (plain_not c 40 refl p x)) (λ x. absurd (false≢true (sym w ∙ x))))) b.2)

  module _ (c i n : ℕ) (p : Opener c) (o : Opened m text c k i n) where
    -- no digit follows: 13
    pub number_none : digit (get_or text i 0) ≡ false → Answered m text (Refused 13 i)
    number_none e =
        refuse_here m text (number ∷ k) i o.reached o.clear far (no_number k (get_or text i 0) e) (λ l. refl) (λ x. absurd (false≢true x))
      where
        far : is_far m (begun text) i ≡ false
        far =
            let q = o.behind in
            ap (is_far m (begun text)) q ∙ far_is m (begun text) o.opener c p o.byte_is
            ∙ ap (λ (z : ℕ). past (limit m c) (drop z (begun text))) (sym q) ∙ ap (past (limit m c)) ended
          where
            ended : drop i (begun text) ≡ []
            ended =
                let s = stops_at m text (number ∷ k) i o.reached (no_number k (get_or text i 0) e) in
                drop_past i (begun text) (omega (arith, length-take (eats rule text) text, s))
              where
                drop_past : (n : ℕ) (u : List ℕ) → length u ≤ n → drop n u ≡ []
                drop_past zero [] h = refl
                drop_past zero (x ∷ u) h = absurd (omega arith)
                drop_past (suc n) [] h = refl
                drop_past (suc n) (x ∷ u) h = drop_past n u (omega arith)

    module _ (e v : ℕ) (s : Spelled text i e v) where
      -- whether it is past its range
      far_value : is_far m (begun text) i ≡ leb (limit m c) v
      far_value =
          let q = o.behind in
          let r = in_begun m text k e (number_reached text k i e v o.reached s) in
          let l = spelled_end text k i e v s in
          let d = drop_cut text (digits v) (drop e text) i (eats rule text) (omega (arith, l.1)) s.spells (omega (arith, l.0)) in
          ap (is_far m (begun text)) q ∙ far_is m (begun text) o.opener c p o.byte_is
          ∙ ap (λ (z : ℕ). past (limit m c) (drop z (begun text))) (sym q) ∙ ap (past (limit m c)) d.1
          ∙ past_number (limit m c) v (take d.0 (drop e text)) (λ z. calm_take d.0 (drop e text) (s.calm z))

      -- it is: 14
      pub number_far : limit m c ≤ v → Answered m text (Refused 14 i)
      number_far h =
          refuse_limit m text i o.clear
          (fourth_of (is_nested (begun text) i) (is_many (begun text) i) (is_above (begun text) i) (is_far m (begun text) i) (far_value ∙ le-leb (limit m c) v h))

      -- it is not
      pub number_good : v < limit m c → wants_term k ≡ false → State m text k e n
      number_good h w = go v s (record { reached = o.reached; clear = o.clear; edge = far_value ∙ lt-leb (limit m c) v h; started = o.started })
        where
          go : (v : ℕ) → Spelled text i e v → State m text (number ∷ k) i n → State m text k e n
          go zero s t =
              let b = byte_here text i 48 (drop e text) (s.spells ∙ ap (λ (z : List ℕ). z ++ drop e text) zero_is) in
              let l = spelled_end text k i e 0 s in
              let q : suc i ≡ e = omega (arith, l.0, ap length zero_is) in
              subst (λ (z : ℕ). State m text k z n) q
              (subst (λ (z : ℕ). State m text k (suc i) z) (omega arith)
              (advance (number ∷ k) i n t k 48 b.0 b.1 refl (λ x. omega arith) (λ x. omega arith) (λ x. omega arith) (λ x. absurd (omega arith)) (λ x. absurd (false≢true x))))
          go (suc v) s t =
              let r = led (suc v) in
              let f = first_digit (suc v) in
              let b = byte_here text i r.first (r.rest ++ drop e text) (s.spells ∙ ap (λ (z : List ℕ). z ++ drop e text) r.is) in
              let l = spelled_end text k i e (suc v) s in
              let pl = digit_plain r.first f.0 in
              let q : suc i + length r.rest ≡ e = omega (arith, l.0, ap length r.is) in
              let first : State m text (more ∷ k) (suc i) n = subst (λ (z : ℕ). State m text (more ∷ k) (suc i) z) (omega arith)
              (advance (number ∷ k) i n t (more ∷ k) r.first b.0 b.1 (number_step k r.first f.0 (not_zero (suc v) (λ x. omega arith)))
              (plain_not r.first 91 refl pl) (plain_not r.first 109 refl pl) (plain_not r.first 44 refl pl) (λ x. absurd (plain_not r.first 40 refl pl x)) (λ x. absurd (false≢true x))) in
              let last = subst (λ (z : ℕ). State m text (more ∷ k) z n) q (digits_taken r.rest (drop e text) (suc i) n f.1 w first b.2) in
              record { reached = reached_end text k e last.reached (s.calm (λ x. omega arith)); clear = last.clear; edge = last.edge; started = last.started }

  -- a byte that opens a number is taken
  pub opens : (c : ℕ) (k₀ : List Wanted) (i n : ℕ) → Opener c → State m text k₀ i n → i < length text → get_or text i 0 ≡ c → step k₀ c ≡ on (number ∷ k)
      → (c ≡ 91 → crossed (drop (suc i) (begun text)) ≡ false) → (wants_term k₀ ≡ true → n < 64) → Opened m text c k (suc i) (n + cond (wants_term k₀) 1 0)
  opens c k₀ i n p s h q e cross many =
      let f : step k₀ (get_or text i 0) ≡ on (number ∷ k) = ap (step k₀) q ∙ e in
      let t = clear_next m text k₀ i s.reached (number ∷ k) h f (λ x. absurd (no_bracket p (sym q ∙ x))) (λ x. omega (arith, s.started, many x)) (λ x. cross (sym q ∙ x)) s.edge in
      record {
        reached = reached_next text k₀ (number ∷ k) i s.reached h f;
        clear = clear_on m text i s.clear t;
        opener = i;
        behind = refl;
        byte_is = same_byte m text k₀ i s.reached (number ∷ k) h f ∙ q;
        started = started_next m text k₀ i s.reached ∙ ap (λ (x : ℕ). x + cond (wants_term k₀) 1 0) s.started;
      }
    where
      no_bracket : {d : ℕ} → Opener d → d ≡ 40 → ⊥
      no_bracket of_mark x = omega arith
      no_bracket of_lower x = omega arith
      no_bracket of_upper x = omega arith
