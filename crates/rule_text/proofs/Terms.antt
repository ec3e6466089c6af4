-- Laws of the reader's functions: what each return of each of them says.
use Rattle.std.specs.Prelude.{ℕ, suc, ◌+◌, ◌≤◌, ◌<◌, ◌≡◌, Bool, true, cond, eqb, leb, ltb, length, get_or, Err, Ok, Result}
use Rattle.std.proofs.Common.{arith, add-one, ◌∙◌, take_all, ltb-true, ltb-false, ne_eqb, le-leb}
use Rattle.std.proofs.Math.Decide.{dec_lt}
use Rattle.std.proofs.Math.Path.{refl, sym, ap, subst}
use Rattle.std.proofs.Math.Bool.{false}
use Rattle.std.proofs.lemmas.Bool.{false≢true, lt-leb}
use mathlib.Core.List.{List, [], ◌∷◌, ◌++◌, append_assoc}
use Rattle.std.proofs.Math.ListN.{drop}
use Rattle.std.proofs.Math.Seq.{drop-cons}
use Rattle.refusal.specs.declared.Refusal.{Refusal}
use Rattle.refusal.specs.declared.Refusal.TheVariants.{RuleSyntax, RuleLimit}
use Rattle.policy.specs.Text.{numbered, formula_numbers}
use Rattle.rule_grammar.specs.Numeral.{digits, digit}
use Rattle.rule_grammar.specs.Term as T
use Rattle.rule_grammar.specs.Lines.{joined}
use Rattle.rule_grammar.specs.Places as P
use Rattle.rule_grammar.specs.Automaton.{Wanted, byte, term, joint, Next, on, stuck, bytes, right, bounds, step}
use Rattle.rule_grammar.specs.Progress.{State, plain}
use Rattle.rule_grammar.proofs.Progress.{plain_not, advance, refuse_syntax}
use Rattle.rule_grammar.specs.Numbers.{Matching, PlainWord, Spelled}
use Rattle.rule_grammar.proofs.Numbers.{plain_byte, no_plain_byte, word_read, word_broken}
use Rattle.rule_grammar.proofs.Intervals.{no_lower, no_comma, no_comma_far, no_upper, no_upper_far, open_far_lower, open_far_upper, open_end, far_lower_closed, far_upper_closed, closed, above_closed}
use Rattle.rule_text.specs.declared.Bounds.{Bounds}
use Rattle.policy.specs.declared.LineKind.{LineKind}
use Rattle.rule_text.specs.declared.Joint.{Joint}
use Rattle.policy.specs.LineKinds.{kind_number}
use Rattle.rule_text.specs.Steps.{Refuses, Near, NumberAt, nothing, spelt_as, Comma, WordAt, IntervalGood, Narrow, IntervalOut, IntervalRead, WordRead, TimedRead, JointRead}
use Rattle.rule_text.proofs.Laws.{inside_text}

-- none of four bytes
pub four : (x y z w : Bool) (p q r s : Next) → x ≡ false → y ≡ false → z ≡ false → w ≡ false
    → (elim x as (λ _. Next) [ true ↦ p | false ↦ elim y as (λ _. Next) [ true ↦ q | false ↦ elim z as (λ _. Next) [ true ↦ r | false ↦ elim w as (λ _. Next) [ true ↦ s | false ↦ stuck ] ] ] ]) ≡ stuck
four x y z w p q r s e f g h = rw (e, f, g, h) refl

-- ---- intervals

-- how a bound that is past its range shows
near_far : {v n : ℕ} → Near v n → 1023 < v → 1023 < n
near_far r h = omega (arith, r.most)

near_good : {v n : ℕ} → Near v n → v ≤ 1023 → n ≤ 1023
near_good r h = omega (arith, r.exact h)

-- the refusal, or that of a number past its range
unless : (m : ℕ) (text : List ℕ) (v place : ℕ) (r : Refusal) → (v ≤ 1023 → Refuses m text r) → (1023 < v → Refuses m text (RuleLimit place)) → Refuses m text (cond (leb v 1023) r (RuleLimit place))
unless m text v place r f g = go (dec_lt 1023 v)
  where
    go : Dec (1023 < v) → Refuses m text (cond (leb v 1023) r (RuleLimit place))
    go (yes h) = subst (λ (b : Bool). Refuses m text (cond b r (RuleLimit place))) (sym (lt-leb v 1023 h)) (g h)
    go (no h) = subst (λ (b : Bool). Refuses m text (cond b r (RuleLimit place))) (sym (le-leb v 1023 (omega arith))) (f (omega arith))

one_on : (m : ℕ) (text : List ℕ) (n i : ℕ) → P.Answered m text (P.Refused n (suc i)) → P.Answered m text (P.Refused n (i + 1))
one_on m text n i h = subst (λ (k : ℕ). P.Answered m text (P.Refused n k)) (sym (add-one i)) h

module _ (text : List ℕ) (p : ℕ) where
  pub no_bracket : (get_or text p 0 ≡ 91 → ⊥) → IntervalRead text p (Err (RuleSyntax p))
  unfolding IntervalRead
  no_bracket h = (tt, λ m k n s. no_plain_byte m text 91 (bounds k) p n s h)

  module _ (h : get_or text p 0 ≡ 91) where
    pub no_number : (e v : ℕ) → NumberAt text (p + 1) e v → e ≡ p + 1 → IntervalRead text p (Err (RuleSyntax (p + 1)))
    unfolding IntervalRead
    no_number e v (nothing w d) q = (tt, λ m k n s. one_on m text 13 p (no_lower m text k p n s (inside_text text p 91 h (omega arith)) h (ap (λ (i : ℕ). digit (get_or text i 0)) (sym (add-one p)) ∙ d)))
    no_number e v (spelt_as a b c l s r) q = absurd (omega arith)

    pub number_read : (e v : ℕ) → NumberAt text (p + 1) e v → (e ≡ p + 1 → ⊥) → (n : ℕ) × Spelled text (suc p) e n × (suc p < e) × Near v n
    number_read e v (nothing w d) q = absurd (q refl)
    number_read e v (spelt_as a b c l s r) q = (c, subst (λ (i : ℕ). Spelled text i a c) (add-one p) s, omega arith, r)

    pub without_comma : (e v : ℕ) (x : Refusal) → NumberAt text (p + 1) e v → (e ≡ p + 1 → ⊥) → (get_or text e 0 ≡ 44 → ⊥) → x ≡ cond (leb v 1023) (RuleSyntax e) (RuleLimit (p + 1))
        → IntervalRead text p (Err x)
    unfolding IntervalRead
    without_comma e v x a q c y =
        let r = number_read e v a q in (
          tt,
          λ m k n s. let i = inside_text text p 91 h (omega arith) in
              subst (Refuses m text) (sym y)
              (unless m text v (p + 1) (RuleSyntax e) (λ l. no_comma m text k p n s i h e r.0 r.1 c (near_good r.3 l)) (λ l. one_on m text 14 p (no_comma_far m text k p n s i h e r.0 r.1 c (near_far r.3 l)))),
        )

    pub comma : (e v : ℕ) → NumberAt text (p + 1) e v → (e ≡ p + 1 → ⊥) → get_or text e 0 ≡ 44 → Comma text p e v
    comma e v a q c = let r = number_read e v a q in record { opens = h; number = r.0; spelled = r.1; longer = r.2; near = r.3; comma = c }

-- behind the comma
module _ (text : List ℕ) (p d v : ℕ) (a : Comma text p d v) where
  pub comma_inside : (p < length text) × (d < length text)
  comma_inside = (inside_text text p 91 a.opens (omega arith), inside_text text d 44 a.comma (omega arith))

  pub no_second : (e w : ℕ) (x : Refusal) → NumberAt text (d + 1) e w → e ≡ d + 1 → x ≡ cond (leb v 1023) (RuleSyntax (d + 1)) (RuleLimit (p + 1)) → IntervalRead text p (Err x)
  unfolding IntervalRead
  no_second e w x (nothing u z) q y = (
    tt,
    λ m k n s. let i = comma_inside in
        let f : digit (get_or text (suc d) 0) ≡ false = ap (λ (j : ℕ). digit (get_or text j 0)) (sym (add-one d)) ∙ z in
        subst (Refuses m text) (sym y)
        (unless m text v (p + 1) (RuleSyntax (d + 1))
        (λ l. one_on m text 13 d (no_upper m text k p n s i.0 a.opens d a.number a.spelled i.1 a.comma f (near_good a.near l)))
        (λ l. one_on m text 14 p (no_upper_far m text k p n s i.0 a.opens d a.number a.spelled i.1 a.comma f (near_far a.near l)))),
  )
  no_second e w x (spelt_as b c u l s r) q y = absurd (omega arith)

  module _ (e w : ℕ) (b : NumberAt text (d + 1) e w) (q : e ≡ d + 1 → ⊥) where
    second : (n : ℕ) × Spelled text (suc d) e n × Near w n
    second = go b q
      where
        go : {e w : ℕ} → NumberAt text (d + 1) e w → (e ≡ d + 1 → ⊥) → (n : ℕ) × Spelled text (suc d) e n × Near w n
        go (nothing u z) q = absurd (q refl)
        go (spelt_as b c u l s r) q = (u, subst (λ (i : ℕ). Spelled text i b u) (add-one d) s, r)

    pub second_inside : (d + 1 ≤ e) × (e ≤ length text) × (p + 1 ≤ d) × (d ≤ length text)
    second_inside = let l = longer b q in (l, second.1.inside, omega (arith, a.longer), omega (arith, comma_inside.1))
      where
        longer : {e w : ℕ} → NumberAt text (d + 1) e w → (e ≡ d + 1 → ⊥) → d + 1 ≤ e
        longer (nothing u z) q = omega arith
        longer (spelt_as b c u l s r) q = omega arith

    pub not_closed : (x y : Refusal) → (get_or text e 0 ≡ 93 → ⊥) → x ≡ cond (leb w 1023) (RuleSyntax e) (RuleLimit (d + 1)) → y ≡ cond (leb v 1023) x (RuleLimit (p + 1))
        → IntervalRead text p (Err y)
    unfolding IntervalRead
    not_closed x y z f g = (
      tt,
      λ m k n s. let i = comma_inside in
          subst (Refuses m text) (sym g)
          (unless m text v (p + 1) x
          (λ l. subst (Refuses m text) (sym f)
          (unless m text w (d + 1) (RuleSyntax e)
          (λ o. open_end m text k p n s i.0 a.opens d a.number a.spelled i.1 a.comma e second.0 second.1 z (near_good a.near l) (near_good second.2 o))
          (λ o. one_on m text 14 d (open_far_upper m text k p n s i.0 a.opens d a.number a.spelled i.1 a.comma e second.0 second.1 z (near_good a.near l) (near_far second.2 o)))))
          (λ l. one_on m text 14 p (open_far_lower m text k p n s i.0 a.opens d a.number a.spelled i.1 a.comma e second.0 second.1 z (near_far a.near l)))),
    )

    module _ (z : get_or text e 0 ≡ 93) (r : Bool) (o : (x y : ℕ) → Spelled text (p + 1) d x → Spelled text (d + 1) e y → r ≡ ltb y x) where
      order : r ≡ ltb second.0 a.number
      order = o a.number second.0 (subst (λ (i : ℕ). Spelled text i d a.number) (sym (add-one p)) a.spelled) (subst (λ (i : ℕ). Spelled text i e second.0) (sym (add-one d)) second.1)

      closes : e < length text
      closes = inside_text text e 93 z (omega arith)

      pub crossed : r ≡ true → IntervalRead text p (Err (RuleLimit p))
      unfolding IntervalRead
      crossed f = (
        tt,
        λ m k n s. let i = comma_inside in
            above_closed m text k p n s i.0 a.opens d a.number a.spelled i.1 a.comma e second.0 second.1 closes z (ltb-true second.0 a.number (sym order ∙ f)),
      )

      module _ (f : r ≡ false) where
        pub far_first : 1023 < v → IntervalRead text p (Err (RuleLimit (p + 1)))
        unfolding IntervalRead
        far_first l = (
          tt,
          λ m k n s. let i = comma_inside in
              one_on m text 14 p (far_lower_closed m text k p n s i.0 a.opens d a.number a.spelled i.1 a.comma e second.0 second.1 (ltb-false second.0 a.number (sym order ∙ f)) (near_far a.near l)),
        )

        pub far_second : v ≤ 1023 → 1023 < w → IntervalRead text p (Err (RuleLimit (d + 1)))
        unfolding IntervalRead
        far_second l g = (
          tt,
          λ m k n s. let i = comma_inside in
              one_on m text 14 d (far_upper_closed m text k p n s i.0 a.opens d a.number a.spelled i.1 a.comma e second.0 second.1 (ltb-false second.0 a.number (sym order ∙ f)) (near_good a.near l) (near_far second.2 g)),
        )

        pub interval_read : v ≤ 1023 → w ≤ 1023 → IntervalRead text p (Ok (record { at = e + 1; lower = v; upper = w }))
        unfolding IntervalRead
        interval_read l g = (
          (l, g),
          λ m k n s. let i = comma_inside in
              let x = a.near.exact l in
              let y = second.2.exact g in
              record {
                state = subst (λ (j : ℕ). State m text (right k) j n) (sym (add-one e))
                    (closed m text k p n s i.0 a.opens d a.number a.spelled i.1 a.comma e second.0 second.1 closes z (ltb-false second.0 a.number (sym order ∙ f)) (near_good second.2 g));
                stands = stands x y;
              },
        )
          where
            stands : v ≡ a.number → w ≡ second.0 → drop p text ≡ T.interval v w ++ drop (e + 1) text
            stands x y =
                let i = comma_inside in
                drop-cons text p 0 i.0 ∙ ap (λ (c : ℕ). c ∷ drop (suc p) text) a.opens
                ∙ ap (λ (u : List ℕ). 91 ∷ u) (a.spelled.spells ∙ ap (λ (u : List ℕ). digits a.number ++ u) (drop-cons text d 0 i.1 ∙ ap (λ (c : ℕ). c ∷ drop (suc d) text) a.comma
                ∙ ap (λ (u : List ℕ). 44 ∷ u) (second.1.spells ∙ ap (λ (u : List ℕ). digits second.0 ++ u) (drop-cons text e 0 closes ∙ ap (λ (c : ℕ). c ∷ drop (suc e) text) z))))
                ∙ inwards (digits a.number) (digits second.0) (drop (suc e) text)
                ∙ ap (λ (j : ℕ). T.interval a.number second.0 ++ drop j text) (sym (add-one e))
                ∙ ap (λ (j : ℕ). T.interval j second.0 ++ drop (e + 1) text) (sym x) ∙ ap (λ (j : ℕ). T.interval v j ++ drop (e + 1) text) (sym y)
              where
                inwards : (u w q : List ℕ) → 91 ∷ (u ++ 44 ∷ (w ++ 93 ∷ q)) ≡ (91 ∷ (u ++ 44 ∷ [] ++ w ++ 93 ∷ [])) ++ q
                inwards u w q = simp append_assoc

-- ---- words

pub matched_text : (text : List ℕ) (at : ℕ) (word : List ℕ) (n : ℕ) → Matching text at word n → length word ≤ n → drop at text ≡ word ++ drop (at + n) text
matched_text text at word n r h = r.alike ∙ ap (λ (w : List ℕ). w ++ drop (at + n) text) (take_all n word h)

-- what `word_at` found, by its result
module _ (text : List ℕ) (at : ℕ) (word : List ℕ) (found : Result ℕ Refusal) (d : WordAt text at word found) where
  pub cut_at : (q : Refusal) → found ≡ Err q → (n : ℕ) × (n < length word) × Matching text at word n × (q ≡ RuleSyntax (at + n))
  cut_at q e = subst (WordAt text at word) e d

  pub word_there : (e : ℕ) → found ≡ Ok e → (e ≡ at + length word) × Matching text at word (length word)
  word_there e f = subst (WordAt text at word) f d

module _ (text : List ℕ) (at : ℕ) (rest : List ℕ) (kind : LineKind) (found : Result ℕ Refusal) (d : WordAt text at rest found) where
  pub word_refused : (q : Refusal) → found ≡ Err q → WordRead text at rest kind (Err q)
  unfolding WordRead
  word_refused q f = λ p m l k s. let w = cut_at text at rest found d q f in subst (Refuses m text) (sym w.3) (word_broken m text rest l at k w.0 p s w.2 w.1)

  pub timed_cut : (q : Refusal) → found ≡ Err q → TimedRead text at rest kind (Err q)
  unfolding TimedRead
  timed_cut q f = λ p m k j s. let w = cut_at text at rest found d q f in subst (Refuses m text) (sym w.3) (word_broken m text rest (byte 91 ∷ bounds k) at j w.0 p s w.2 w.1)

  module _ (e : ℕ) (f : found ≡ Ok e) where
    there : (e ≡ at + length rest) × Matching text at rest (length rest)
    there = word_there text at rest found d e f

    word_state : (m k : ℕ) (l : List Wanted) → PlainWord rest → State m text (bytes rest l) at k → State m text l e k
    word_state m k l p s = subst (λ (j : ℕ). State m text l j k) (sym there.0) (word_read m text rest l at k p s there.1)

    word_text : drop at text ≡ rest ++ drop e text
    word_text = matched_text text at rest (length rest) there.1 (omega arith) ∙ ap (λ (j : ℕ). rest ++ drop j text) (sym there.0)

    pub word_done : WordRead text at rest kind (Ok (record { at = e; kind = kind; lower = 0; upper = 0 }))
    unfolding WordRead
    word_done = λ p m l k s. (word_state m k l p s, word_text, refl)

    module _ (x : Result Bounds Refusal) (i : IntervalRead text e x) where
      reads : (m : ℕ) (k : List Wanted) (j : ℕ) → PlainWord rest → State m text (bytes rest (byte 91 ∷ bounds k)) at j → IntervalOut m text k e j x
      unfolding IntervalRead
      reads m k j p s = i.1 m k j (word_state m j (byte 91 ∷ bounds k) p s)

      pub timed_refused : (q : Refusal) → x ≡ Err q → TimedRead text at rest kind (Err q)
      unfolding TimedRead
      timed_refused q g = λ p m k j s. subst (λ (z : Result Bounds Refusal). IntervalOut m text k e j z) g (reads m k j p s)

      module _ (b : Bounds) (g : x ≡ Ok b) where
        good : (m : ℕ) (k : List Wanted) (j : ℕ) → PlainWord rest → State m text (bytes rest (byte 91 ∷ bounds k)) at j → IntervalGood m text k e j b.at b.lower b.upper
        good m k j p s = subst (λ (z : Result Bounds Refusal). IntervalOut m text k e j z) g (reads m k j p s)

        pub no_space : (get_or text b.at 0 ≡ 32 → ⊥) → TimedRead text at rest kind (Err (RuleSyntax b.at))
        unfolding TimedRead
        no_space h = λ p m k j s. no_plain_byte m text 32 (term ∷ byte 41 ∷ k) b.at j (good m k j p s).state h

        pub timed_done : get_or text b.at 0 ≡ 32 → TimedRead text at rest kind (Ok (record { at = b.at + 1; kind = kind; lower = b.lower; upper = b.upper }))
        unfolding TimedRead
        timed_done h = λ p m k j s.
            let o = good m k j p s in
            let l = inside_text text b.at 32 h (omega arith) in (
              subst (λ (z : ℕ). State m text (term ∷ byte 41 ∷ k) z j) (sym (add-one b.at)) (plain_byte m text 32 (term ∷ byte 41 ∷ k) b.at j refl o.state l h),
              word_text ∙ ap (λ (w : List ℕ). rest ++ w) (o.stands ∙ ap (λ (w : List ℕ). T.interval b.lower b.upper ++ w)
                  (drop-cons text b.at 0 l ∙ ap (λ (c : ℕ). c ∷ drop (suc b.at) text) h ∙ ap (λ (z : ℕ). 32 ∷ drop z text) (sym (add-one b.at)))),
              refl,
            )

-- a bound that was read is no wider than its field
pub narrow : (text : List ℕ) (at : ℕ) (x : Result Bounds Refusal) (b : Bounds) → IntervalRead text at x → x ≡ Ok b → (b.lower ≤ 1023) × (b.upper ≤ 1023)
unfolding IntervalRead
narrow text at x b i e = subst Narrow e i.0

-- ---- what joins two terms

module _ (text : List ℕ) (at : ℕ) where
  pub joint_no_space : (get_or text at 0 ≡ 32 → ⊥) → JointRead text at (Err (RuleSyntax at))
  unfolding JointRead
  joint_no_space h = λ m k n s. no_plain_byte m text 32 (joint ∷ k) at n s h

  module _ (h : get_or text at 0 ≡ 32) where
    behind_space : (m : ℕ) (k : List Wanted) (n : ℕ) → State m text (byte 32 ∷ joint ∷ k) at n → State m text (joint ∷ k) (at + 1) n
    behind_space m k n s =
        subst (λ (z : ℕ). State m text (joint ∷ k) z n) (sym (add-one at)) (plain_byte m text 32 (joint ∷ k) at n refl s (inside_text text at 32 h (omega arith)) h)

    no_step : (k : List Wanted) (c : ℕ) → (c ≡ 111 → ⊥) → (c ≡ 97 → ⊥) → (c ≡ 115 → ⊥) → (c ≡ 117 → ⊥) → step (joint ∷ k) c ≡ stuck
    no_step k c a b d e = four (eqb c 111) (eqb c 97) (eqb c 115) (eqb c 117) _ _ _ _ (ne_eqb c 111 a) (ne_eqb c 97 b) (ne_eqb c 115 d) (ne_eqb c 117 e)

    pub no_joint : (get_or text (at + 1) 0 ≡ 111 → ⊥) → (get_or text (at + 1) 0 ≡ 97 → ⊥) → (get_or text (at + 1) 0 ≡ 115 → ⊥) → (get_or text (at + 1) 0 ≡ 117 → ⊥)
        → JointRead text at (Err (RuleSyntax (at + 1)))
    unfolding JointRead
    no_joint a b d e = λ m k n s. refuse_syntax (joint ∷ k) (at + 1) n (behind_space m k n s) (no_step k (get_or text (at + 1) 0) a b d e) (λ l. refl) (λ x. absurd (false≢true x))

    module _ (c : ℕ) (f : get_or text (at + 1) 0 ≡ c) (p : plain c ≡ true) (z : 0 < c) where
      behind_first : (m : ℕ) (k l : List Wanted) (n : ℕ) → step (joint ∷ k) c ≡ on l → State m text (byte 32 ∷ joint ∷ k) at n → State m text l (at + 2) n
      behind_first m k l n e s =
          let i : suc (at + 1) ≡ at + 2 = omega arith in
          let q : n + 0 ≡ n = omega arith in
          subst (λ (j : ℕ). State m text l j n) i
          (subst (λ (j : ℕ). State m text l (suc (at + 1)) j) q
          (advance (joint ∷ k) (at + 1) n (behind_space m k n s) l c (inside_text text (at + 1) c f z) f e
          (plain_not c 91 refl p) (plain_not c 109 refl p) (plain_not c 44 refl p) (λ x. absurd (plain_not c 40 refl p x)) (λ x. absurd (false≢true x))))

      stands : drop at text ≡ 32 ∷ (c ∷ drop (at + 2) text)
      stands =
          let l = inside_text text (at + 1) c f z in
          let i : suc at ≡ at + 1 = omega arith in
          let j : suc (at + 1) ≡ at + 2 = omega arith in
          drop-cons text at 0 (omega arith) ∙ ap (λ (x : ℕ). x ∷ drop (suc at) text) h
          ∙ ap (λ (x : ℕ). 32 ∷ drop x text) i ∙ ap (λ (u : List ℕ). 32 ∷ u) (drop-cons text (at + 1) 0 l ∙ ap (λ (x : ℕ). x ∷ drop (suc (at + 1)) text) f ∙ ap (λ (x : ℕ). c ∷ drop x text) j)

      pub plain_joint : (j : T.Joint) (rest : List ℕ) (kind : LineKind) (r : Result Joint Refusal) → ((k : List Wanted) → step (joint ∷ k) c ≡ on (bytes rest (term ∷ byte 41 ∷ k)))
          → c ∷ rest ≡ T.word j ++ 32 ∷ [] → ((a b : ℕ) → formula_numbers (joined j a b) false ≡ numbered (kind_number kind) a b 0 0 false) → PlainWord rest
          → WordRead text (at + 2) rest kind r → JointRead text at r
      unfolding JointRead WordRead
      plain_joint j rest kind (Err q) e w codes y r = λ m k n s. r y m (term ∷ byte 41 ∷ k) n (behind_first m k (bytes rest (term ∷ byte 41 ∷ k)) n (e k) s)
      plain_joint j rest kind (Ok v) e w codes y r = λ m k n s.
          let o = r y m (term ∷ byte 41 ∷ k) n (behind_first m k (bytes rest (term ∷ byte 41 ∷ k)) n (e k) s) in (
            j,
            o.0,
            stands ∙ ap (λ (u : List ℕ). 32 ∷ (c ∷ u)) o.1 ∙ ap (λ (u : List ℕ). 32 ∷ (u ++ drop v.at text)) w ∙ ap (λ (u : List ℕ). 32 ∷ u) (append_assoc (T.word j) (32 ∷ []) (drop v.at text)),
            λ a b. codes a b ∙ sym (ap (λ (x : Joint). numbered (kind_number x.kind) a b x.lower x.upper false) o.2),
          )

      pub timed_joint : (j : ℕ → ℕ → T.Joint) (rest : List ℕ) (kind : LineKind) (r : Result Joint Refusal) → ((k : List Wanted) → step (joint ∷ k) c ≡ on (bytes rest (byte 91 ∷ bounds k)))
          → ((x y : ℕ) → c ∷ (rest ++ T.interval x y) ≡ T.word (j x y)) → ((x y a b : ℕ) → formula_numbers (joined (j x y) a b) false ≡ numbered (kind_number kind) a b x y false) → PlainWord rest
          → TimedRead text (at + 2) rest kind r → JointRead text at r
      unfolding JointRead TimedRead
      timed_joint j rest kind (Err q) e w codes y r = λ m k n s. r y m k n (behind_first m k (bytes rest (byte 91 ∷ bounds k)) n (e k) s)
      timed_joint j rest kind (Ok v) e w codes y r = λ m k n s.
          let o = r y m k n (behind_first m k (bytes rest (byte 91 ∷ bounds k)) n (e k) s) in (
            j v.lower v.upper,
            o.0,
            stands ∙ ap (λ (u : List ℕ). 32 ∷ (c ∷ u)) (o.1 ∙ sym (append_assoc rest (T.interval v.lower v.upper) (32 ∷ drop v.at text)))
                ∙ ap (λ (u : List ℕ). 32 ∷ (u ++ 32 ∷ drop v.at text)) (w v.lower v.upper),
            λ a b. codes v.lower v.upper a b ∙ ap (λ (x : LineKind). numbered (kind_number x) a b v.lower v.upper false) (sym o.2),
          )
