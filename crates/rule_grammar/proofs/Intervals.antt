-- Laws of the definitions in specs/Intervals. Assumes nothing.
use Rattle.std.specs.Prelude.{ℕ, zero, suc, ◌+◌, ◌≤◌, ◌<◌, ◌≡◌, refl, Bool, true, false, List, [], ◌∷◌, ◌++◌, length, take, drop, get_or}
use Rattle.std.proofs.Common.{arith, sym, ap, subst, ◌∙◌, true≢false, append_assoc, length-append, take-append-drop, eq-eqb}
use Rattle.std.proofs.lemmas.Bool.{false≢true}
use lib.Seq.{length-take-le}
use Rattle.rule_grammar.specs.Numeral.{digits, digit, Digits}
use Rattle.rule_grammar.proofs.Numeral.{digits_digits, head, tail, one_numeral}
use Rattle.rule_grammar.proofs.Spelling.{led, zero_is}
use Rattle.rule_grammar.specs.Automaton.{Wanted, byte, number, on, right, bounds, step, eats}
use Rattle.rule_grammar.specs.Decided.{rule}
use Rattle.rule_grammar.proofs.Decided.{longest_is}
use Rattle.rule_grammar.specs.Places.{Refused, Answered}
use Rattle.rule_grammar.specs.Tests.{crossed, is_nested, is_many, is_above, is_far}
use Rattle.rule_grammar.proofs.TestLaws.{crossed_is}
use Rattle.rule_grammar.specs.Runs.{Reached}
use Rattle.rule_grammar.proofs.Runs.{reached_next}
use Rattle.rule_grammar.specs.Progress.{begun, State}
use Rattle.rule_grammar.proofs.Progress.{third_of, in_begun, same_byte, refuse_limit}
use Rattle.rule_grammar.specs.Numbers.{Spelled, of_lower, of_upper, Opened}
use Rattle.rule_grammar.proofs.Numbers.{byte_here, spelled_end, number_reached, drop_cut, opens, number_none, number_far, number_good, plain_byte, no_plain_byte}
use Rattle.rule_grammar.specs.Intervals.{Closed}

-- ---- a number is read in one way

pub first_number : (text : List ℕ) (i e n a c : ℕ) (w : List ℕ) → Spelled text i e n → drop i text ≡ digits a ++ c ∷ w → digit c ≡ false → (n ≡ a) × (drop e text ≡ c ∷ w)
first_number text i e zero a c w s h f =
    let g : digits a ++ c ∷ w ≡ 48 ∷ drop e text = sym h ∙ s.spells ∙ ap (λ (z : List ℕ). z ++ drop e text) zero_is in
    let l = sym (ap (λ (z : List ℕ). z ++ c ∷ w) (led a).is) ∙ g in
    let q : a ≡ 0 = (led a).zero_only (head l) in
    let r : 48 ∷ (c ∷ w) ≡ 48 ∷ drop e text = sym (ap (λ (z : List ℕ). z ++ c ∷ w) zero_is) ∙ sym (ap (λ (z : ℕ). digits z ++ c ∷ w) q) ∙ g in
    (sym q, sym (tail r))
first_number text i e (suc n) a c w s h f =
    one_numeral (suc n) a (drop e text) (c ∷ w) (s.calm (λ x. omega arith)) f (sym s.spells ∙ h)

no_first : (text : List ℕ) (i a c : ℕ) (w : List ℕ) → drop i text ≡ digits a ++ c ∷ w → digit (get_or text i 0) ≡ false → ⊥
no_first text i a c w h f =
    let b = byte_here text i (led a).first ((led a).rest ++ c ∷ w) (h ∙ ap (λ (z : List ℕ). z ++ c ∷ w) (led a).is) in
    let d : Digits ((led a).first ∷ (led a).rest) = subst Digits (led a).is (digits_digits a) in
    true≢false (sym d.0 ∙ sym (ap digit b.1) ∙ f)

module _ (m : ℕ) (text : List ℕ) (k : List Wanted) (p n : ℕ) (s : State m text (byte 91 ∷ bounds k) p n) (h : p < length text) (at : get_or text p 0 ≡ 91) where
  lower_step : step (byte 91 ∷ bounds k) (get_or text p 0) ≡ on (bounds k)
  lower_step = ap (step (byte 91 ∷ bounds k)) at

  lower_reached : Reached text (bounds k) (suc p)
  lower_reached = reached_next text (byte 91 ∷ bounds k) (bounds k) p s.reached h lower_step

  -- where the tests say so, it stands in the text
  crossed_stands : crossed (drop (suc p) (begun text)) ≡ true → (a b : ℕ) × Closed text p a b × (b < a)
  crossed_stands e =
      let c = (crossed_is (drop (suc p) (begun text))).sound e in
      let l : suc p ≤ length (begun text) = omega (arith, in_begun m text (bounds k) (suc p) lower_reached, length-take-le (eats rule text) text (longest_is text).inside) in
      let q : drop (suc p) text ≡ drop (suc p) (begun text) ++ drop (eats rule text) text =
      ap (drop (suc p)) (sym (take-append-drop (eats rule text) text)) ∙ drop_front (suc p) (begun text) (drop (eats rule text) text) l in
      (c.0, c.1, record { rest = c.2 ++ drop (eats rule text) text; stands = q ∙ ap (λ (z : List ℕ). z ++ drop (eats rule text) text) c.3 ∙ inwards (digits c.0) (digits c.1) c.2 (drop (eats rule text) text) }, c.4)
    where
      drop_front : (n : ℕ) (u w : List ℕ) → n ≤ length u → drop n (u ++ w) ≡ drop n u ++ w
      drop_front zero u w l = refl
      drop_front (suc n) [] w l = absurd (omega arith)
      drop_front (suc n) (x ∷ u) w l = drop_front n u w (omega arith)

      inwards : (x y q w : List ℕ) → (x ++ 44 ∷ (y ++ 93 ∷ q)) ++ w ≡ x ++ 44 ∷ (y ++ 93 ∷ (q ++ w))
      inwards x y q w = simp append_assoc

  -- either it is so, or the number behind the "[" is read as any other
  lower_opens : crossed (drop (suc p) (begun text)) ≡ false → Opened m text 91 (byte 44 ∷ number ∷ byte 93 ∷ right k) (suc p) n
  lower_opens e =
      subst (λ (z : ℕ). Opened m text 91 (byte 44 ∷ number ∷ byte 93 ∷ right k) (suc p) z) (omega arith)
      (opens m text (byte 44 ∷ number ∷ byte 93 ∷ right k) 91 (byte 91 ∷ bounds k) p n of_lower s h at refl (λ x. e) (λ x. absurd (false≢true x)))

  -- a reader's own claim that there is none
  settled : ((a b : ℕ) → Closed text p a b → b < a → ⊥) → crossed (drop (suc p) (begun text)) ≡ false
  settled f = go (crossed (drop (suc p) (begun text))) refl
    where
      go : (x : Bool) → crossed (drop (suc p) (begun text)) ≡ x → crossed (drop (suc p) (begun text)) ≡ false
      go true e = let c = crossed_stands e in absurd (f c.0 c.1 c.2 c.3)
      go false e = e

  -- no digit follows the "["
  pub no_lower : digit (get_or text (suc p) 0) ≡ false → Answered m text (Refused 13 (suc p))
  no_lower e =
      number_none m text (byte 44 ∷ number ∷ byte 93 ∷ right k) 91 (suc p) n of_lower
      (lower_opens (settled (λ a b c l. no_first text (suc p) a 44 (digits b ++ 93 ∷ c.rest) c.stands e))) e

  module _ (d a : ℕ) (x : Spelled text (suc p) d a) where
    no_comma_settled : (get_or text d 0 ≡ 44 → ⊥) → crossed (drop (suc p) (begun text)) ≡ false
    no_comma_settled f =
        settled (λ u w c l. let q = first_number text (suc p) d a u 44 (digits w ++ 93 ∷ c.rest) x c.stands refl in f (byte_here text d 44 (digits w ++ 93 ∷ c.rest) q.1).1)

    -- a is past its range, and no interval is closed with a above b
    far_lower : crossed (drop (suc p) (begun text)) ≡ false → 1023 < a → Answered m text (Refused 14 (suc p))
    far_lower e l = number_far m text (byte 44 ∷ number ∷ byte 93 ∷ right k) 91 (suc p) n of_lower (lower_opens e) d a x l

    good_lower : crossed (drop (suc p) (begun text)) ≡ false → a ≤ 1023 → State m text (byte 44 ∷ number ∷ byte 93 ∷ right k) d n
    good_lower e l = number_good m text (byte 44 ∷ number ∷ byte 93 ∷ right k) 91 (suc p) n of_lower (lower_opens e) d a x (omega arith) refl

    -- no comma follows
    pub no_comma_far : (get_or text d 0 ≡ 44 → ⊥) → 1023 < a → Answered m text (Refused 14 (suc p))
    no_comma_far f l = far_lower (no_comma_settled f) l

    pub no_comma : (get_or text d 0 ≡ 44 → ⊥) → a ≤ 1023 → Answered m text (Refused 13 d)
    no_comma f l = no_plain_byte m text 44 (number ∷ byte 93 ∷ right k) d n (good_lower (no_comma_settled f) l) f

    module _ (i : d < length text) (comma : get_or text d 0 ≡ 44) where
      behind_comma : (u w : ℕ) → (c : Closed text p u w) → (a ≡ u) × (drop (suc d) text ≡ digits w ++ 93 ∷ c.rest)
      behind_comma u w c =
          let q = first_number text (suc p) d a u 44 (digits w ++ 93 ∷ c.rest) x c.stands refl in
          (q.0, (byte_here text d 44 (digits w ++ 93 ∷ c.rest) q.1).2)

      upper_opens : crossed (drop (suc p) (begun text)) ≡ false → a ≤ 1023 → Opened m text 44 (byte 93 ∷ right k) (suc d) n
      upper_opens e l =
          subst (λ (z : ℕ). Opened m text 44 (byte 93 ∷ right k) (suc d) z) (omega arith)
          (opens m text (byte 93 ∷ right k) 44 (byte 44 ∷ number ∷ byte 93 ∷ right k) d n of_upper (good_lower e l) i comma refl (λ z. absurd (omega arith)) (λ z. absurd (false≢true z)))

      no_upper_settled : digit (get_or text (suc d) 0) ≡ false → crossed (drop (suc p) (begun text)) ≡ false
      no_upper_settled e = settled (λ u w c l. no_first text (suc d) w 93 c.rest (behind_comma u w c).1 e)

      -- no digit follows the comma
      pub no_upper_far : digit (get_or text (suc d) 0) ≡ false → 1023 < a → Answered m text (Refused 14 (suc p))
      no_upper_far e l = far_lower (no_upper_settled e) l

      pub no_upper : digit (get_or text (suc d) 0) ≡ false → a ≤ 1023 → Answered m text (Refused 13 (suc d))
      no_upper e l = number_none m text (byte 93 ∷ right k) 44 (suc d) n of_upper (upper_opens (no_upper_settled e) l) e

      module _ (f b : ℕ) (y : Spelled text (suc d) f b) where
        the_same : (u w : ℕ) (c : Closed text p u w) → (a ≡ u) × (b ≡ w) × (drop f text ≡ 93 ∷ c.rest)
        the_same u w c =
            let q = behind_comma u w c in
            let r = first_number text (suc d) f b w 93 c.rest y q.1 refl in
            (q.0, r.0, r.1)

        not_closed : (get_or text f 0 ≡ 93 → ⊥) → crossed (drop (suc p) (begun text)) ≡ false
        not_closed e = settled (λ u w c l. e (byte_here text f 93 c.rest (the_same u w c).2).1)

        in_order : a ≤ b → crossed (drop (suc p) (begun text)) ≡ false
        in_order e = settled (λ u w c l. let q = the_same u w c in omega (arith, q.0, q.1))

        good_upper : crossed (drop (suc p) (begun text)) ≡ false → a ≤ 1023 → b ≤ 1023 → State m text (byte 93 ∷ right k) f n
        good_upper e l g = number_good m text (byte 93 ∷ right k) 44 (suc d) n of_upper (upper_opens e l) f b y (omega arith) refl

        -- no "]" follows
        pub open_far_lower : (get_or text f 0 ≡ 93 → ⊥) → 1023 < a → Answered m text (Refused 14 (suc p))
        open_far_lower e l = far_lower (not_closed e) l

        pub open_far_upper : (get_or text f 0 ≡ 93 → ⊥) → a ≤ 1023 → 1023 < b → Answered m text (Refused 14 (suc d))
        open_far_upper e l g = number_far m text (byte 93 ∷ right k) 44 (suc d) n of_upper (upper_opens (not_closed e) l) f b y g

        pub open_end : (get_or text f 0 ≡ 93 → ⊥) → a ≤ 1023 → b ≤ 1023 → Answered m text (Refused 13 f)
        open_end e l g = no_plain_byte m text 93 (right k) f n (good_upper (not_closed e) l g) e

        -- the interval is closed
        pub far_lower_closed : a ≤ b → 1023 < a → Answered m text (Refused 14 (suc p))
        far_lower_closed o l = far_lower (in_order o) l

        pub far_upper_closed : a ≤ b → a ≤ 1023 → 1023 < b → Answered m text (Refused 14 (suc d))
        far_upper_closed o l g = number_far m text (byte 93 ∷ right k) 44 (suc d) n of_upper (upper_opens (in_order o) l) f b y g

        pub closed : f < length text → get_or text f 0 ≡ 93 → a ≤ b → b ≤ 1023 → State m text (right k) (suc f) n
        closed z e o g = plain_byte m text 93 (right k) f n refl (good_upper (in_order o) (omega arith) g) z e

        pub above_closed : f < length text → get_or text f 0 ≡ 93 → b < a → Answered m text (Refused 14 p)
        above_closed z e o = refuse_limit m text p s.clear (third_of (is_nested (begun text) p) (is_many (begun text) p) (is_above (begun text) p) (is_far m (begun text) p) is)
          where
            comma_at : Reached text (byte 44 ∷ number ∷ byte 93 ∷ right k) d
            comma_at = number_reached text (byte 44 ∷ number ∷ byte 93 ∷ right k) (suc p) d a lower_reached x

            end_at : Reached text (byte 93 ∷ right k) f
            end_at = number_reached text (byte 93 ∷ right k) (suc d) f b (reached_next text (byte 44 ∷ number ∷ byte 93 ∷ right k) (number ∷ byte 93 ∷ right k) d comma_at i (ap (step (byte 44 ∷ number ∷ byte 93 ∷ right k)) comma)) y

            behind : Reached text (right k) (suc f)
            behind = reached_next text (byte 93 ∷ right k) (right k) f end_at z (ap (step (byte 93 ∷ right k)) e)

            text_is : drop (suc p) text ≡ (digits a ++ 44 ∷ (digits b ++ 93 ∷ [])) ++ drop (suc f) text
            text_is =
                x.spells ∙ ap (λ (w : List ℕ). digits a ++ w) (lib.Seq.drop-cons text d 0 i ∙ ap (λ (c : ℕ). c ∷ drop (suc d) text) comma)
                ∙ ap (λ (w : List ℕ). digits a ++ 44 ∷ w) (y.spells ∙ ap (λ (w : List ℕ). digits b ++ w) (lib.Seq.drop-cons text f 0 z ∙ ap (λ (c : ℕ). c ∷ drop (suc f) text) e))
                ∙ outwards (digits a) (digits b) (drop (suc f) text)
              where
                outwards : (u w q : List ℕ) → u ++ 44 ∷ (w ++ 93 ∷ q) ≡ (u ++ 44 ∷ (w ++ 93 ∷ [])) ++ q
                outwards u w q = simp append_assoc

            size : (u w : List ℕ) → length (u ++ 44 ∷ (w ++ 93 ∷ [])) ≡ length u + length w + 2
            size u w = simp length-append (omega arith)

            is : is_above (begun text) p ≡ true
            is =
                let q = same_byte m text (byte 91 ∷ bounds k) p s.reached (bounds k) h lower_step ∙ at in
                let v = in_begun m text (right k) (suc f) behind in
                let j = spelled_end text (byte 44 ∷ number ∷ byte 93 ∷ right k) (suc p) d a x in
                let g = spelled_end text (byte 93 ∷ right k) (suc d) f b y in
                let c = drop_cut text (digits a ++ 44 ∷ (digits b ++ 93 ∷ [])) (drop (suc f) text) (suc p) (eats rule text) h text_is (omega (arith, size (digits a) (digits b), j.0, g.0)) in
                rw (eq-eqb (get_or (begun text) p 0) 91 q)
                ((crossed_is (drop (suc p) (begun text))).whole (a, b, take c.0 (drop (suc f) text), c.1 ∙ inwards (digits a) (digits b) (take c.0 (drop (suc f) text)), o))
              where
                inwards : (u w q : List ℕ) → (u ++ 44 ∷ (w ++ 93 ∷ [])) ++ q ≡ u ++ 44 ∷ (w ++ 93 ∷ q)
                inwards u w q = simp append_assoc
