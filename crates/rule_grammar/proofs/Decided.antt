-- Laws of the definitions in specs/Decided. Assumes nothing.
use Rattle.std.specs.Prelude.{ℕ, zero, suc, ◌≤◌, ◌≡◌, refl, Bool, true, false, ◌↔◌, List, [], ◌∷◌, ◌++◌, eqb, length, take}
use Rattle.std.proofs.Common.{arith, sym, ap, subst, ◌∙◌, true≢false, eqb-true, eq-eqb}
use Rattle.std.proofs.lemmas.Bool.{false≢true}
use Rattle.rule_grammar.specs.Numeral.{digits, digit, Calm, Digits}
use Rattle.rule_grammar.proofs.Numeral.{digits_digits, head, tail, put}
use Rattle.rule_grammar.proofs.Spelling.{spelt, led, zero_is}
use Rattle.rule_grammar.specs.Term.{Joint, Or, And, Since, Until, Term, True, Mark, Not, Group, interval, word, looks}
use Rattle.rule_grammar.proofs.Reading.{two, three}
use Rattle.rule_grammar.specs.Places.{Readable, GoesOn, Longest}
use Rattle.rule_grammar.specs.Automaton.{Wanted, byte, term, number, more, joint, Next, stuck, on, bytes, pick, right, bounds, step, eats, left, may_end}
use Rattle.rule_grammar.specs.Decided.{Begins, Fine, Quiet, Wants, Whole, rule}

quiet_byte : (b : ℕ) (k : List Wanted) → digit b ≡ false → Quiet (byte b ∷ k)
quiet_byte b k e w h = subst Calm (sym h.1) e

-- what a step of the automaton does
abbrev After : List Wanted → ℕ → Next → Type 0
After k c stuck = (w : List ℕ) → Wants k (c ∷ w) → ⊥
After k c (on l) = Fine l × ((w : List ℕ) → Wants k (c ∷ w) ↔ Wants l w)

other : {A : Type 0} {a b : ℕ} → a ≡ b → (a ≡ b → ⊥) → A
other e h = absurd (h e)

pub pick_law : {A : Type 0} (P : ℕ → A → Type 0) (a b c d : ℕ) (x y z w e : A) → P a x → P b y → P c z → P d w
    → ((v : ℕ) → (v ≡ a → ⊥) → (v ≡ b → ⊥) → (v ≡ c → ⊥) → (v ≡ d → ⊥) → P v e) → (v : ℕ) → P v (pick a b c d x y z w e v)
pick_law {A} P a b c d x y z w e p q r s o v = go (eqb v a) refl (eqb v b) refl (eqb v c) refl (eqb v d) refl
  where
    not_that : (n : ℕ) → eqb v n ≡ false → v ≡ n → ⊥
    not_that n f g = true≢false (sym (eq-eqb v n g) ∙ f)

    at : (n : ℕ) (m : A) → eqb v n ≡ true → P n m → P v m
    at n m f g = subst (λ k. P k m) (sym (eqb-true v n f)) g

    go : (f : Bool) → eqb v a ≡ f → (g : Bool) → eqb v b ≡ g → (h : Bool) → eqb v c ≡ h → (i : Bool) → eqb v d ≡ i
        → P v (elim f [ true ↦ x | false ↦ elim g [ true ↦ y | false ↦ elim h [ true ↦ z | false ↦ elim i [ true ↦ w | false ↦ e ] ] ] ])
    go true f g m h n i l = at a x f p
    go false f true m h n i l = at b y m q
    go false f false m true n i l = at c z n r
    go false f false m false n true l = at d w l s
    go false f false m false n false l = o v (not_that a f) (not_that b m) (not_that c n) (not_that d l)

-- a term begins with one of four bytes
step_term : (k : List Wanted) → Quiet k → Fine k → (c : ℕ) → After (term ∷ k) c (step (term ∷ k) c)
step_term k q f = pick_law (After (term ∷ k)) 116 109 110 40 _ _ _ _ _ is_true is_mark is_not is_group none
  where
    is_true : After (term ∷ k) 116 (on (bytes (114 ∷ 117 ∷ 101 ∷ []) k))
    is_true = (f, λ w. (there w, λ h. (True, h.2.2.0, rw (h.1, h.2.1, h.2.2.1) refl, h.2.2.2)))
      where
        there : (w : List ℕ) → Wants (term ∷ k) (116 ∷ w) → Wants (bytes (114 ∷ 117 ∷ 101 ∷ []) k) w
        there w h = go h.0 h.1 h.2 h.3
          where
            go : (x : Term) (u : List ℕ) → 116 ∷ w ≡ looks x ++ u → Wants k u → Wants (bytes (114 ∷ 117 ∷ 101 ∷ []) k) w
            go True u e l = (117 ∷ 101 ∷ u, tail e, (101 ∷ u, refl, (u, refl, l)))
            go (Mark n) u e l = absurd (omega (arith, head e))
            go (Not x) u e l = absurd (omega (arith, head e))
            go (Group x j y) u e l = absurd (omega (arith, head e))

    is_mark : After (term ∷ k) 109 (on (number ∷ k))
    is_mark = ((q, f), λ w. (there w, λ h. (Mark h.0, h.1, put 109 h.2, h.3)))
      where
        there : (w : List ℕ) → Wants (term ∷ k) (109 ∷ w) → Wants (number ∷ k) w
        there w h = go h.0 h.1 h.2 h.3
          where
            go : (x : Term) (u : List ℕ) → 109 ∷ w ≡ looks x ++ u → Wants k u → Wants (number ∷ k) w
            go True u e l = absurd (omega (arith, head e))
            go (Mark n) u e l = (n, u, tail e, l)
            go (Not x) u e l = absurd (omega (arith, head e))
            go (Group x j y) u e l = absurd (omega (arith, head e))

    is_not : After (term ∷ k) 110 (on (bytes (111 ∷ 116 ∷ 32 ∷ []) (term ∷ k)))
    is_not = ((q, f), λ w. (there w, λ h. (Not h.2.2.2.0, h.2.2.2.1, rw (h.1, h.2.1, h.2.2.1, h.2.2.2.2) refl, h.2.2.2.3)))
      where
        there : (w : List ℕ) → Wants (term ∷ k) (110 ∷ w) → Wants (bytes (111 ∷ 116 ∷ 32 ∷ []) (term ∷ k)) w
        there w h = go h.0 h.1 h.2 h.3
          where
            go : (x : Term) (u : List ℕ) → 110 ∷ w ≡ looks x ++ u → Wants k u → Wants (bytes (111 ∷ 116 ∷ 32 ∷ []) (term ∷ k)) w
            go True u e l = absurd (omega (arith, head e))
            go (Mark n) u e l = absurd (omega (arith, head e))
            go (Not x) u e l = (116 ∷ 32 ∷ (looks x ++ u), tail e, (32 ∷ (looks x ++ u), refl, (looks x ++ u, refl, (x, u, refl, l))))
            go (Group x j y) u e l = absurd (omega (arith, head e))

    is_group : After (term ∷ k) 40 (on (term ∷ byte 32 ∷ joint ∷ k))
    is_group = ((quiet_byte 32 (joint ∷ k) refl, f), λ w. (there w, back w))
      where
        there : (w : List ℕ) → Wants (term ∷ k) (40 ∷ w) → Wants (term ∷ byte 32 ∷ joint ∷ k) w
        there w h = go h.0 h.1 h.2 h.3
          where
            go : (x : Term) (u : List ℕ) → 40 ∷ w ≡ looks x ++ u → Wants k u → Wants (term ∷ byte 32 ∷ joint ∷ k) w
            go True u e l = absurd (omega (arith, head e))
            go (Mark n) u e l = absurd (omega (arith, head e))
            go (Not x) u e l = absurd (omega (arith, head e))
            go (Group x j y) u e l = (
              x,
              32 ∷ (word j ++ 32 ∷ (looks y ++ 41 ∷ u)),
              tail e ∙ three (looks x) (word j) (looks y) u 32 32 41,
              (word j ++ 32 ∷ (looks y ++ 41 ∷ u), refl, (j, y, u, refl, l)),
            )

        back : (w : List ℕ) → Wants (term ∷ byte 32 ∷ joint ∷ k) w → Wants (term ∷ k) (40 ∷ w)
        back w h =
            let x = h.0 in
            let g = h.3.2 in
            let j = g.0 in
            let y = g.1 in
            let u = g.2 in (
              Group x j y,
              u,
              put 40 (h.2 ∙ ap (λ (v : List ℕ). looks x ++ v) (h.3.1 ∙ put 32 g.3) ∙ sym (three (looks x) (word j) (looks y) u 32 32 41)),
              g.4,
            )

    none : (v : ℕ) → (v ≡ 116 → ⊥) → (v ≡ 109 → ⊥) → (v ≡ 110 → ⊥) → (v ≡ 40 → ⊥) → After (term ∷ k) v stuck
    none v a b c d w h = go h.0 h.1 h.2
      where
        go : (x : Term) (u : List ℕ) → v ∷ w ≡ looks x ++ u → ⊥
        go True u e = a (head e)
        go (Mark n) u e = b (head e)
        go (Not x) u e = c (head e)
        go (Group x j y) u e = d (head e)

-- and so does what follows "(x "
step_joint : (k : List Wanted) → Fine k → (c : ℕ) → After (joint ∷ k) c (step (joint ∷ k) c)
step_joint k f = pick_law (After (joint ∷ k)) 111 97 115 117 _ _ _ _ _ is_or is_and is_since is_until none
  where
    -- " y)", and the whole after "["
    to_right : (y : Term) (u : List ℕ) → Wants k u → Wants (right k) (32 ∷ (looks y ++ 41 ∷ u))
    to_right y u l = (looks y ++ 41 ∷ u, refl, (y, 41 ∷ u, refl, (u, refl, l)))

    fine_right : Fine (right k)
    fine_right = (quiet_byte 41 k refl, f)

    of_right : (w : List ℕ) → Wants (right k) w → (y : Term) × (u : List ℕ) × (w ≡ 32 ∷ (looks y ++ 41 ∷ u)) × Wants k u
    of_right w h = (h.2.0, h.2.3.0, h.1 ∙ put 32 (h.2.2 ∙ ap (λ (v : List ℕ). looks h.2.0 ++ v) h.2.3.1), h.2.3.2)

    to_bounds : (a b : ℕ) (v : List ℕ) → Wants (right k) v → Wants (bounds k) ((digits a ++ 44 ∷ [] ++ digits b ++ 93 ∷ []) ++ v)
    to_bounds a b v l = (a, 44 ∷ (digits b ++ 93 ∷ v), two (digits a) (digits b) v 44 93, (digits b ++ 93 ∷ v, refl, (b, 93 ∷ v, refl, (v, refl, l))))

    fine_bounds : Fine (bounds k)
    fine_bounds = (quiet_byte 44 (number ∷ byte 93 ∷ right k) refl, (quiet_byte 93 (right k) refl, fine_right))

    of_bounds : (w : List ℕ) → Wants (bounds k) w → (a b : ℕ) × (v : List ℕ) × (91 ∷ w ≡ interval a b ++ v) × Wants (right k) v
    of_bounds w h =
        let a = h.0 in
        let b = h.3.2.0 in
        let v = h.3.2.3.0 in (
          a,
          b,
          v,
          put 91 (h.2 ∙ ap (λ (z : List ℕ). digits a ++ z) (h.3.1 ∙ put 44 (h.3.2.2 ∙ ap (λ (z : List ℕ). digits b ++ z) h.3.2.3.1)) ∙ sym (two (digits a) (digits b) v 44 93)),
          h.3.2.3.2,
        )

    is_or : After (joint ∷ k) 111 (on (byte 114 ∷ right k))
    is_or = (fine_right, λ w. (there w, λ h. let r = of_right h.0 h.2 in (Or, r.0, r.1, put 111 (h.1 ∙ put 114 r.2), r.3)))
      where
        there : (w : List ℕ) → Wants (joint ∷ k) (111 ∷ w) → Wants (byte 114 ∷ right k) w
        there w h = go h.0 h.1 h.2 h.3 h.4
          where
            go : (j : Joint) (y : Term) (u : List ℕ) → 111 ∷ w ≡ word j ++ 32 ∷ (looks y ++ 41 ∷ u) → Wants k u → Wants (byte 114 ∷ right k) w
            go Or y u e l = (_, tail e, to_right y u l)
            go And y u e l = absurd (omega (arith, head e))
            go (Since a b) y u e l = absurd (omega (arith, head e))
            go (Until a b) y u e l = absurd (omega (arith, head e))

    is_and : After (joint ∷ k) 97 (on (bytes (110 ∷ 100 ∷ []) (right k)))
    is_and = (fine_right, λ w. (there w, λ h. let r = of_right h.2.0 h.2.2 in (And, r.0, r.1, put 97 (h.1 ∙ put 110 (h.2.1 ∙ put 100 r.2)), r.3)))
      where
        there : (w : List ℕ) → Wants (joint ∷ k) (97 ∷ w) → Wants (bytes (110 ∷ 100 ∷ []) (right k)) w
        there w h = go h.0 h.1 h.2 h.3 h.4
          where
            go : (j : Joint) (y : Term) (u : List ℕ) → 97 ∷ w ≡ word j ++ 32 ∷ (looks y ++ 41 ∷ u) → Wants k u → Wants (bytes (110 ∷ 100 ∷ []) (right k)) w
            go Or y u e l = absurd (omega (arith, head e))
            go And y u e l = (_, tail e, (_, refl, to_right y u l))
            go (Since a b) y u e l = absurd (omega (arith, head e))
            go (Until a b) y u e l = absurd (omega (arith, head e))

    is_since : After (joint ∷ k) 115 (on (bytes (105 ∷ 110 ∷ 99 ∷ 101 ∷ 91 ∷ []) (bounds k)))
    is_since = (fine_bounds, λ w. (there w, back w))
      where
        there : (w : List ℕ) → Wants (joint ∷ k) (115 ∷ w) → Wants (bytes (105 ∷ 110 ∷ 99 ∷ 101 ∷ 91 ∷ []) (bounds k)) w
        there w h = go h.0 h.1 h.2 h.3 h.4
          where
            go : (j : Joint) (y : Term) (u : List ℕ) → 115 ∷ w ≡ word j ++ 32 ∷ (looks y ++ 41 ∷ u) → Wants k u → Wants (bytes (105 ∷ 110 ∷ 99 ∷ 101 ∷ 91 ∷ []) (bounds k)) w
            go Or y u e l = absurd (omega (arith, head e))
            go And y u e l = absurd (omega (arith, head e))
            go (Since a b) y u e l = (_, tail e, (_, refl, (_, refl, (_, refl, (_, refl, to_bounds a b _ (to_right y u l))))))
            go (Until a b) y u e l = absurd (omega (arith, head e))

        back : (w : List ℕ) → Wants (bytes (105 ∷ 110 ∷ 99 ∷ 101 ∷ 91 ∷ []) (bounds k)) w → Wants (joint ∷ k) (115 ∷ w)
        back w h =
            let l = of_bounds h.2.2.2.2.0 h.2.2.2.2.2 in
            let r = of_right l.2 l.4 in (
              Since l.0 l.1,
              r.0,
              r.1,
              put 115 (h.1 ∙ put 105 (h.2.1 ∙ put 110 (h.2.2.1 ∙ put 99 (h.2.2.2.1 ∙ put 101
                  (h.2.2.2.2.1 ∙ l.3 ∙ ap (λ (z : List ℕ). interval l.0 l.1 ++ z) r.2))))),
              r.3,
            )

    is_until : After (joint ∷ k) 117 (on (bytes (110 ∷ 116 ∷ 105 ∷ 108 ∷ 91 ∷ []) (bounds k)))
    is_until = (fine_bounds, λ w. (there w, back w))
      where
        there : (w : List ℕ) → Wants (joint ∷ k) (117 ∷ w) → Wants (bytes (110 ∷ 116 ∷ 105 ∷ 108 ∷ 91 ∷ []) (bounds k)) w
        there w h = go h.0 h.1 h.2 h.3 h.4
          where
            go : (j : Joint) (y : Term) (u : List ℕ) → 117 ∷ w ≡ word j ++ 32 ∷ (looks y ++ 41 ∷ u) → Wants k u → Wants (bytes (110 ∷ 116 ∷ 105 ∷ 108 ∷ 91 ∷ []) (bounds k)) w
            go Or y u e l = absurd (omega (arith, head e))
            go And y u e l = absurd (omega (arith, head e))
            go (Since a b) y u e l = absurd (omega (arith, head e))
            go (Until a b) y u e l = (_, tail e, (_, refl, (_, refl, (_, refl, (_, refl, to_bounds a b _ (to_right y u l))))))

        back : (w : List ℕ) → Wants (bytes (110 ∷ 116 ∷ 105 ∷ 108 ∷ 91 ∷ []) (bounds k)) w → Wants (joint ∷ k) (117 ∷ w)
        back w h =
            let l = of_bounds h.2.2.2.2.0 h.2.2.2.2.2 in
            let r = of_right l.2 l.4 in (
              Until l.0 l.1,
              r.0,
              r.1,
              put 117 (h.1 ∙ put 110 (h.2.1 ∙ put 116 (h.2.2.1 ∙ put 105 (h.2.2.2.1 ∙ put 108
                  (h.2.2.2.2.1 ∙ l.3 ∙ ap (λ (z : List ℕ). interval l.0 l.1 ++ z) r.2))))),
              r.3,
            )

    none : (v : ℕ) → (v ≡ 111 → ⊥) → (v ≡ 97 → ⊥) → (v ≡ 115 → ⊥) → (v ≡ 117 → ⊥) → After (joint ∷ k) v stuck
    none v a b c d w h = go h.0 h.1 h.2 h.3
      where
        go : (j : Joint) (y : Term) (u : List ℕ) → v ∷ w ≡ word j ++ 32 ∷ (looks y ++ 41 ∷ u) → ⊥
        go Or y u e = a (head e)
        go And y u e = b (head e)
        go (Since m n) y u e = c (head e)
        go (Until m n) y u e = d (head e)

-- "0", or another digit and more
step_number : (k : List Wanted) → Quiet k → Fine k → (c : ℕ) → After (number ∷ k) c (step (number ∷ k) c)
step_number k q f c = go (eqb c 48) refl (digit c) refl
  where
    zero_first : (n : ℕ) (u w : List ℕ) → c ≡ 48 → c ∷ w ≡ digits n ++ u → w ≡ u
    zero_first n u w e g =
        let r = led n in
        let z : n ≡ 0 = r.zero_only (sym (head (g ∙ ap (λ (v : List ℕ). v ++ u) r.is)) ∙ e) in
        tail (g ∙ ap (λ (m : ℕ). digits m ++ u) z ∙ ap (λ (v : List ℕ). v ++ u) zero_is)

    digit_first : (n : ℕ) (u w : List ℕ) → c ∷ w ≡ digits n ++ u → (digit c ≡ true) × (d : List ℕ) × Digits d × (w ≡ d ++ u)
    digit_first n u w g =
        let r = led n in
        let h = g ∙ ap (λ (v : List ℕ). v ++ u) r.is in
        let d : Digits (r.first ∷ r.rest) = subst Digits r.is (digits_digits n) in
        (ap digit (head h) ∙ d.0, r.rest, d.1, tail h)

    go : (a : Bool) → eqb c 48 ≡ a → (b : Bool) → digit c ≡ b → After (number ∷ k) c (elim a [ true ↦ on k | false ↦ elim b [ true ↦ on (more ∷ k) | false ↦ stuck ] ])
    go true e b g = let z = eqb-true c 48 e in (f, λ w. (λ h. subst (Wants k) (sym (zero_first h.0 h.1 w z h.2)) h.3, λ l. (0, w, ap (λ (m : ℕ). m ∷ w) z ∙ ap (λ (v : List ℕ). v ++ w) (sym zero_is), l)))
    go false e true g = ((q, f), λ w. (λ h. let r = digit_first h.0 h.1 w h.2 in (r.1, h.1, r.2, r.3, h.3), back w))
      where
        back : (w : List ℕ) → Wants (more ∷ k) w → Wants (number ∷ k) (c ∷ w)
        back w h =
            let r = spelt c h.0 g (λ z. true≢false (sym (eq-eqb c 48 z) ∙ e)) h.2 in
            (r.0, h.1, put c h.3 ∙ ap (λ (v : List ℕ). v ++ h.1) (sym r.1), h.4)
    go false e false g = λ w h. true≢false (sym (digit_first h.0 h.1 w h.2).0 ∙ g)

step_more : (k : List Wanted) → Quiet k → Fine k → (c : ℕ) → After k c (step k c) → After (more ∷ k) c (step (more ∷ k) c)
step_more k q f c a = go (digit c) refl
  where
    carry : (r : Next) → After k c r → ((w : List ℕ) → Wants (more ∷ k) (c ∷ w) ↔ Wants k (c ∷ w)) → After (more ∷ k) c r
    carry stuck b h = λ w x. b w ((h w).0 x)
    carry (on l) b h = (b.0, λ w. (λ x. (b.1 w).0 ((h w).0 x), λ y. (h w).1 ((b.1 w).1 y)))

    go : (b : Bool) → digit c ≡ b → After (more ∷ k) c (elim b [ true ↦ on (more ∷ k) | false ↦ step k c ])
    go true e = ((q, f), λ w. (λ h. there w h.0 h.1 h.2 h.3 h.4, λ h. (c ∷ h.0, h.1, (e, h.2), put c h.3, h.4)))
      where
        there : (w d u : List ℕ) → Digits d → c ∷ w ≡ d ++ u → Wants k u → Wants (more ∷ k) w
        there w [] u y g l = absurd (true≢false (sym e ∙ subst Calm (sym g) (q u l)))
        there w (x ∷ d) u y g l = (d, u, y.1, tail g, l)
    go false e = carry (step k c) a (λ w. (λ h. there w h.0 h.1 h.2 h.3 h.4, λ l. ([], c ∷ w, tt, refl, l)))
      where
        there : (w d u : List ℕ) → Digits d → c ∷ w ≡ d ++ u → Wants k u → Wants k (c ∷ w)
        there w [] u y g l = subst (Wants k) (sym g) l
        there w (x ∷ d) u y g l = absurd (true≢false (sym y.0 ∙ sym (ap digit (head g)) ∙ e))

-- a step is right: it is stuck where no wanted text goes on with the byte, and else what is wanted then is what may follow
pub step_right : (k : List Wanted) → Fine k → (c : ℕ) → After k c (step k c)
step_right [] f c = λ w h. let z : ◌≡◌ {A = ℕ} 0 1 = cc in absurd (omega arith)
step_right (byte b ∷ k) f c = go (eqb c b) refl
  where
    go : (a : Bool) → eqb c b ≡ a → After (byte b ∷ k) c (elim a [ true ↦ on k | false ↦ stuck ])
    go true e = (f, λ w. (λ h. subst (Wants k) (sym (tail h.1)) h.2, λ l. (w, ap (λ (m : ℕ). m ∷ w) (eqb-true c b e), l)))
    go false e = λ w h. true≢false (sym (eq-eqb c b (head h.1)) ∙ e)
step_right (term ∷ k) f c = step_term k f.0 f.1 c
step_right (number ∷ k) f c = step_number k f.0 f.1 c
step_right (more ∷ k) f c = step_more k f.0 f.1 c (step_right k f.1 c)
step_right (joint ∷ k) f c = step_joint k f c

-- every stack wants some text
fill : (k : List Wanted) → (w : List ℕ) × Wants k w
fill [] = ([], refl)
fill (byte b ∷ k) = let r = fill k in (b ∷ r.0, (r.0, refl, r.1))
fill (term ∷ k) = let r = fill k in (looks True ++ r.0, (True, r.0, refl, r.1))
fill (number ∷ k) = let r = fill k in (digits 0 ++ r.0, (0, r.0, refl, r.1))
fill (more ∷ k) = let r = fill k in (r.0, ([], r.0, tt, refl, r.1))
fill (joint ∷ k) = let r = fill k in (word Or ++ 32 ∷ (looks True ++ 41 ∷ r.0), (Or, True, r.0, refl, r.1))

eaten : (k : List Wanted) (w : List ℕ) → Fine k → Begins k (take (eats k w) w)
eaten k [] f = fill k
eaten k (c ∷ w) f = go (step k c) (step_right k f c) (λ l g. eaten l w g)
  where
    go : (r : Next) → After k c r → ((l : List Wanted) → Fine l → Begins l (take (eats l w) w)) → Begins k (take (elim r [ stuck ↦ 0 | on l ↦ suc (eats l w) ]) (c ∷ w))
    go stuck a ih = fill k
    go (on l) a ih = let h = ih l a.0 in (h.0, (a.1 (take (eats l w) w ++ h.0)).1 h.1)

no_more : (k : List Wanted) (w : List ℕ) → Fine k → (i : ℕ) → i ≤ length w → Begins k (take i w) → i ≤ eats k w
no_more k [] f i m h = omega arith
no_more k (c ∷ w) f zero m h = omega arith
no_more k (c ∷ w) f (suc i) m h = go (step k c) (step_right k f c) (λ l g b. no_more l w g i (omega arith) b)
  where
    go : (r : Next) → After k c r → ((l : List Wanted) → Fine l → Begins l (take i w) → i ≤ eats l w) → suc i ≤ (elim r [ stuck ↦ 0 | on l ↦ suc (eats l w) ])
    go stuck a ih = absurd (a (take i w ++ h.0) h.1)
    go (on l) a ih = let j = ih l a.0 (h.0, (a.1 (take i w ++ h.0)).0 h.1) in omega arith

fine_rule : Fine rule
fine_rule = (λ w e. subst Calm (sym e) tt, tt)

nil : (u : List ℕ) → u ++ [] ≡ u
nil [] = refl
nil (x ∷ u) = put x (nil u)

begins_goes_on : (p : List ℕ) → Begins rule p → GoesOn p
begins_goes_on p h = (h.1.0, h.0, sym (h.1.2 ∙ ap (λ (v : List ℕ). looks h.1.0 ++ v) h.1.3 ∙ nil (looks h.1.0)))

goes_on_begins : (p : List ℕ) → GoesOn p → Begins rule p
goes_on_begins p h = (h.1, (h.0, [], sym h.2 ∙ sym (nil (looks h.0)), refl))

-- the automaton takes exactly the longest beginning that goes on
pub longest_is : (text : List ℕ) → Longest text (eats rule text)
longest_is text =
    record {
      inside = inside rule text;
      goes_on = begins_goes_on (take (eats rule text) text) (eaten rule text fine_rule);
      no_longer = λ i l g. no_more rule text fine_rule i l (goes_on_begins (take i text) g);
    }
  where
    inside : (k : List Wanted) (w : List ℕ) → eats k w ≤ length w
    inside k [] = omega arith
    inside k (c ∷ w) = go (step k c) (λ l. inside l w)
      where
        go : (r : Next) → ((l : List Wanted) → eats l w ≤ length w) → (elim r [ stuck ↦ 0 | on l ↦ suc (eats l w) ]) ≤ suc (length w)
        go stuck h = omega arith
        go (on l) h = omega (arith, h l)

-- where nothing need follow, the empty text is wanted
may_end_is : (k : List Wanted) → (Wants k [] → may_end k ≡ true) × (may_end k ≡ true → Wants k [])
may_end_is [] = (λ h. refl, λ h. refl)
may_end_is (byte b ∷ k) = (λ h. let e = h.1 in let z : ◌≡◌ {A = ℕ} 0 1 = cc in absurd (omega arith), λ e. absurd (false≢true e))
may_end_is (term ∷ k) = (λ h. absurd (go h.0 h.1 h.2), λ e. absurd (false≢true e))
  where
    go : (x : Term) (u : List ℕ) → [] ≡ looks x ++ u → ⊥
    go True u e = let z : ◌≡◌ {A = ℕ} 0 1 = cc in omega arith
    go (Mark n) u e = let z : ◌≡◌ {A = ℕ} 0 1 = cc in omega arith
    go (Not x) u e = let z : ◌≡◌ {A = ℕ} 0 1 = cc in omega arith
    go (Group x j y) u e = let z : ◌≡◌ {A = ℕ} 0 1 = cc in omega arith
may_end_is (number ∷ k) = (λ h. absurd (go h.0 h.1 h.2), λ e. absurd (false≢true e))
  where
    go : (n : ℕ) (u : List ℕ) → [] ≡ digits n ++ u → ⊥
    go n u e = let f = e ∙ ap (λ (v : List ℕ). v ++ u) (led n).is in let z : ◌≡◌ {A = ℕ} 0 1 = cc in omega arith
may_end_is (more ∷ k) = (λ h. (may_end_is k).0 (go h.0 h.1 h.3 h.4), λ e. ([], [], tt, refl, (may_end_is k).1 e))
  where
    go : (d u : List ℕ) → [] ≡ d ++ u → Wants k u → Wants k []
    go [] u e l = subst (Wants k) (sym e) l
    go (x ∷ d) u e l = let z : ◌≡◌ {A = ℕ} 0 1 = cc in absurd (omega arith)
may_end_is (joint ∷ k) = (λ h. absurd (go h.0 h.1 h.2 h.3), λ e. absurd (false≢true e))
  where
    go : (j : Joint) (y : Term) (u : List ℕ) → [] ≡ word j ++ 32 ∷ (looks y ++ 41 ∷ u) → ⊥
    go Or y u e = let z : ◌≡◌ {A = ℕ} 0 1 = cc in omega arith
    go And y u e = let z : ◌≡◌ {A = ℕ} 0 1 = cc in omega arith
    go (Since a b) y u e = let z : ◌≡◌ {A = ℕ} 0 1 = cc in omega arith
    go (Until a b) y u e = let z : ◌≡◌ {A = ℕ} 0 1 = cc in omega arith

whole_is : (k : List Wanted) (w : List ℕ) → Fine k → Wants k w ↔ Whole k w
whole_is k [] f = (λ h. (refl, (may_end_is k).0 h), λ h. (may_end_is k).1 h.1)
whole_is k (c ∷ w) f = go (step k c) (step_right k f c) (λ l g. whole_is l w g)
  where
    go : (r : Next) → After k c r → ((l : List Wanted) → Fine l → Wants l w ↔ Whole l w)
        → Wants k (c ∷ w) ↔ (((elim r [ stuck ↦ 0 | on l ↦ suc (eats l w) ]) ≡ suc (length w)) × (may_end (elim r [ stuck ↦ k | on l ↦ left l w ]) ≡ true))
    go stuck a ih = (λ h. absurd (a w h), λ h. absurd (omega (arith, h.0)))
    go (on l) a ih =
        let i = ih l a.0 in
        let g = a.1 w in
        (λ h. let j = i.0 (g.0 h) in (ap suc j.0, j.1), λ h. g.1 (i.1 (omega (arith, h.0), h.1)))

-- and says which texts are of the grammar
pub readable_is : (text : List ℕ) → Readable text ↔ Whole rule text
readable_is text =
    let e = whole_is rule text fine_rule in (
      λ h. e.0 (h.0, [], sym h.1 ∙ sym (nil (looks h.0)), refl),
      λ h. let r = e.1 h in (r.0, sym (r.2 ∙ ap (λ (v : List ℕ). looks r.0 ++ v) r.3 ∙ nil (looks r.0))),
    )
