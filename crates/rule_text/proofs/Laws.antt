-- Laws of the definitions in specs/Laws. Assumes nothing.
use Rattle.std.specs.Prelude.{ℕ, zero, suc, ◌+◌, ◌-◌, ◌*◌, ◌≤◌, ◌<◌, ◌≡◌, refl, Bool, true, false, cond, eqb, List, [], ◌∷◌, ◌++◌, leb, ltb, length, take, drop, get_or}
use Rattle.std.proofs.Common.{arith, add-one, sym, ap, ap₂, subst, ◌∙◌, append_assoc, length-append, length-drop, drop-cons, lt-ltb, le-ltb, le-leb, ne_eqb, eq-eqb}
use Rattle.std.proofs.Math.Decide.{dec_lt}
use Rattle.std.proofs.Math.Seq.{take-append_seam}
use Rattle.std.proofs.Math.ListN.{get_or-eq_default}
use Rattle.std.proofs.lemmas.Bool.{lt-leb}
use Rattle.rule_grammar.specs.Numeral.{digits, digit, Calm, Digits, value}
use Rattle.rule_grammar.proofs.Numeral.{value_snoc, digits_digits, digits_value, head}
use Rattle.rule_grammar.proofs.Spelling.{spelt, led, zero_is, digit_range}
use Rattle.rule_grammar.specs.Numbers.{Spelled}
use Rattle.rule_grammar.proofs.Numbers.{spelled_end}
use denote.Enum.Declared.{tag_of}
use Rattle.policy.specs.contracts.LineKind.{the_type}
use Rattle.policy.specs.declared.LineKind.{LineKind}
use Rattle.policy.specs.declared.LineKind.TheVariants as K
use Rattle.policy.specs.LineKinds.{kind_number}
use Rattle.rule_text.specs.Steps.{Near, NumberAt, nothing, spelt_as}
use Rattle.rule_text.specs.Laws.{Scanned}

-- an enum's number is the kind's
pub kind_is : (k : LineKind) → tag_of the_type k ≡ kind_number k
kind_is K.True = refl
kind_is K.Proposition = refl
kind_is K.Not = refl
kind_is K.Or = refl
kind_is K.Since = refl
kind_is K.Until = refl
kind_is K.And = refl
kind_is K.Implies = refl
kind_is K.Once = refl
kind_is K.Historically = refl
kind_is K.Eventually = refl
kind_is K.Always = refl

-- a byte that isn't 0 is inside the text
pub inside_text : (text : List ℕ) (i c : ℕ) → get_or text i 0 ≡ c → 0 < c → i < length text
inside_text text i c e h = go (dec_lt i (length text))
  where
    go : Dec (i < length text) → i < length text
    go (yes l) = l
    go (no l) = absurd (omega (arith, get_or-eq_default text 0 {n = i} (omega arith)))

pub digit_inside : (text : List ℕ) (i : ℕ) → digit (get_or text i 0) ≡ true → i < length text
digit_inside text i e = inside_text text i (get_or text i 0) refl (let r = digit_range (get_or text i 0) e in omega (arith, r.0))

module _ (text : List ℕ) (at : ℕ) where
  pub scan_start : Scanned text at at 0
  scan_start = record { run = []; are = tt; stands = refl; long = omega arith; near = record { most = omega arith; exact = λ h. refl }; small = omega arith }

  snoc_digits : (u : List ℕ) (c : ℕ) → Digits u → digit c ≡ true → Digits (u ++ c ∷ [])
  snoc_digits [] c h e = (e, tt)
  snoc_digits (x ∷ u) c h e = (h.0, snoc_digits u c h.1 e)

  grown : (e v w : ℕ) → (s : Scanned text at e v) → digit (get_or text e 0) ≡ true → Near w (10 * value 0 s.run + (get_or text e 0 - 48)) → w ≤ 10239 → Scanned text at (e + 1) w
  grown e v w s d n l =
      let c = get_or text e 0 in
      let h = digit_inside text e d in
      record {
        run = s.run ++ c ∷ [];
        are = snoc_digits s.run c s.are d;
        stands = s.stands ∙ ap (λ (u : List ℕ). s.run ++ u) (drop-cons text e 0 h) ∙ sym (append_assoc s.run (c ∷ []) (drop (suc e) text))
            ∙ ap (λ (k : ℕ). (s.run ++ c ∷ []) ++ drop k text) (sym (add-one e));
        long = omega (arith, s.long, length-append s.run (c ∷ []));
        near = subst (Near w) (sym (value_snoc 0 s.run c)) n;
        small = l;
      }

  -- a digit more, taken in
  pub scan_next : (e v : ℕ) → Scanned text at e v → digit (get_or text e 0) ≡ true → v ≤ 1023 → Scanned text at (e + 1) (v * 10 + (get_or text e 0 - 48))
  scan_next e v s d h =
      let q = s.near.exact h in
      let r = digit_range (get_or text e 0) d in
      grown e v (v * 10 + (get_or text e 0 - 48)) s d (record { most = omega arith; exact = λ l. omega arith }) (omega arith)

  -- or passed over, since the number is past every range
  pub scan_past : (e v : ℕ) → Scanned text at e v → digit (get_or text e 0) ≡ true → 1023 < v → Scanned text at (e + 1) v
  scan_past e v s d h =
      let q = s.near.most in
      grown e v v s d (record { most = omega arith; exact = λ l. absurd (omega arith) }) s.small

  pub scan_on : (e v c w : ℕ) → Scanned text at e v → c ≡ get_or text e 0 → digit (get_or text e 0) ≡ true → w ≡ cond (leb v 1023) (v * 10 + (c - 48)) v → Scanned text at (e + 1) w
  scan_on e v c w s q d h =
      subst (λ (k : ℕ). Scanned text at (e + 1) k) (sym (h ∙ ap (λ (z : ℕ). cond (leb v 1023) (v * 10 + (z - 48)) v) q)) (go (dec_lt 1023 v))
    where
      go : Dec (1023 < v) → Scanned text at (e + 1) (cond (leb v 1023) (v * 10 + (get_or text e 0 - 48)) v)
      go (yes l) = rw (lt-leb v 1023 l) (scan_past e v s d l)
      go (no l) = rw (le-leb v 1023 (omega arith)) (scan_next e v s d (omega arith))

  calm_at : (e : ℕ) → digit (get_or text e 0) ≡ false → Calm (drop e text)
  calm_at e d = go (dec_lt e (length text))
    where
      go : Dec (e < length text) → Calm (drop e text)
      go (yes h) = subst Calm (sym (drop-cons text e 0 h)) d
      go (no h) = subst Calm (sym (none e text (omega arith))) tt
        where
          none : (n : ℕ) (u : List ℕ) → length u ≤ n → drop n u ≡ []
          none zero [] l = refl
          none zero (x ∷ u) l = absurd (omega arith)
          none (suc n) [] l = refl
          none (suc n) (x ∷ u) l = none n u (omega arith)

  pub scan_end : (e v : ℕ) → Scanned text at e v → digit (get_or text e 0) ≡ false → (get_or text at 0 ≡ 48 → ⊥) → NumberAt text at e v
  scan_end e v s d z = go s.run s.are s.stands s.long s.near
    where
      go : (u : List ℕ) → Digits u → drop at text ≡ u ++ drop e text → e ≡ at + length u → Near v (value 0 u) → NumberAt text at e v
      go [] h q l n =
          let i : e ≡ at = omega arith in
          subst (λ (k : ℕ). NumberAt text at k v) (sym i) (nothing v (ap (λ (k : ℕ). digit (get_or text k 0)) (sym i) ∙ d))
      go (c ∷ u) h q l n =
          let i : at < length text = inside (dec_lt at (length text)) in
          let first : get_or text at 0 ≡ c = head (sym (drop-cons text at 0 i) ∙ q) in
          let w = spelt c u h.0 (λ f. z (first ∙ f)) h.1 in
          let k = ap length q ∙ length-append (c ∷ u) (drop e text) in
          spelt_as e v w.0 (omega arith)
          (record {
            inside = omega (arith, length-drop at text, length-drop e text);
            spells = q ∙ ap (λ (x : List ℕ). x ++ drop e text) (sym w.1);
            calm = λ f. calm_at e d;
          })
          (subst (Near v) (ap (value 0) (sym w.1) ∙ digits_value w.0) n)
        where
          inside : Dec (at < length text) → at < length text
          inside (yes i) = i
          inside (no i) = let k = ap length q in absurd (omega (arith, length-drop at text))

  -- "0"
  pub zero_number : get_or text at 0 ≡ 48 → NumberAt text at (at + 1) 0
  zero_number e =
      let h = inside_text text at 48 e (omega arith) in
      spelt_as (at + 1) 0 0 (omega arith)
      (record {
        inside = omega arith;
        spells = drop-cons text at 0 h ∙ ap (λ (c : ℕ). c ∷ drop (suc at) text) e ∙ ap (λ (k : ℕ). 48 ∷ drop k text) (sym (add-one at)) ∙ ap (λ (u : List ℕ). u ++ drop (at + 1) text) (sym zero_is);
        calm = λ f. absurd (f refl);
      })
      (record { most = omega arith; exact = λ l. refl })

-- ---- which number is larger

value_grows : (v : ℕ) (u : List ℕ) → v ≤ value v u
value_grows v [] = omega arith
value_grows v (c ∷ u) = omega (arith, value_grows (10 * v + (c - 48)) u)

pub value_more : (u w : List ℕ) (v x : ℕ) → length u ≡ length w → Digits u → Digits w → v < x → value v u < value x w
value_more [] [] v x e h g l = l
value_more [] (d ∷ w) v x e h g l = absurd (omega arith)
value_more (c ∷ u) [] v x e h g l = absurd (omega arith)
value_more (c ∷ u) (d ∷ w) v x e h g l =
    let r = digit_range c h.0 in
    value_more u w (10 * v + (c - 48)) (10 * x + (d - 48)) (omega arith) h.1 g.1 (omega arith)

-- in the order of a dictionary
abbrev pub before : List ℕ → List ℕ → Bool
before [] [] = false
before [] (d ∷ w) = true
before (c ∷ u) [] = false
before (c ∷ u) (d ∷ w) = cond (ltb c d) true (cond (eqb c d) (before u w) false)

value_order : (u w : List ℕ) (v : ℕ) → length u ≡ length w → Digits u → Digits w → before u w ≡ ltb (value v u) (value v w)
value_order [] [] v e h g = sym (le-ltb v v (omega arith))
value_order [] (d ∷ w) v e h g = absurd (omega arith)
value_order (c ∷ u) [] v e h g = absurd (omega arith)
value_order (c ∷ u) (d ∷ w) v e h g = go (value_order u w x (omega arith) h.1 g.1) (dec_lt c d) (dec_lt d c)
  where
    x : ℕ
    x = 10 * v + (c - 48)

    y : ℕ
    y = 10 * v + (d - 48)

    go : before u w ≡ ltb (value x u) (value x w) → Dec (c < d) → Dec (d < c) → cond (ltb c d) true (cond (eqb c d) (before u w) false) ≡ ltb (value x u) (value y w)
    go f (yes l) k =
        let r = digit_range c h.0 in
        let s = digit_range d g.0 in
        rw (lt-ltb c d l) (sym (lt-ltb (value x u) (value y w) (value_more u w x y (omega arith) h.1 g.1 (omega arith))))
    go f (no l) (yes k) =
        let r = digit_range c h.0 in
        let s = digit_range d g.0 in
        let z = value_more w u y x (omega arith) g.1 h.1 (omega arith) in
        rw (le-ltb c d (omega arith), ne_eqb c d (λ z. omega arith)) (sym (le-ltb (value x u) (value y w) (omega arith)))
    go f (no l) (no k) =
        let q : c ≡ d = omega arith in
        rw (le-ltb c d (omega arith), eq-eqb c d q)
        (f ∙ ap (λ (z : ℕ). ltb (value x u) (value (10 * v + (z - 48)) w)) q)

digits_drop : (n : ℕ) (u : List ℕ) → Digits u → Digits (drop n u)
digits_drop zero u h = h
digits_drop (suc n) [] h = tt
digits_drop (suc n) (c ∷ u) h = digits_drop n u h.1

-- the longer numeral is the larger number
pub longer : (x y : ℕ) → length (digits y) < length (digits x) → y < x
longer x y h =
    subst (λ (n : ℕ). n < x) (digits_value y) (subst (λ (n : ℕ). value 0 (digits y) < n) (digits_value x)
    (go (led x).first (led x).rest (led x).is (led x).zero_only))
  where
    after : (n v : ℕ) (u : List ℕ) → value (value v (take n u)) (drop n u) ≡ value v u
    after zero v u = refl
    after (suc n) v [] = refl
    after (suc n) v (c ∷ u) = after n (10 * v + (c - 48)) u

    go : (c : ℕ) (u : List ℕ) → digits x ≡ c ∷ u → (c ≡ 48 → x ≡ 0) → value 0 (digits y) < value 0 (digits x)
    go c u e z =
        let d : Digits (c ∷ u) = subst Digits e (digits_digits x) in
        let r = digit_range c d.0 in
        let n = length (digits x) - length (digits y) in
        let l = ap length e in
        let first : 0 < value 0 (take n (c ∷ u)) = lead n (omega arith) in
        let m = value_more (digits y) (drop n (digits x)) 0 (value 0 (take n (digits x))) (omega (arith, length-drop n (digits x))) (digits_digits y) (digits_drop n (digits x) (digits_digits x))
        (subst (λ (w : List ℕ). 0 < value 0 (take n w)) (sym e) first) in
        subst (λ (k : ℕ). value 0 (digits y) < k) (after n 0 (digits x)) m
      where
        not_zero : c ≡ 48 → ⊥
        not_zero f =
            let q = ap (λ (n : ℕ). length (digits n)) (z f) ∙ ap length zero_is in
            let s : 0 < length (digits y) = subst (λ (w : List ℕ). 0 < length w) (sym (led y).is) (omega arith) in
            omega (arith, h)

        lead : (n : ℕ) → 0 < n → 0 < value 0 (take n (c ∷ u))
        lead zero k = absurd (omega arith)
        lead (suc n) k =
            let d : Digits (c ∷ u) = subst Digits e (digits_digits x) in
            let r = digit_range c d.0 in
            let g = value_grows (10 * 0 + (c - 48)) (take n u) in
            positive (dec_lt 48 c) g
          where
            positive : Dec (48 < c) → 10 * 0 + (c - 48) ≤ value (10 * 0 + (c - 48)) (take n u) → 0 < value (10 * 0 + (c - 48)) (take n u)
            positive (yes k) g = omega arith
            positive (no k) g =
                let d : Digits (c ∷ u) = subst Digits e (digits_digits x) in
                let r = digit_range c d.0 in absurd (not_zero (omega arith))

-- the bytes of a number are its digits
pub spelled_bytes : (text : List ℕ) (i e n : ℕ) → Spelled text i e n → take (e - i) (drop i text) ≡ digits n
spelled_bytes text i e n s =
    let k : e - i ≡ length (digits n) = omega (arith, (spelled_end text [] i e n s).0) in
    ap₂ take k s.spells ∙ take-append_seam (digits n) (drop e text)

-- what is said of the bytes of two numbers is said of two numbers that stand in a text
pub by_bytes : (text : List ℕ) (a c b d : ℕ) (r : Bool) → ((x y : ℕ) → take (c - a) (drop a text) ≡ digits x → take (d - b) (drop b text) ≡ digits y → r ≡ ltb y x)
    → (x y : ℕ) → Spelled text a c x → Spelled text b d y → r ≡ ltb y x
by_bytes text a c b d r o x y s t = o x y (spelled_bytes text a c x s) (spelled_bytes text b d y t)

module _ (x y : ℕ) where
  -- of two numerals of different lengths the longer one is the larger number
  pub by_length : (length (digits x) ≡ length (digits y) → ⊥) → ltb (length (digits y)) (length (digits x)) ≡ ltb y x
  by_length h = go (dec_lt (length (digits y)) (length (digits x)))
    where
      go : Dec (length (digits y) < length (digits x)) → ltb (length (digits y)) (length (digits x)) ≡ ltb y x
      go (yes l) = lt-ltb (length (digits y)) (length (digits x)) l ∙ sym (lt-ltb y x (longer x y l))
      go (no l) =
          let z = longer y x (strict (dec_lt (length (digits x)) (length (digits y)))) in
          le-ltb (length (digits y)) (length (digits x)) (omega arith) ∙ sym (le-ltb y x (omega arith))
        where
          strict : Dec (length (digits x) < length (digits y)) → length (digits x) < length (digits y)
          strict (yes k) = k
          strict (no k) = absurd (h (omega arith))

  -- of two as long the later one in the order of a dictionary
  pub by_digits : length (digits x) ≡ length (digits y) → before (digits y) (digits x) ≡ ltb y x
  by_digits e = value_order (digits y) (digits x) 0 (sym e) (digits_digits y) (digits_digits x) ∙ ap₂ ltb (digits_value y) (digits_value x)
