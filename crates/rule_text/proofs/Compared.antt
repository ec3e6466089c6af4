-- Which of two numbers in a text is larger, by the bytes that spell them. Assumes nothing.
use Rattle.std.specs.Prelude.{ℕ, zero, suc, ◌+◌, ◌-◌, ◌*◌, ◌≤◌, ◌<◌, ◌≡◌, false, List, [], ◌∷◌, ltb, length, drop, get_or}
use Rattle.std.proofs.Common.{arith, sym, ap, subst, ◌∙◌, get_or-drop, ext_get_or, lt-ltb, le-ltb}
use Rattle.std.proofs.Math.Decide.{dec_lt}
use Rattle.std.proofs.Math.ListN.{get_or-append}
use Rattle.rule_grammar.specs.Numeral.{digits, Digits, value}
use Rattle.rule_grammar.proofs.Numeral.{digits_digits, digits_value}
use Rattle.rule_grammar.proofs.Spelling.{digit_range}
use Rattle.rule_grammar.specs.Numbers.{Spelled}
use Rattle.rule_grammar.proofs.Numbers.{spelled_end}
use Rattle.rule_text.proofs.Laws.{value_more, longer}

value_first : (u w : List ℕ) (i v : ℕ) → length u ≡ length w → Digits u → Digits w → i < length u → ((j : ℕ) → j < i → get_or u j 0 ≡ get_or w j 0) → get_or u i 0 < get_or w i 0
    → value v u < value v w
value_first [] w i v e h g k a l = absurd (omega arith)
value_first (c ∷ u) [] i v e h g k a l = absurd (omega arith)
value_first (c ∷ u) (d ∷ w) zero v e h g k a l =
    let r = digit_range c h.0 in
    let s = digit_range d g.0 in
    value_more u w (10 * v + (c - 48)) (10 * v + (d - 48)) (omega arith) h.1 g.1 (omega arith)
value_first (c ∷ u) (d ∷ w) (suc i) v e h g k a l =
    let q : c ≡ d = a 0 (omega arith) in
    subst (λ (z : ℕ). value (10 * v + (c - 48)) u < value (10 * v + (z - 48)) w) q
    (value_first u w i (10 * v + (c - 48)) (omega arith) h.1 g.1 (omega arith) (λ j f. a (suc j) (omega arith)) l)

module _ (text : List ℕ) (a c b d : ℕ) (x y : ℕ) (s : Spelled text a c x) (t : Spelled text b d y) where
  as_long : (a + length (digits x) ≡ c) × (b + length (digits y) ≡ d)
  as_long = ((spelled_end text [] a c x s).0, (spelled_end text [] b d y t).0)

  pub by_length : (c - a ≡ d - b → ⊥) → ltb (d - b) (c - a) ≡ ltb y x
  by_length h = go (dec_lt (d - b) (c - a))
    where
      go : Dec (d - b < c - a) → ltb (d - b) (c - a) ≡ ltb y x
      go (yes l) = lt-ltb (d - b) (c - a) l ∙ sym (lt-ltb y x (longer x y (omega (arith, as_long.0, as_long.1))))
      go (no l) =
          let m : c - a < d - b = strict (dec_lt (c - a) (d - b)) in
          let z = longer y x (omega (arith, as_long.0, as_long.1)) in
          le-ltb (d - b) (c - a) (omega arith) ∙ sym (le-ltb y x (omega arith))
        where
          strict : Dec (c - a < d - b) → c - a < d - b
          strict (yes k) = k
          strict (no k) = absurd (h (omega arith))

  cell_x : (j : ℕ) → j < c - a → get_or (digits x) j 0 ≡ get_or text (a + j) 0
  cell_x j l = sym (get_or-append (digits x) (drop c text) 0 j (omega (arith, as_long.0))) ∙ ap (λ (u : List ℕ). get_or u j 0) (sym s.spells) ∙ get_or-drop a text j 0

  cell_y : (j : ℕ) → j < d - b → get_or (digits y) j 0 ≡ get_or text (b + j) 0
  cell_y j l = sym (get_or-append (digits y) (drop d text) 0 j (omega (arith, as_long.1))) ∙ ap (λ (u : List ℕ). get_or u j 0) (sym t.spells) ∙ get_or-drop b text j 0

  module _ (e : c - a ≡ d - b) (i : ℕ) (same : (j : ℕ) → j < i → get_or text (a + j) 0 ≡ get_or text (b + j) 0) where
    alike_cells : i ≤ c - a → (j : ℕ) → j < i → get_or (digits x) j 0 ≡ get_or (digits y) j 0
    alike_cells l j h = cell_x j (omega arith) ∙ same j h ∙ sym (cell_y j (omega arith))

    pub by_digit : i < c - a → (get_or text (a + i) 0 ≡ get_or text (b + i) 0 → ⊥) → ltb (get_or text (b + i) 0) (get_or text (a + i) 0) ≡ ltb y x
    by_digit l h = go (dec_lt (get_or text (b + i) 0) (get_or text (a + i) 0))
      where
        below : (u w : ℕ) → value 0 (digits u) < value 0 (digits w) → u < w
        below u w k = omega (arith, k, digits_value u, digits_value w)

        go : Dec (get_or text (b + i) 0 < get_or text (a + i) 0) → ltb (get_or text (b + i) 0) (get_or text (a + i) 0) ≡ ltb y x
        go (yes k) =
            lt-ltb (get_or text (b + i) 0) (get_or text (a + i) 0) k
            ∙ sym (lt-ltb y x (below y x (value_first (digits y) (digits x) i 0 (omega (arith, as_long.0, as_long.1)) (digits_digits y) (digits_digits x) (omega (arith, as_long.1))
            (λ j f. sym (alike_cells (omega arith) j f)) (omega (arith, k, cell_x i l, cell_y i (omega arith))))))
        go (no k) =
            let m : get_or text (a + i) 0 < get_or text (b + i) 0 = strict (dec_lt (get_or text (a + i) 0) (get_or text (b + i) 0)) in
            let z = below x y (value_first (digits x) (digits y) i 0 (omega (arith, as_long.0, as_long.1)) (digits_digits x) (digits_digits y) (omega (arith, as_long.0))
            (alike_cells (omega arith)) (omega (arith, m, cell_x i l, cell_y i (omega arith)))) in
            le-ltb (get_or text (b + i) 0) (get_or text (a + i) 0) (omega arith) ∙ sym (le-ltb y x (omega arith))
          where
            strict : Dec (get_or text (a + i) 0 < get_or text (b + i) 0) → get_or text (a + i) 0 < get_or text (b + i) 0
            strict (yes f) = f
            strict (no f) = absurd (h (omega arith))

    pub no_difference : c - a ≤ i → false ≡ ltb y x
    no_difference l =
        let q = ext_get_or 0 (digits x) (digits y) (omega (arith, as_long.0, as_long.1))
        (λ j f. cell_x j (omega (arith, as_long.0)) ∙ same j (omega (arith, as_long.0)) ∙ sym (cell_y j (omega (arith, as_long.0)))) in
        let z : x ≡ y = sym (digits_value x) ∙ ap (value 0) q ∙ digits_value y in
        sym (le-ltb y x (omega arith))

-- one cell more is alike
pub cells_next : (text : List ℕ) (a b i : ℕ) → ((j : ℕ) → j < i → get_or text (a + j) 0 ≡ get_or text (b + j) 0) → get_or text (a + i) 0 ≡ get_or text (b + i) 0
    → (j : ℕ) → j < i + 1 → get_or text (a + j) 0 ≡ get_or text (b + j) 0
cells_next text a b i same e j h = go (dec_lt j i)
  where
    go : Dec (j < i) → get_or text (a + j) 0 ≡ get_or text (b + j) 0
    go (yes l) = same j l
    go (no l) = let q : i ≡ j = omega arith in subst (λ (k : ℕ). get_or text (a + k) 0 ≡ get_or text (b + k) 0) q e
