-- Laws of the definitions in specs/TestLaws. Assumes nothing.
use Prim.Native.Nat.{ℕ, zero, suc, ◌+◌, ◌-◌, ◌*◌, ◌≤◌, ◌<◌}
use native.Mathlib.Omega.{arith}
use Rattle.std.proofs.Math.Decide.{dec_lt}
use Rattle.std.specs.Prelude.{◌≡◌, Bool, false, not, ◌&&◌, ◌||◌, ◌⊎◌, eqb, ltb, drop, get_or}
use Rattle.std.proofs.Math.Path.{refl, sym, ap, subst}
use Rattle.std.proofs.Common.{◌∙◌, true≢false, inl, inr, ⊎_elim}
use Rattle.std.proofs.Math.Bool.{true}
use Rattle.std.proofs.lemmas.Bool.{false≢true}
use mathlib.Core.List.{List, [], ◌∷◌, ◌++◌, append_assoc}
use Rattle.std.proofs.Math.Dec.{leb}
use Rattle.std.proofs.Math.ListN.{length, take, get_or-eq_default}
use lib.Seq.{split_at, take_all, take_at, get_or_at}
use borrow.Author.Tests.{eqb-true, eq-eqb, leb-true, le-leb, ltb-true, lt-ltb}
use Rattle.decide.specs.Decide.{Decides}
use Rattle.rule_grammar.specs.Numeral.{digits, digit, Calm, Digits, value}
use Rattle.rule_grammar.proofs.Numeral.{digits_digits, digits_value, head, tail, put, one_numeral}
use Rattle.rule_grammar.proofs.Spelling.{spelt, led, zero_is}
use Rattle.rule_grammar.specs.Places.{GoesOn, Longest, count, TooMuch, nested, mark, bound, many, above}
use Rattle.rule_grammar.specs.Automaton.{term, eats}
use Rattle.rule_grammar.proofs.Decided.{longest_is}
use Rattle.rule_grammar.specs.Tests.{read, rest, starts_calm, numeral, past, goes, is_nested, is_past, starts, one_if, starts_below, is_many, crossed, is_above, is_far, is_too_much}
use Rattle.rule_grammar.specs.TestLaws.{Crossed}

-- ---- a byte at a place

-- the byte c stands at place i
cell : (b : List ℕ) (i c : ℕ) → get_or b i 0 ≡ c → 0 < c → b ≡ take i b ++ c ∷ [] ++ drop (suc i) b
cell b i c e l = go (dec_lt i (length b))
  where
    go : Dec (i < length b) → b ≡ take i b ++ c ∷ [] ++ drop (suc i) b
    go (yes m) = split_at b i 0 m ∙ ap (λ (k : ℕ). take i b ++ k ∷ drop (suc i) b) e ∙ sym (append_assoc (take i b) (c ∷ []) (drop (suc i) b))
    go (no m) = absurd (omega (arith, get_or-eq_default b 0 {n = i} (omega arith)))

place : (b : List ℕ) (i c : ℕ) → get_or b i 0 ≡ c → 0 < c → length (take i b) ≡ i
place b i c e l = go (dec_lt i (length b))
  where
    go : Dec (i < length b) → length (take i b) ≡ i
    go (yes m) = lib.Seq.length-take-le i b (omega arith)
    go (no m) = absurd (omega (arith, get_or-eq_default b 0 {n = i} (omega arith)))

record Cell (b p q : List ℕ) (c : ℕ) : Type 0 where
  byte_is : get_or b (length p) 0 ≡ c
  taken : take (length p) b ≡ p
  left : drop (suc (length p)) b ≡ q

behind : (p q : List ℕ) (c : ℕ) → drop (suc (length p)) (p ++ c ∷ q) ≡ q
behind [] q c = refl
behind (x ∷ p) q c = behind p q c

cell_back : (b p q : List ℕ) (c : ℕ) → b ≡ p ++ c ∷ q → Cell b p q c
cell_back b p q c e =
    subst (λ (l : List ℕ). Cell l p q c) (sym e)
    (record { byte_is = get_or_at p c q 0 (length p) refl; taken = take_at p (c ∷ q) (length p) refl; left = behind p q c })

-- ---- numbers

Run : ℕ → List ℕ → Type 0
Run v u = (d : List ℕ) × Digits d × (u ≡ d ++ rest u) × Calm (rest u) × (read v u ≡ value v d)

run : (v : ℕ) (u : List ℕ) → Run v u
unfolding Run
run v [] = ([], tt, refl, tt, refl)
run v (c ∷ u) = go (digit c) refl (run (10 * v + (c - 48)) u)
  where
    go : (b : Bool) → digit c ≡ b → Run (10 * v + (c - 48)) u
        → (d : List ℕ) × Digits d × (c ∷ u ≡ d ++ (elim b [ true ↦ rest u | false ↦ c ∷ u ])) × Calm (elim b [ true ↦ rest u | false ↦ c ∷ u ])
        × ((elim b [ true ↦ read (10 * v + (c - 48)) u | false ↦ v ]) ≡ value v d)
    go true e r = (c ∷ r.0, (e, r.1), put c r.2, r.3, r.4)
    go false e r = ([], tt, refl, e, refl)

grows : (v : ℕ) (u : List ℕ) → v ≤ read v u
grows v [] = omega arith
grows v (c ∷ u) = go (digit c) (grows (10 * v + (c - 48)) u)
  where
    go : (b : Bool) → 10 * v + (c - 48) ≤ read (10 * v + (c - 48)) u → v ≤ (elim b [ true ↦ read (10 * v + (c - 48)) u | false ↦ v ])
    go true h = omega arith
    go false h = omega arith

reads_on : (v : ℕ) (d q : List ℕ) → Digits d → value v d ≤ read v (d ++ q)
reads_on v [] q h = grows v q
reads_on v (c ∷ d) q h = go (digit c) h.0 (reads_on (10 * v + (c - 48)) d q h.1)
  where
    go : (b : Bool) → b ≡ true → value (10 * v + (c - 48)) d ≤ read (10 * v + (c - 48)) (d ++ q)
        → value (10 * v + (c - 48)) d ≤ (elim b [ true ↦ read (10 * v + (c - 48)) (d ++ q) | false ↦ v ])
    go true e i = i
    go false e i = absurd (false≢true e)

Past : ℕ → List ℕ → Type 0
Past n u = (m : ℕ) × (q : List ℕ) × (u ≡ digits m ++ q) × (n ≤ m)

past_is : (n : ℕ) (u : List ℕ) → Decides (past n u) (Past n u)
unfolding Past Run
past_is n [] = record { sound = λ e. absurd (false≢true e); whole = λ h. absurd (nothing h.0 h.1 h.2) }
  where
    nothing : (m : ℕ) (q : List ℕ) → [] ≡ digits m ++ q → ⊥
    nothing m q e = let f = e ∙ ap (λ (v : List ℕ). v ++ q) (led m).is in let z : ◌≡◌ {A = ℕ} 0 1 = cc in omega arith
past_is n (c ∷ u) = go (digit c) refl (eqb c 48) refl
  where
    Claim : Type 0
    Claim = (m : ℕ) × (q : List ℕ) × (c ∷ u ≡ digits m ++ q) × (n ≤ m)

    first : (m : ℕ) (q : List ℕ) → c ∷ u ≡ digits m ++ q → (d : List ℕ) × (digits m ≡ c ∷ d) × (c ≡ 48 → m ≡ 0) × (u ≡ d ++ q)
    first m q e =
        let r = led m in
        let h = e ∙ ap (λ (v : List ℕ). v ++ q) r.is in
        (r.rest, r.is ∙ ap (λ (k : ℕ). k ∷ r.rest) (sym (head h)), λ z. r.zero_only (sym (head h) ∙ z), tail h)

    go : (a : Bool) → digit c ≡ a → (b : Bool) → eqb c 48 ≡ b → Decides (a && leb n (elim b [ true ↦ 0 | false ↦ read (10 * 0 + (c - 48)) u ])) Claim
    go true e true f =
        record {
          sound = λ g. (0, u, ap (λ (k : ℕ). k ∷ u) (eqb-true c 48 f) ∙ ap (λ (v : List ℕ). v ++ u) (sym zero_is), leb-true n 0 g);
          whole = λ h. le-leb n 0 (let r = first h.0 h.1 h.2 in omega (arith, h.3, r.2 (eqb-true c 48 f)));
        }
    go true e false f =
        record { sound = found; whole = λ h. le-leb n (read (10 * 0 + (c - 48)) u) (enough h.0 h.1 h.2 h.3) }
      where
        found : leb n (read (10 * 0 + (c - 48)) u) ≡ true → Claim
        found g =
            let r = run (10 * 0 + (c - 48)) u in
            let s = spelt c r.0 e (λ z. true≢false (sym (eq-eqb c 48 z) ∙ f)) r.1 in
            let v : value (10 * 0 + (c - 48)) r.0 ≡ s.0 = sym (ap (value 0) s.1) ∙ digits_value s.0 in
            (s.0, rest u, put c r.2 ∙ ap (λ (w : List ℕ). w ++ rest u) (sym s.1), omega (arith, leb-true n (read (10 * 0 + (c - 48)) u) g, r.4, v))

        enough : (m : ℕ) (q : List ℕ) → c ∷ u ≡ digits m ++ q → n ≤ m → n ≤ read (10 * 0 + (c - 48)) u
        enough m q g l =
            let r = first m q g in
            let d : Digits (c ∷ r.0) = subst Digits r.1 (digits_digits m) in
            let v : value (10 * 0 + (c - 48)) r.0 ≡ m = sym (ap (value 0) r.1) ∙ digits_value m in
            subst (λ w. n ≤ read (10 * 0 + (c - 48)) w) (sym r.3) (omega (arith, reads_on (10 * 0 + (c - 48)) r.0 q d.1, v, l))
    go false e b f =
        record {
          sound = λ g. absurd (false≢true g);
          whole = λ h. absurd (let r = first h.0 h.1 h.2 in let d : Digits (c ∷ r.0) = subst Digits r.1 (digits_digits h.0) in true≢false (sym d.0 ∙ e));
        }

One : List ℕ → ℕ → List ℕ → Type 0
One u n q = (u ≡ digits n ++ q) × Calm q

calm_is : (u : List ℕ) → Decides (starts_calm u) (Calm u)
calm_is [] = record { sound = λ e. tt; whole = λ e. refl }
calm_is (c ∷ u) = go (digit c)
  where
    go : (b : Bool) → Decides (not b) (b ≡ false)
    go true = record { sound = λ e. absurd (false≢true e); whole = λ e. absurd (true≢false e) }
    go false = record { sound = λ e. refl; whole = λ e. refl }

-- calm text has no digits in front
no_digits : (d q : List ℕ) → Digits d → Calm (d ++ q) → d ≡ []
no_digits [] q h k = refl
no_digits (c ∷ d) q h k = absurd (true≢false (sym h.0 ∙ k))

numeral_sound : (u : List ℕ) → numeral u ≡ true → One u (read 0 u) (rest u)
unfolding One Run
numeral_sound [] e = absurd (false≢true e)
numeral_sound (c ∷ u) e = go (run 0 (c ∷ u)).0 (run 0 (c ∷ u)).1 (run 0 (c ∷ u)).2 (run 0 (c ∷ u)).3 (run 0 (c ∷ u)).4
  where
    first : (a b : Bool) → (a && b) ≡ true → (a ≡ true) × (b ≡ true)
    first true b g = (refl, g)
    first false b g = absurd (false≢true g)

    is_digit : (digit c ≡ true) × ((elim (eqb c 48) [ true ↦ starts_calm u | false ↦ true ]) ≡ true)
    is_digit = first (digit c) _ e

    go : (d : List ℕ) → Digits d → c ∷ u ≡ d ++ rest (c ∷ u) → Calm (rest (c ∷ u)) → read 0 (c ∷ u) ≡ value 0 d → One (c ∷ u) (read 0 (c ∷ u)) (rest (c ∷ u))
    go [] h g k v = absurd (true≢false (sym is_digit.0 ∙ subst Calm (sym g) k))
    go (x ∷ d) h g k v = (g ∙ ap (λ (w : List ℕ). w ++ rest (c ∷ u)) (sym spelling), k)
      where
        x_is : c ≡ x
        x_is = head g

        pick : (b : Bool) → eqb c 48 ≡ b → (elim b [ true ↦ starts_calm u | false ↦ true ]) ≡ true → digits (value 0 (x ∷ d)) ≡ x ∷ d
        pick true z o =
            let f = eqb-true c 48 z in
            let n = no_digits d (rest (c ∷ u)) h.1 (subst Calm (tail g) ((calm_is u).sound o)) in
            let y : x ≡ 48 = sym x_is ∙ f in
            ap (λ (w : List ℕ). digits (value 0 (x ∷ w))) n ∙ ap (λ (m : ℕ). digits (10 * 0 + (m - 48))) y ∙ zero_is ∙ ap (λ (m : ℕ). m ∷ []) (sym y) ∙ ap (λ (w : List ℕ). x ∷ w) (sym n)
        pick false z o =
            let s = spelt x d h.0 (λ y. true≢false (sym (eq-eqb c 48 (x_is ∙ y)) ∙ z)) h.1 in
            ap digits (sym (ap (value 0) s.1) ∙ digits_value s.0) ∙ s.1

        spelling : digits (read 0 (c ∷ u)) ≡ x ∷ d
        spelling = ap digits v ∙ pick (eqb c 48) refl is_digit.1

numeral_whole : (u : List ℕ) (n : ℕ) (q : List ℕ) → One u n q → numeral u ≡ true
unfolding One
numeral_whole [] n q h = absurd (let f = h.0 ∙ ap (λ (v : List ℕ). v ++ q) (led n).is in let z : ◌≡◌ {A = ℕ} 0 1 = cc in omega arith)
numeral_whole (c ∷ u) n q h = go (digit c) is_digit (eqb c 48) refl
  where
    e : c ∷ u ≡ (led n).first ∷ ((led n).rest ++ q)
    e = h.0 ∙ ap (λ (v : List ℕ). v ++ q) (led n).is

    is_digit : digit c ≡ true
    is_digit = let d : Digits ((led n).first ∷ (led n).rest) = subst Digits (led n).is (digits_digits n) in ap digit (head e) ∙ d.0

    zero_then : c ≡ 48 → Calm u
    zero_then z =
        let y : n ≡ 0 = (led n).zero_only (sym (head e) ∙ z) in
        subst Calm (sym (tail (h.0 ∙ ap (λ (m : ℕ). digits m ++ q) y ∙ ap (λ (v : List ℕ). v ++ q) zero_is))) h.1

    go : (a : Bool) → a ≡ true → (b : Bool) → eqb c 48 ≡ b → (a && (elim b [ true ↦ starts_calm u | false ↦ true ])) ≡ true
    go true f true g = (calm_is u).whole (zero_then (eqb-true c 48 g))
    go true f false g = refl
    go false f b g = absurd (false≢true f)

-- and it is that number, and that rest
numeral_one : (u : List ℕ) (n : ℕ) (q : List ℕ) → One u n q → (n ≡ read 0 u) × (q ≡ rest u)
unfolding One
numeral_one u n q h = let s = numeral_sound u (numeral_whole u n q h) in one_numeral n (read 0 u) q (rest u) h.1 s.1 (sym h.0 ∙ s.0)

-- ---- intervals

all_five : (a b c d e : Bool) → a ≡ true → b ≡ true → c ≡ true → d ≡ true → e ≡ true → (a && (b && (c && (d && e)))) ≡ true
all_five a b c d e f g h i j = rw (f, g, h, i, j) refl

each_five : (a b c d e : Bool) → (a && (b && (c && (d && e)))) ≡ true → (a ≡ true) × (b ≡ true) × (c ≡ true) × (d ≡ true) × (e ≡ true)
each_five true true true true true f = (refl, refl, refl, refl, refl)
each_five true true true true false f = absurd (false≢true f)
each_five true true true false e f = absurd (false≢true f)
each_five true true false d e f = absurd (false≢true f)
each_five true false c d e f = absurd (false≢true f)
each_five false b c d e f = absurd (false≢true f)

starts_with : (u : List ℕ) (c : ℕ) → get_or u 0 0 ≡ c → 0 < c → u ≡ c ∷ drop 1 u
starts_with [] c e l = absurd (omega arith)
starts_with (x ∷ u) c e l = ap (λ (k : ℕ). k ∷ u) e

pub crossed_is : (u : List ℕ) → Decides (crossed u) (Crossed u)
unfolding One
crossed_is u = record { sound = there; whole = λ h. back h.0 h.1 h.2 h.3 h.4 }
  where
    there : crossed u ≡ true → Crossed u
    there e =
        let t = each_five (numeral u) (eqb (get_or (rest u) 0 0) 44) (numeral (drop 1 (rest u))) (eqb (get_or (rest (drop 1 (rest u))) 0 0) 93) (ltb (read 0 (drop 1 (rest u))) (read 0 u)) e in
        let x = numeral_sound u t.0 in
        let y = numeral_sound (drop 1 (rest u)) t.2 in
        let f = starts_with (rest u) 44 (eqb-true (get_or (rest u) 0 0) 44 t.1) (omega arith) in
        let g = starts_with (rest (drop 1 (rest u))) 93 (eqb-true (get_or (rest (drop 1 (rest u))) 0 0) 93 t.3) (omega arith) in (
          read 0 u,
          read 0 (drop 1 (rest u)),
          drop 1 (rest (drop 1 (rest u))),
          x.0 ∙ ap (λ (z : List ℕ). digits (read 0 u) ++ z) (f ∙ put 44 (y.0 ∙ ap (λ (z : List ℕ). digits (read 0 (drop 1 (rest u))) ++ z) g)),
          ltb-true (read 0 (drop 1 (rest u))) (read 0 u) t.4,
        )

    back : (a b : ℕ) (q : List ℕ) → u ≡ digits a ++ 44 ∷ (digits b ++ 93 ∷ q) → b < a → crossed u ≡ true
    back a b q e l =
        let x : One u a (44 ∷ (digits b ++ 93 ∷ q)) = (e, refl) in
        let i = numeral_one u a (44 ∷ (digits b ++ 93 ∷ q)) x in
        let v : drop 1 (rest u) ≡ digits b ++ 93 ∷ q = ap (drop 1) (sym i.1) in
        let y : One (drop 1 (rest u)) b (93 ∷ q) = (v, refl) in
        let j = numeral_one (drop 1 (rest u)) b (93 ∷ q) y in
        all_five (numeral u) (eqb (get_or (rest u) 0 0) 44) (numeral (drop 1 (rest u))) (eqb (get_or (rest (drop 1 (rest u))) 0 0) 93) (ltb (read 0 (drop 1 (rest u))) (read 0 u))
        (numeral_whole u a _ x)
        (eq-eqb (get_or (rest u) 0 0) 44 (ap (λ (z : List ℕ). get_or z 0 0) (sym i.1)))
        (numeral_whole (drop 1 (rest u)) b _ y)
        (eq-eqb (get_or (rest (drop 1 (rest u))) 0 0) 93 (ap (λ (z : List ℕ). get_or z 0 0) (sym j.1)))
        (lt-ltb (read 0 (drop 1 (rest u))) (read 0 u) (omega (arith, i.0, j.0)))

-- ---- terms

pub goes_is : (w : List ℕ) → Decides (goes w) (GoesOn w)
goes_is w = record { sound = there; whole = λ g. eq-eqb (eats (term ∷ []) w) (length w) (back g) }
  where
    l : Longest w (eats (term ∷ []) w)
    l = longest_is w

    all : take (length w) w ≡ w
    all = take_all (length w) w (omega arith)

    there : goes w ≡ true → GoesOn w
    there e = subst GoesOn (ap (λ (n : ℕ). take n w) (eqb-true (eats (term ∷ []) w) (length w) e) ∙ all) l.goes_on

    back : GoesOn w → eats (term ∷ []) w ≡ length w
    back g = let m = l.no_longer (length w) (omega arith) (subst GoesOn (sym all) g) in omega (arith, l.inside)

module _ (b : List ℕ) where
  -- n starts before the one at i
  Rising : ℕ → ℕ → Type 0
  Rising n i = (at : ℕ → ℕ) × ((k : ℕ) → k < n → at k < at (suc k)) × (at n ≡ i) × ((k : ℕ) → k ≤ n → starts b (at k) ≡ true)

  pub more_below : (i j : ℕ) → i ≤ j → starts_below b i ≤ starts_below b j
  more_below i zero l = let e : i ≡ 0 = omega arith in omega (arith, ap (starts_below b) e)
  more_below i (suc j) l = go (dec_lt j i) (more_below i j)
    where
      go : Dec (j < i) → (i ≤ j → starts_below b i ≤ starts_below b j) → starts_below b i ≤ starts_below b j + one_if (starts b j)
      go (yes m) ih = let e : i ≡ suc j = omega arith in omega (arith, ap (starts_below b) e)
      go (no m) ih = omega (arith, ih (omega arith))

  pub counted : (j : ℕ) → starts b j ≡ true → starts_below b (suc j) ≡ starts_below b j + 1
  counted j e = ap (λ (x : Bool). starts_below b j + one_if x) e

  enough : (n i : ℕ) → Rising n i → n ≤ starts_below b i
  unfolding Rising
  enough n i r = subst (λ m. n ≤ starts_below b m) r.2 (go n (omega arith))
    where
      go : (k : ℕ) → k ≤ n → k ≤ starts_below b (r.0 k)
      go zero l = omega arith
      go (suc k) l =
          omega (arith, go k (omega arith), counted (r.0 k) (r.3 k (omega arith)), more_below (suc (r.0 k)) (r.0 (suc k)) (r.1 k (omega arith)))

  pub last : (n i : ℕ) → suc n ≤ starts_below b i → (j : ℕ) × (j < i) × (starts b j ≡ true) × (n ≤ starts_below b j)
  last n zero l = absurd (omega arith)
  last n (suc i) l = go (starts b i) refl (last n i)
    where
      go : (x : Bool) → starts b i ≡ x → (suc n ≤ starts_below b i → (j : ℕ) × (j < i) × (starts b j ≡ true) × (n ≤ starts_below b j))
          → (j : ℕ) × (j < suc i) × (starts b j ≡ true) × (n ≤ starts_below b j)
      go true e ih = (i, omega arith, e, omega (arith, subst (λ (x : Bool). suc n ≤ starts_below b i + one_if x) e l))
      go false e ih =
          let r = ih (omega (arith, subst (λ (x : Bool). suc n ≤ starts_below b i + one_if x) e l)) in
          (r.0, omega (arith, r.1), r.2, r.3)

  rises : (n i : ℕ) → starts b i ≡ true → n ≤ starts_below b i → Rising n i
  unfolding Rising
  rises zero i e l = (λ k. i, λ k m. absurd (omega arith), refl, λ k m. e)
  rises (suc n) i e l = go (last n i l) (λ j s m. rises n j s m)
    where
      go : (j : ℕ) × (j < i) × (starts b j ≡ true) × (n ≤ starts_below b j) → ((j : ℕ) → starts b j ≡ true → n ≤ starts_below b j → Rising n j) → Rising (suc n) i
      go h ih = (at, up, end, λ k m. here k m (leb k n) refl)
        where
          r : Rising n h.0
          r = ih h.0 h.2 h.3

          pick : ℕ → Bool → ℕ
          pick k x = elim x [ true ↦ r.0 k | false ↦ i ]

          at : ℕ → ℕ
          at k = pick k (leb k n)

          low : (k : ℕ) → k ≤ n → at k ≡ r.0 k
          low k m = ap (pick k) (le-leb k n m)

          end : at (suc n) ≡ i
          end = ap (pick (suc n)) (lebf (suc n) n (omega arith))
            where
              lebf : (k m : ℕ) → m < k → leb k m ≡ false
              lebf k m a = side (leb k m) refl
                where
                  side : (x : Bool) → leb k m ≡ x → leb k m ≡ false
                  side true f = absurd (omega (arith, leb-true k m f))
                  side false f = f

          up : (k : ℕ) → k < suc n → at k < at (suc k)
          up k m = side (dec_lt k n)
            where
              side : Dec (k < n) → at k < at (suc k)
              side (yes a) = omega (arith, low k (omega arith), low (suc k) (omega arith), r.1 k a)
              side (no a) =
                  let q : k ≡ n = omega arith in
                  subst (λ z. at z < at (suc z)) (sym q) (omega (arith, low n (omega arith), end, r.2, h.1))

          here : (k : ℕ) → k ≤ suc n → (x : Bool) → leb k n ≡ x → starts b (at k) ≡ true
          here k m true f = ap (λ (z : ℕ). starts b z) (ap (pick k) f) ∙ r.3 k (leb-true k n f)
          here k m false f = ap (λ (z : ℕ). starts b z) (ap (pick k) f) ∙ e

-- ---- all of them

or_left : (a b : Bool) → a ≡ true → (a || b) ≡ true
or_left true b e = refl
or_left false b e = absurd (false≢true e)

or_right : (a b : Bool) → b ≡ true → (a || b) ≡ true
or_right true b e = refl
or_right false b e = e

or_split : (a b : Bool) → (a || b) ≡ true → (a ≡ true) ⊎ (b ≡ true)
or_split true b e = inl refl
or_split false b e = inr e

and_split : (a b : Bool) → (a && b) ≡ true → (a ≡ true) × (b ≡ true)
and_split true b e = (refl, e)
and_split false b e = absurd (false≢true e)

pub and_both : (a b : Bool) → a ≡ true → b ≡ true → (a && b) ≡ true
and_both a b e f = rw (e, f) refl

inwards : (p x y q : List ℕ) → (p ++ 91 ∷ []) ++ (x ++ 44 ∷ (y ++ 93 ∷ q)) ≡ p ++ (91 ∷ (x ++ 44 ∷ [] ++ y ++ 93 ∷ [])) ++ q
inwards p x y q = simp append_assoc

module _ (m : ℕ) (b : List ℕ) where
  nested_sound : (i : ℕ) → is_nested b i ≡ true → TooMuch m b i
  nested_sound i e =
      let h = and_split (eqb (get_or b i 0) 40) (leb (32 + count 41 (take i b)) (count 40 (take i b))) e in
      let c = eqb-true (get_or b i 0) 40 h.0 in
      subst (λ n. TooMuch m b n) (place b i 40 c (omega arith))
      (nested (take i b) (drop (suc i) b) (cell b i 40 c (omega arith)) (leb-true (32 + count 41 (take i b)) (count 40 (take i b)) h.1))

  above_sound : (i : ℕ) → is_above b i ≡ true → TooMuch m b i
  above_sound i e =
      let h = and_split (eqb (get_or b i 0) 91) (crossed (drop (suc i) b)) e in
      let c = eqb-true (get_or b i 0) 91 h.0 in
      let x = (crossed_is (drop (suc i) b)).sound h.1 in
      subst (λ n. TooMuch m b n) (place b i 91 c (omega arith))
      (above (take i b) x.2 x.0 x.1
      (cell b i 91 c (omega arith) ∙ ap (λ (z : List ℕ). take i b ++ 91 ∷ [] ++ z) x.3 ∙ inwards (take i b) (digits x.0) (digits x.1) x.2) x.4)

  past_sound : (c n j : ℕ) → 0 < c → is_past b c n j ≡ true
      → (length (take j b) ≡ j) × (k : ℕ) × (q : List ℕ) × (b ≡ take j b ++ c ∷ [] ++ digits k ++ q) × (n ≤ k)
  unfolding Past
  past_sound c n j l e =
      let h = and_split (eqb (get_or b j 0) c) (past n (drop (suc j) b)) e in
      let g = eqb-true (get_or b j 0) c h.0 in
      let x = (past_is n (drop (suc j) b)).sound h.1 in (
        place b j c g l,
        x.0,
        x.1,
        cell b j c g l ∙ ap (λ (z : List ℕ). take j b ++ c ∷ [] ++ z) x.2 ∙ sym (append_assoc (take j b ++ c ∷ []) (digits x.0) x.1),
        x.3,
      )

  far_sound : (i : ℕ) → is_far m b i ≡ true → TooMuch m b i
  far_sound zero e = absurd (false≢true e)
  far_sound (suc j) e =
      ⊎_elim (λ f. let x = past_sound 109 m j (omega arith) f in subst (λ n. TooMuch m b n) (ap suc x.0) (mark (take j b) x.2 x.1 x.3 x.4))
      (λ f. ⊎_elim
      (λ g. let x = past_sound 91 1024 j (omega arith) g in subst (λ n. TooMuch m b n) (ap suc x.0) (bound (take j b) x.2 91 x.1 (inl refl) x.3 x.4))
      (λ g. let x = past_sound 44 1024 j (omega arith) g in subst (λ n. TooMuch m b n) (ap suc x.0) (bound (take j b) x.2 44 x.1 (inr refl) x.3 x.4))
      (or_split (is_past b 91 1024 j) (is_past b 44 1024 j) f))
      (or_split (is_past b 109 m j) (is_past b 91 1024 j || is_past b 44 1024 j) e)

  pub many_sound : (i : ℕ) → is_many b i ≡ true → TooMuch m b i
  unfolding Rising
  many_sound i e =
      let h = and_split (leb i (length b)) (starts b i && leb 64 (starts_below b i)) e in
      let g = and_split (starts b i) (leb 64 (starts_below b i)) h.1 in
      let r = rises b 64 i g.0 (leb-true 64 (starts_below b i) g.1) in
      subst (λ n. TooMuch m b n) r.2
      (many r.0 r.1 (subst (λ n. n ≤ length b) (sym r.2) (leb-true i (length b) h.0)) (λ k l. (goes_is (take (r.0 k) b ++ 109 ∷ [])).sound (r.3 k l)))

  pub too_much_sound : (i : ℕ) → is_too_much m b i ≡ true → TooMuch m b i
  too_much_sound i e =
      ⊎_elim (λ f. nested_sound i f) (λ f. ⊎_elim (λ g. many_sound i g) (λ g. ⊎_elim (λ h. above_sound i h) (λ h. far_sound i h)
      (or_split (is_above b i) (is_far m b i) g)) (or_split (is_many b i) (is_above b i || is_far m b i) f))
      (or_split (is_nested b i) (is_many b i || (is_above b i || is_far m b i)) e)

  past_whole : (p q : List ℕ) (c n k : ℕ) → b ≡ p ++ c ∷ [] ++ digits k ++ q → n ≤ k → is_past b c n (length p) ≡ true
  unfolding Past
  past_whole p q c n k e l =
      let r = cell_back b p (digits k ++ q) c (e ∙ append_assoc (p ++ c ∷ []) (digits k) q ∙ append_assoc p (c ∷ []) (digits k ++ q)) in
      and_both (eqb (get_or b (length p) 0) c) (past n (drop (suc (length p)) b)) (eq-eqb (get_or b (length p) 0) c r.byte_is)
      ((past_is n (drop (suc (length p)) b)).whole (k, q, r.left, l))

  is_far_too : (i : ℕ) → is_far m b i ≡ true → is_too_much m b i ≡ true
  is_far_too i e = or_right (is_nested b i) _ (or_right (is_many b i) _ (or_right (is_above b i) _ e))

  pub too_much_whole : (i : ℕ) → TooMuch m b i → is_too_much m b i ≡ true
  unfolding Rising
  too_much_whole _ (nested p q e h) =
      let r = cell_back b p q 40 (e ∙ append_assoc p (40 ∷ []) q) in
      or_left (is_nested b (length p)) _
      (and_both (eqb (get_or b (length p) 0) 40) (leb (32 + count 41 (take (length p) b)) (count 40 (take (length p) b))) (eq-eqb (get_or b (length p) 0) 40 r.byte_is)
      (subst (λ z. leb (32 + count 41 z) (count 40 z) ≡ true) (sym r.taken) (le-leb (32 + count 41 p) (count 40 p) h)))
  too_much_whole _ (mark p q n e h) =
      is_far_too (suc (length p)) (or_left (is_past b 109 m (length p)) _ (past_whole p q 109 m n e h))
  too_much_whole _ (bound p q c n o e h) =
      is_far_too (suc (length p)) (or_right (is_past b 109 m (length p)) _
      (⊎_elim (λ (f : c ≡ 91). or_left (is_past b 91 1024 (length p)) _ (past_whole p q 91 1024 n (subst (λ k. b ≡ p ++ k ∷ [] ++ digits n ++ q) f e) h))
      (λ (f : c ≡ 44). or_right (is_past b 91 1024 (length p)) _ (past_whole p q 44 1024 n (subst (λ k. b ≡ p ++ k ∷ [] ++ digits n ++ q) f e) h)) o))
  too_much_whole _ (many at up l h) =
      let s : (k : ℕ) → k ≤ 64 → starts b (at k) ≡ true = λ k a. (goes_is (take (at k) b ++ 109 ∷ [])).whole (h k a) in
      or_right (is_nested b (at 64)) _ (or_left (is_many b (at 64)) _
      (and_both (leb (at 64) (length b)) (starts b (at 64) && leb 64 (starts_below b (at 64))) (le-leb (at 64) (length b) l)
      (and_both (starts b (at 64)) (leb 64 (starts_below b (at 64))) (s 64 (omega arith)) (le-leb 64 (starts_below b (at 64)) (enough b 64 (at 64) (at, up, refl, s))))))
  too_much_whole _ (above p q x y e h) =
      let f = e ∙ sym (inwards p (digits x) (digits y) q) ∙ append_assoc p (91 ∷ []) (digits x ++ 44 ∷ (digits y ++ 93 ∷ q)) in
      let r = cell_back b p (digits x ++ 44 ∷ (digits y ++ 93 ∷ q)) 91 f in
      or_right (is_nested b (length p)) _ (or_right (is_many b (length p)) _ (or_left (is_above b (length p)) _
      (and_both (eqb (get_or b (length p) 0) 91) (crossed (drop (suc (length p)) b)) (eq-eqb (get_or b (length p) 0) 91 r.byte_is)
      ((crossed_is (drop (suc (length p)) b)).whole (x, y, q, r.left, h)))))
