-- Laws of the definitions in specs/Replacing. Assumes nothing.
use Rattle.std.specs.Prelude.{ℕ, zero, suc, ◌+◌, ◌-◌, ◌<◌, ◌≤◌, ◌≡◌, refl, ◌⊎◌, List, [], ◌∷◌, ◌++◌, map, length}
use Rattle.std.proofs.Common.{add-zero, zero-add, arith, sym, ap, ap₂, subst, subst₂, ◌∙◌, inl, inr, lt-ltb, le-ltb, length-append, get_or-append-add}
use Rattle.std.proofs.Math.Decide.{dec_lt, ℕ_discrete}
use Rattle.std.proofs.lemmas.List.{length-map}
use Rattle.std.proofs.Math.ListN.{get_or-append, get_or-eq_default, get_or-map}
use Rattle.std.proofs.Math.Seq.{get_or-append_seam}
use Rattle.mtl.specs.declared.Formula.{Formula}
use Rattle.mtl.specs.declared.Formula.TheVariants.{True, Proposition, Not, Or, Since, Until, And, Implies, Once, Historically, Eventually, Always}
use Rattle.mtl.specs.Abbreviations.{Binary, either, back, ahead, Expression, operand, true', proposition', not', binary, abbreviation, Own, Leaves}
use Rattle.mtl.proofs.Abbreviations.{own_line, leaves_map}
use Rattle.mtl.specs.Algebra.{Algebra}
use Rattle.mtl.specs.Syntax.{Operands, Earlier}
use Rattle.mtl.specs.Reading.{World, reading}
use Rattle.mtl.specs.Renumbering.{relabel, Spells, Stands}
use Rattle.mtl.proofs.Renumbering.{same_rows}
use Rattle.mtl.specs.Replacing.{Early, at, formed, rename, size, place, lines, moved, shift, replaced}

-- ---- laws

renamed : (r : ℕ → ℕ) (φ : Formula) → abbreviation (rename r φ) ≡ relabel r (abbreviation φ)
renamed r True = refl
renamed r (Proposition p) = refl
renamed r (Not i) = refl
renamed r (Or i j) = refl
renamed r (Since i j lower upper) = refl
renamed r (Until i j lower upper) = refl
renamed r (And i j) = refl
renamed r (Implies i j) = refl
renamed r (Once i lower upper) = refl
renamed r (Historically i lower upper) = refl
renamed r (Eventually i lower upper) = refl
renamed r (Always i lower upper) = refl

formed_one : (k : Binary) (i j : ℕ) → abbreviation (formed k i j) ≡ binary k (operand i) (operand j)
formed_one either i j = refl
formed_one (back lower upper) i j = refl
formed_one (ahead lower upper) i j = refl

-- an expression's own line is the last of its lines
own : (n : ℕ) (x : Expression) → Own x → suc (place n x) ≡ n + size x
own n (operand i) o = absurd o
own n true' o = omega arith
own n (proposition' p) o = omega arith
own n (not' x) o = omega arith
own n (binary k x y) o = omega arith

moved_below : (k m i : ℕ) → i < k → moved k m i ≡ i
unfolding moved
moved_below k m i h = rw (lt-ltb i k h) refl

moved_past : (k m i : ℕ) → k ≤ i → moved k m i ≡ i + m
unfolding moved
moved_past k m i h = rw (le-ltb i k h) refl

unmoved : (r : ℕ → ℕ) (x : Expression) → Leaves (λ i. r i ≡ i) x → relabel r x ≡ x
unmoved r (operand i) h = ap operand h
unmoved r true' h = refl
unmoved r (proposition' p) h = refl
unmoved r (not' x) h = ap not' (unmoved r x h)
unmoved r (binary k x y) h = ap₂ (binary k) (unmoved r x h.0) (unmoved r y h.1)

leaves_relabelled : (P : ℕ → Type 0) (r : ℕ → ℕ) (x : Expression) → Leaves (λ i. P (r i)) x → Leaves P (relabel r x)
leaves_relabelled P r (operand i) h = h
leaves_relabelled P r true' h = tt
leaves_relabelled P r (proposition' p) h = tt
leaves_relabelled P r (not' x) h = leaves_relabelled P r x h
leaves_relabelled P r (binary k x y) h = (leaves_relabelled P r x h.0, leaves_relabelled P r y h.1)

more : (n m : ℕ) (x : Expression) → n ≤ m → Leaves (λ o. o < n) x → Leaves (λ o. o < m) x
more n m x l h = leaves_map x (λ o k. omega arith) h

-- the operands of a line that is the same, below a greater number
same_operands : (n m : ℕ) {φ ψ : Formula} → φ ≡ ψ → n ≤ m → Operands (λ o. o < n) φ → Operands (λ o. o < m) ψ
same_operands n m {φ} {ψ} e l h = more n m (abbreviation ψ) l (subst (Operands (λ o. o < n)) e h)

-- xs stand among l from n on
abbrev Part : (ℕ → Formula) → ℕ → List Formula → Type 0
Part l n xs = (i : ℕ) → i < length xs → l (n + i) ≡ at xs i

part_left : (l : ℕ → Formula) (n : ℕ) (xs ys : List Formula) → Part l n (xs ++ ys) → Part l n xs
part_left l n xs ys p i h = p i (omega (arith, length-append xs ys)) ∙ get_or-append xs ys True i h

part_right : (l : ℕ → Formula) (n m : ℕ) (xs ys : List Formula) → m ≡ n + length xs → Part l n (xs ++ ys) → Part l m ys
part_right l n m xs ys e p i h =
    let q : m + i ≡ n + (length xs + i) = omega arith in
    ap l q ∙ p (length xs + i) (omega (arith, length-append xs ys)) ∙ get_or-append-add xs ys i True

part_first : (l : ℕ → Formula) (n : ℕ) (φ : Formula) (xs : List Formula) → Part l n (φ ∷ xs) → l n ≡ φ
part_first l n φ xs p = ap l (sym (add-zero n)) ∙ p 0 (omega arith)

length_lines : (n : ℕ) (x : Expression) → length (lines n x) ≡ size x
length_lines n (operand i) = refl
length_lines n true' = refl
length_lines n (proposition' p) = refl
length_lines n (not' x) = omega (arith, length-append (lines n x) (Not (place n x) ∷ []), length_lines n x)
length_lines n (binary k x y) =
    omega (
      arith,
      length-append (lines n x ++ lines (n + size x) y) (formed k (place n x) (place (n + size x) y) ∷ []),
      length-append (lines n x) (lines (n + size x) y),
      length_lines n x,
      length_lines (n + size x) y,
    )

behind : (n : ℕ) (x : Expression) → n + size x ≡ n + length (lines n x)
behind n x = ap (λ (k : ℕ). n + k) (sym (length_lines n x))

behind_both : (n : ℕ) (x y : Expression) → n + size x + size y ≡ n + length (lines n x ++ lines (n + size x) y)
behind_both n x y = omega (arith, length-append (lines n x) (lines (n + size x) y), length_lines n x, length_lines (n + size x) y)

-- an expression's lines spell it out
spells : (l : ℕ → Formula) (r : ℕ → ℕ) (n : ℕ) (x : Expression) → Part l n (lines n x) → Leaves (λ i. r i ≡ i) x → Spells l r x (place n x)
spells l r n (operand i) p h = sym h
spells l r n true' p h = ap abbreviation (part_first l n True [] p)
spells l r n (proposition' m) p h = ap abbreviation (part_first l n (Proposition m) [] p)
spells l r n (not' x) p h =
    let last = part_first l (n + size x) (Not (place n x)) [] (part_right l n (n + size x) (lines n x) (Not (place n x) ∷ []) (behind n x) p) in
    (place n x, ap abbreviation last, spells l r n x (part_left l n (lines n x) (Not (place n x) ∷ []) p) h)
spells l r n (binary k x y) p h =
    let φ = formed k (place n x) (place (n + size x) y) in
    let q = part_left l n (lines n x ++ lines (n + size x) y) (φ ∷ []) p in
    let last = part_first l (n + size x + size y) φ [] (part_right l n (n + size x + size y) (lines n x ++ lines (n + size x) y) (φ ∷ []) (behind_both n x y) p) in (
      place n x,
      place (n + size x) y,
      ap abbreviation last ∙ formed_one k (place n x) (place (n + size x) y),
      spells l r n x (part_left l n (lines n x) (lines (n + size x) y) q) h.0,
      spells l r (n + size x) y (part_right l n (n + size x) (lines n x) (lines (n + size x) y) (behind n x) q) h.1,
    )

-- ---- operands stay earlier lines

early_append : (n m : ℕ) (xs ys : List Formula) → m ≡ n + length xs → Early n xs → Early m ys → Early n (xs ++ ys)
early_append n m xs ys e f g i h = go (dec_lt i (length xs))
  where
    go : Dec (i < length xs) → Operands (λ o. o < n + i) (at (xs ++ ys) i)
    go (yes p) = same_operands (n + i) (n + i) (sym (get_or-append xs ys True i p)) (omega arith) (f i p)
    go (no q) =
        let j : ℕ = i - length xs in
        let s : length xs + j ≡ i = omega arith in
        same_operands (m + j) (n + i) (sym (get_or-append-add xs ys j True) ∙ ap (at (xs ++ ys)) s) (omega arith) (g j (omega (arith, length-append xs ys)))

early_left : (n : ℕ) (xs ys : List Formula) → Early n (xs ++ ys) → Early n xs
early_left n xs ys f i h = same_operands (n + i) (n + i) (get_or-append xs ys True i h) (omega arith) (f i (omega (arith, length-append xs ys)))

early_right : (n m : ℕ) (xs ys : List Formula) → m ≡ n + length xs → Early n (xs ++ ys) → Early m ys
early_right n m xs ys e f i h =
    same_operands (n + (length xs + i)) (m + i) (get_or-append-add xs ys i True) (omega arith) (f (length xs + i) (omega (arith, length-append xs ys)))

early_one : (n : ℕ) (φ : Formula) → Operands (λ o. o < n) φ → Early n (φ ∷ [])
early_one n φ h zero l = more n (n + 0) (abbreviation φ) (omega arith) h
early_one n φ h (suc i) l = absurd (omega arith)

inside : (n : ℕ) (x : Expression) → Leaves (λ o. o < n) x → place n x < n + size x
inside n (operand i) h = omega arith
inside n true' h = omega arith
inside n (proposition' p) h = omega arith
inside n (not' x) h = omega arith
inside n (binary k x y) h = omega arith

early_lines : (n : ℕ) (x : Expression) → Leaves (λ o. o < n) x → Early n (lines n x)
early_lines n (operand i) h = λ j l. absurd (omega arith)
early_lines n true' h = early_one n True tt
early_lines n (proposition' p) h = early_one n (Proposition p) tt
early_lines n (not' x) h =
    early_append n (n + size x) (lines n x) (Not (place n x) ∷ []) (behind n x) (early_lines n x h) (early_one (n + size x) (Not (place n x)) (inside n x h))
early_lines n (binary k x y) h =
    let l = more n (n + size x) y (omega arith) h.1 in
    let i = place n x in
    let j = place (n + size x) y in
    early_append n (n + size x + size y) (lines n x ++ lines (n + size x) y) (formed k i j ∷ []) (behind_both n x y)
    (early_append n (n + size x) (lines n x) (lines (n + size x) y) (behind n x) (early_lines n x h.0) (early_lines (n + size x) y l))
    (early_one (n + size x + size y) (formed k i j)
    (subst (Leaves (λ o. o < n + size x + size y)) (sym (formed_one k i j)) (omega (arith, inside n x h.0), inside (n + size x) y l)))

early_map : (n m : ℕ) (r : ℕ → ℕ) (xs : List Formula) → ((o i : ℕ) → o < n + i → r o < m + i) → Early n xs → Early m (map (rename r) xs)
early_map n m r xs f e i h =
    subst (Operands (λ o. o < m + i)) (sym (get_or-map (rename r) xs i True))
    (subst (Leaves (λ o. o < m + i)) (sym (renamed r (at xs i)))
    (leaves_relabelled (λ o. o < m + i) r (abbreviation (at xs i))
    (leaves_map (abbreviation (at xs i)) (λ o l. f o i l) (e i (omega (arith, length-map xs (rename r)))))))

-- past the end a list has lines "true", which name none
early_all : (l : List Formula) → Early 0 l → Earlier (at l)
early_all l f k = go (dec_lt k (length l))
  where
    go : Dec (k < length l) → Operands (λ o. o < k) (at l k)
    go (yes p) = more (0 + k) k (abbreviation (at l k)) (omega arith) (f k p)
    go (no q) = subst (Operands (λ o. o < k)) (sym (get_or-eq_default l True (omega arith))) tt

-- ---- the one fact

module _ (before : List Formula) (φ : Formula) (after : List Formula) (early : Early 0 (before ++ (φ ∷ after))) where
  abbrev old : List Formula
  old = before ++ (φ ∷ after)

  abbrev new : List Formula
  new = replaced before φ after

  abbrev k : ℕ
  k = length before

  abbrev x : Expression
  x = abbreviation φ

  -- where line i has gone
  abbrev goes : ℕ → ℕ
  goes = moved (length before) (shift φ)

  abbrev rest : List Formula
  rest = map (rename (moved (length before) (shift φ))) after

  here : Leaves (λ o. o < k) x
  here = more (k + 0) k x (omega arith) (early_right 0 k before (φ ∷ after) (omega arith) early 0 (omega arith))

  goes_below : (o i : ℕ) → o < suc k + i → goes o < k + size x + i
  goes_below o i h = go (dec_lt o k)
    where
      go : Dec (o < k) → goes o < k + size x + i
      go (yes p) = omega (arith, moved_below k (shift φ) o p)
      go (no q) = omega (arith, moved_past k (shift φ) o (omega arith), own 0 x (own_line φ))

  early_replaced : Early 0 new
  early_replaced =
      early_append 0 k before (lines k x ++ rest) (omega arith) (early_left 0 before (φ ∷ after) early)
      (early_append k (k + size x) (lines k x) rest (behind k x) (early_lines k x here)
      (early_map (suc k) (k + size x) goes after goes_below (early_right k (suc k) (φ ∷ []) after (omega arith) (early_right 0 k before (φ ∷ after) (omega arith) early))))

  whole : Part (at new) 0 new
  whole i h = ap (at new) (zero-add i)

  stands : Stands (λ i. i < length old) (at old) (at new) goes
  stands = record {
    operands = λ i h. leaves_map (abbreviation (at old i)) (λ o l. omega arith) (early i h);
    line = λ i h. go i h (dec_lt i k) (ℕ_discrete i k);
  }
    where
      go : (i : ℕ) → i < length old → Dec (i < k) → Dec (i ≡ k)
          → (abbreviation (at new (goes i)) ≡ relabel goes (abbreviation (at old i))) ⊎ Spells (at new) goes (abbreviation (at old i)) (goes i)
      go i h (yes p) d =
          let there : at new (goes i) ≡ at old i =
          ap (at new) (moved_below k (shift φ) i p) ∙ get_or-append before (lines k x ++ rest) True i p ∙ sym (get_or-append before (φ ∷ after) True i p) in
          inl (ap abbreviation there
          ∙ sym (unmoved goes (abbreviation (at old i)) (leaves_map (abbreviation (at old i)) (λ o l. moved_below k (shift φ) o (omega arith)) (early i h))))
      go i h (no q) (yes e) =
          let there : place k x ≡ goes i = omega (arith, moved_past k (shift φ) i (omega arith), own k x (own_line φ), own 0 x (own_line φ)) in
          inr (subst₂ (λ (ψ : Formula) (n : ℕ). Spells (at new) goes (abbreviation ψ) n) (sym (ap (at old) e ∙ get_or-append_seam before φ after True)) there
          (spells (at new) goes k x (part_left (at new) k (lines k x) rest (part_right (at new) 0 k before (lines k x ++ rest) (omega arith) whole))
          (leaves_map x (λ o l. moved_below k (shift φ) o l) here)))
      go i h (no q) (no e) =
          let j : ℕ = i - suc k in
          let from : k + suc j ≡ i = omega arith in
          let to : goes i ≡ k + (length (lines k x) + j) = omega (arith, moved_past k (shift φ) i (omega arith), own 0 x (own_line φ), length_lines k x) in
          inl (ap abbreviation
          (ap (at new) to ∙ get_or-append-add before (lines k x ++ rest) (length (lines k x) + j) True ∙ get_or-append-add (lines k x) rest j True
          ∙ get_or-map (rename goes) after j True
          ∙ ap (rename goes) (sym (get_or-append-add before (φ ∷ after) (suc j) True) ∙ ap (at old) from))
          ∙ renamed goes (at old i))

-- **The one fact**: every line's row is what it was, over any truth algebra and any world, at every minute
pub replacing : (before : List Formula) (φ : Formula) (after : List Formula) → Early 0 (before ++ (φ ∷ after)) → {A : Type 0} (a : Algebra A) (w : World A)
    → (i : ℕ) → i < length (before ++ (φ ∷ after)) → (t : ℕ)
    → reading a w (at (before ++ (φ ∷ after))) i t ≡ reading a w (at (replaced before φ after)) (moved (length before) (shift φ) i) t
replacing before φ after early a w i h t =
    same_rows (at (before ++ (φ ∷ after))) (at (replaced before φ after)) (moved (length before) (shift φ)) (λ i. i < length (before ++ (φ ∷ after)))
    (early_all (before ++ (φ ∷ after)) early) (early_all (replaced before φ after) (early_replaced before φ after early)) (stands before φ after early) a w i h t
