-- A subformula's row is worked from earlier rows because the reading is: inside the window each value is made of its operands' values, and
-- outside everything is unknown, as it is past the end of a row. Assumes nothing.
use Prim.Native.Nat.{ℕ, ◌+◌, ◌-◌, ◌*◌, ◌/◌, ◌%◌, ◌≤◌, ◌<◌}
use native.Mathlib.Omega.{arith}
use native.Mathlib.Decide.{dec_lt}
use mathlib.Core.Path.{◌≡◌, refl, sym, ap, ap₂, subst, ◌∙◌}
use mathlib.Core.Bool.{true, false}
use mathlib.Core.List.{List, ◌++◌}
use lib.ListN.{get_or, length, take, drop, length-drop, get_or-eq_default}
use lib.Seq.{length-take-le, get_or-take, get_or-drop, drop-drop}
use borrow.Author.Tests.{lt-ltb, le-ltb}
use borrow.Rule.Slice.PartMut.{put_mid}
use Rattle.kleene.specs.Truth.{Truth, unknown, true3, not3, or3, and3, code_of, value_of}
use Rattle.kleene.proofs.Truth.{value_of_code}
use Rattle.kleene.proofs.Tests.{implies_and}
use Rattle.rows.specs.Over.{Over}
use Rattle.rows.proofs.Laws.{two}
use Rattle.rows.proofs.Grid.{row_of, place_of, next_row}
use Rattle.rows.proofs.Parts.{put_in}
use Rattle.mtl.specs.Algebra.{three}
use Rattle.mtl.specs.declared.Formula.{Formula}
use Rattle.mtl.specs.declared.Formula.TheVariants.{True, Proposition, Not, Or, Since, Until, And, Implies, Once, Historically, Eventually, Always}
use Rattle.mtl.specs.Abbreviations.{abbreviation}
use Rattle.mtl.proofs.Abbreviations.{leaves_map}
use Rattle.mtl.specs.Syntax.{Earlier, Proposes}
use Rattle.mtl.specs.Reading.{point, seen, meaning}
use Rattle.mtl.proofs.Unroll.{unroll, reading_past}
use Rattle.policy.specs.declared.Sizes.{Sizes}
use Rattle.policy.specs.declared.Policy.{Policy}
use Rattle.policy.specs.Proper.{Proper, formula_at}
use Rattle.knowledge.specs.Knowledge.{Knowledge, point_known, world}
use Rattle.valuation.specs.Sheets.{value}
use Rattle.operator_rows.proofs.Shown.{past}
use Rattle.valuation.specs.Rows.{Shows, Row, run, Rows, Points, Unbroken, Workable}

-- ---- one row of several

module _ (m : ℕ) (l r : List ℕ) (i : ℕ) (here : r ≡ run m l i) (there : i * m + m ≤ length l) where
  pub run_length : length r ≡ m
  run_length = ap length here ∙ length-take-le m (drop (i * m) l) (simp length-drop (omega arith))

  pub run_shows : (v : ℕ → ℕ → Truth) → Rows m l v → Shows r (v i)
  run_shows v h = subst (λ (s : List ℕ). Shows s (v i)) (sym here) (h i there)

  pub run_past : (v : ℕ → ℕ → Truth) → Rows m l v → (t : ℕ) → m ≤ t → v i t ≡ unknown
  run_past v h t after = past r (v i) (run_shows v h) t (omega (arith, run_length))

-- ---- the window

module _ (z : Sizes) (k : Knowledge) where
  pub in_window : (t : ℕ) (x : Truth) → t < z.minutes → seen (world z k) t x ≡ x
  in_window t x h = rw (lt-ltb t z.minutes h, seen) refl

  pub off_window : (t : ℕ) (x : Truth) → z.minutes ≤ t → seen (world z k) t x ≡ unknown
  off_window t x h = rw (le-ltb t z.minutes h, seen) refl

  -- a row over n minutes, all those of the window, as the window shows it; an abbreviation's parts are lines of their own, seen as far as it goes
  pub seen_row : (n : ℕ) (f : ℕ → Truth) (r : List ℕ) → n ≡ z.minutes → Row n f r → Row z.minutes (λ t. seen (world z k) t (f t)) r
  seen_row n f r e h t l = h t (omega arith) ∙ ap code_of (sym (in_window t (f t) l))

  pub implies_row : (n : ℕ) (f g : ℕ → Truth) (r : List ℕ) → n ≡ z.minutes → Row n (λ t. not3 (and3 (f t) (not3 (g t)))) r
      → Row z.minutes (λ t. let s = seen (world z k) t in s (or3 (s (not3 (f t))) (g t))) r
  implies_row n f g r e h t l =
      h t (omega arith) ∙ ap code_of (implies_and (f t) (g t) ∙ sym (in_window t _ l ∙ ap (λ (x : Truth). or3 x (g t)) (in_window t (not3 (f t)) l)))

  pub not_seen_row : (n : ℕ) (f : ℕ → Truth) (r : List ℕ) → n ≡ z.minutes → Row n (λ t. not3 (f t)) r
      → Row z.minutes (λ t. let s = seen (world z k) t in s (not3 (s (f t)))) r
  not_seen_row n f r e h t l = h t (omega arith) ∙ ap code_of (sym (in_window t _ l ∙ ap not3 (in_window t (f t) l)))

  pub true_left : (n : ℕ) (f : ℕ → Truth) → n ≡ z.minutes → Unbroken n false f (λ s. seen (world z k) s true3) f
  true_left n f e = record { held = λ s h. in_window s true3 (omega arith); sought = λ s. refl }

  pub not_right : (n : ℕ) (f : ℕ → Truth) → n ≡ z.minutes → ((t : ℕ) → z.minutes ≤ t → f t ≡ unknown)
      → Unbroken n true f (λ s. seen (world z k) s true3) (λ s. seen (world z k) s (not3 (f s)))
  not_right n f e o = record { held = λ s h. in_window s true3 (omega arith); sought = λ s. go s (dec_lt s z.minutes) }
    where
      go : (s : ℕ) → Dec (s < z.minutes) → seen (world z k) s (not3 (f s)) ≡ not3 (f s)
      go s (yes w) = in_window s (not3 (f s)) w
      go s (no w) = off_window s (not3 (f s)) (omega arith) ∙ sym (ap not3 (o s (omega arith)))

  -- a list that holds f's codes in the window, and is no longer
  pub shows : (l : List ℕ) (f : ℕ → Truth) → length l ≡ z.minutes → ((t : ℕ) → t < z.minutes → get_or l t 0 ≡ code_of (f t))
      → ((t : ℕ) → z.minutes ≤ t → f t ≡ unknown) → Shows l f
  shows l f e h o t = go (dec_lt t z.minutes)
    where
      go : Dec (t < z.minutes) → value_of (get_or l t 0) ≡ f t
      go (yes w) = ap value_of (h t w) ∙ value_of_code (f t)
      go (no w) = ap value_of (get_or-eq_default l 0 (omega arith)) ∙ sym (o t (omega arith))

  pub points_show : (l : List ℕ) → z.minutes ≤ length l → Points z k l → Shows (take z.minutes l) (point three (world z k))
  points_show l h p =
      shows (take z.minutes l) (point three (world z k)) (length-take-le z.minutes l h)
      (λ t w. get_or-take z.minutes l t 0 w ∙ p t w ∙ ap code_of (sym (in_window t (point_known z k t) w)))
      (λ t w. off_window t (point_known z k t) w)

-- ---- the rows of the work sheet

-- the cell of the work sheet, laid out flat
abbrev pub cell : Policy → Knowledge → ℕ → ℕ
cell p k i = code_of (value p k (i / p.sizes.minutes) (i % p.sizes.minutes))

pub cell_at : (p : Policy) (k : Knowledge) (i t : ℕ) → t < p.sizes.minutes → cell p k (i * p.sizes.minutes + t) ≡ code_of (value p k i t)
cell_at p k i t h = ap₂ (λ (a b : ℕ). code_of (value p k a b)) (row_of p.sizes.minutes i t h) (place_of p.sizes.minutes i t h)

module _ (p : Policy) (k : Knowledge) (earlier : Earlier (formula_at p)) where
  pub value_off : (i t : ℕ) → p.sizes.minutes ≤ t → value p k i t ≡ unknown
  value_off i t h = reading_past three (world p.sizes k) (formula_at p) i t (le-ltb t p.sizes.minutes h)

  -- the rows that are written show their subformulas' values
  pub rows_show : (end : ℕ) (old new : List ℕ) → end ≤ length new → Over (cell p k) 0 end old new
      → Rows p.sizes.minutes (take end new) (value p k)
  rows_show end old new l o i h =
      let m = p.sizes.minutes in
      let front : length (take end new) ≡ end = length-take-le end new l in
      shows p.sizes k (run m (take end new) i) (value p k i)
      (run_length m (take end new) (run m (take end new) i) i refl h)
      (λ t w.
      let under : i * m + t < end = omega arith in
      get_or-take m (drop (i * m) (take end new)) t 0 w
      ∙ get_or-drop (i * m) (take end new) t 0
      ∙ get_or-take end new (i * m + t) 0 under
      ∙ o.inside (i * m + t) (omega arith) under
      ∙ cell_at p k i t w)
      (λ t w. value_off i t w)

  -- the row that was worked for subformula i holds its cells
  pub row_cells : (i : ℕ) (r : List ℕ) → Row p.sizes.minutes (meaning three (world p.sizes k) (value p k) (abbreviation (formula_at p i))) r
      → (t : ℕ) → t < p.sizes.minutes → get_or r t 0 ≡ cell p k (i * p.sizes.minutes + t)
  row_cells i r w t h =
      w t h
      ∙ ap code_of (sym (unroll three (world p.sizes k) (formula_at p) earlier i t))
      ∙ sym (cell_at p k i t h)

-- ---- one row more

-- the time points, as far as the window goes
pub front : {z : Sizes} {φ : Formula} {p f l : List ℕ} → Workable z φ p f l → length (take z.minutes p) ≡ z.minutes
front {z} {φ} {p} w = length-take-le z.minutes p (omega (arith, w.minutes, w.points))

-- what the formula that this one is has
pub its : {z : Sizes} {φ ψ : Formula} {p f l : List ℕ} → φ ≡ ψ → Workable z φ p f l → Workable z ψ p f l
its {z} {φ} {ψ} {p} {f} {l} e w = subst (λ (χ : Formula). Workable z χ p f l) e w

-- a row of the formula that this one is
pub worked : (z : Sizes) (k : Knowledge) (v : ℕ → ℕ → Truth) (r : List ℕ) {φ ψ : Formula} → φ ≡ ψ
    → Row z.minutes (meaning three (world z k) v (abbreviation ψ)) r → Row z.minutes (meaning three (world z k) v (abbreviation φ)) r
worked z k v r e h = subst (λ (χ : Formula). Row z.minutes (meaning three (world z k) v (abbreviation χ)) r) (sym e) h

proposes_more : (n most : ℕ) (φ : Formula) → n ≤ most → Proposes n φ → Proposes most φ
proposes_more n most True l h = tt
proposes_more n most (Proposition p) l h = omega arith
proposes_more n most (Not i) l h = tt
proposes_more n most (Or i j) l h = tt
proposes_more n most (Since i j lower upper) l h = tt
proposes_more n most (Until i j lower upper) l h = tt
proposes_more n most (And i j) l h = tt
proposes_more n most (Implies i j) l h = tt
proposes_more n most (Once i lower upper) l h = tt
proposes_more n most (Historically i lower upper) l h = tt
proposes_more n most (Eventually i lower upper) l h = tt
proposes_more n most (Always i lower upper) l h = tt

-- the part that was lent, given back
pub given_back : (at m : ℕ) (xs ys : List ℕ) → take at xs ++ (ys ++ drop (at + m) xs) ≡ take at xs ++ (ys ++ drop (at + m - at) (drop at xs))
given_back at m xs ys =
    let n : at + m - at ≡ m = omega arith in
    rw (n, drop-drop) refl

module _ (p : Policy) (proper : Proper p) (i : ℕ) (under : i < p.count) where
  pub workable : (points facts l : List ℕ) → length points ≡ 1024 → length facts ≡ 2 * p.sizes.minutes → length l ≡ i * p.sizes.minutes
      → Workable p.sizes (formula_at p i) points facts l
  workable points facts l a b e =
      record {
        minutes = proper.minutes.high;
        points = a;
        facts = b;
        operands = leaves_map (abbreviation (formula_at p i)) (λ j h. rw e (next_row i p.sizes.minutes j h)) (proper.earlier i);
        proposes = proposes_more p.sizes.propositions 32 (formula_at p i) proper.propositions.high (proper.proposes i);
        bounded = proper.bounded i;
      }

  pub next : (k : Knowledge) (old new row run : List ℕ) → p.count * p.sizes.minutes ≤ length new → p.sizes.minutes ≤ length row
      → Over (cell p k) 0 (i * p.sizes.minutes) old new
      → Row p.sizes.minutes (meaning three (world p.sizes k) (value p k) (abbreviation (formula_at p i))) row
      → run ≡ take p.sizes.minutes row
      → Over (cell p k) 0 ((i + 1) * p.sizes.minutes) old (put_mid (i * p.sizes.minutes) (i * p.sizes.minutes + p.sizes.minutes - i * p.sizes.minutes) new run)
  next k old new row run room long o r e =
      let m = p.sizes.minutes in
      let at = i * m in
      let fits : at + m ≤ length new = omega (arith, next_row p.count m i under) in
      let end : at + m ≡ (i + 1) * m = omega arith in
      let written =
      two (cell p k) (cell p k) 0 at (at + m) old new (take at new ++ (run ++ drop (at + m) new)) o
      (put_in (cell p k) at m new run fits (ap length e ∙ length-take-le m row long)
      (λ t h. ap (λ (l : List ℕ). get_or l t 0) e ∙ get_or-take m row t 0 h ∙ row_cells p k proper.earlier i row r t h))
      (omega arith) (omega arith) (λ j a b. refl) in
      subst (λ (n : ℕ). Over (cell p k) 0 n old (put_mid at (at + m - at) new run)) end
      (subst (λ (l : List ℕ). Over (cell p k) 0 (at + m) old l) (given_back at m new run) written)
