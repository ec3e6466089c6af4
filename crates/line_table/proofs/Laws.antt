-- A line that is stored is read again, and the others are as they were.
use Rattle.std.specs.Prelude.{ℕ, zero, suc, ◌+◌, ◌*◌, ◌≤◌, ◌<◌, ◌≡◌, refl, Bool, true, false, not, cond, ◌⊎◌, List, [], ◌∷◌, ◌++◌, eqb, length, get_or, set}
use Rattle.std.proofs.Common.{arith, add-one, ap, subst, ◌∙◌, inl, inr, length-set, length-append, get_or-set_same, get_or-set_other}
use Rattle.std.proofs.Math.Decide.{dec_lt}
use Rattle.std.proofs.Math.ListN.{get_or-append}
use Rattle.std.proofs.lemmas.List.{get_or_at}
use Rattle.std.proofs.lemmas.List.Edits.{sets}
use Rattle.std.proofs.Math.Seq.{length-sets}
use Rattle.policy.specs.declared.LineNumbers.{LineNumbers}
use Rattle.policy.specs.Text.{no_numbers, line_in}
use Rattle.line_table.specs.Table.{line_at, lines_from, set_line}

-- ---- a run of stores

before : (vs l : List ℕ) (i j : ℕ) → j < i → get_or (sets l i vs) j 0 ≡ get_or l j 0
before [] l i j h = refl
before (v ∷ vs) l i j h = before vs (set l i v) (suc i) j (omega arith) ∙ get_or-set_other l i j v 0 (λ e. omega arith)

behind : (vs l : List ℕ) (i j : ℕ) → i + length vs ≤ j → get_or (sets l i vs) j 0 ≡ get_or l j 0
behind [] l i j h = refl
behind (v ∷ vs) l i j h = behind vs (set l i v) (suc i) j (omega arith) ∙ get_or-set_other l i j v 0 (λ e. omega arith)

among : (vs l : List ℕ) (i n : ℕ) → n < length vs → i + n < length l → get_or (sets l i vs) (i + n) 0 ≡ get_or vs n 0
among [] l i n h k = absurd (omega arith)
among (v ∷ vs) l i zero h k =
    let e : i + 0 ≡ i = omega arith in
    ap (λ (j : ℕ). get_or (sets (set l i v) (suc i) vs) j 0) e ∙ before vs (set l i v) (suc i) i (omega arith) ∙ get_or-set_same l i v 0 (omega arith)
among (v ∷ vs) l i (suc n) h k =
    let e : i + suc n ≡ suc i + n = omega arith in
    ap (λ (j : ℕ). get_or (sets (set l i v) (suc i) vs) j 0) e ∙ among vs (set l i v) (suc i) n (omega arith) (omega (arith, length-set l i v))

-- ---- a line

six : LineNumbers → List ℕ
six l = l.kind ∷ l.first ∷ l.second ∷ l.lower ∷ l.upper ∷ cond l.rule 1 0 ∷ []

one_run : (f : List ℕ) (i : ℕ) (l : LineNumbers) → set_line f i l ≡ sets f (i * 6) (six l)
unfolding set_line six
one_run f i l =
    let k = i * 6 in
    let a : k + 1 ≡ suc k = omega arith in
    let b : k + 2 ≡ suc (suc k) = omega arith in
    let c : k + 3 ≡ suc (suc (suc k)) = omega arith in
    let d : k + 4 ≡ suc (suc (suc (suc k))) = omega arith in
    let e : k + 5 ≡ suc (suc (suc (suc (suc k)))) = omega arith in
    rw (a, b, c, d, e) refl

pub set_line_length : (f : List ℕ) (i : ℕ) (l : LineNumbers) → length (set_line f i l) ≡ length f
set_line_length f i l = ap length (one_run f i l) ∙ length-sets f (i * 6) (six l)

same_line : {a b c d e g a' b' c' d' e' g' : ℕ} → a ≡ a' → b ≡ b' → c ≡ c' → d ≡ d' → e ≡ e' → g ≡ g'
    → ◌≡◌ {A = LineNumbers} (record { kind = a; first = b; second = c; lower = d; upper = e; rule = not (eqb g 0) })
    (record { kind = a'; first = b'; second = c'; lower = d'; upper = e'; rule = not (eqb g' 0) })
same_line p q r s t u = rw (p, q, r, s, t, u) refl

pub set_same : (f : List ℕ) (i : ℕ) (l : LineNumbers) → i < 64 → length f ≡ 384 → line_at (set_line f i l) i ≡ l
unfolding six
set_same f i l h n =
    ap (λ (g : List ℕ). line_at g i) (one_run f i l)
    ∙ same_line first (cell 1 (omega arith) (omega arith)) (cell 2 (omega arith) (omega arith)) (cell 3 (omega arith) (omega arith)) (cell 4 (omega arith) (omega arith)) (cell 5 (omega arith) (omega arith))
    ∙ back l.rule
  where
    cell : (j : ℕ) → j < 6 → i * 6 + j < length f → get_or (sets f (i * 6) (six l)) (i * 6 + j) 0 ≡ get_or (six l) j 0
    cell j p q = among (six l) f (i * 6) j p q

    first : get_or (sets f (i * 6) (six l)) (i * 6) 0 ≡ l.kind
    first = let e : i * 6 ≡ i * 6 + 0 = omega arith in ap (λ (j : ℕ). get_or (sets f (i * 6) (six l)) j 0) e ∙ cell 0 (omega arith) (omega arith)

    back : (r : Bool)
        → ◌≡◌ {A = LineNumbers} (record { kind = l.kind; first = l.first; second = l.second; lower = l.lower; upper = l.upper; rule = not (eqb (cond r 1 0) 0) })
        (record { kind = l.kind; first = l.first; second = l.second; lower = l.lower; upper = l.upper; rule = r })
    back true = refl
    back false = refl

pub set_other : (f : List ℕ) (i j : ℕ) (l : LineNumbers) → (j ≡ i → ⊥) → line_at (set_line f i l) j ≡ line_at f j
unfolding six
set_other f i j l h =
    ap (λ (g : List ℕ). line_at g j) (one_run f i l)
    ∙ same_line (cell (j * 6) first) (cell (j * 6 + 1) (away 1 (omega arith))) (cell (j * 6 + 2) (away 2 (omega arith)))
    (cell (j * 6 + 3) (away 3 (omega arith))) (cell (j * 6 + 4) (away 4 (omega arith))) (cell (j * 6 + 5) (away 5 (omega arith)))
  where
    cell : (k : ℕ) → (k < i * 6) ⊎ (i * 6 + 6 ≤ k) → get_or (sets f (i * 6) (six l)) k 0 ≡ get_or f k 0
    cell k (inl p) = before (six l) f (i * 6) k p
    cell k (inr p) = behind (six l) f (i * 6) k p

    away : (n : ℕ) → n < 6 → (j * 6 + n < i * 6) ⊎ (i * 6 + 6 ≤ j * 6 + n)
    away n p = go (dec_lt j i)
      where
        go : Dec (j < i) → (j * 6 + n < i * 6) ⊎ (i * 6 + 6 ≤ j * 6 + n)
        go (yes q) = inl (omega arith)
        go (no q) = inr (let r : i < j = apart in omega arith)
          where
            apart : i < j
            apart = side (dec_lt i j)
              where
                side : Dec (i < j) → i < j
                side (yes y) = y
                side (no y) = absurd (h (omega arith))

    first : (j * 6 < i * 6) ⊎ (i * 6 + 6 ≤ j * 6)
    first = let e : j * 6 + 0 ≡ j * 6 = omega arith in subst (λ (k : ℕ). (k < i * 6) ⊎ (i * 6 + 6 ≤ k)) e (away 0 (omega arith))

-- ---- all lines

pub from_length : (f : List ℕ) (n : ℕ) → length (lines_from f n) ≡ n
unfolding lines_from
from_length f zero = refl
from_length f (suc n) = length-append (lines_from f n) (line_at f n ∷ []) ∙ ap (λ (k : ℕ). k + 1) (from_length f n) ∙ add-one n

pub line_from : (f : List ℕ) (n i : ℕ) → i < n → line_in (lines_from f n) i ≡ line_at f i
unfolding lines_from
line_from f zero i h = absurd (omega arith)
line_from f (suc n) i h = go (dec_lt i n) (line_from f n i)
  where
    go : Dec (i < n) → (i < n → line_in (lines_from f n) i ≡ line_at f i) → line_in (lines_from f n ++ (line_at f n ∷ [])) i ≡ line_at f i
    go (yes l) ih = get_or-append (lines_from f n) (line_at f n ∷ []) no_numbers i (omega (arith, from_length f n)) ∙ ih l
    go (no l) ih =
        let e : n ≡ i = omega arith in
        get_or_at (lines_from f n) (line_at f n) [] no_numbers i (from_length f n ∙ e) ∙ ap (line_at f) e

-- six stores, the last by any number that says whether it is a rule
pub six_stored : (f : List ℕ) (i : ℕ) (l : LineNumbers) (r : ℕ) → r ≡ cond l.rule 1 0
    → set (set (set (set (set (set f (i * 6) l.kind) (i * 6 + 1) l.first) (i * 6 + 2) l.second) (i * 6 + 3) l.lower) (i * 6 + 4) l.upper) (i * 6 + 5) r ≡ set_line f i l
unfolding set_line
six_stored f i l r e = rw e refl
