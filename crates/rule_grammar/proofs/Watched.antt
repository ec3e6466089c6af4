-- Laws of the definitions in specs/Watched. Assumes nothing.
use Rattle.std.specs.Prelude.{ℕ, zero, suc, ◌+◌, ◌<◌, ◌≡◌, refl, Bool, ◌↔◌, List, [], ◌∷◌, ◌++◌, length, get_or}
use Rattle.std.proofs.Common.{arith, zero-add, sym, ap, subst, ◌∙◌, inl, inr, ⊎_elim, append_assoc, length-append}
use Rattle.std.proofs.Math.Decide.{dec_lt}
use Rattle.std.proofs.Math.ListN.{get_or-eq_default}
use Rattle.std.proofs.Math.Seq.{get_or-append_seam}
use Rattle.mtl.specs.declared.Formula.{Formula}
use Rattle.mtl.specs.declared.Formula.TheVariants.{True as Always, Proposition, Not as Negation}
use Rattle.mtl.specs.Syntax.{Operands, Proposes, Bounded}
use Rattle.mtl.specs.Textbook.{Says, HoldsDeep, Holds}
use Rattle.rule_grammar.specs.Term.{Joint, Or, And, Since, Until, Term, True, Mark, Not, Group}
use Rattle.rule_grammar.specs.Lines.{inner, terms, joined, lines}
use Rattle.rule_grammar.specs.Means.{Joins, Means}
use Rattle.rule_grammar.specs.Watched.{Fair, PolicyLines, Within, line_of}

-- P holds of each line of a list whose first has number k
abbrev Each : (ℕ → Formula → Type 0) → ℕ → List Formula → Type 0
Each P k [] = Unit
Each P k (f ∷ fs) = P k f × Each P (suc k) fs

module _ (P : ℕ → Formula → Type 0) where
  join : (k : ℕ) (fs gs : List Formula) → Each P k fs → Each P (k + length fs) gs → Each P k (fs ++ gs)
  join k [] gs a b = subst (λ n. Each P n gs) (omega arith) b
  join k (f ∷ fs) gs a b = (a.0, join (suc k) fs gs a.1 (subst (λ n. Each P n gs) (omega arith) b))

  part : (k : ℕ) (fs gs : List Formula) → Each P k (fs ++ gs) → Each P k fs × Each P (k + length fs) gs
  part k [] gs a = (tt, subst (λ n. Each P n gs) (omega arith) a)
  part k (f ∷ fs) gs a = let h = part (suc k) fs gs a.1 in ((a.0, h.0), subst (λ n. Each P n gs) (omega arith) h.1)

  each_at : (k : ℕ) (fs : List Formula) → Each P k fs → (i : ℕ) → i < length fs → P (k + i) (get_or fs i Always)
  each_at k [] a i l = absurd (omega arith)
  each_at k (f ∷ fs) a zero l = subst (λ n. P n f) (omega arith) a.0
  each_at k (f ∷ fs) a (suc i) l = subst (λ n. P n (get_or fs i Always)) (omega arith) (each_at (suc k) fs a.1 i (omega arith))

-- as many lines as terms
pub line_count : (k : ℕ) (x : Term) → length (lines k x) ≡ terms x
line_count k True = refl
line_count k (Mark n) = refl
line_count k (Not x) = length-append (lines k x) _ ∙ omega (arith, line_count k x)
line_count k (Group x j y) =
    length-append (lines k x ++ lines (k + terms x) y) _
    ∙ omega (arith, length-append (lines k x) (lines (k + terms x) y), line_count k x, line_count (k + terms x) y)

abbrev Sound : ℕ → ℕ → Formula → Type 0
Sound n k f = Operands (λ i. i < k) f × Proposes n f × Bounded 1023 f

sound_joint : (n : ℕ) (j : Joint) (a b k : ℕ) → a < k → b < k → Fair j → Sound n k (joined j a b)
sound_joint n Or a b k l m h = ((l, m), tt, tt)
sound_joint n And a b k l m h = ((l, m), tt, tt)
sound_joint n (Since c d) a b k l m h = ((l, m), tt, h)
sound_joint n (Until c d) a b k l m h = ((l, m), tt, h)

sound_lines : (n k : ℕ) (x : Term) → Within n x → Each (Sound n) k (lines k x)
sound_lines n k True h = ((tt, tt, tt), tt)
sound_lines n k (Mark m) h = ((tt, h, tt), tt)
sound_lines n k (Not x) h =
    join (Sound n) k (lines k x) _ (sound_lines n k x h) ((omega (arith, line_count k x), tt, tt), tt)
sound_lines n k (Group x j y) h =
    let e = line_count k x in
    let f = line_count (k + terms x) y in
    let g = length-append (lines k x) (lines (k + terms x) y) in
    join (Sound n) k (lines k x ++ lines (k + terms x) y) _
    (join (Sound n) k (lines k x) (lines (k + terms x) y) (sound_lines n k x h.0)
    (subst (λ m. Each (Sound n) (k + m) (lines (k + terms x) y)) (sym e) (sound_lines n (k + terms x) y h.2)))
    (sound_joint n j _ _ _ (omega arith) (omega arith) h.1, tt)

pub policy_lines : (n : ℕ) (x : Term) → Within n x → PolicyLines n x
policy_lines n x h =
    record { count = line_count 0 x; earlier = λ i. (at i).0; proposes = λ i. (at i).1; bounded = λ i. (at i).2 }
  where
    at : (i : ℕ) → Sound n i (line_of x i)
    at i = go (dec_lt i (length (lines 0 x)))
      where
        go : Dec (i < length (lines 0 x)) → Sound n i (line_of x i)
        go (yes l) = subst (λ m. Sound n m (line_of x i)) (omega arith) (each_at (Sound n) 0 (lines 0 x) (sound_lines n 0 x h) i l)
        go (no l) = subst (λ f. Sound n i f) (sym (get_or-eq_default (lines 0 x) Always (omega arith))) (tt, tt, tt)

-- ---- the meaning

module _ (e : ℕ → Bool) (p : ℕ → ℕ → Bool) where
  joint_agrees : (X : ℕ → ℕ → Type 0) (j : Joint) (i k : ℕ) (α β : ℕ → Type 0) → ((s : ℕ) → X i s ↔ α s) → ((s : ℕ) → X k s ↔ β s)
      → (t : ℕ) → Says e p X (joined j i k) t ↔ Joins e p α j β t
  joint_agrees X Or i k α β f g t = (⊎_elim (λ a. inl ((f t).0 a)) (λ a. inr ((g t).0 a)), ⊎_elim (λ a. inl ((f t).1 a)) (λ a. inr ((g t).1 a)))
  joint_agrees X And i k α β f g t = (λ a. ((f t).0 a.0, (g t).0 a.1), λ a. ((f t).1 a.0, (g t).1 a.1))
  joint_agrees X (Since c d) i k α β f g t = (
    λ z. record { j = z.j; earliest = z.earliest; latest = z.latest; is_point = z.is_point; right = (g z.j).0 z.right; left = λ s a b q. (f s).0 (z.left s a b q) },
    λ z. record { j = z.j; earliest = z.earliest; latest = z.latest; is_point = z.is_point; right = (g z.j).1 z.right; left = λ s a b q. (f s).1 (z.left s a b q) },
  )
  joint_agrees X (Until c d) i k α β f g t = (
    λ z. record { j = z.j; earliest = z.earliest; latest = z.latest; is_point = z.is_point; right = (g z.j).0 z.right; left = λ s a b q. (f s).0 (z.left s a b q) },
    λ z. record { j = z.j; earliest = z.earliest; latest = z.latest; is_point = z.is_point; right = (g z.j).1 z.right; left = λ s a b q. (f s).1 (z.left s a b q) },
  )

  module _ (line : ℕ → Formula) where
    -- the list's lines are those of the policy, from line k on
    abbrev Here : ℕ → List Formula → Type 0
    Here = Each (λ i f. line i ≡ f)

    own : (X : ℕ → ℕ → Type 0) (M : Type 0) (t i n : ℕ) (f : Formula) → line i ≡ f → i ≡ n → Says e p X f t ↔ M → Says e p X (line n) t ↔ M
    own X M t i n f h g r = subst (λ m. Says e p X (line m) t ↔ M) g (subst (λ φ. Says e p X φ t ↔ M) (sym h) r)

    deepen : (i t a b : ℕ) (M : Type 0) → a ≡ b → HoldsDeep e p line a i t ↔ M → HoldsDeep e p line b i t ↔ M
    deepen i t a b M h r = subst (λ n. HoldsDeep e p line n i t ↔ M) h r

    -- at any depth that is enough
    means : (k : ℕ) (x : Term) → Here k (lines k x) → (d t : ℕ) → HoldsDeep e p line (suc (k + inner x + d)) (k + inner x) t ↔ Means e p x t
    means k True a d t = own (HoldsDeep e p line (k + 0 + d)) _ t k (k + 0) Always a.0 (omega arith) (λ u. u, λ u. u)
    means k (Mark m) a d t = own (HoldsDeep e p line (k + 0 + d)) _ t k (k + 0) (Proposition m) a.0 (omega arith) (λ u. u, λ u. u)
    means k (Not x) a d t =
        let depth = k + suc (inner x) + d in
        let b = part _ k (lines k x) _ a in
        let ih = deepen (k + inner x) t (suc (k + inner x + d)) depth (Means e p x t) (omega arith) (means k x b.0 d t) in
        own (HoldsDeep e p line depth) _ t (k + length (lines k x)) (k + suc (inner x)) (Negation (k + inner x)) b.1.0 (omega (arith, line_count k x))
        (λ f m. f (ih.1 m), λ f m. f (ih.0 m))
    means k (Group x j y) a d t =
        let z = k + terms x in
        let depth = k + suc (suc (inner x) + inner y) + d in
        let l = line_count k x in
        let m = line_count z y in
        let n = length-append (lines k x) (lines z y) in
        let b = part _ k (lines k x ++ lines z y) _ a in
        let c = part _ k (lines k x) (lines z y) b.0 in
        own (HoldsDeep e p line depth) _ t (k + length (lines k x ++ lines z y)) (k + suc (suc (inner x) + inner y)) (joined j (k + inner x) (z + inner y)) b.1.0 (omega arith)
        (joint_agrees (HoldsDeep e p line depth) j (k + inner x) (z + inner y) (Means e p x) (Means e p y)
        (λ s. deepen (k + inner x) s (suc (k + inner x + (suc (inner y) + d))) depth (Means e p x s) (omega arith) (means k x c.0 (suc (inner y) + d) s))
        (λ s. deepen (z + inner y) s (suc (z + inner y + d)) depth (Means e p y s) (omega arith)
        (means z y (subst (λ n. Here (k + n) (lines z y)) l c.1) d s)) t)

here : (pre fs : List Formula) → Each (λ i f. get_or (pre ++ fs) i Always ≡ f) (length pre) fs
here pre [] = tt
here pre (f ∷ fs) = (
  get_or-append_seam pre f fs Always,
  subst (λ l. Each (λ i φ. get_or l i Always ≡ φ) (suc (length pre)) fs) (append_assoc pre (f ∷ []) fs)
      (subst (λ n. Each (λ i φ. get_or (pre ++ f ∷ [] ++ fs) i Always ≡ φ) n fs) (length-append pre (f ∷ []) ∙ omega arith) (here (pre ++ f ∷ []) fs)),
)

-- the lines of a policy that agree with the term's stand from 0 on
stand : (line : ℕ → Formula) (k : ℕ) (fs : List Formula) → ((i : ℕ) → i < length fs → line (k + i) ≡ get_or fs i Always) → Each (λ i f. line i ≡ f) k fs
stand line k [] h = tt
stand line k (f ∷ fs) h = (
  (let e : k ≡ k + 0 = omega arith in ap line e ∙ h 0 (omega arith)),
  stand line (suc k) fs (λ i l. let e : suc k + i ≡ k + suc i = omega arith in ap line e ∙ h (suc i) (omega arith)),
)

-- what was typed is what is watched, by any lines that begin with the term's
pub means_of : (e : ℕ → Bool) (p : ℕ → ℕ → Bool) (line : ℕ → Formula) (x : Term) → ((i : ℕ) → i < terms x → line i ≡ line_of x i) → (t : ℕ) → Holds e p line (inner x) t ↔ Means e p x t
means_of e p line x h t =
    deepen e p line (inner x) t (suc (inner x + 0)) (suc (inner x)) (Means e p x t) (omega arith)
    (subst (λ n. HoldsDeep e p line (suc (n + 0)) n t ↔ Means e p x t) (zero-add (inner x))
    (means e p line 0 x (stand line 0 (lines 0 x) (λ i l. ap line (zero-add i) ∙ h i (omega (arith, line_count 0 x)))) 0 t))

-- what was typed is what is watched: the last line, the one rule
pub watched : (e : ℕ → Bool) (p : ℕ → ℕ → Bool) (x : Term) (t : ℕ) → Holds e p (line_of x) (inner x) t ↔ Means e p x t
watched e p x t =
    deepen e p (line_of x) (inner x) t (suc (inner x + 0)) (suc (inner x)) (Means e p x t) (omega arith)
    (subst (λ n. HoldsDeep e p (line_of x) (suc (n + 0)) n t ↔ Means e p x t) (zero-add (inner x)) (means e p (line_of x) 0 x (here [] (lines 0 x)) 0 t))
