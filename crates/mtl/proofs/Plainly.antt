-- Laws of the definitions in specs/Plainly. Assumes nothing.
use Rattle.std.specs.Prelude.{ℕ, zero, suc, ◌+◌, ◌≤◌, ◌<◌, ◌≡◌, refl, Bool, true, false}
use Rattle.std.proofs.Common.{arith, sym, ap₂, ◌∙◌, true≢false}
use Rattle.std.proofs.Math.Path.{ap, fun_ext}
use Rattle.kleene.specs.Truth.{Truth, unknown, true3, false3, not3, or3, and3, implies3}
use Rattle.kleene.specs.Rank.{rank_of}
use Rattle.kleene.proofs.Rank.{rank_le, rank_not, rank_or, rank_and, reaches_true, reaches_unknown, reaches_none}
use Rattle.kleene.proofs.Tests.{implies_and}
use Rattle.mtl.specs.declared.Formula.{Formula}
use Rattle.mtl.specs.declared.Formula.TheVariants.{True, Proposition, Not, Or, Since, Until, And, Implies, Once, Historically, Eventually, Always}
use Rattle.mtl.specs.Algebra.{three, any, all}
use Rattle.mtl.specs.Abbreviations.{abbreviation}
use Rattle.mtl.specs.Syntax.{Earlier}
use Rattle.mtl.specs.Reading.{World, seen, since_start, since_count, after_start, after_count, until_start, until_count, before_start, before_count, point, meets, keeps, since, until, meaning, reading}
use Rattle.mtl.proofs.Unroll.{unroll, reading_past}
use Rattle.mtl.specs.Plainly.{Dark, direct}

-- ---- three values by their places in the order of truth

same_place : (x y : Truth) → rank_of x ≡ rank_of y → x ≡ y
unfolding rank_of
same_place x unknown e = reaches_unknown x (omega arith) (omega arith)
same_place x true3 e = reaches_true x (omega arith)
same_place x false3 e = reaches_none x (omega arith)

-- the lower of two values is what they meet in
stays : (x y : Truth) → rank_of x ≤ rank_of y → and3 x y ≡ x
stays x y h = same_place (and3 x y) x (omega (arith, rank_and x y))

not_or : (x y : Truth) → not3 (or3 x y) ≡ and3 (not3 x) (not3 y)
not_or x y = same_place _ _ (omega (arith, rank_not (or3 x y), rank_or x y, rank_and (not3 x) (not3 y), rank_not x, rank_not y, rank_le x, rank_le y))

-- what is no higher than each is no higher than all
below_all : (x : Truth) (f : ℕ → Truth) (lo n : ℕ) → ((s : ℕ) → lo ≤ s → s < lo + n → rank_of x ≤ rank_of (f s)) → rank_of x ≤ rank_of (all three lo n f)
unfolding rank_of
below_all x f lo zero h = rank_le x
below_all x f lo (suc n) h =
    omega (arith, rank_and (all three lo n f) (f (lo + n)), below_all x f lo n (λ s a b. h s a (omega arith)), h (lo + n) (omega arith) (omega arith))

-- ---- the lines of an abbreviation

module _ (w : World Truth) (d : Dark w) where
  -- a minute is in the window or past it
  either_way : (t : ℕ) {P : Type 0} → (w.window t ≡ true → P) → (w.window t ≡ false → P) → P
  either_way t {P} inside past = go (w.window t) refl
    where
      go : (b : Bool) → w.window t ≡ b → P
      go true e = inside e
      go false e = past e

  shown : (t : ℕ) (x : Truth) → w.window t ≡ true → seen w t x ≡ x
  shown t x e = rw (e, seen) refl

  hidden : (t : ℕ) (x : Truth) → w.window t ≡ false → seen w t x ≡ unknown
  hidden t x e = rw (e, seen) d.unknown_outside

  -- a line's values: unknown past the window
  abbrev Line : (ℕ → Truth) → Type 0
  Line α = (t : ℕ) → w.window t ≡ false → α t ≡ unknown

  -- the lines "true" and "not α"
  abbrev true_line : ℕ → Truth
  true_line t = seen w t true3

  abbrev not_line : (ℕ → Truth) → ℕ → Truth
  not_line α t = seen w t (not3 (α t))

  module _ (α : ℕ → Truth) (l : Line α) where
    -- a line "not α" is not α past the window too: both are unknown there
    not_there : (t : ℕ) → not_line α t ≡ not3 (α t)
    not_there t = either_way t (shown t (not3 (α t))) (λ e. hidden t (not3 (α t)) e ∙ sym (ap not3 (l t e)))

    -- e(j) and α(j) is no higher than (not e(s) or "true"), where the window has s if it has j
    no_higher : (j s : ℕ) → (w.window j ≡ true → w.window s ≡ true) → rank_of (meets three w α j) ≤ rank_of (implies3 (point three w s) (true_line s))
    unfolding rank_of
    no_higher j s h =
        let r = rank_or (not3 (point three w s)) (true_line s) in
        either_way s (λ f. omega (arith, r, ap rank_of (shown s true3 f), rank_le (meets three w α j)))
        (λ f. omega (arith, r, ap rank_of (hidden s true3 f), rank_and (point three w j) (α j), ap rank_of (either_way j (λ e. absurd (true≢false (sym (h e) ∙ f))) (l j))))

    -- so "true" breaks nothing off
    unbroken : (lo n : ℕ) (first many : ℕ → ℕ) → ((j s : ℕ) → first j ≤ s → s < first j + many j → w.window j ≡ true → w.window s ≡ true)
        → any three lo n (λ j. and3 (meets three w α j) (keeps three w true_line (first j) (many j))) ≡ any three lo n (meets three w α)
    unbroken lo n first many h = ap (any three lo n) (fun_ext (λ j. stays _ _ (below_all _ _ (first j) (many j) (λ s a b. no_higher j s (h j s a b)))))

    -- "true since α" and "true until α" look for one time point
    once : (lower upper t : ℕ) → w.window t ≡ true
        → since three w true_line α lower upper t ≡ any three (since_start upper t) (since_count lower upper t) (meets three w α)
    unfolding since
    once lower upper t e = unbroken (since_start upper t) (since_count lower upper t) after_start (λ j. after_count j t) (λ j s a b f. d.closed s t (omega arith) e)

    eventually : (lower upper t : ℕ) → until three w true_line α lower upper t ≡ any three (until_start lower t) (until_count lower upper) (meets three w α)
    unfolding until
    eventually lower upper t = unbroken (until_start lower t) (until_count lower upper) (λ j. before_start t) (λ j. before_count j t) (λ j s a b. d.closed s j (omega arith))

    -- where no time point has "not α", all have α
    none_without : (lo n : ℕ) → not3 (any three lo n (meets three w (not_line α))) ≡ keeps three w α lo n
    none_without lo zero = refl
    none_without lo (suc n) =
        let j = lo + n in
        not_or (any three lo n (meets three w (not_line α))) (meets three w (not_line α) j)
        ∙ ap₂ and3 (none_without lo n) (ap (λ (x : Truth). not3 (and3 (point three w j) x)) (not_there j) ∙ implies_and (point three w j) (α j))

  -- each kind, at a minute of the window
  module _ (v : ℕ → ℕ → Truth) (l : (i : ℕ) → Line (v i)) (t : ℕ) (e : w.window t ≡ true) where
    kinds : (φ : Formula) → meaning three w v (abbreviation φ) t ≡ direct w v φ t
    kinds True = shown t _ e
    kinds (Proposition p) = shown t _ e
    kinds (Not i) = shown t _ e
    kinds (Or i j) = shown t _ e
    kinds (Since i j lower upper) = shown t _ e
    kinds (Until i j lower upper) = shown t _ e
    kinds (And i j) = shown t _ e ∙ ap not3 (shown t _ e ∙ ap₂ or3 (shown t _ e) (shown t _ e))
    kinds (Implies i j) = shown t _ e ∙ ap (λ (x : Truth). or3 x (v j t)) (shown t _ e)
    kinds (Once i lower upper) = shown t _ e ∙ once (v i) (l i) lower upper t e
    kinds (Historically i lower upper) =
        shown t _ e ∙ ap not3 (shown t _ e ∙ once (not_line (v i)) (λ s. hidden s _) lower upper t e)
        ∙ none_without (v i) (l i) (since_start upper t) (since_count lower upper t)
    kinds (Eventually i lower upper) = shown t _ e ∙ eventually (v i) (l i) lower upper t
    kinds (Always i lower upper) =
        shown t _ e ∙ ap not3 (shown t _ e ∙ eventually (not_line (v i)) (λ s. hidden s _) lower upper t)
        ∙ none_without (v i) (l i) (until_start lower t) (until_count lower upper)

-- every line's row, in plain words
pub plainly : (w : World Truth) → Dark w → (line : ℕ → Formula) → Earlier line → (k t : ℕ)
    → reading three w line k t ≡ seen w t (direct w (reading three w line) (line k) t)
plainly w d line f k t =
    either_way w d t
    (λ e. unroll three w line f k t ∙ kinds w d (reading three w line) (λ i s g. reading_past three w line i s g ∙ d.unknown_outside) t e (line k) ∙ sym (shown w d t _ e))
    (λ e. reading_past three w line k t e ∙ d.unknown_outside ∙ sym (hidden w d t _ e))
