-- Laws of the definitions in specs/Decided. Assumes nothing.
use Rattle.std.specs.Prelude.{ℕ, zero, suc, ◌+◌, ◌≤◌, ◌<◌, max, ◌≡◌, refl, Bool, true, false}
use native.Mathlib.Omega.{arith}
use Rattle.std.proofs.Common.{sym, ap, subst, ◌∙◌}
use Rattle.kleene.specs.Truth.{Truth, unknown, true3, false3, not3, or3}
use Rattle.mtl.specs.declared.Formula.{Formula}
use Rattle.mtl.specs.declared.Formula.TheVariants.{True, Proposition, Not, Or, Since, Until, And, Implies, Once, Historically, Eventually, Always}
use Rattle.mtl.specs.Algebra.{three, fold, meet, implies}
use Rattle.mtl.specs.Abbreviations.{Binary, either, back, ahead, Expression, operand, true', proposition', not', binary, abbreviation, Leaves}
use Rattle.mtl.proofs.Abbreviations.{leaves_map}
use Rattle.mtl.specs.Syntax.{Earlier}
use Rattle.mtl.specs.Reading.{World, seen, since_start, since_count, after_start, after_count, until_start, until_count, before_start, before_count, point, meets, keeps, since, until, combined, meaning, reading}
use Rattle.mtl.proofs.Unroll.{unroll}
use Rattle.reach.specs.Reach.{reach}
use Rattle.reach.specs.Laws.{ahead_of, expression_reach}
use Rattle.reach.proofs.Laws.{spelled, unroll_reach}
use Rattle.reach.specs.Decided.{Atoms, CompleteWorld, Decided, it_is, it_is_not, Within}

not_decided : {x : Truth} → Decided x → Decided (not3 x)
not_decided it_is = it_is_not
not_decided it_is_not = it_is

or_decided : {x y : Truth} → Decided x → Decided y → Decided (or3 x y)
or_decided it_is it_is = it_is
or_decided it_is it_is_not = it_is
or_decided it_is_not it_is = it_is
or_decided it_is_not it_is_not = it_is_not

or_true : (y : Truth) → Decided (or3 true3 y)
or_true unknown = it_is
or_true true3 = it_is
or_true false3 = it_is

-- x and y, and not x or y: where x is false, y doesn't matter
meet_decided : {x : Truth} (y : Truth) → Decided x → (x ≡ true3 → Decided y) → Decided (meet three x y)
meet_decided y it_is h = not_decided (or_decided it_is_not (not_decided (h refl)))
meet_decided y it_is_not h = not_decided (or_true (not3 y))

implies_decided : {x : Truth} (y : Truth) → Decided x → (x ≡ true3 → Decided y) → Decided (implies three x y)
implies_decided y it_is h = or_decided it_is_not (h refl)
implies_decided y it_is_not h = or_true y

fold_decided : (op : Truth → Truth → Truth) → ((x y : Truth) → Decided x → Decided y → Decided (op x y)) → {u : Truth} → Decided u
    → (lo n : ℕ) {f : ℕ → Truth} → ((i : ℕ) → lo ≤ i → i < lo + n → Decided (f i)) → Decided (fold op u lo n f)
fold_decided op k z lo zero h = z
fold_decided op k z lo (suc n) h = k _ _ (fold_decided op k z lo n (λ i a b. h i a (omega arith))) (h (lo + n) (omega arith) (omega arith))

-- a line's abbreviation names a proposition only where the line does
atoms_line : (P : ℕ → Type 0) (φ : Formula) → ((p : ℕ) → φ ≡ Proposition p → P p) → Atoms P (abbreviation φ)
atoms_line P True h = tt
atoms_line P (Proposition p) h = h p refl
atoms_line P (Not i) h = tt
atoms_line P (Or i j) h = (tt, tt)
atoms_line P (Since i j lower upper) h = (tt, tt)
atoms_line P (Until i j lower upper) h = (tt, tt)
atoms_line P (And i j) h = (tt, tt)
atoms_line P (Implies i j) h = (tt, tt)
atoms_line P (Once i lower upper) h = (tt, tt)
atoms_line P (Historically i lower upper) h = (tt, tt)
atoms_line P (Eventually i lower upper) h = (tt, tt)
atoms_line P (Always i lower upper) h = (tt, tt)

module _ (w : World Truth) (m : ℕ) (P : ℕ → Type 0) (c : CompleteWorld w m P) where
  shown : (t : ℕ) (x : Truth) → t < m → seen w t x ≡ x
  shown t x h = ap (λ (b : Bool). elim b as (λ _. Truth) [ true ↦ x | false ↦ w.outside ]) (c.seen_all t h)

  shown_decided : (t : ℕ) (x : Truth) → t < m → Decided x → Decided (seen w t x)
  shown_decided t x h d = subst Decided (sym (shown t x h)) d

  point_decided : (t : ℕ) → t < m → Decided (point three w t)
  point_decided t h = shown_decided t (w.time_point t) h (c.points t h)

  -- e(j) and β(j); and for all s of some minutes, (not e(s) or α(s))
  meets_decided : (r : ℕ) (β : ℕ → Truth) → Within w m P c r β → (j : ℕ) → j + r < m → Decided (meets three w β j)
  meets_decided r β h j l = meet_decided (β j) (point_decided j (omega arith)) (h j l)

  keeps_decided : (r : ℕ) (α : ℕ → Truth) → Within w m P c r α → (lo n : ℕ) → ((s : ℕ) → lo ≤ s → s < lo + n → s + r < m) → Decided (keeps three w α lo n)
  keeps_decided r α h lo n l =
      fold_decided (meet three) (λ x y a b. meet_decided y a (λ _. b)) it_is lo n
      (λ s a b. let k : s + r < m = l s a b in implies_decided (α s) (point_decided s (omega arith)) (h s k))

  combined_decided : (k : Binary) (q r : ℕ) (α β : ℕ → Truth) → Within w m P c q α → Within w m P c r β → Within w m P c (max q r + ahead_of k) (combined three w k α β)
  unfolding since until
  combined_decided either q r α β f g t l e = or_decided (f t (omega arith) e) (g t (omega arith) e)
  combined_decided (back lower upper) q r α β f g t l e =
      fold_decided or3 (λ x y a b. or_decided a b) it_is_not (since_start upper t) (since_count lower upper t)
      (λ j a b.
      let here : j ≤ t = omega arith in
      meet_decided _ (meets_decided r β g j (omega arith)) (λ _. keeps_decided q α f (after_start j) (after_count j t) (λ s x y. omega arith)))
  combined_decided (ahead lower upper) q r α β f g t l e =
      fold_decided or3 (λ x y a b. or_decided a b) it_is_not (until_start lower t) (until_count lower upper)
      (λ j a b.
      let there : j ≤ t + upper = omega arith in
      meet_decided _ (meets_decided r β g j (omega arith)) (λ _. keeps_decided q α f (before_start t) (before_count j t) (λ s x y. omega arith)))

  meaning_decided : (r : ℕ → ℕ) (v : ℕ → ℕ → Truth) (x : Expression) → Atoms P x → Leaves (λ i. Within w m P c (r i) (v i)) x
      → Within w m P c (expression_reach r x) (meaning three w v x)
  meaning_decided r v (operand i) p h t l e = h t l e
  meaning_decided r v true' p h t l e = shown_decided t true3 (omega arith) it_is
  meaning_decided r v (proposition' i) p h t l e =
      shown_decided t (w.proposition i t) (omega arith) (c.propositions i t p (omega arith) (sym (shown t (w.time_point t) (omega arith)) ∙ e))
  meaning_decided r v (not' x) p h t l e = shown_decided t _ (omega arith) (not_decided (meaning_decided r v x p h t l e))
  meaning_decided r v (binary k x y) p h t l e =
      shown_decided t _ (omega arith)
      (combined_decided k (expression_reach r x) (expression_reach r y) (meaning three w v x) (meaning three w v y)
      (meaning_decided r v x p.0 h.0) (meaning_decided r v y p.1 h.1) t l e)

  -- each of the first n lines, which name propositions of P only
  module _ (line : ℕ → Formula) (earlier : Earlier line) (n : ℕ) (names : (l p : ℕ) → l < n → line l ≡ Proposition p → P p) where
    below : (d k : ℕ) → k < d → k < n → Within w m P c (reach line k) (reading three w line k)
    below zero k h u t l e = absurd (omega arith)
    below (suc d) k h u t l e =
        subst Decided (sym (unroll three w line earlier k t))
        (meaning_decided (reach line) (reading three w line) (abbreviation (line k)) (atoms_line P (line k) (λ p q. names k p u q))
        (leaves_map (abbreviation (line k)) (λ j i. below d j (omega arith) (omega arith)) (earlier k)) t
        (rw (unroll_reach line earlier k ∙ spelled (reach line) (line k)) at l) e)

    pub decided_within : (k : ℕ) → k < n → Within w m P c (reach line k) (reading three w line k)
    decided_within k u = below (suc k) k (omega arith) u
