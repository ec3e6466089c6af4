-- A walk over a run's known places: what is shown of neighbours holds of any two.
-- Assumes nothing.
use mathlib.Core.Path.{◌≡◌, sym, subst}
use mathlib.Core.Logic.{⊎_elim}
use Prim.Native.Nat.{ℕ, suc, ◌+◌, ◌-◌, ◌≤◌, ◌<◌}
use native.Mathlib.Nat.{eq-or-lt_of_le}
use native.Mathlib.Omega.{arith}
use Rattle.rows.proofs.Laws.{lt_or_le}
use Rattle.knowledge.specs.Knowledge.{none, Follow, Steady}
use Rattle.knowledge.specs.Run.{Next}
use Rattle.knowledge.proofs.Runs.{follow_up}

-- the run is steady up to p, which is known
pub record Walked (f : ℕ → ℕ) (p : ℕ) : Type 0 where
  pub steady : Steady f (suc p)
  pub known : f p < none

-- between p and its next known place no place is known
pub not_between : (f : ℕ → ℕ) (n p q b : ℕ) → Next f n (p + 1) q → f b < none → b < q → b ≤ p
not_between f n p q b N k l =
    ⊎_elim (λ (w : p < b). absurd (let h = N.between b (omega arith) l in let z : ⊥ = omega arith in z)) (λ (w : b ≤ p). w) (lt_or_le p b)

pub follow_more : (v w x c d e : ℕ) → c + d ≡ e → Follow v w c → Follow w x d → Follow v x e
follow_more v w x c d e s f g = omega arith

module _ (f : ℕ → ℕ) (n p q : ℕ) (W : Walked f p) (N : Next f n (p + 1) q) where
  pub step : q < n → Follow (f p) (f q) (q - p) → Walked f q
  step l g = record { steady = record { first = W.steady.first; pairs = pairs }; known = N.there l }
    where
      pairs : (b : ℕ) → b < suc q → (a : ℕ) → a < b → f a < none → f b < none → Follow (f a) (f b) (b - a)
      pairs b le a lt ka kb =
          ⊎_elim
          (λ (e : b ≡ q).
          let near : a ≤ p = not_between f n p q a N ka (omega arith) in
          let past = N.past in
          subst (λ (j : ℕ). Follow (f a) (f j) (j - a)) (sym e)
          (follow_more (f a) (f p) (f q) (p - a) (q - p) (q - a) (omega arith) (follow_up f (suc p) W.steady a p ka W.known near (omega arith)) g))
          (λ (w : b < q). W.steady.pairs b (let h = not_between f n p q b N kb w in omega arith) a lt ka kb)
          (eq-or-lt_of_le (let h : b ≤ q = omega arith in h))

  pub finish : q ≡ n → Steady f n
  finish e = record {
    first = W.steady.first;
    pairs = λ b l a lt ka kb. W.steady.pairs b (let h = not_between f n p q b N kb (omega arith) in omega arith) a lt ka kb;
  }

  pub fail : q < n → (Follow (f p) (f q) (q - p) → ⊥) → Steady f n → ⊥
  fail l h s = let past = N.past in h (s.pairs q l p (omega arith) W.known (N.there l))

-- at the last place, or at the end, the walk is over
pub ended : (f : ℕ → ℕ) (n p : ℕ) → p ≤ n → n ≤ suc p → (p < n → Walked f p) → (n ≤ p → Steady f n) → Steady f n
ended f n p l u on over =
    ⊎_elim (λ (h : p < n). subst (Steady f) (let e : suc p ≡ n = omega arith in e) (on h).steady) over (lt_or_le p n)
