-- A number stored at a place that was not known: the run is steady exactly when the number follows its nearest known neighbours.
-- Assumes nothing.
use mathlib.Core.Path.{◌≡◌, refl, sym, ap, subst, ◌∙◌}
use mathlib.Core.Logic.{⊎_elim}
use Prim.Native.Nat.{ℕ, ◌+◌, ◌-◌, ◌≤◌, ◌<◌}
use native.Mathlib.Decide.{ℕ_discrete}
use native.Mathlib.Omega.{arith}
use borrow.Author.Tests.{eq-eqb, ne_eqb}
use Rattle.rows.proofs.Laws.{lt_or_le}
use Rattle.knowledge.specs.Knowledge.{none, Follow, Steady}
use Rattle.knowledge.specs.Run.{Next, Previous, put, May}
use Rattle.knowledge.proofs.Runs.{follow_up, steady_less}
use Rattle.counter_runs.proofs.Walk.{follow_more}

pub at_place : (f : ℕ → ℕ) (p v : ℕ) → put f p v p ≡ v
unfolding put
at_place f p v = rw (eq-eqb p p refl)

pub other : (f : ℕ → ℕ) (p v i : ℕ) → (i ≡ p → ⊥) → put f p v i ≡ f i
unfolding put
other f p v i h = rw (ne_eqb i p h)

-- a known number stored again
pub again : (f : ℕ → ℕ) (n p v : ℕ) → f p ≡ v → Steady f n → Steady (put f p v) n
again f n p v e S = steady_less (put f p v) f n (as_before 0 ∙ S.first) (λ i l k. as_before i) S
  where
    as_before : (i : ℕ) → put f p v i ≡ f i
    as_before i = go (ℕ_discrete i p)
      where
        go : Dec (i ≡ p) → put f p v i ≡ f i
        go (yes d) = ap (put f p v) d ∙ at_place f p v ∙ sym e ∙ ap f (sym d)
        go (no d) = other f p v i d

module _ (f : ℕ → ℕ) (n p v : ℕ) (l : p < n) (small : v < none) where
  abbrev new : ℕ → ℕ
  new = put f p v

  placed : new p < none
  placed = rw (at_place f p v) small

  pub needs_below : (r : ℕ) → Previous f p r → Steady new n → Follow (f r) v (p - r)
  needs_below r P T =
      let w = P.before in
      let o = other f p v r (λ z. omega arith) in
      let h = follow_up new n T r p (rw o P.known) placed (omega arith) l in
      rw (at_place f p v, o) at h

  module _ (S : Steady f n) (hidden : none ≤ f p) (r q : ℕ) (P : Previous f p r) (N : Next f n (p + 1) q) where
    -- a known place before it is at r or before, and one after it at q or after
    early : (a : ℕ) → f a < none → a < p → a ≤ r
    early a k w = ⊎_elim (λ (g : r < a). let z = P.between a g w in absurd (let z : ⊥ = omega arith in z)) (λ (g : a ≤ r). g) (lt_or_le r a)

    late : (b : ℕ) → f b < none → p < b → q ≤ b
    late b k w = ⊎_elim (λ (g : b < q). let z = N.between b (omega arith) g in absurd (let z : ⊥ = omega arith in z)) (λ (g : q ≤ b). g) (lt_or_le b q)

    steady_new : Follow (f r) v (p - r) → (q < n → Follow v (f q) (q - p)) → Steady new n
    steady_new g h = record {
      first = other f p v 0 (λ z. let e : none ≤ f 0 = subst (λ (j : ℕ). none ≤ f j) (sym z) hidden in let s = S.first in omega arith) ∙ S.first;
      pairs = λ b w a lt ka kb. go a b lt w ka kb (ℕ_discrete a p) (ℕ_discrete b p);
    }
      where
        go : (a b : ℕ) → a < b → b < n → new a < none → new b < none → Dec (a ≡ p) → Dec (b ≡ p) → Follow (new a) (new b) (b - a)
        go a b lt w ka kb (yes x) (yes y) = absurd (let z : ⊥ = omega arith in z)
        go a b lt w ka kb (yes x) (no y) =
            let k = rw (other f p v b y) at kb in
            let le = late b k (omega arith) in
            let past = N.past in
            let in_run : q < n = omega arith in
            let m = follow_more v (f q) (f b) (q - p) (b - q) (b - p) (omega arith) (h in_run) (follow_up f n S q b (N.there in_run) k le w) in
            subst (λ (j : ℕ). Follow (new j) (new b) (b - j)) (sym x) (rw (at_place f p v, other f p v b y) m)
        go a b lt w ka kb (no x) (yes y) =
            let k = rw (other f p v a x) at ka in
            let le = early a k (omega arith) in
            let near = P.before in
            let m = follow_more (f a) (f r) v (r - a) (p - r) (p - a) (omega arith) (follow_up f n S a r k P.known le (omega arith)) g in
            subst (λ (j : ℕ). Follow (new a) (new j) (j - a)) (sym y) (rw (at_place f p v, other f p v a x) m)
        go a b lt w ka kb (no x) (no y) =
            rw (other f p v a x, other f p v b y) (follow_up f n S a b (rw (other f p v a x) at ka) (rw (other f p v b y) at kb) (omega arith) w)

    pub may_new : Follow (f r) v (p - r) → (q < n → Follow v (f q) (q - p)) → May f n p v
    may_new g h = record { small = small; nothing_else = λ k. absurd (let z : ⊥ = omega arith in z); stored = steady_new g h }

    pub needs_above : Steady new n → q < n → Follow v (f q) (q - p)
    needs_above T w =
        let past = N.past in
        let o = other f p v q (λ z. omega arith) in
        let h = follow_up new n T p q placed (rw o (N.there w)) (omega arith) w in
        rw (at_place f p v, o) at h
