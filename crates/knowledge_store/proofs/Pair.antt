-- An observation's two numbers may be stored exactly when each of them may.
-- Assumes nothing.
use mathlib.Core.Path.{◌≡◌, sym, ap, subst, ◌∙◌}
use Prim.Native.Nat.{ℕ, suc, ◌-◌, ◌<◌}
use native.Mathlib.Decide.{ℕ_discrete}
use native.Mathlib.Omega.{arith}
use Rattle.knowledge.specs.Knowledge.{none, Follow, Steady}
use Rattle.knowledge.specs.Run.{put}
use Rattle.knowledge.proofs.Runs.{follow_up, steady_less}
use Rattle.counter_runs.proofs.Putting.{at_place, other}

module _ (f : ℕ → ℕ) (n t v w : ℕ) (apart : w ≡ suc v) where
  abbrev one : ℕ → ℕ
  one = put f t v

  abbrev next : ℕ → ℕ
  next = put f (suc t) w

  abbrev two : ℕ → ℕ
  two = put next t v

  -- both are one but at t + 1, and next but at t
  as_one : (i : ℕ) → (i ≡ suc t → ⊥) → two i ≡ one i
  as_one i h = go (ℕ_discrete i t)
    where
      go : Dec (i ≡ t) → two i ≡ one i
      go (yes d) = ap two d ∙ at_place next t v ∙ sym (at_place f t v) ∙ ap one (sym d)
      go (no d) = other next t v i d ∙ other f (suc t) w i h ∙ sym (other f t v i d)

  as_next : (i : ℕ) → (i ≡ t → ⊥) → two i ≡ next i
  as_next i h = other next t v i h

  at_next : two (suc t) ≡ w
  at_next = as_next (suc t) (λ e. omega arith) ∙ at_place f (suc t) w

  -- from each to both
  pub together : Steady one n → Steady next n → Steady two n
  together S T = record {
    first = as_one 0 (λ e. omega arith) ∙ S.first;
    pairs = λ b u a lt ka kb. go a b lt u ka kb (ℕ_discrete a (suc t)) (ℕ_discrete b (suc t)) (ℕ_discrete a t);
  }
    where
      -- neither place is t
      far : (a b : ℕ) → a < b → b < n → (a ≡ t → ⊥) → (b ≡ t → ⊥) → two a < none → two b < none → Follow (two a) (two b) (b - a)
      far a b lt u p q ka kb =
          let x = as_next a p in
          let y = as_next b q in
          rw (x, y) (follow_up next n T a b (rw x at ka) (rw y at kb) (omega arith) u)

      go : (a b : ℕ) → a < b → b < n → two a < none → two b < none → Dec (a ≡ suc t) → Dec (b ≡ suc t) → Dec (a ≡ t) → Follow (two a) (two b) (b - a)
      go a b lt u ka kb (yes x) y z = far a b lt u (λ e. omega arith) (λ e. omega arith) ka kb
      go a b lt u ka kb (no x) (no y) z =
          let p = as_one a x in
          let q = as_one b y in
          rw (p, q) (follow_up one n S a b (rw p at ka) (rw q at kb) (omega arith) u)
      go a b lt u ka kb (no x) (yes y) (no z) = far a b lt u z (λ e. omega arith) ka kb
      go a b lt u ka kb (no x) (yes y) (yes z) =
          let h : Follow (two t) (two (suc t)) (suc t - t) = rw (at_next, at_place next t v) (record { up = omega arith; slow = omega arith }) in
          subst (λ (j : ℕ). Follow (two j) (two b) (b - j)) (sym z) (subst (λ (j : ℕ). Follow (two t) (two j) (j - t)) (sym y) h)

  -- from both to each
  pub to_one : (f (suc t) < none → f (suc t) ≡ w) → Steady two n → Steady one n
  to_one g S = steady_less one two n (sym (as_one 0 (λ e. omega arith)) ∙ S.first) (λ i u k. go i k (ℕ_discrete i (suc t))) S
    where
      go : (i : ℕ) → one i < none → Dec (i ≡ suc t) → one i ≡ two i
      go i k (no d) = sym (as_one i d)
      go i k (yes d) =
          let o : one i ≡ f (suc t) = other f t v i (λ e. omega arith) ∙ ap f d in
          o ∙ g (rw o at k) ∙ sym at_next ∙ ap two (sym d)

  pub to_next : f 0 ≡ 0 → (f t < none → f t ≡ v) → Steady two n → Steady next n
  to_next z g S = steady_less next two n (other f (suc t) w 0 (λ e. omega arith) ∙ z) (λ i u k. go i k (ℕ_discrete i t)) S
    where
      go : (i : ℕ) → next i < none → Dec (i ≡ t) → next i ≡ two i
      go i k (no d) = sym (as_next i d)
      go i k (yes d) =
          let o : next i ≡ f t = other f (suc t) w i (λ e. omega arith) ∙ ap f d in
          o ∙ g (rw o at k) ∙ sym (at_place next t v) ∙ ap two (sym d)
