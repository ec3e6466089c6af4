-- Laws of the definitions in specs/Nearest. Assumes nothing.
use Prim.Native.Nat.{ℕ, zero, suc, ◌+◌, ◌-◌, ◌≤◌, ◌<◌, min}
use native.Mathlib.Omega.{arith}
use Rattle.std.proofs.Math.Decide.{dec_le}
use Rattle.std.specs.Prelude.{◌≡◌, ◌⊎◌, ◌↔◌, Bool, false, cond}
use Rattle.std.proofs.Common.{inl, inr, ⊎_elim}
use Rattle.std.proofs.Math.Bool.{true}
use Rattle.rows.proofs.Laws.{lt_or_le}
use Rattle.decide.specs.Decide.{Decides}
use Rattle.decide.proofs.Laws.{is_false, less, most, both, implies, each}
use Rattle.knowledge.specs.declared.Search.{Search}
use Rattle.knowledge.specs.Trace.{tally}
use Rattle.knowledge.specs.Knowledge.{none, Steady, Across, Equal, Apart}
use Rattle.knowledge.proofs.Runs.{follow_up}
use Rattle.knowledge.specs.Outwards.{NearestBefore, NearestAfter, NoneBefore, NoneAfter, in_reach, places_read, NeverFalls, NeverJumps, Outwards}
use Rattle.knowledge.specs.Nearest.{Narrows, InReach}

-- those of a steady run neither fall nor jump
pub steady_never_falls : (f : ℕ → ℕ) (m : ℕ) → Steady f (suc m) → NeverFalls f m
steady_never_falls f m S a b l w k h = (follow_up f (suc m) S a b k h l (omega arith)).up

pub steady_never_jumps : (f : ℕ → ℕ) (m : ℕ) → Steady f (suc m) → NeverJumps f m
steady_never_jumps f m S a b l w k h = (follow_up f (suc m) S a b k h l (omega arith)).slow

pub level_narrows : (f : ℕ → ℕ) (m : ℕ) → NeverFalls f m → Narrows Equal f m
level_narrows f m S i a b j l u w h ki ka kb kj e =
    omega (arith, S i a l (omega arith) ki ka, S a b (omega arith) (omega arith) ka kb, S b j w h kb kj)

pub full_narrows : (f : ℕ → ℕ) (m : ℕ) → NeverJumps f m → Narrows Apart f m
full_narrows f m S i a b j l u w h ki ka kb kj e =
    omega (arith, S i a l (omega arith) ki ka, S a b (omega arith) (omega arith) ka kb, S b j w h kb kj)

reach_decides : (f : ℕ → ℕ) (t p : ℕ) → Decides (in_reach f t p) (InReach f t p)
unfolding in_reach
reach_decides f t p =
    both (each (suc t) _ _ (λ i. implies (less p i) (most none (f i)))) (each p _ _ (λ i. implies (less t i) (most none (f i))))

-- how many of the first n numbers are from a to d, both counted
range : (e : ℕ → Bool) (a d : ℕ) → ((p : ℕ) → a ≤ p → p ≤ d → e p ≡ true) → ((p : ℕ) → p < a → e p ≡ false) → (n : ℕ)
    → ((p : ℕ) → p < n → d < p → e p ≡ false) → tally e n ≡ min n (suc d) - a
range e a d in_it before zero after = omega arith
range e a d in_it before (suc n) after = go (range e a d in_it before n (λ p l. after p (omega arith))) (dec_le a n) (dec_le n d)
  where
    go : tally e n ≡ min n (suc d) - a → Dec (a ≤ n) → Dec (n ≤ d) → cond (e n) 1 0 + tally e n ≡ min (suc n) (suc d) - a
    go h (yes l) (yes k) = rw (in_it n l k) (omega arith)
    go h (yes l) (no k) = rw (after n (omega arith) (omega arith)) (omega arith)
    go h (no l) k = rw (before n (omega arith)) (omega arith)

module _ (f : ℕ → ℕ) (m t : ℕ) where
  -- the places from a to d are read, where a is known or the run's start, d is known or the run's end, and none between is known
  pub read_from_to : (a d : ℕ) → a ≤ t → t ≤ d → d ≤ m → ((i : ℕ) → a < i → i ≤ t → none ≤ f i) → ((i : ℕ) → t < i → i < d → none ≤ f i)
      → (0 < a → f a < none) → (d < m → (t < d) × (f d < none)) → places_read f m t ≡ suc (d - a)
  unfolding places_read
  read_from_to a d early late within front rear start stop =
      let h : tally (in_reach f t) (suc m) ≡ min (suc m) (suc d) - a = range (in_reach f t) a d in_it before (suc m) after in omega arith
    where
      in_it : (p : ℕ) → a ≤ p → p ≤ d → in_reach f t p ≡ true
      in_it p l k = (reach_decides f t p).whole (λ i u w. front i (omega arith) (omega arith), λ i u w. rear i w (omega arith))

      before : (p : ℕ) → p < a → in_reach f t p ≡ false
      before p l = is_false (reach_decides f t p) (λ (R : InReach f t p).
          let x = start (omega arith) in let y = R.0 a (omega arith) l in omega arith)

      after : (p : ℕ) → p < suc m → d < p → in_reach f t p ≡ false
      after p u l = is_false (reach_decides f t p) (λ (R : InReach f t p).
          let x = stop (omega arith) in let y = R.1 d l x.0 in omega (arith, x.1))

  module _ (R : ℕ → ℕ → ℕ → Type 0) where
    -- with none on one side there are no two numbers
    pub none_before : NoneBefore f t → Across R f m t → ⊥
    none_before N Q = let x = N Q.early Q.early_before in let y = Q.early_known in omega arith

    pub none_after : NoneAfter f m t → Across R f m t → ⊥
    none_after N Q = let x = N Q.late Q.late_after Q.late_in in let y = Q.late_known in omega arith

    -- the two nearest decide
    pub by_nearest : Narrows R f m → (a b : ℕ) → NearestBefore f t a → NearestAfter f m t b → Across R f m t ↔ R (f a) (f b) (b - a)
    by_nearest S a b A B = (there, back)
      where
        there : Across R f m t → R (f a) (f b) (b - a)
        there Q =
            let x : Q.early ≤ a =
            ⊎_elim (λ (w : a < Q.early). absurd (let y = A.nearest Q.early w Q.early_before in let k = Q.early_known in let z : ⊥ = omega arith in z))
            (λ (w : Q.early ≤ a). w) (lt_or_le a Q.early) in
            let y : b ≤ Q.late =
            ⊎_elim (λ (w : Q.late < b). absurd (let y = B.nearest Q.late Q.late_after w in let k = Q.late_known in let z : ⊥ = omega arith in z))
            (λ (w : b ≤ Q.late). w) (lt_or_le Q.late b) in
            S Q.early a b Q.late x (omega (arith, A.before, B.after)) y Q.late_in Q.early_known A.known B.known Q.late_known Q.related

        back : R (f a) (f b) (b - a) → Across R f m t
        back e = record {
          early = a;
          late = b;
          early_before = A.before;
          late_after = B.after;
          late_in = B.within;
          early_known = A.known;
          late_known = B.known;
          related = e;
        }

-- the two places that a search gives
pub in_order : (f : ℕ → ℕ) (m t : ℕ) (r : Search) → t ≤ m → Outwards f m t r → (r.before < r.after) × (r.after ≤ suc m)
in_order f m t r l O = go O.before O.after
  where
    go : NearestBefore f t r.before ⊎ (NoneBefore f t × (r.before ≡ 0)) → NearestAfter f m t r.after ⊎ (NoneAfter f m t × (r.after ≡ suc m))
        → (r.before < r.after) × (r.after ≤ suc m)
    go (inl A) (inl B) = omega (arith, A.before, B.after, B.within)
    go (inl A) (inr B) = omega (arith, A.before, B.1)
    go (inr A) (inl B) = omega (arith, A.1, B.after, B.within)
    go (inr A) (inr B) = omega (arith, A.1, B.1)
