-- Laws of the definitions in specs/Runs. Assumes nothing.
use Rattle.std.specs.Prelude.{ℕ, suc, ◌+◌, ◌-◌, ◌≤◌, ◌<◌, ◌≡◌, Bool}
use Rattle.std.proofs.Common.{arith}
use Rattle.std.proofs.Math.Decide.{dec_lt}
use Rattle.decide.specs.Decide.{Decides}
use Rattle.decide.proofs.Laws.{same, less, most, equal, both, implies, each, some}
use Rattle.policy.specs.declared.Sizes.{Sizes}
use Rattle.knowledge.specs.Knowledge.{Knowledge, none, Follow, Steady, Across, Equal, Apart, Level, Full, follow, steady, across, level, full, free_place, number, Sound}
use Rattle.knowledge.specs.Run.{put, may, May, SteadyRuns}
use Rattle.knowledge.specs.Runs.{Within}

pub follow_decides : (v w d : ℕ) → Decides (follow v w d) (Follow v w d)
unfolding follow
follow_decides v w d = same (λ h. record { up = h.0; slow = h.1 }) (λ h. (h.up, h.slow)) (both (most v w) (most w (v + d)))

pub steady_decides : (f : ℕ → ℕ) (n : ℕ) → Decides (steady f n) (Steady f n)
unfolding steady
steady_decides f n =
    same (λ h. record { first = h.0; pairs = h.1 }) (λ h. (h.first, h.pairs))
    (both (equal (f 0) 0)
    (each n _ _ (λ b. each b _ _ (λ a. implies (less (f a) none) (implies (less (f b) none) (follow_decides (f a) (f b) (b - a)))))))

pub across_decides : (r : ℕ → ℕ → ℕ → Bool) (R : ℕ → ℕ → ℕ → Type 0) → ((v w d : ℕ) → Decides (r v w d) (R v w d))
    → (f : ℕ → ℕ) (m t : ℕ) → Decides (across r f m t) (Across R f m t)
across_decides r R e f m t =
    same
    (λ h.
    let u = h.under in
    let a = h.there.from in
    let b = h.there.under in
    record {
      early = h.at;
      late = h.there.at;
      early_before = omega arith;
      late_after = omega arith;
      late_in = omega arith;
      early_known = h.there.there.0;
      late_known = h.there.there.1.0;
      related = h.there.there.1.1;
    })
    (λ h.
    let a = h.early_before in
    let b = h.late_after in
    let c = h.late_in in
    record {
      at = h.early;
      from = omega arith;
      under = omega arith;
      there = record { at = h.late; from = omega arith; under = omega arith; there = (h.early_known, (h.late_known, h.related)) };
    })
    (some 0 (suc t) _ _ (λ a. some (suc t) (m - t) _ _ (λ b. both (less (f a) none) (both (less (f b) none) (e (f a) (f b) (b - a))))))

pub level_decides : (f : ℕ → ℕ) (m t : ℕ) → Decides (level f m t) (Level f m t)
unfolding level
level_decides = across_decides _ Equal (λ v w d. equal v w)

pub full_decides : (f : ℕ → ℕ) (m t : ℕ) → Decides (full f m t) (Full f m t)
unfolding full
full_decides = across_decides _ Apart (λ v w d. equal w (v + d))

pub free_place_decides : (f : ℕ → ℕ) (p v : ℕ) → Decides (free_place f p v) ((v < none) × (f p < none → f p ≡ v))
free_place_decides f p v = both (less v none) (implies (less (f p) none) (equal (f p) v))

pub may_decides : (f : ℕ → ℕ) (n p v : ℕ) → Decides (may f n p v) (May f n p v)
unfolding may
may_decides f n p v =
    same (λ h. record { small = h.0.0; nothing_else = h.0.1; stored = h.1 }) (λ h. ((h.small, h.nothing_else), h.stored))
    (both (free_place_decides f p v) (steady_decides (put f p v) n))

-- any two known places of a steady run, in either order, also one twice
pub near : (f : ℕ → ℕ) (n : ℕ) → Steady f n → (a b : ℕ) → a < n → b < n → f a < none → f b < none → f a ≤ f b + (a - b)
near f n S a b i j x y = go (dec_lt a b) (dec_lt b a)
  where
    go : Dec (a < b) → Dec (b < a) → f a ≤ f b + (a - b)
    go (yes d) e = omega (arith, S.pairs b j a d x y)
    go (no d) (yes e) = omega (arith, S.pairs a i b e y x)
    go (no d) (no e) = let same : a ≡ b = omega arith in rw same (omega arith)

pub follow_up : (f : ℕ → ℕ) (n : ℕ) → Steady f n → (a b : ℕ) → f a < none → f b < none → a ≤ b → b < n → Follow (f a) (f b) (b - a)
follow_up f n S a b k l h w = omega (arith, near f n S a b (omega arith) w k l, near f n S b a w (omega arith) l k)

-- neighbouring numbers that are one apart are a full run
pub one_step : (f : ℕ → ℕ) (m t : ℕ) → t < m → f t < none → f (suc t) < none → f (suc t) ≡ suc (f t) → Full f m t
one_step f m t l x y e = record {
  early = t;
  late = suc t;
  early_before = omega arith;
  late_after = omega arith;
  late_in = omega arith;
  early_known = x;
  late_known = y;
  related = omega arith;
}

-- a steady run is not both full and level at a minute, whichever places say so
pub not_both : (f : ℕ → ℕ) (m t : ℕ) → Steady f (suc m) → Full f m t → Level f m t → ⊥
not_both f m t S u v =
    let a = u.early_before in
    let b = u.late_after in
    let c = u.late_in in
    let d = v.early_before in
    let e = v.late_after in
    let g = v.late_in in
    omega (
      arith,
      u.related,
      v.related,
      near f (suc m) S v.early u.early (omega arith) (omega arith) v.early_known u.early_known,
      near f (suc m) S u.late v.late (omega arith) (omega arith) u.late_known v.late_known,
    )

-- a run that knows less than a steady one is steady
pub steady_less : (f g : ℕ → ℕ) (n : ℕ) → f 0 ≡ 0 → Within f g n → Steady g n → Steady f n
steady_less f g n z e S = record {
  first = z;
  pairs = λ b l a lt ka kb.
      let x = e a (omega arith) ka in
      let y = e b l kb in
      rw (x, y) (S.pairs b l a lt (rw x at ka) (rw y at kb));
}

-- and one that knows more tells as much
pub across_more : (R : ℕ → ℕ → ℕ → Type 0) (f g : ℕ → ℕ) (m t : ℕ) → Within f g (suc m) → Across R f m t → Across R g m t
across_more R f g m t e v =
    let a = v.early_before in
    let b = v.late_after in
    let c = v.late_in in
    let x = e v.early (omega arith) v.early_known in
    let y = e v.late (omega arith) v.late_known in
    record {
      early = v.early;
      late = v.late;
      early_before = a;
      late_after = b;
      late_in = c;
      early_known = rw x at v.early_known;
      late_known = rw y at v.late_known;
      related = rw (x, y) at v.related;
    }

-- sound knowledge has steady runs
pub runs_of : (z : Sizes) (k : Knowledge) → Sound z k → SteadyRuns z k.numbers
unfolding number
runs_of z k s = s.runs
