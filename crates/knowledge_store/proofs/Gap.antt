-- What a run tells of the minutes between two neighbouring known places, and of those after the last: they have one answer, which the search from
-- the first of them gives.
-- Assumes nothing.
use mathlib.Core.Path.{◌≡◌, sym, ap, ap₂, subst, ◌∙◌}
use mathlib.Core.Bool.{true, false, not}
use mathlib.Core.Logic.{⊎_elim, ◌↔◌}
use Prim.Native.Nat.{ℕ, suc, ◌+◌, ◌-◌, ◌≤◌, ◌<◌}
use native.Mathlib.Decide.{dec_lt, ℕ_discrete}
use native.Mathlib.Omega.{arith}
use Rattle.decide.proofs.Laws.{agree, same, is_false}
use Rattle.decide.proofs.Laws.{none as denied}
use Rattle.knowledge.specs.declared.Search.{Search}
use Rattle.knowledge.specs.Knowledge.{none, Steady, Across, Equal, Apart, Level, Full, level, full, says}
use Rattle.knowledge.specs.Run.{Next, told}
use Rattle.knowledge.proofs.Runs.{level_decides, full_decides, not_both}
use Rattle.knowledge.specs.Outwards.{NearestBefore, NearestAfter, NoneBefore, NoneAfter, full_gap, Outwards}
use Rattle.knowledge.specs.Nearest.{Narrows}
use Rattle.knowledge.proofs.Nearest.{steady_never_falls, steady_never_jumps, level_narrows, full_narrows, none_after, by_nearest}

-- two claims that are the same of two minutes
told_as : (f : ℕ → ℕ) (m t u : ℕ) → (Full f m t ↔ Full f m u) → (Level f m t ↔ Level f m u) → told f m t ≡ told f m u
unfolding told
told_as f m t u e g =
    ap₂ says
    (agree (same e.0 e.1 (full_decides f m t)) (full_decides f m u))
    (agree (same g.0 g.1 (level_decides f m t)) (level_decides f m u))

module _ (f : ℕ → ℕ) (m p q : ℕ) (k : f p < none) (N : Next f (suc m) (p + 1) q) where
  nearest_before : (t : ℕ) → p ≤ t → t < q → NearestBefore f t p
  nearest_before t from to = record { before = omega arith; known = k; nearest = λ i l u. N.between i (omega arith) (omega arith) }

  nearest_after : q < suc m → (t : ℕ) → p ≤ t → t < q → NearestAfter f m t q
  nearest_after there t from to =
      record { after = to; within = omega arith; known = N.there there; nearest = λ i l u. N.between i (omega arith) u }

  after_last : q ≡ suc m → (t : ℕ) → p ≤ t → NoneAfter f m t
  after_last e t from i l u = N.between i (omega arith) (omega arith)

  -- what holds across one minute of the gap holds across any other
  across_gap : (R : ℕ → ℕ → ℕ → Type 0) → Narrows R f m → (t u : ℕ) → p ≤ t → t < q → p ≤ u → u < q → Across R f m t → Across R f m u
  across_gap R S t u from to above below Q = go (dec_lt q (suc m))
    where
      go : Dec (q < suc m) → Across R f m u
      go (yes there) =
          (by_nearest f m u R S p q (nearest_before u above below) (nearest_after there u above below)).1
          ((by_nearest f m t R S p q (nearest_before t from to) (nearest_after there t from to)).0 Q)
      go (no past) = let w = N.within in absurd (none_after f m t R (after_last (omega arith) t from) Q)

  -- what the gap's first minute is told, each minute of the gap is
  pub each_minute : Steady f (suc m) → (t : ℕ) → p ≤ t → t < q → told f m p ≡ told f m t
  each_minute S t from to =
      let first : p ≤ p = omega arith in
      let below : p < q = omega arith in
      let F = full_narrows f m (steady_never_jumps f m S) in
      let L = level_narrows f m (steady_never_falls f m S) in
      told_as f m p t
      (across_gap Apart F p t first below from to, across_gap Apart F t p from to first below)
      (across_gap Equal L p t first below from to, across_gap Equal L t p from to first below)

  -- the one minute of a gap is full if it is not level
  pub one_minute_gap : Steady f (suc m) → p < m → q - p ≡ 1 → full f m p ≡ not (level f m p)
  one_minute_gap S inside e =
      let there : q < suc m = omega arith in
      let g = S.pairs q there p (omega arith) k (N.there there) in
      let A = nearest_before p (omega arith) (omega arith) in
      let B = nearest_after there p (omega arith) (omega arith) in
      let F = by_nearest f m p Apart (full_narrows f m (steady_never_jumps f m S)) p q A B in
      let L = by_nearest f m p Equal (level_narrows f m (steady_never_falls f m S)) p q A B in
      agree (full_decides f m p)
      (same
      (λ (h : Level f m p → ⊥). let apart : f p ≡ f q → ⊥ = λ x. h (L.1 x) in F.1 (omega (arith, g.up, g.slow)))
      (λ Q v. let x = F.0 Q in let y = L.0 v in omega arith)
      (denied (level_decides f m p)))

-- what the search from a gap's first minute gives: the gap that starts at a known place and ends at the next one, or at the run's end n
pub record FoundGap (f : ℕ → ℕ) (n : ℕ) (r : Search) : Type 0 where
  pub known : f r.before < none
  pub ends : Next f n (r.before + 1) r.after
  pub answer : (m : ℕ) → suc m ≡ n → says (full_gap r) r.level ≡ told f m r.before
  pub alone : r.before < n - 1 → r.after ≡ suc r.before → full_gap r ≡ not r.level
  pub one_of_two : r.level ≡ true → full_gap r ≡ false

module _ (f : ℕ → ℕ) (m t : ℕ) (r : Search) (k : f t < none) (O : Outwards f m t r) where
  starts : r.before ≡ t
  starts =
      ⊎_elim (λ (A : NearestBefore f t r.before). go A (ℕ_discrete r.before t))
      (λ (h : NoneBefore f t × (r.before ≡ 0)). absurd (let x = h.0 t (omega arith) in let z : ⊥ = omega arith in z)) O.before
    where
      go : NearestBefore f t r.before → Dec (r.before ≡ t) → r.before ≡ t
      go A (yes e) = e
      go A (no e) = absurd (let u = A.before in let x = A.nearest t (omega arith) (omega arith) in let z : ⊥ = omega arith in z)

  ends : t ≤ m → Next f (suc m) (t + 1) r.after
  ends inside =
      ⊎_elim
      (λ (B : NearestAfter f m t r.after). record {
        past = omega (arith, B.after);
        within = omega (arith, B.within);
        between = λ i l u. B.nearest i (omega arith) u;
        there = λ _. B.known;
      })
      (λ (h : NoneAfter f m t × (r.after ≡ suc m)). record {
        past = omega (arith, h.1);
        within = omega (arith, h.1);
        between = λ i l u. h.0 i (omega arith) (omega (arith, h.1));
        there = λ l. absurd (let e = h.1 in let z : ⊥ = omega arith in z);
      })
      O.after

-- a minute whose place is known is the first of a gap
pub found_gap : (f : ℕ → ℕ) (n t : ℕ) (r : Search) → Steady f n → t < n → f t < none → ((m : ℕ) → suc m ≡ n → Outwards f m t r)
    → (r.before ≡ t) × FoundGap f n r
unfolding told
found_gap f n t r S u k O = (
  at,
  record {
    known = subst (λ (i : ℕ). f i < none) (sym at) k;
    ends = subst (λ (i : ℕ). Next f n (i + 1) r.after) (sym at) (subst (λ (j : ℕ). Next f j (t + 1) r.after) last stops);
    answer = λ m e. answered m (O m e) (subst (Steady f) (sym e) S) ∙ ap (told f m) (sym at);
    alone = λ l e.
        (found (n - 1) (O (n - 1) last) T).1
        ∙ one_minute_gap f (n - 1) t r.after k stops T (omega (arith, at)) (omega (arith, at))
        ∙ ap not (sym (found (n - 1) (O (n - 1) last) T).0);
    one_of_two = λ e.
        let x = found (n - 1) (O (n - 1) last) T in
        x.1
        ∙ is_false (full_decides f (n - 1) t) (λ Q. not_both f (n - 1) t T Q ((level_decides f (n - 1) t).sound (sym x.0 ∙ e)));
  },
)
  where
    last : suc (n - 1) ≡ n
    last = omega arith

    at : r.before ≡ t
    at = starts f (n - 1) t r k (O (n - 1) last)

    stops : Next f (suc (n - 1)) (t + 1) r.after
    stops = ends f (n - 1) t r k (O (n - 1) last) (omega arith)

    T : Steady f (suc (n - 1))
    T = subst (Steady f) (sym last) S

    found : (m : ℕ) → Outwards f m t r → Steady f (suc m) → (r.level ≡ level f m t) × (full_gap r ≡ full f m t)
    found m R Z = (R.answer (steady_never_falls f m Z), R.full_answer (steady_never_jumps f m Z))

    answered : (m : ℕ) → Outwards f m t r → Steady f (suc m) → says (full_gap r) r.level ≡ told f m t
    answered m R Z = let x = found m R Z in ap₂ says x.1 x.0
