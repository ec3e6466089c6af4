-- A running index after one minute more: it moves there where that minute reaches the threshold, and else stays. Assumes nothing.
use mathlib.Core.Path.{◌≡◌, refl, sym, ap, subst, ◌∙◌}
use mathlib.Core.Bool.{Bool, true, false, cond}
use mathlib.Core.Logic.{⊎_elim}
use Prim.Native.Nat.{ℕ, ◌+◌, ◌-◌, ◌≤◌, ◌<◌}
use native.Mathlib.Nat.{eq-or-lt_of_le}
use native.Mathlib.Omega.{arith}
use lib.Dec.{leb}
use borrow.Author.Tests.{leb-true, leb-false}
use Rattle.valuation.specs.declared.Nearest.{Nearest}
use Rattle.valuation.specs.Indexes.{moved, Last, Lasts, far, turned, turned_nearest, Firsts}

-- what an index's step has to show in either case
by_test : (P : ℕ → Type 0) (k v here old : ℕ) → (k ≤ v → P here) → (v < k → P old) → P (moved k v here old)
by_test P k v here old y n = go (leb k v) refl
  where
    go : (b : Bool) → leb k v ≡ b → P (cond b here old)
    go true e = y (leb-true k v e)
    go false e = n (leb-false k v e)

module _ (t here v : ℕ) (f : ℕ → ℕ) (next : here ≡ t + 1) (at : v ≡ f t) where
  last_step : (k old : ℕ) → Last k f t old → Last k f here (moved k v here old)
  last_step k old l =
      by_test (Last k f here) k v here old
      (λ h. record {
        within = omega arith;
        there = λ i e. let q : t ≡ i = omega arith in subst (λ (j : ℕ). k ≤ f j) q (subst (λ (x : ℕ). k ≤ x) at h);
        after = λ i a b. absurd (let z : ⊥ = omega arith in z);
      })
      (λ h. record {
        within = omega (arith, l.within);
        there = l.there;
        after = λ i a b.
            let le : i ≤ t = omega arith in
            ⊎_elim (λ (e : i ≡ t). subst (λ (j : ℕ). f j < k) (sym e) (subst (λ (x : ℕ). x < k) at h)) (λ (w : i < t). l.after i a w) (eq-or-lt_of_le le);
      })

  -- both indexes at once
  pub lasts_step : (p q : Nearest) → (q.sure ≡ moved 2 v here p.sure) × (q.may ≡ moved 1 v here p.may) → Lasts f t p → Lasts f here q
  lasts_step p q m l =
      record {
        sure = rw m.0 (last_step 2 p.sure l.sure);
        may = rw m.1 (last_step 1 p.may l.may);
      }

-- where everything before n is unknown, none is sure, and the last that may be is the last there is
lasts_unknown : (f : ℕ → ℕ) (n : ℕ) → ((i : ℕ) → i < n → f i ≡ 1) → Lasts f n (record { sure = 0; may = n })
lasts_unknown f n h =
    record {
      sure = record { within = omega arith; there = λ i e. absurd (let z : ⊥ = omega arith in z); after = λ i a b. omega (arith, h i b) };
      may = record { within = omega arith; there = λ i e. omega (arith, h i (omega arith)); after = λ i a b. absurd (let z : ⊥ = omega arith in z) };
    }

-- before any minute there is none
pub lasts_none : (f : ℕ → ℕ) (n : ℕ) → n ≡ 0 → Lasts f n (record { sure = 0; may = 0 })
lasts_none f n e = rw e (lasts_unknown f 0 (λ i h. absurd (let z : ⊥ = omega arith in z)))

-- ---- going down

moved_turned : (k v here old r : ℕ) → r ≡ moved k v here old → far - r ≡ moved k v (far - here) (far - old)
moved_turned k v here old r e = ap (λ (n : ℕ). far - n) e ∙ go (leb k v)
  where
    go : (b : Bool) → far - cond b here old ≡ cond b (far - here) (far - old)
    go true = refl
    go false = refl

pub firsts_step : (t after v : ℕ) (f : ℕ → ℕ) → after ≡ t + 1 → t < far → v ≡ f t → (p q : Nearest)
    → (q.sure ≡ moved 2 v t p.sure) × (q.may ≡ moved 1 v t p.may) → Firsts f after p → Firsts f t q
firsts_step t after v f e near at p q m l =
    let next : far - t ≡ far - after + 1 = omega arith in
    let same : t ≡ far - 1 - (far - after) = omega arith in
    lasts_step (far - after) (far - t) v (turned f) next (at ∙ ap f same) (turned_nearest p) (turned_nearest q)
    (moved_turned 2 v t p.sure q.sure m.0, moved_turned 1 v t p.may q.may m.1) l

pub firsts_unknown : (f : ℕ → ℕ) (n : ℕ) → ((i : ℕ) → n ≤ i → f i ≡ 1) → Firsts f n (record { sure = far; may = n })
firsts_unknown f n h = lasts_unknown (turned f) (far - n) (λ i l. h (far - 1 - i) (omega arith))
