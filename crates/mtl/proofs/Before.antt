-- Laws of the definitions in specs/Before. Assumes nothing.
use Prim.Native.Nat.{ℕ, zero, suc, ◌+◌, ◌-◌, ◌≤◌, ◌<◌}
use native.Mathlib.Omega.{arith}
use Rattle.std.proofs.Math.Decide.{dec_lt}
use Rattle.std.specs.Prelude.{◌≡◌, refl}
use Rattle.std.proofs.Math.Path.{sym, ap, ap₂}
use Rattle.std.proofs.Common.{◌∙◌, lt-ltb, le-ltb}
use Rattle.kleene.specs.Truth.{Truth, unknown, true3, false3, or3}
use Rattle.mtl.specs.Algebra.{three, meet, implies, fold, any}
use Rattle.mtl.specs.Reading.{World, point, meets, keeps, since}
use Rattle.mtl.specs.Before.{later, put_before}

later_early : (n : ℕ) (f : ℕ → Truth) (t : ℕ) → t < n → later n f t ≡ false3
unfolding later
later_early n f t h = rw (lt-ltb t n h) refl

later_at : (n : ℕ) (f : ℕ → Truth) (t : ℕ) → later n f (t + n) ≡ f t
unfolding later
later_at n f t =
    let e : t + n - n ≡ t = omega arith in
    rw (le-ltb (t + n) n (omega arith), e) refl

-- ---- folds

-- a fold over minutes that stand n later
shifted : {A : Type 0} (op : A → A → A) (unit : A) (n lo c : ℕ) (g f : ℕ → A) → ((i : ℕ) → g (i + n) ≡ f i) → fold op unit (lo + n) c g ≡ fold op unit lo c f
shifted op unit n lo zero g f h = refl
shifted op unit n lo (suc c) g f h =
    let e : lo + n + c ≡ lo + c + n = omega arith in
    ap₂ op (shifted op unit n lo c g f h) (ap g e ∙ h (lo + c))

none_of : (lo c : ℕ) (g : ℕ → Truth) → ((i : ℕ) → i < lo + c → g i ≡ false3) → any three lo c g ≡ false3
none_of lo zero g h = refl
none_of lo (suc c) g h = ap₂ or3 (none_of lo c g (λ i l. h i (omega arith))) (h (lo + c) (omega arith))

-- the first a minutes add nothing
skipped : (lo a b : ℕ) (g : ℕ → Truth) → ((i : ℕ) → i < lo + a → g i ≡ false3) → any three lo (a + b) g ≡ any three (lo + a) b g
skipped lo a zero g h =
    let e : a + 0 ≡ a = omega arith in
    ap (λ (c : ℕ). any three lo c g) e ∙ none_of lo a g h
skipped lo a (suc b) g h =
    let e : a + suc b ≡ suc (a + b) = omega arith in
    let i : lo + (a + b) ≡ lo + a + b = omega arith in
    ap (λ (c : ℕ). any three lo c g) e ∙ ap₂ or3 (skipped lo a b g h) (ap g i)

meet_false : (x : Truth) → meet three false3 x ≡ false3
meet_false unknown = refl
meet_false true3 = refl
meet_false false3 = refl

-- ---- a since

-- how many minutes the range has, where it reaches back before minute 0
count_late : (t n lower upper : ℕ) → t < upper → lower ≤ suc t → upper ≤ n → suc (t + n) - lower - (t + n - upper) ≡ (upper - t) + (suc t - lower)
count_late t n lower upper a b c = omega arith

start_late : (t n upper : ℕ) → t < upper → upper ≤ n → t + n - upper + (upper - t) ≡ t - upper + n
start_late t n upper a c = omega arith

none_late : (t n upper j : ℕ) → t < upper → upper ≤ n → j < t + n - upper + (upper - t) → j < n
none_late t n upper j a c l = omega arith

count_here : (t lower upper : ℕ) → t < upper → suc t - lower - (t - upper) ≡ suc t - lower
count_here t lower upper a = omega arith

module _ (w : World Truth) (α β : ℕ → Truth) (n lower upper t : ℕ) (far : upper ≤ n) where
  -- the world with the minutes before it, and what the or is taken of, there and here
  abbrev v : World Truth
  v = put_before n w

  abbrev there : ℕ → Truth
  there j = meet three (meets three v (later n β) j) (keeps three v (later n α) (suc j) (t + n - j))

  abbrev here : ℕ → Truth
  here j = meet three (meets three w β j) (keeps three w α (suc j) (t - j))

  early : (j : ℕ) → j < n → there j ≡ false3
  early j h =
      let e = later_early n (point three w) j h in
      ap (λ (x : Truth). meet three (meet three x (later n β j)) (keeps three v (later n α) (suc j) (t + n - j))) e
      ∙ ap (λ (x : Truth). meet three x (keeps three v (later n α) (suc j) (t + n - j))) (meet_false (later n β j))
      ∙ meet_false (keeps three v (later n α) (suc j) (t + n - j))

  same : (j : ℕ) → there (j + n) ≡ here j
  same j =
      let c : t + n - (j + n) ≡ t - j = omega arith in
      let s : suc (j + n) ≡ suc j + n = omega arith in
      ap₂ (meet three)
      (ap₂ (meet three) (later_at n (point three w) j) (later_at n β j))
      (ap₂ (λ (s c : ℕ). keeps three v (later n α) s c) s c
      ∙ shifted (meet three) true3 n (suc j) (t - j) (λ s. implies three (later n (point three w) s) (later n α s)) (λ s. implies three (point three w s) (α s))
      (λ s. ap₂ (implies three) (later_at n (point three w) s) (later_at n α s)))

  -- from a start at n or after
  from : (lo c : ℕ) → any three (lo + n) c there ≡ any three lo c here
  from lo c = shifted or3 false3 n lo c there here same

  -- α, β and e are false at the n minutes before
  pub before : since three v (later n α) (later n β) lower upper (t + n) ≡ since three w α β lower upper t
  unfolding since
  before = go (dec_lt t upper) (dec_lt (suc t) lower)
    where
      go : Dec (t < upper) → Dec (suc t < lower) → any three (t + n - upper) (suc (t + n) - lower - (t + n - upper)) there ≡ any three (t - upper) (suc t - lower - (t - upper)) here
      go (no a) b =
          let s : t + n - upper ≡ t - upper + n = omega arith in
          let c : suc (t + n) - lower - (t + n - upper) ≡ suc t - lower - (t - upper) = omega arith in
          ap₂ (λ (s c : ℕ). any three s c there) s c ∙ from (t - upper) (suc t - lower - (t - upper))
      go (yes a) (yes b) =
          let c : suc t - lower - (t - upper) ≡ 0 = omega arith in
          none_of (t + n - upper) (suc (t + n) - lower - (t + n - upper)) there (λ j l. early j (omega arith))
          ∙ sym (ap (λ (c : ℕ). any three (t - upper) c here) c)
      go (yes a) (no b) =
          let k = suc t - lower - (t - upper) in
          let c = count_late t n lower upper a (omega arith) far ∙ ap (λ (k : ℕ). (upper - t) + k) (sym (count_here t lower upper a)) in
          ap (λ (c : ℕ). any three (t + n - upper) c there) c
          ∙ skipped (t + n - upper) (upper - t) k there (λ j l. early j (none_late t n upper j a far l))
          ∙ ap (λ (s : ℕ). any three s k there) (start_late t n upper a far)
          ∙ from (t - upper) k
