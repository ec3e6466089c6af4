-- Laws of the definitions in specs/Counts. Assumes nothing.
use Rattle.std.specs.Prelude.{ℕ, zero, suc, ◌+◌, ◌-◌, ◌≤◌, ◌<◌, ◌≡◌, refl, Bool, true, false, cond, ltb}
use Rattle.std.proofs.Common.{add-zero, add-suc, add-sub_of_le, eq-or-lt_of_le, arith, sym, ⊎_elim, ltb-true, ltb-false, lt-ltb, le-ltb}
use Rattle.std.proofs.Math.Decide.{dec_le, dec_lt}
use Rattle.knowledge.specs.Trace.{tally}
use Rattle.knowledge.specs.Knowledge.{none, Steady, Level, Full}
use Rattle.knowledge.proofs.Runs.{near}
use Rattle.knowledge.specs.Counts.{Count, Through, counted, flattened, held, largest, raised}

pub tally_counted : (g : ℕ → ℕ) → Count g → (p : ℕ) → tally (counted g) p ≡ g p
tally_counted g k zero = sym k.start
tally_counted g k (suc p) = go (tally_counted g k p) (counted g p) refl
  where
    go : tally (counted g) p ≡ g p → (b : Bool) → ltb (g p) (g (suc p)) ≡ b → cond b 1 0 + tally (counted g) p ≡ g (suc p)
    go h true e = omega (arith, ltb-true, k.near (suc p) p)
    go h false e = omega (arith, ltb-false, k.near p (suc p))

-- a tally is a count
tally_far : (e : ℕ → Bool) (p n : ℕ) → (tally e p ≤ tally e (p + n)) × (tally e (p + n) ≤ tally e p + n)
tally_far e p zero = rw (add-zero p) (omega arith)
tally_far e p (suc n) = rw (add-suc p n) (go (e (p + n)) (tally_far e p n))
  where
    go : (b : Bool) → (tally e p ≤ tally e (p + n)) × (tally e (p + n) ≤ tally e p + n)
        → (tally e p ≤ cond b 1 0 + tally e (p + n)) × (cond b 1 0 + tally e (p + n) ≤ tally e p + suc n)
    go true h = omega (arith, h)
    go false h = omega (arith, h)

pub tally_count : (e : ℕ → Bool) → Count (tally e)
tally_count e = record { start = refl; near = λ a b. near a b (dec_le a b) }
  where
    near : (a b : ℕ) → Dec (a ≤ b) → tally e a ≤ tally e b + (a - b)
    near a b (yes l) = omega (arith, rw (add-sub_of_le l) at (tally_far e a (b - a)))
    near a b (no l) = let h : b ≤ a = omega arith in omega (arith, rw (add-sub_of_le h) at (tally_far e b (a - b)))

largest_near : (f : ℕ → ℕ) (n a b : ℕ) → largest f n a ≤ largest f n b + (a - b)
largest_near f zero a b = omega arith
largest_near f (suc n) a b = omega (arith, largest_near f n a b)

largest_above : (f : ℕ → ℕ) (n p v : ℕ) → ((q : ℕ) → q ≤ n → v ≤ f q + (p - q)) → v ≤ largest f n p
largest_above f zero p v h = omega (arith, h 0 (omega arith))
largest_above f (suc n) p v h = omega (arith, h (suc n) (omega arith), largest_above f n p v (λ q l. h q (omega arith)))

largest_below : (f : ℕ → ℕ) (n p : ℕ) → p ≤ n → largest f n p ≤ f p
largest_below f zero p h = let e : p ≡ 0 = omega arith in rw e (omega arith)
largest_below f (suc n) p h =
    ⊎_elim (λ (e : p ≡ suc n). rw e (omega arith)) (λ (l : p < suc n). omega (arith, largest_below f n p (omega arith))) (eq-or-lt_of_le h)

module _ (f : ℕ → ℕ) (m : ℕ) (S : Steady f (suc m)) where
  above : (p : ℕ) → p ≤ m → f p < none → (q : ℕ) → q ≤ m → f p ≤ f q + (p - q)
  above p l k q i = go (dec_lt (f q) none)
    where
      go : Dec (f q < none) → f p ≤ f q + (p - q)
      go (yes known) = near f (suc m) S p q (omega arith) (omega arith) k known
      go (no unknown) = omega arith

  pub largest_through : Through f m (largest f m)
  largest_through = record {
    count = record { start = omega (arith, largest_below f m 0 (omega arith), S.first); near = largest_near f m };
    there = λ p l k. omega (arith, largest_below f m p l, largest_above f m p (f p) (above p l k));
  }

  held_through : (q x : ℕ) → ((p : ℕ) → p ≤ m → f p < none → f p ≤ x + (p - q)) → Through f m (held f m q x)
  held_through q x h = record {
    count = record { start = omega (arith, largest_through.count.start); near = λ a b. omega (arith, largest_near f m a b) };
    there = λ p l k. omega (arith, largest_through.there p l k, h p l k);
  }

  module _ (t : ℕ) (open-there : Level f m t → ⊥) where
    -- a number before minute t leaves room for one more after it
    room : (p : ℕ) → p ≤ t → p ≤ m → f p < none → f p < largest f m (suc t)
    room p d l k = largest_above f m (suc t) (suc (f p)) (λ q i. each q i (dec_lt (f q) none) (dec_le q t))
      where
        each : (q : ℕ) → q ≤ m → Dec (f q < none) → Dec (q ≤ t) → suc (f p) ≤ f q + (suc t - q)
        each q i (no unknown) e = omega arith
        each q i (yes known) (yes e) = omega (arith, near f (suc m) S p q (omega arith) (omega arith) k known)
        each q i (yes known) (no e) = omega (arith, near f (suc m) S p q (omega arith) (omega arith) k known, apart)
          where
            apart : f p ≡ f q → ⊥
            apart r = open-there (record {
              early = p;
              late = q;
              early_before = d;
              late_after = omega arith;
              late_in = i;
              early_known = k;
              late_known = known;
              related = r;
            })

    pub raised_through : Through f m (raised f m t)
    raised_through = held_through t (largest f m (suc t) - 1) (λ p l k. under p l k (dec_le p t))
      where
        under : (p : ℕ) → p ≤ m → f p < none → Dec (p ≤ t) → f p ≤ largest f m (suc t) - 1 + (p - t)
        under p l k (yes d) = omega (arith, room p d l k)
        under p l k (no d) = omega (arith, largest_through.there p l k, largest_near f m p (suc t))

    pub raised_at : counted (raised f m t) t ≡ true
    raised_at = lt-ltb (raised f m t t) (raised f m t (suc t))
        (omega (arith, largest_near f m (suc t) t, room 0 (omega arith) (omega arith) (omega (arith, S.first))))

  module _ (t : ℕ) (open-there : Full f m t → ⊥) where
    -- a number after minute t is reached from any before it without that minute
    reached : (p : ℕ) → t < p → p ≤ m → f p < none → f p - (p - suc t) ≤ largest f m t
    reached p d l k = largest_above f m t (f p - (p - suc t)) (λ q i. each q i (dec_lt (f q) none) (dec_le q t))
      where
        each : (q : ℕ) → q ≤ m → Dec (f q < none) → Dec (q ≤ t) → f p - (p - suc t) ≤ f q + (t - q)
        each q i (no unknown) e = omega arith
        each q i (yes known) (no e) = omega (arith, near f (suc m) S p q (omega arith) (omega arith) k known)
        each q i (yes known) (yes e) = omega (arith, near f (suc m) S p q (omega arith) (omega arith) k known, apart)
          where
            apart : f p ≡ f q + (p - q) → ⊥
            apart r = open-there (record {
              early = q;
              late = p;
              early_before = e;
              late_after = d;
              late_in = l;
              early_known = known;
              late_known = k;
              related = r;
            })

    pub flattened_through : Through f m (flattened f m t)
    flattened_through = held_through (suc t) (largest f m t) (λ p l k. under p l k (dec_le p t))
      where
        under : (p : ℕ) → p ≤ m → f p < none → Dec (p ≤ t) → f p ≤ largest f m t + (p - suc t)
        under p l k (yes d) = omega (arith, largest_through.there p l k, largest_near f m p t)
        under p l k (no d) = omega (arith, reached p (omega arith) l k)

  pub flattened_at : (t : ℕ) → counted (flattened f m t) t ≡ false
  flattened_at t = le-ltb (flattened f m t t) (flattened f m t (suc t)) (omega (arith, largest_near f m t (suc t)))
