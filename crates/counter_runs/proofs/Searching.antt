-- What reading back and reading forth from a minute find, taken together, is what the search outwards from it gives.
-- Assumes nothing.
use mathlib.Core.Path.{◌≡◌, sym, subst}
use mathlib.Core.Logic.{◌⊎◌, inl, inr, ⊎_elim, ◌↔◌}
use mathlib.Core.Bool.{◌&&◌}
use Prim.Native.Nat.{ℕ, suc, ◌+◌, ◌-◌, ◌≤◌, ◌<◌}
use native.Mathlib.Nat.{eq-or-lt_of_le}
use native.Mathlib.Decide.{dec_lt, ℕ_discrete}
use native.Mathlib.Omega.{arith}
use lib.Dec.{ltb, eqb}
use Rattle.decide.proofs.Laws.{agree, same, less, equal, both}
use Rattle.knowledge.specs.declared.Found.{Found}
use Rattle.knowledge.specs.Knowledge.{none, Across, Equal, Apart, level, full}
use Rattle.knowledge.specs.Run.{Back, Forth, Previous}
use Rattle.knowledge.proofs.Runs.{level_decides, full_decides}
use Rattle.knowledge.specs.Outwards.{NearestBefore, NearestAfter, NoneBefore, NoneAfter, places_read, NeverFalls, NeverJumps, Outwards}
use Rattle.knowledge.specs.Nearest.{Narrows}
use Rattle.knowledge.proofs.Nearest.{read_from_to, level_narrows, full_narrows, none_before, none_after, by_nearest}

-- none of the places from `from` to before i is known
abbrev pub Unknown : (ℕ → ℕ) → ℕ → ℕ → Type 0
Unknown f from i = (j : ℕ) → from ≤ j → j < i → none ≤ f j

-- where the first place is known, so is the one that is found
pub known_before : (f : ℕ → ℕ) (place : ℕ) (r : Found) → f 0 < none → Back f place r → Previous f place r.place
known_before f place r k B = record { before = B.before; known = go (ℕ_discrete r.place 0); between = B.between }
  where
    go : Dec (r.place ≡ 0) → f r.place < none
    go (yes e) = subst (λ (i : ℕ). f i < none) (sym e) k
    go (no e) = B.there (omega arith)

module _ (f : ℕ → ℕ) (m t : ℕ) (back forth : Found) (inside : t ≤ m) (B : Back f (t + 1) back) (F : Forth f (suc m) (t + 1) forth) where
  abbrev a : ℕ
  a = back.place

  abbrev b : ℕ
  b = forth.place

  abbrev Before : Type 0
  Before = NearestBefore f t a ⊎ (NoneBefore f t × (a ≡ 0))

  abbrev After : Type 0
  After = NearestAfter f m t b ⊎ (NoneAfter f m t × (b ≡ suc m))

  before : Before
  before = go (dec_lt (f a) none) (ℕ_discrete a 0)
    where
      go : Dec (f a < none) → Dec (a ≡ 0) → Before
      go (yes k) e = let l = B.before in inl (record { before = omega arith; known = k; nearest = λ i u w. B.between i u (omega arith) })
      go (no k) (no e) = absurd (let h = B.there (omega arith) in let z : ⊥ = omega arith in z)
      go (no k) (yes e) = inr (nothing, e)
        where
          nothing : NoneBefore f t
          nothing i w =
              let le : a ≤ i = omega arith in
              let here : none ≤ f a = omega arith in
              ⊎_elim (λ (s : a ≡ i). subst (λ (j : ℕ). none ≤ f j) s here) (λ (u : a < i). B.between i u (omega arith)) (eq-or-lt_of_le le)

  after : After
  after = go (dec_lt b (suc m))
    where
      go : Dec (b < suc m) → After
      go (yes l) =
          let past = F.place.past in
          inl (record { after = omega arith; within = omega arith; known = F.place.there l; nearest = λ i u w. F.place.between i (omega arith) w })
      go (no l) = let within = F.place.within in inr (λ i u w. F.place.between i (omega arith) (omega arith), omega arith)

  abbrev x : ℕ
  x = back.number

  abbrev y : ℕ
  y = forth.number

  -- where R narrows, it relates some two numbers across the minute exactly if both that were found are known and it relates them
  narrowed : (R : ℕ → ℕ → ℕ → Type 0) → Narrows R f m → Before → After → Across R f m t ↔ (R x y (b - a) × (x < none) × (y < none))
  narrowed R S before after = (here before after, there before after)
    where
      y_there : NearestAfter f m t b → y ≡ f b
      y_there A = F.number (omega (arith, A.within))

      there : Before → After → R x y (b - a) × (x < none) × (y < none) → Across R f m t
      there (inl N) (inl A) h = (by_nearest f m t R S a b N A).1 (rw (B.number N.known, y_there A) at h.0)
      there (inl N) (inr A) h = absurd (let s = F.nothing (omega (arith, A.1)) in let z : ⊥ = omega (arith, h.2) in z)
      there (inr N) A h = absurd (let s = B.nothing (N.0 a (omega (arith, N.1))) in let z : ⊥ = omega (arith, h.1) in z)

      here : Before → After → Across R f m t → R x y (b - a) × (x < none) × (y < none)
      here (inl N) (inl A) Q =
          let s = B.number N.known in
          let k = N.known in
          let u = y_there A in
          let l = A.known in
          (rw (s, u) ((by_nearest f m t R S a b N A).0 Q), omega arith, omega arith)
      here (inl N) (inr A) Q = absurd (none_after f m t R A.0 Q)
      here (inr N) A Q = absurd (none_before f m t R N.0 Q)

  answer : Before → After → NeverFalls f m → (eqb x y && ltb x none) ≡ level f m t
  answer before after S =
      let N = narrowed Equal (level_narrows f m S) before after in
      agree
      (same (λ h. N.1 (h.0, h.1, omega (arith, h))) (λ Q. let r = N.0 Q in (r.0, r.1)) (both (equal x y) (less x none)))
      (level_decides f m t)

  full_answer : Before → After → NeverJumps f m → (eqb y (x + (b - a)) && ltb y none) ≡ full f m t
  full_answer before after S =
      let N = narrowed Apart (full_narrows f m S) before after in
      agree
      (same (λ h. N.1 (h.0, omega (arith, h), h.1)) (λ Q. let r = N.0 Q in (r.0, r.2)) (both (equal y (x + (b - a))) (less y none)))
      (full_decides f m t)

  reads : After → back.reads + forth.reads ≡ places_read f m t
  reads (inl A) =
      let l = B.before in
      let p = B.reads in
      let q = F.reads in
      let w = A.within in
      let v = A.after in
      let h : places_read f m t ≡ suc (b - a) =
      read_from_to f m t a b (omega arith) (omega arith) w (λ i u r. B.between i u (omega arith)) A.nearest B.there (λ _. (v, A.known)) in
      omega arith
  reads (inr A) =
      let l = B.before in
      let p = B.reads in
      let q = F.reads in
      let e = A.1 in
      let h : places_read f m t ≡ suc (m - a) =
      read_from_to f m t a m (omega arith) inside (omega arith) (λ i u r. B.between i u (omega arith)) (λ i u r. A.0 i u (omega arith)) B.there
      (λ l. absurd (let z : ⊥ = omega arith in z)) in
      omega arith

  pub outwards : Outwards f m t (record {
    level = eqb x y && ltb x none;
    before = a;
    after = b;
    earlier = x;
    later = y;
    reads = back.reads + forth.reads;
  })
  outwards = record {
    answer = answer before after;
    full_answer = full_answer before after;
    before = before;
    after = after;
    earlier = (λ N. B.number N.known, λ N. B.nothing (N a (omega (arith, B.before))));
    later = (λ A. F.number (omega (arith, A.within)), λ N. F.nothing (past N (dec_lt b (suc m))));
    reads = reads after;
  }
    where
      past : NoneAfter f m t → Dec (b < suc m) → suc m ≤ b
      past N (no l) = omega arith
      past N (yes l) = absurd (let k = F.place.there l in let h = N b (omega (arith, F.place.past)) (omega arith) in let z : ⊥ = omega arith in z)
