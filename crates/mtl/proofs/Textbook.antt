-- The two-valued reading a second time, in the words of 001, section 2: a proposition, with no fold and no Boolean operation. And the
-- theorem that the two agree.
use Prim.Native.Nat.{ℕ, zero, suc}
use Rattle.std.proofs.Common.{arith, sym, inl, inr, ⊎_elim}
use Rattle.std.specs.Prelude.{◌≡◌, refl, Bool, false, not, ◌||◌, ◌⊎◌, ◌↔◌}
use Rattle.std.proofs.Math.Bool.{true, true≢false}
use Rattle.logic.proofs.Bools.{imply, implied}
use Rattle.mtl.specs.declared.Formula.{Formula}
use Rattle.mtl.specs.declared.Formula.TheVariants.{True, Proposition, Not, Or, Since, Until, And, Implies, Once, Historically, Eventually, Always}
use Rattle.mtl.specs.Algebra.{two, meet, any}
use Rattle.mtl.specs.Abbreviations.{abbreviation}
use Rattle.mtl.specs.Reading.{since_start, since_count, after_start, after_count, until_start, until_count, before_start, before_count, meets, keeps, since, until, meaning, deep, reading}
use Rattle.mtl.proofs.Folds.{meet_true, any_some, any_true, all_true, all_each}
use Rattle.mtl.specs.Textbook.{SinceHolds, UntilHolds, OnceHolds, HistoricallyHolds, EventuallyHolds, AlwaysHolds, Says, HoldsDeep, Holds, plain}

-- ---- they agree

not_agrees : (b : Bool) {P : Type 0} → (b ≡ true) ↔ P → (not b ≡ true) ↔ (P → ⊥)
not_agrees true h = (λ e. absurd (true≢false (sym e)), λ n. absurd (n (h.0 refl)))
not_agrees false h = (λ e p. true≢false (sym (h.1 p)), λ n. refl)

or_agrees : (a b : Bool) {P Q : Type 0} → (a ≡ true) ↔ P → (b ≡ true) ↔ Q → ((a || b) ≡ true) ↔ (P ⊎ Q)
or_agrees true b h k = (λ e. inl (h.0 refl), λ p. refl)
or_agrees false b h k = (λ e. inr (k.0 e), λ p. ⊎_elim (λ q. absurd (true≢false (sym (h.1 q)))) (λ q. k.1 q) p)

meets_both : {a b : Bool} → a ≡ true → b ≡ true → meet two a b ≡ true
meets_both e f = rw (e, f) refl

and_agrees : (a b : Bool) {P Q : Type 0} → (a ≡ true) ↔ P → (b ≡ true) ↔ Q → (meet two a b ≡ true) ↔ (P × Q)
and_agrees a b h k = (λ e. let m = meet_true a b e in (h.0 m.0, k.0 m.1), λ p. meets_both (h.1 p.0) (k.1 p.1))

implies_agrees : (a b : Bool) {P Q : Type 0} → (a ≡ true) ↔ P → (b ≡ true) ↔ Q → ((not a || b) ≡ true) ↔ (P → Q)
implies_agrees a b h k = (λ e p. k.0 (imply a b e (h.1 p)), λ f. implied a b (λ e. k.1 (f (h.0 e))))

-- what is not untrue is true
stable : (b : Bool) {P : Type 0} → (b ≡ true) ↔ P → ((P → ⊥) → ⊥) → P
stable true h n = h.0 refl
stable false h n = absurd (n (λ p. true≢false (sym (h.1 p))))

module _ (e : ℕ → Bool) (p : ℕ → ℕ → Bool) where
  module _ (α β : ℕ → Bool) (P Q : ℕ → Type 0) (h : (t : ℕ) → (α t ≡ true) ↔ P t) (k : (t : ℕ) → (β t ≡ true) ↔ Q t) where
    since_agrees : (lower upper t : ℕ) → (since two (plain e p) α β lower upper t ≡ true) ↔ SinceHolds e P Q lower upper t
    unfolding since
    since_agrees lower upper t = (there, back)
      where
        there : any two (since_start upper t) (since_count lower upper t) (λ j. meet two (meets two (plain e p) β j) (keeps two (plain e p) α (after_start j) (after_count j t))) ≡ true → SinceHolds e P Q lower upper t
        there f =
            let r = any_true (since_start upper t) (since_count lower upper t) _ f in
            let l = r.1 in
            let m = r.2 in
            let x = meet_true (meets two (plain e p) β r.0) (keeps two (plain e p) α (after_start r.0) (after_count r.0 t)) r.3 in
            let y = meet_true (e r.0) (β r.0) x.0 in
            record {
              j = r.0;
              earliest = omega arith;
              latest = omega arith;
              is_point = y.0;
              right = (k r.0).0 y.1;
              left = λ s a b c. (h s).0 (imply (e s) (α s) (all_true (after_start r.0) (after_count r.0 t) _ x.1 s (omega arith) (omega arith)) c);
            }

        back : SinceHolds e P Q lower upper t → any two (since_start upper t) (since_count lower upper t) (λ j. meet two (meets two (plain e p) β j) (keeps two (plain e p) α (after_start j) (after_count j t))) ≡ true
        back z =
            let l = z.earliest in
            let m = z.latest in
            any_some (since_start upper t) (since_count lower upper t) _ z.j (omega arith) (omega arith)
            (meets_both (meets_both z.is_point ((k z.j).1 z.right))
            (all_each (after_start z.j) (after_count z.j t) _ (λ s a b. implied (e s) (α s) (λ c. (h s).1 (z.left s (omega arith) (omega arith) c)))))

    until_agrees : (lower upper t : ℕ) → (until two (plain e p) α β lower upper t ≡ true) ↔ UntilHolds e P Q lower upper t
    unfolding until
    until_agrees lower upper t = (there, back)
      where
        there : any two (until_start lower t) (until_count lower upper) (λ j. meet two (meets two (plain e p) β j) (keeps two (plain e p) α (before_start t) (before_count j t))) ≡ true → UntilHolds e P Q lower upper t
        there f =
            let r = any_true (until_start lower t) (until_count lower upper) _ f in
            let l = r.1 in
            let m = r.2 in
            let x = meet_true (meets two (plain e p) β r.0) (keeps two (plain e p) α (before_start t) (before_count r.0 t)) r.3 in
            let y = meet_true (e r.0) (β r.0) x.0 in
            record {
              j = r.0;
              earliest = omega arith;
              latest = omega arith;
              is_point = y.0;
              right = (k r.0).0 y.1;
              left = λ s a b c. (h s).0 (imply (e s) (α s) (all_true (before_start t) (before_count r.0 t) _ x.1 s (omega arith) (omega arith)) c);
            }

        back : UntilHolds e P Q lower upper t → any two (until_start lower t) (until_count lower upper) (λ j. meet two (meets two (plain e p) β j) (keeps two (plain e p) α (before_start t) (before_count j t))) ≡ true
        back z =
            let l = z.earliest in
            let m = z.latest in
            any_some (until_start lower t) (until_count lower upper) _ z.j (omega arith) (omega arith)
            (meets_both (meets_both z.is_point ((k z.j).1 z.right))
            (all_each (before_start t) (before_count z.j t) _ (λ s a b. implied (e s) (α s) (λ c. (h s).1 (z.left s (omega arith) (omega arith) c)))))

  -- with "true" on the left only the right counts
  module _ (α : ℕ → Bool) (P : ℕ → Type 0) (h : (t : ℕ) → (α t ≡ true) ↔ P t) (lower upper t : ℕ) where
    holding : (s : ℕ) → (true ≡ true) ↔ Unit {0}
    holding s = (λ f. tt, λ u. refl)

    once_agrees : (since two (plain e p) (λ s. true) α lower upper t ≡ true) ↔ OnceHolds e P lower upper t
    once_agrees = let s = since_agrees (λ s. true) α (λ s. Unit {0}) P holding h lower upper t in (
      λ f. let z = s.0 f in record { j = z.j; earliest = z.earliest; latest = z.latest; is_point = z.is_point; holds = z.right },
      λ z. s.1 (record { j = z.j; earliest = z.earliest; latest = z.latest; is_point = z.is_point; right = z.holds; left = λ s a b c. tt }),
    )

    eventually_agrees : (until two (plain e p) (λ s. true) α lower upper t ≡ true) ↔ EventuallyHolds e P lower upper t
    eventually_agrees = let s = until_agrees (λ s. true) α (λ s. Unit {0}) P holding h lower upper t in (
      λ f. let z = s.0 f in record { j = z.j; earliest = z.earliest; latest = z.latest; is_point = z.is_point; holds = z.right },
      λ z. s.1 (record { j = z.j; earliest = z.earliest; latest = z.latest; is_point = z.is_point; right = z.holds; left = λ s a b c. tt }),
    )

  -- none where it doesn't hold is: all where it does
  module _ (α : ℕ → Bool) (P : ℕ → Type 0) (h : (t : ℕ) → (α t ≡ true) ↔ P t) (lower upper t : ℕ) where
    untrue : (s : ℕ) → (not (α s) ≡ true) ↔ (P s → ⊥)
    untrue s = not_agrees (α s) (h s)

    historically_agrees : (not (since two (plain e p) (λ s. true) (λ s. not (α s)) lower upper t) ≡ true) ↔ HistoricallyHolds e P lower upper t
    historically_agrees = let n = not_agrees _ (once_agrees (λ s. not (α s)) (λ s. P s → ⊥) untrue lower upper t) in (
      λ f j x y c. stable (α j) (h j) (λ q. n.0 f (record { j = j; earliest = x; latest = y; is_point = c; holds = q })),
      λ g. n.1 (λ z. z.holds (g z.j z.earliest z.latest z.is_point)),
    )

    always_agrees : (not (until two (plain e p) (λ s. true) (λ s. not (α s)) lower upper t) ≡ true) ↔ AlwaysHolds e P lower upper t
    always_agrees = let n = not_agrees _ (eventually_agrees (λ s. not (α s)) (λ s. P s → ⊥) untrue lower upper t) in (
      λ f j x y c. stable (α j) (h j) (λ q. n.0 f (record { j = j; earliest = x; latest = y; is_point = c; holds = q })),
      λ g. n.1 (λ z. z.holds (g z.j z.earliest z.latest z.is_point)),
    )

  meaning_agrees : (X : ℕ → ℕ → Bool) (P : ℕ → ℕ → Type 0) → ((i t : ℕ) → (X i t ≡ true) ↔ P i t) → (φ : Formula) (t : ℕ)
      → (meaning two (plain e p) X (abbreviation φ) t ≡ true) ↔ Says e p P φ t
  meaning_agrees X P h True t = (λ e. tt, λ u. refl)
  meaning_agrees X P h (Proposition m) t = (λ f. f, λ f. f)
  meaning_agrees X P h (Not i) t = not_agrees (X i t) (h i t)
  meaning_agrees X P h (Or i j) t = or_agrees (X i t) (X j t) (h i t) (h j t)
  meaning_agrees X P h (Since i j lower upper) t = since_agrees (X i) (X j) (P i) (P j) (h i) (h j) lower upper t
  meaning_agrees X P h (Until i j lower upper) t = until_agrees (X i) (X j) (P i) (P j) (h i) (h j) lower upper t
  meaning_agrees X P h (And i j) t = and_agrees (X i t) (X j t) (h i t) (h j t)
  meaning_agrees X P h (Implies i j) t = implies_agrees (X i t) (X j t) (h i t) (h j t)
  meaning_agrees X P h (Once i lower upper) t = once_agrees (X i) (P i) (h i) lower upper t
  meaning_agrees X P h (Historically i lower upper) t = historically_agrees (X i) (P i) (h i) lower upper t
  meaning_agrees X P h (Eventually i lower upper) t = eventually_agrees (X i) (P i) (h i) lower upper t
  meaning_agrees X P h (Always i lower upper) t = always_agrees (X i) (P i) (h i) lower upper t

  deep_agrees : (line : ℕ → Formula) (d i t : ℕ) → (deep two (plain e p) line d i t ≡ true) ↔ HoldsDeep e p line d i t
  unfolding deep
  deep_agrees line zero i t = (λ f. true≢false (sym f), λ f. absurd f)
  deep_agrees line (suc d) i t = meaning_agrees _ _ (deep_agrees line d) (line i) t

  -- the Boolean reading is true exactly when the proposition holds
  pub textbook : (line : ℕ → Formula) (k t : ℕ) → (reading two (plain e p) line k t ≡ true) ↔ Holds e p line k t
  unfolding reading
  textbook line k t = deep_agrees line (suc k) k t
