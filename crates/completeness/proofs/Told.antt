-- Laws of the definitions in specs/Told. Assumes nothing.
use Rattle.std.specs.Prelude.{ℕ, zero, suc, ◌+◌, ◌-◌, ◌≤◌, ◌<◌, ◌≡◌, refl, Bool, true, false, cond, ◌⊎◌}
use Rattle.std.proofs.Common.{arith, sym, ap, subst, ◌∙◌, true≢false, inl, inr}
use Rattle.bits.specs.Bits.{bit}
use Rattle.mtl.proofs.Folds.{below_some, some_below}
use Rattle.policy.specs.declared.Sizes.{Sizes}
use Rattle.message.specs.declared.Event.{Event}
use Rattle.message.specs.Fixes.{FixesNumber, FixesFact}
use Rattle.message.specs.declared.Message.{Message}
use Rattle.knowledge.specs.Trace.{Trace, made, time_point}
use Rattle.knowledge.specs.Knowledge.{Knowledge, none, noted, number, Sound, Level, Full, KnownPoint, KnownNone}
use Rattle.knowledge.proofs.Runs.{not_both}
use Rattle.completeness.specs.Complete.{Complete}
use Rattle.completeness.specs.Reports.{AllTold}
use Rattle.completeness.specs.Reports.{Report, Observed, Reports}
use Rattle.completeness.specs.Told.{Told}

module _ (z : Sizes) (P : ℕ → Type 0) (w : Trace z) (Q : Message → Type 0) (k : Knowledge) (sound : Sound z k) (told : Told z k Q) (all : Reports z P w Q) where
  -- the count at a place is known, and is the trace's
  abbrev Counts : ℕ → ℕ → Type 0
  Counts c p = (number z k c p < none) × (number z k c p ≡ made z w c p)

  -- what a report fixes
  counts : (c : ℕ) (r : Report z P w Q c) (p n : ℕ) → FixesNumber r.message.event p n → Counts c p
  counts c r p n f =
      let e = told.numbers r.message r.is_sent p n f in
      subst (λ (x : ℕ). Counts x p) r.of_component
      (omega (arith, e.0, e.1), e.1 ∙ sym (r.of_trace.numbers p n f))

  at_start : (c : ℕ) → c < z.components → Counts c 0
  at_start c l = let e = (sound.runs c l).first in (omega (arith, e), e)

  at_end : (c : ℕ) → c < z.components → Counts c z.minutes
  at_end c l =
      let a = all.alives c l in
      counts c a.report z.minutes a.number (subst (λ (x : Event). FixesNumber x z.minutes a.number) (sym a.is) (refl, refl))

  module _ (c : ℕ) (l : c < z.components) (t : ℕ) (h : t < z.minutes) (o : w.observes c t ≡ true) where
    abbrev it : Observed z P w Q c t
    it = all.observations c t l h o

    after_it : Counts c (suc t)
    after_it =
        counts c it.report (suc t) it.number
        (subst (λ (x : Event). FixesNumber x (suc t) it.number) (sym it.is) (inl (refl, refl)))

    before_it : Counts c t
    before_it =
        counts c it.report t (it.number - 1)
        (subst (λ (x : Event). FixesNumber x t (it.number - 1)) (sym it.is) (inr (refl, refl)))

    its_fact : (i : ℕ) → i < z.propositions → P i → noted k i t ≡ true
    its_fact i u p =
        told.facts it.report.message it.report.is_sent i t (bit it.values i) u
        (subst (λ (x : Event). FixesFact x i t (bit it.values i)) (sym it.is) (refl, it.names i u p, refl))

  -- ---- a busy minute

  one_more : (c t : ℕ) → w.observes c t ≡ true → made z w c (suc t) ≡ made z w c t + 1
  one_more c t e = let s : ◌≡◌ {A = ℕ} (cond (w.observes c t) 1 0) 1 = ap (λ (b : Bool). cond b 1 0) e in omega arith

  no_more : (c t : ℕ) → w.observes c t ≡ false → made z w c (suc t) ≡ made z w c t
  no_more c t e = let s : ◌≡◌ {A = ℕ} (cond (w.observes c t) 1 0) 0 = ap (λ (b : Bool). cond b 1 0) e in omega arith

  full : (c t : ℕ) → c < z.components → t < z.minutes → w.observes c t ≡ true → Full (number z k c) z.minutes t
  full c t l h o =
      let a = before_it c l t h o in
      let b = after_it c l t h o in
      record {
        early = t;
        late = suc t;
        early_before = omega arith;
        late_after = omega arith;
        late_in = omega arith;
        early_known = a.0;
        late_known = b.0;
        related = omega (arith, a.1, b.1, one_more c t o);
      }

  busy_known : (t : ℕ) → t < z.minutes → time_point z w t ≡ true → KnownPoint z k t
  busy_known t h e =
      let r = below_some z.components (λ c. w.observes c t) e in
      record { component = r.0; is_component = r.1; full_run = full r.0 t r.1 h r.2 }

  -- ---- a quiet minute: the nearest counts that are known before it and from it on

  pub record SameBefore (c t : ℕ) : Type 0 where
    pub place : ℕ
    pub before : place ≤ t
    pub counts : Counts c place
    pub same : made z w c place ≡ made z w c t

  back : (c : ℕ) → c < z.components → (t : ℕ) → t ≤ z.minutes → SameBefore c t
  back c l zero h = record { place = 0; before = omega arith; counts = at_start c l; same = refl }
  back c l (suc t) h = go (w.observes c t) refl (back c l t (omega arith))
    where
      go : (b : Bool) → w.observes c t ≡ b → SameBefore c t → SameBefore c (suc t)
      go true e s = record { place = suc t; before = omega arith; counts = after_it c l t (omega arith) e; same = refl }
      go false e s = record { place = s.place; before = omega (arith, s.before); counts = s.counts; same = s.same ∙ sym (no_more c t e) }

  pub record SameAfter (c t : ℕ) : Type 0 where
    pub place : ℕ
    pub after : t ≤ place
    pub inside : place ≤ z.minutes
    pub counts : Counts c place
    pub same : made z w c place ≡ made z w c t

  forth : (c : ℕ) → c < z.components → (n t : ℕ) → t + n ≡ z.minutes → SameAfter c t
  forth c l zero t e =
      let m : z.minutes ≡ t = omega arith in
      record { place = z.minutes; after = omega arith; inside = omega arith; counts = at_end c l; same = ap (λ (p : ℕ). made z w c p) m }
  forth c l (suc n) t e = go (w.observes c t) refl (forth c l n (suc t) (omega arith))
    where
      go : (b : Bool) → w.observes c t ≡ b → SameAfter c (suc t) → SameAfter c t
      go true o s = record { place = t; after = omega arith; inside = omega arith; counts = before_it c l t (omega arith) o; same = refl }
      go false o s = record { place = s.place; after = omega (arith, s.after); inside = s.inside; counts = s.counts; same = s.same ∙ no_more c t o }

  level : (c t : ℕ) → c < z.components → t < z.minutes → w.observes c t ≡ false → Level (number z k c) z.minutes t
  level c t l h o =
      let a = back c l t (omega arith) in
      let b = forth c l (z.minutes - suc t) (suc t) (omega arith) in
      record {
        early = a.place;
        late = b.place;
        early_before = a.before;
        late_after = omega (arith, b.after);
        late_in = b.inside;
        early_known = a.counts.0;
        late_known = b.counts.0;
        related = a.counts.1 ∙ a.same ∙ sym (no_more c t o) ∙ sym b.same ∙ sym b.counts.1;
      }

  quiet_known : (t : ℕ) → t < z.minutes → time_point z w t ≡ false → KnownNone z k t
  quiet_known t h e c l = go (w.observes c t) refl
    where
      go : (b : Bool) → w.observes c t ≡ b → Level (number z k c) z.minutes t
      go true o = absurd (true≢false (sym (some_below z.components (λ c. w.observes c t) c l o) ∙ e))
      go false o = level c t l h o

  -- ---- the premise

  complete : Complete z P k
  complete = record {
    minutes = λ t h. known t h (time_point z w t) refl;
    propositions = λ i t u p h b. facts i t u p h b (time_point z w t) refl;
  }
    where
      known : (t : ℕ) → t < z.minutes → (b : Bool) → time_point z w t ≡ b → KnownPoint z k t ⊎ KnownNone z k t
      known t h true e = inl (busy_known t h e)
      known t h false e = inr (quiet_known t h e)

      facts : (i t : ℕ) → i < z.propositions → P i → t < z.minutes → KnownPoint z k t → (b : Bool) → time_point z w t ≡ b → noted k i t ≡ true
      facts i t u p h b true e =
          let r = below_some z.components (λ c. w.observes c t) e in
          its_fact r.0 r.1 t h r.2 i u p
      facts i t u p h b false e =
          absurd (not_both (number z k b.component) z.minutes t (sound.runs b.component b.is_component) b.full_run
          (quiet_known t h e b.component b.is_component))

  pub all_told : AllTold z P w k
  all_told = record { complete = complete; busy = busy_known; quiet = quiet_known }
