-- Laws of the definitions in specs/Exact. Assumes nothing.
use Rattle.std.specs.Prelude.{ℕ, ◌<◌, ◌≡◌, refl, Bool, true, false, not, cond}
use Rattle.std.proofs.Common.{sym, ap, ap₂, ◌∙◌, true≢false, arith, lt-ltb}
use Rattle.std.proofs.lemmas.Bool.{false≢true}
use Rattle.kleene.specs.Truth.{unknown, true3, false3, code_of}
use Rattle.mtl.proofs.Folds.{some_below, below_some}
use Rattle.decide.proofs.Laws.{fails}
use Rattle.policy.specs.declared.Sizes.{Sizes}
use Rattle.knowledge.specs.Trace.{Trace, time_point}
use Rattle.knowledge.specs.Knowledge.{Level, Full, level, full, says, Knowledge, number, Sound, Agrees, KnownPoint, KnownNone, is_point, is_none}
use Rattle.knowledge.proofs.Runs.{level_decides, full_decides}
use Rattle.knowledge.specs.Counts.{counted, Through, largest, raised, flattened}
use Rattle.knowledge.proofs.Counts.{largest_through, raised_through, raised_at, flattened_through, flattened_at}
use Rattle.knowledge.proofs.Laws.{point_law, none_law}
use Rattle.knowledge.proofs.Witness.{trace_of, trace_agrees, agreed}
use Rattle.knowledge.proofs.Worlds.{point_so, none_so}
use Rattle.knowledge.specs.Exact.{ExactPoints, InAll, InSome}

-- one of two counts
chosen : (P : (ℕ → ℕ) → Type 0) (b : Bool) (g h : ℕ → ℕ) → P g → (b ≡ false → P h) → P (cond b g h)
chosen P true g h x y = x
chosen P false g h x y = y refl

differ : (b : Bool) → not b ≡ b → ⊥
differ true e = false≢true e
differ false e = true≢false e

-- what is read where p says busy and q quiet
says_true : (p q : Bool) → says p q ≡ true3 → p ≡ true
says_true true q e = refl
says_true false true e = absurd (omega (arith, ap code_of e))
says_true false false e = absurd (omega (arith, ap code_of e))

says_false : (p q : Bool) → says p q ≡ false3 → q ≡ true
says_false p true e = refl
says_false true false e = absurd (omega (arith, ap code_of e))
says_false false false e = absurd (omega (arith, ap code_of e))

says_open : (p q : Bool) → says p q ≡ unknown → (p ≡ false) × (q ≡ false)
says_open false false e = (refl, refl)
says_open true q e = absurd (omega (arith, ap code_of e))
says_open false true e = absurd (omega (arith, ap code_of e))

module _ (z : Sizes) (k : Knowledge) (sound : Sound z k) (t : ℕ) (inside : t < z.minutes) where
  abbrev run : ℕ → ℕ → ℕ
  run c = number z k c

  -- ---- the trace of each component's largest count where b says so of the component, and of its count g elsewhere

  module _ (b : ℕ → Bool) (g : ℕ → ℕ → ℕ) where
    abbrev choice : Trace z
    choice = trace_of z k (λ c. cond (b c) (largest (run c) z.minutes) (g c))

    choice_agrees : ((c : ℕ) → c < z.components → b c ≡ false → Through (run c) z.minutes (g c)) → Agrees z choice k
    choice_agrees h = trace_agrees z k _ (λ c l. chosen (Through (run c) z.minutes) (b c) _ _
        (largest_through (run c) z.minutes (sound.runs c l)) (h c l))

    -- where g does not do in minute t what the trace does, it was not chosen
    choice_at : (x : Bool) (c : ℕ) → (b c ≡ false → counted (g c) t ≡ not x) → choice.observes c t ≡ x → b c ≡ true
    choice_at x c h o = go (b c) h (rw (lt-ltb t z.minutes inside) at o)
      where
        go : (v : Bool) → (v ≡ false → counted (g c) t ≡ not x) → counted (cond v (largest (run c) z.minutes) (g c)) t ≡ x → v ≡ true
        go true i e = refl
        go false i e = absurd (differ x (sym (i refl) ∙ e))

  -- the trace that observes in minute t only what the numbers ask for, and the one that observes there all that they leave room for
  abbrev full_at : ℕ → Bool
  full_at c = full (run c) z.minutes t

  abbrev level_at : ℕ → Bool
  level_at c = level (run c) z.minutes t

  abbrev fewer : ℕ → ℕ → ℕ
  fewer c = flattened (run c) z.minutes t

  abbrev more : ℕ → ℕ → ℕ
  more c = raised (run c) z.minutes t

  abbrev fewest : Trace z
  fewest = choice full_at fewer

  abbrev most : Trace z
  most = choice level_at more

  not_full : (c : ℕ) → full_at c ≡ false → Full (run c) z.minutes t → ⊥
  not_full c = fails (full_decides (run c) z.minutes t)

  not_level : (c : ℕ) → level_at c ≡ false → Level (run c) z.minutes t → ⊥
  not_level c = fails (level_decides (run c) z.minutes t)

  fewest_agrees : Agrees z fewest k
  fewest_agrees = choice_agrees full_at fewer (λ c l e. flattened_through (run c) z.minutes (sound.runs c l) t (not_full c e))

  most_agrees : Agrees z most k
  most_agrees = choice_agrees level_at more (λ c l e. raised_through (run c) z.minutes (sound.runs c l) t (not_level c e))

  -- a minute that is busy in the first is known to be, and one that is quiet in the second
  fewest_busy : time_point z fewest t ≡ true → KnownPoint z k t
  fewest_busy e =
      let r = below_some z.components (λ c. fewest.observes c t) e in
      record {
        component = r.0;
        is_component = r.1;
        full_run =
            (full_decides (run r.0) z.minutes t).sound
            (choice_at full_at fewer true r.0 (λ _. flattened_at (run r.0) z.minutes (sound.runs r.0 r.1) t) r.2);
      }

  most_quiet : time_point z most t ≡ false → KnownNone z k t
  most_quiet e c l = go (most.observes c t) refl
    where
      go : (b : Bool) → most.observes c t ≡ b → Level (run c) z.minutes t
      go true o = absurd (true≢false (sym (some_below z.components (λ c. most.observes c t) c l o) ∙ e))
      go false o =
          (level_decides (run c) z.minutes t).sound
          (choice_at level_at more false c (λ f. raised_at (run c) z.minutes (sound.runs c l) t (not_level c f)) o)

  -- ---- the statement

  busy_in_all : is_point z k t ≡ true → InAll z k t true
  busy_in_all e w g = point_so z w k g t ((point_law z k t).0 e)

  quiet_in_all : is_none z k t ≡ true → InAll z k t false
  quiet_in_all e w g = none_so z w k g t ((none_law z k t).0 e)

  some_quiet : is_point z k t ≡ false → InSome z k t false
  some_quiet e = go (time_point z fewest t) refl
    where
      go : (b : Bool) → time_point z fewest t ≡ b → InSome z k t false
      go false o = (fewest, fewest_agrees, o)
      go true o = absurd (false≢true (sym e ∙ (point_law z k t).1 (fewest_busy o)))

  some_busy : is_none z k t ≡ false → InSome z k t true
  some_busy e = go (time_point z most t) refl
    where
      go : (b : Bool) → time_point z most t ≡ b → InSome z k t true
      go true o = (most, most_agrees, o)
      go false o = absurd (false≢true (sym e ∙ (none_law z k t).1 (most_quiet o)))

  not_all : (b : Bool) → InAll z k t b → InSome z k t (not b) → ⊥
  not_all b h r = differ b (sym r.2 ∙ h r.0 r.1)

  -- busy and quiet are decided by what all traces say
  is_busy : InAll z k t true → is_point z k t ≡ true
  is_busy h = (point_law z k t).1 (fewest_busy (h fewest fewest_agrees))

  is_quiet : InAll z k t false → is_none z k t ≡ true
  is_quiet h = (none_law z k t).1 (most_quiet (h most most_agrees))

  not_busy : InSome z k t false → is_point z k t ≡ false
  not_busy r = go (is_point z k t) refl
    where
      go : (b : Bool) → is_point z k t ≡ b → is_point z k t ≡ false
      go false e = e
      go true e = absurd (not_all true (busy_in_all e) r)

  not_quiet : InSome z k t true → is_none z k t ≡ false
  not_quiet r = go (is_none z k t) refl
    where
      go : (b : Bool) → is_none z k t ≡ b → is_none z k t ≡ false
      go false e = e
      go true e = absurd (not_all false (quiet_in_all e) r)

  pub exact_points : ExactPoints z k t
  exact_points = record {
    busy = (λ b w g. point_so z w k g t b, λ h. fewest_busy (h fewest fewest_agrees));
    quiet = (λ q w g. none_so z w k g t q, λ h. most_quiet (h most most_agrees));
    read_busy = (λ e. busy_in_all (says_true (is_point z k t) (is_none z k t) e), λ h. ap (λ (p : Bool). says p (is_none z k t)) (is_busy h));
    read_quiet = (
      λ e. quiet_in_all (says_false (is_point z k t) (is_none z k t) e),
      λ h. let w = agreed z k sound in ap₂ says (not_busy (w.0, w.1, h w.0 w.1)) (is_quiet h),
    );
    open_minute = (
      λ e. let r = says_open _ _ e in (some_busy r.1, some_quiet r.0),
      λ r. ap₂ says (not_busy r.1) (not_quiet r.0),
    );
  }
