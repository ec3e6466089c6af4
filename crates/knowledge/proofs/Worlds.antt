-- What the knowledge tells: more knowledge tells more, and what is told is so in every trace that agrees.
use Rattle.std.specs.Prelude.{ℕ, suc, ◌+◌, ◌≤◌, ◌<◌, ◌≡◌, refl, Bool, true, false, cond}
use Rattle.std.proofs.Common.{arith, sym, ap, ◌∙◌, ltb-true}
use Rattle.kleene.specs.Truth.{unknown, false3, true3, ◌⊑◌, less, same}
use Rattle.mtl.specs.Knowing.{Knows, TrueTo, Settles, open3, is_true, is_false as is_no}
use Rattle.knowledge.specs.Knowledge.{none, says, Knowledge, noted, valued, fact, number, Sound, Agrees, Equal, Apart, Level, Full, KnownPoint, KnownNone, is_point, is_none, world}
use Rattle.knowledge.specs.Trace.{Trace, made, time_point, trace_world}
use Rattle.mtl.proofs.Folds.{some_below, none_below}
use Rattle.decide.proofs.Laws.{is_false, itself}
use Rattle.policy.specs.declared.Sizes.{Sizes}
use Rattle.knowledge.specs.Runs.{Within}
use Rattle.knowledge.proofs.Runs.{not_both, across_more}
use Rattle.knowledge.proofs.Laws.{point_law, none_law}
use Rattle.knowledge.proofs.Counts.{tally_count}

module _ (z : Sizes) where
  -- k' has all that k has
  pub record More (k k' : Knowledge) : Type 0 where
    pub numbers : (c p : ℕ) → c < z.components → p ≤ z.minutes → number z k c p < none → number z k' c p ≡ number z k c p
    pub facts : (i t : ℕ) → t < z.minutes → noted k i t ≡ true → (noted k' i t ≡ true) × (valued k' i t ≡ valued k i t)

  more_run : (k k' : Knowledge) → More k k' → (c : ℕ) → c < z.components → Within (number z k c) (number z k' c) (suc z.minutes)
  more_run k k' f c l i h n = sym (f.numbers c i l (omega arith) n)

  more_none : (k k' : Knowledge) → More k k' → (t : ℕ) → KnownNone z k t → KnownNone z k' t
  more_none k k' f t q c l = across_more Equal (number z k c) (number z k' c) z.minutes t (more_run k k' f c l) (q c l)

  pub point_more : (k k' : Knowledge) → More k k' → (t : ℕ) → is_point z k t ≡ true → is_point z k' t ≡ true
  point_more k k' f t e =
      let b = (point_law z k t).0 e in
      (point_law z k' t).1 (record {
        component = b.component;
        is_component = b.is_component;
        full_run = across_more Apart (number z k b.component) (number z k' b.component) z.minutes t (more_run k k' f b.component b.is_component) b.full_run;
      })

  -- the world of more knowledge knows more
  pub world_more : (k k' : Knowledge) → Sound z k' → More k k' → Knows (world z k) (world z k')
  world_more k k' clean f = record {
    time_point = λ t e. points t (ltb-true _ _ e) (is_point z k t) refl (is_none z k t) refl;
    proposition = λ i t e. factual i t (ltb-true _ _ e) (noted k i t) refl;
    window = λ t e. e;
    dark = refl;
  }
    where
      points : (t : ℕ) → t < z.minutes → (p : Bool) → is_point z k t ≡ p → (q : Bool) → is_none z k t ≡ q
          → says p q ⊑ says (is_point z k' t) (is_none z k' t)
      points t h true e q g = rw (point_more k k' f t e) same
      points t h false e true g =
          let quiet : KnownNone z k' t = more_none k k' f t ((none_law z k t).0 g) in
          let no_point : is_point z k' t ≡ false = is_false (itself (is_point z k' t)) (λ b.
          let r = (point_law z k' t).0 b in
          not_both (number z k' r.component) z.minutes t (clean.runs r.component r.is_component) r.full_run (quiet r.component r.is_component)) in
          rw (no_point, (none_law z k' t).1 quiet) same
      points t h false e false g = less

      factual : (i t : ℕ) → t < z.minutes → (b : Bool) → noted k i t ≡ b → cond b (cond (valued k i t) true3 false3) unknown ⊑ fact k' i t
      factual i t h true e = rw ((f.facts i t h e).0, (f.facts i t h e).1) same
      factual i t h false e = less

  -- ---- against a trace

  module _ (w : Trace z) (k : Knowledge) (g : Agrees z w k) where
    seen : (c t : ℕ) (b : Bool) → w.observes c t ≡ b → made z w c (suc t) ≡ cond b 1 0 + made z w c t
    seen c t b e = ap (λ (x : Bool). cond x 1 0 + made z w c t) e

    module _ (c : ℕ) (in_policy : c < z.components) (t : ℕ) where
      -- a component observes in a minute where its run is full, and does not where it is level
      full_so : Full (number z k c) z.minutes t → w.observes c t ≡ true
      full_so v = go (w.observes c t) refl
        where
          go : (x : Bool) → w.observes c t ≡ x → w.observes c t ≡ true
          go true e = e
          go false e = absurd (omega (
            arith,
            seen c t false e,
            v.related,
            g.numbers c v.early in_policy (omega (arith, v.early_before, v.late_after, v.late_in)) v.early_known,
            g.numbers c v.late in_policy v.late_in v.late_known,
            (tally_count (w.observes c)).near t v.early,
            (tally_count (w.observes c)).near v.late (suc t),
            v.early_before,
            v.late_after,
          ))

      level_so : Level (number z k c) z.minutes t → w.observes c t ≡ false
      level_so v = go (w.observes c t) refl
        where
          go : (x : Bool) → w.observes c t ≡ x → w.observes c t ≡ false
          go false e = e
          go true e = absurd (omega (
            arith,
            seen c t true e,
            v.related,
            g.numbers c v.early in_policy (omega (arith, v.early_before, v.late_after, v.late_in)) v.early_known,
            g.numbers c v.late in_policy v.late_in v.late_known,
            (tally_count (w.observes c)).near v.early t,
            (tally_count (w.observes c)).near (suc t) v.late,
            v.early_before,
            v.late_after,
          ))

    pub point_so : (t : ℕ) → KnownPoint z k t → time_point z w t ≡ true
    point_so t b = some_below z.components (λ c. w.observes c t) b.component b.is_component (full_so b.component b.is_component t b.full_run)

    pub none_so : (t : ℕ) → KnownNone z k t → time_point z w t ≡ false
    none_so t q = none_below z.components (λ c. w.observes c t) (λ c l. level_so c l t (q c l))

    -- what the knowledge tells is so
    pub world_so : ((i t : ℕ) → t < z.minutes → noted k i t ≡ true → i < z.propositions) → TrueTo (world z k) (trace_world z w)
    world_so marked = record {
      time_point = λ t e. points t (ltb-true _ _ e) (is_point z k t) refl (is_none z k t) refl;
      proposition = λ i t e. factual i t (ltb-true _ _ e) (noted k i t) refl (valued k i t) refl;
      window = λ t. refl;
      dark = refl;
    }
      where
        points : (t : ℕ) → t < z.minutes → (p : Bool) → is_point z k t ≡ p → (q : Bool) → is_none z k t ≡ q → Settles (says p q) (time_point z w t)
        points t h true e q f = rw (point_so t ((point_law z k t).0 e)) is_true
        points t h false e true f = rw (none_so t ((none_law z k t).0 f)) is_no
        points t h false e false f = open3

        factual : (i t : ℕ) → t < z.minutes → (b : Bool) → noted k i t ≡ b → (v : Bool) → valued k i t ≡ v → Settles (cond b (cond v true3 false3) unknown) (w.value i t)
        factual i t h true e true f = rw (g.facts i t (marked i t h e) h e ∙ f) is_true
        factual i t h true e false f = rw (g.facts i t (marked i t h e) h e ∙ f) is_no
        factual i t h false e v f = open3
