-- The test `admits` is true exactly when some trace agrees with the knowledge and with what the message fixes: a trace of the stored
-- knowledge is one of both, and a trace of both overwrites nothing and keeps the stored knowledge sound.
use Rattle.std.specs.Prelude.{ℕ, ◌≤◌, ◌<◌, ◌≡◌, refl, Bool, ◌⊎◌, ◌↔◌}
use Rattle.std.proofs.Common.{arith, sym, ap, ◌∙◌, inl, inr}
use Rattle.std.proofs.Math.Bool.{true}
use Rattle.knowledge.specs.Knowledge.{none, Knowledge, Sized, noted, valued, number, Sound, Agrees, sound, stored, free, admits}
use Rattle.knowledge.specs.Trace.{Trace, made, Admits}
use Rattle.logic.proofs.Bools.{both, pair}
use Rattle.policy.specs.declared.Sizes.{Sizes}
use Rattle.message.specs.Fixes.{FixesNumber, FixesFact, Fits}
use Rattle.message.specs.declared.Message.{Message}
use Rattle.knowledge.specs.Laws.{Limits}
use Rattle.knowledge.proofs.Laws.{Free, free_law, sound_law}
use Rattle.knowledge.specs.Store.{Fact}
use Rattle.knowledge.proofs.Store.{NumberCases, number_either, number_hit, fact_hit, facts_after, numbers_after, fixed_place, fixed_fact, stored_sound}
use Rattle.knowledge.proofs.Counts.{tally_count}
use Rattle.knowledge.proofs.Witness.{agreed}

module _ (z : Sizes) (proper : Limits z) (k : Knowledge) (m : Message) (long : Sized z k) (fits : Fits z m) (clean : Sound z k) where
  -- a trace of the stored knowledge is one of the knowledge that admits the message
  pub of_stored : Free z k m.component m.event → (w : Trace z) → Agrees z w (stored z k m) → Agrees z w k × Admits z w m
  of_stored free w g = (record { numbers = numbers; facts = facts }, record { numbers = fixed; facts = named })
    where
      wide : (i : ℕ) → i < z.propositions → i < 32
      wide i h = omega (arith, proper.propositions_most)

      numbers : (c p : ℕ) → c < z.components → p ≤ z.minutes → number z k c p < none → made z w c p ≡ number z k c p
      numbers c p l h n =
          let e : number z (stored z k m) c p ≡ number z k c p = (numbers_after z k m long fits clean free c p (number z k c p) h n).1 (inl refl) in
          g.numbers c p l h (rw e n) ∙ e

      facts : (i t : ℕ) → i < z.propositions → t < z.minutes → noted k i t ≡ true → w.value i t ≡ valued k i t
      facts i t l h e =
          let f = (facts_after z k m long fits clean free i t (valued k i t) (wide i l)).1 (inl (record { is = e; so = refl })) in
          g.facts i t l h f.is ∙ f.so

      fixed : (p n : ℕ) → FixesNumber m.event p n → made z w m.component p ≡ n
      fixed p n f =
          let e : number z (stored z k m) m.component p ≡ n = number_hit z k m long fits p n f in
          g.numbers m.component p fits.component_in (fixed_place z m.event fits.event_in p n f) (rw e (free.small p n f)) ∙ e

      named : (i t : ℕ) (b : Bool) → FixesFact m.event i t b → w.value i t ≡ b
      named i t b f =
          let r = fixed_fact z m.event fits.event_in i t b f in
          let y = fact_hit z k m long fits clean free i t b (wide i r.0) f in
          g.facts i t r.0 r.1 y.is ∙ y.so

  -- a trace of both: nothing is overwritten
  module _ (w : Trace z) (g : Agrees z w k) (a : Admits z w m) where
    free_of : Free z k m.component m.event
    free_of = record {
      small = λ p n f. omega (arith, a.numbers p n f, (tally_count (w.observes m.component)).near p 0, fixed_place z m.event fits.event_in p n f, proper.minutes_most);
      numbers = λ p n f l. sym (g.numbers m.component p fits.component_in (fixed_place z m.event fits.event_in p n f) l) ∙ a.numbers p n f;
      facts = λ i t b l f e. let r = fixed_fact z m.event fits.event_in i t b f in sym (g.facts i t r.0 r.1 e) ∙ a.facts i t b f;
    }

    -- and it agrees with the stored knowledge, which is sound
    to_stored : Agrees z w (stored z k m)
    to_stored = record { numbers = numbers; facts = facts }
      where
        numbers : (c p : ℕ) → c < z.components → p ≤ z.minutes → number z (stored z k m) c p < none → made z w c p ≡ number z (stored z k m) c p
        numbers c p l h n = go ((numbers_after z k m long fits clean free_of c p (number z (stored z k m) c p) h n).0 refl)
          where
            go : (number z k c p ≡ number z (stored z k m) c p) ⊎ ((m.component ≡ c) × FixesNumber m.event p (number z (stored z k m) c p))
                → made z w c p ≡ number z (stored z k m) c p
            go (inl e) = g.numbers c p l h (rw e n) ∙ e
            go (inr y) = ap (λ (x : ℕ). made z w x p) (sym y.0) ∙ a.numbers p _ y.1

        facts : (i t : ℕ) → i < z.propositions → t < z.minutes → noted (stored z k m) i t ≡ true → w.value i t ≡ valued (stored z k m) i t
        facts i t l h e = go ((facts_after z k m long fits clean free_of i t (valued (stored z k m) i t) (omega (arith, proper.propositions_most))).0 (record { is = e; so = refl }))
          where
            go : Fact k i t (valued (stored z k m) i t) ⊎ FixesFact m.event i t (valued (stored z k m) i t) → w.value i t ≡ valued (stored z k m) i t
            go (inl y) = g.facts i t l h y.is ∙ y.so
            go (inr y) = a.facts i t _ y

    sound_of : Sound z (stored z k m)
    sound_of = stored_sound z k m long fits clean free_of (λ c l. record {
      first = first c l (number_either z k m long fits c 0 (omega arith));
      pairs = λ q b p h x y.
          omega (arith, to_stored.numbers c p l (omega arith) x, to_stored.numbers c q l (omega arith) y, (tally_count (w.observes c)).near p q, (tally_count (w.observes c)).near q p);
    })
      where
        first : (c : ℕ) → c < z.components → NumberCases z k m c 0 → number z (stored z k m) c 0 ≡ 0
        first c l (inr e) = e ∙ (clean.runs c l).first
        first c l (inl y) =
            ap (λ (x : ℕ). number z (stored z k m) x 0) (sym y.1) ∙ number_hit z k m long fits 0 y.0 y.2 ∙ sym (a.numbers 0 y.0 y.2)

  -- a message admits with the knowledge exactly when a trace agrees with both
  pub admits_law : (admits z k m ≡ true) ↔ ((w : Trace z) × Agrees z w k × Admits z w m)
  unfolding admits
  admits_law = (there, back)
    where
      there : admits z k m ≡ true → (w : Trace z) × Agrees z w k × Admits z w m
      there e =
          let h = both (free z k m) (sound z (stored z k m)) e in
          let w = agreed z (stored z k m) ((sound_law z (stored z k m)).0 h.1) in
          let r = of_stored ((free_law z k m).0 h.0) w.0 w.1 in
          (w.0, r.0, r.1)

      back : (w : Trace z) × Agrees z w k × Admits z w m → admits z k m ≡ true
      back r = pair ((free_law z k m).1 (free_of r.0 r.1 r.2)) ((sound_law z (stored z k m)).1 (sound_of r.0 r.1 r.2))
