-- A message goes with sound knowledge exactly when its facts agree and each number that it fixes may be stored in its component's run.
-- Assumes nothing.
use Prim.Native.Nat.{ℕ, suc, ◌+◌, ◌-◌, ◌*◌, ◌≤◌, ◌<◌}
use native.Mathlib.Omega.{arith}
use native.Mathlib.Decide.{ℕ_discrete}
use mathlib.Core.Path.{◌≡◌, refl, sym, ap, subst, ◌∙◌}
use mathlib.Core.Bool.{Bool, true, false, ◌&&◌}
use mathlib.Core.Logic.{inl, inr}
use lib.ListN.{get_or}
use Rattle.logic.proofs.Bools.{pair}
use Rattle.decide.specs.Decide.{Decides}
use Rattle.decide.proofs.Laws.{agree, same, both}
use Rattle.policy.specs.declared.Sizes.{Sizes}
use Rattle.message.specs.declared.Event.TheVariants.{Observation, Alive}
use Rattle.message.specs.Fixes.{FixesNumber, Fits}
use Rattle.message.specs.declared.Message.{Message}
use Rattle.knowledge.specs.Knowledge.{Steady, steady, free_place, words_agree, Knowledge, number, Sound, sound, Sized, stored, free, admits}
use Rattle.knowledge.proofs.Laws.{Free, free_law, sound_law}
use Rattle.knowledge.proofs.Store.{NumberCases, number_hit, number_either, stored_sound}
use Rattle.knowledge.specs.Run.{sent, put, may, may_observe}
use Rattle.knowledge.proofs.Runs.{steady_decides, steady_less}
use Rattle.counter_runs.proofs.Putting.{at_place, other}
use Rattle.knowledge_store.proofs.Pair.{together, to_one, to_next}

module _ (z : Sizes) (k : Knowledge) (m : Message) (long : Sized z k) (fits : Fits z m) (clean : Sound z k) where
  abbrev after : Knowledge
  after = stored z k m

  -- another component's run
  still : (s p : ℕ) → (m.component ≡ s → ⊥) → p ≤ z.minutes → number z after s p ≡ number z k s p
  still s p n h = go (number_either z k m long fits s p h)
    where
      go : NumberCases z k m s p → number z after s p ≡ number z k s p
      go (inl y) = absurd (n y.1)
      go (inr y) = y

  -- a place of the component's run that the message does not fix
  pub kept : (p : ℕ) → p ≤ z.minutes → ((v : ℕ) → FixesNumber m.event p v → ⊥) → number z after m.component p ≡ number z k m.component p
  kept p h n = go (number_either z k m long fits m.component p h)
    where
      go : NumberCases z k m m.component p → number z after m.component p ≡ number z k m.component p
      go (inl y) = absurd (n y.0 y.2)
      go (inr y) = y

  sound_run : Free z k m.component m.event → Steady (number z after m.component) (suc z.minutes) → Sound z after
  sound_run lax S = stored_sound z k m long fits clean lax (λ s l. go s l (ℕ_discrete m.component s))
    where
      go : (s : ℕ) → s < z.components → Dec (m.component ≡ s) → Steady (number z after s) (suc z.minutes)
      go s l (yes e) = subst (λ (x : ℕ). Steady (number z after x) (suc z.minutes)) e S
      go s l (no n) =
          let R = clean.runs s l in
          steady_less (number z after s) (number z k s) (suc z.minutes) (still s 0 n (omega arith) ∙ R.first) (λ i h k. still s i n (omega arith)) R

  -- with nothing overwritten, soundness is that of the component's run, which is g
  pub sound_as : Free z k m.component m.event → (g : ℕ → ℕ) → ((i : ℕ) → i ≤ z.minutes → number z after m.component i ≡ g i)
      → Decides (sound z after) (Steady g (suc z.minutes))
  sound_as lax g e = record {
    sound = λ s. let S = ((sound_law z after).0 s).runs m.component fits.component_in in steady_less g (number z after m.component) (suc z.minutes) (sym (e 0 (omega arith)) ∙ S.first) (λ i h k. sym (e i (omega arith))) S;
    whole = λ S. (sound_law z after).1 (sound_run lax (steady_less (number z after m.component) g (suc z.minutes) (e 0 (omega arith) ∙ S.first) (λ i h k. e i (omega arith)) S));
  }

and_same : (a s t : Bool) → (a ≡ true → s ≡ t) → (a && s) ≡ (a && t)
and_same true s t h = h refl
and_same false s t h = refl

regroup : (f g w s x y : Bool) → (f ≡ true → g ≡ true → w ≡ true → s ≡ (x && y)) → ((f && (g && w)) && s) ≡ (w && ((f && x) && (g && y)))
regroup true true true s x y h = h refl refl refl
regroup true true false s x y h = refl
regroup true false true s true y h = refl
regroup true false true s false y h = refl
regroup true false false s x y h = refl
regroup false g true s x y h = refl
regroup false g false s x y h = refl

module _ (z : Sizes) (k : Knowledge) (long : Sized z k) (clean : Sound z k) (c : ℕ) where
  abbrev run : ℕ → ℕ
  run = number z k c

  pub admits_alive : (t n : ℕ) → Fits z (sent c (Alive t n)) → admits z k (sent c (Alive t n)) ≡ may run (suc z.minutes) t n
  unfolding admits free may
  admits_alive t n fits = and_same (free z k m) (sound z (stored z k m)) (steady (put run t n) (suc z.minutes)) (λ f. agree (sound_as z k m long fits clean ((free_law z k m).0 f) (put run t n) as_put) (steady_decides (put run t n) (suc z.minutes)))
    where
      m : Message
      m = sent c (Alive t n)

      as_put : (i : ℕ) → i ≤ z.minutes → number z (stored z k m) c i ≡ put run t n i
      as_put i h = go (ℕ_discrete i t)
        where
          go : Dec (i ≡ t) → number z (stored z k m) c i ≡ put run t n i
          go (yes e) = number_hit z k m long fits i n (e, refl) ∙ sym (ap (put run t n) e ∙ at_place run t n)
          go (no e) = kept z k m long fits clean i h (λ v f. e f.0) ∙ sym (other run t n i e)

  pub admits_observation : (t n named values : ℕ) → Fits z (sent c (Observation t n named values))
      → admits z k (sent c (Observation t n named values))
      ≡ (words_agree (get_or k.facts (2 * t) 0) (get_or k.facts (2 * t + 1) 0) named values
      && may_observe run (suc z.minutes) t n)
  unfolding admits free may
  admits_observation t n named values fits =
      regroup (free_place run (suc t) n) (free_place run t (n - 1)) (words_agree (get_or k.facts (2 * t) 0) (get_or k.facts (2 * t + 1) 0) named values)
      (sound z (stored z k m)) (steady (put run (suc t) n) last) (steady (put run t (n - 1)) last)
      (λ f g w.
      let lax = (free_law z k m).0 (pair f (pair g w)) in
      agree
      (sound_as z k m long fits clean lax both_put as_put)
      (same
      (λ (S : Steady (put run (suc t) n) last × Steady (put run t (n - 1)) last). together run last t (n - 1) n one_apart S.1 S.0)
      (λ S. (
        to_next run last t (n - 1) n one_apart (clean.runs c fits.component_in).first (lax.numbers t (n - 1) (inr (refl, refl))) S,
        to_one run last t (n - 1) n one_apart (lax.numbers (suc t) n (inl (refl, refl))) S,
      ))
      (both (steady_decides (put run (suc t) n) last) (steady_decides (put run t (n - 1)) last))))
    where
      m : Message
      m = sent c (Observation t n named values)

      last : ℕ
      last = suc z.minutes

      one_apart : n ≡ suc (n - 1)
      one_apart = omega (arith, fits.event_in.1)

      both_put : ℕ → ℕ
      both_put = put (put run (suc t) n) t (n - 1)

      as_put : (i : ℕ) → i ≤ z.minutes → number z (stored z k m) c i ≡ both_put i
      as_put i h = go (ℕ_discrete i t) (ℕ_discrete i (suc t))
        where
          go : Dec (i ≡ t) → Dec (i ≡ suc t) → number z (stored z k m) c i ≡ both_put i
          go (yes e) d = number_hit z k m long fits i (n - 1) (inr (e, refl)) ∙ sym (ap both_put e ∙ at_place (put run (suc t) n) t (n - 1))
          go (no x) (yes e) =
              number_hit z k m long fits i n (inl (e, refl))
              ∙ sym (other (put run (suc t) n) t (n - 1) i x ∙ ap (put run (suc t) n) e ∙ at_place run (suc t) n)
          go (no x) (no y) =
              kept z k m long fits clean i h (λ v f. neither x y v f)
              ∙ sym (other (put run (suc t) n) t (n - 1) i x ∙ other run (suc t) n i y)
            where
              neither : (i ≡ t → ⊥) → (i ≡ suc t → ⊥) → (v : ℕ) → FixesNumber (Observation t n named values) i v → ⊥
              neither x y v (inl f) = y f.0
              neither x y v (inr f) = x f.0
