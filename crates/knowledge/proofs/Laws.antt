-- Laws of the definitions in specs/Laws. Assumes nothing.
use Rattle.std.specs.Prelude.{ℕ, suc, ◌-◌, ◌<◌, ◌≡◌, refl, Bool, true, ◌↔◌}
use Rattle.std.proofs.Common.{arith, ◌∙◌, inl, inr}
use Rattle.std.proofs.Math.Path.{sym, ap}
use Rattle.bits.specs.Bits.{bit}
use Rattle.decide.specs.Decide.{Decides}
use Rattle.decide.proofs.Laws.{same, itself, less, alike, both, implies, each, some}
use Rattle.policy.specs.declared.Sizes.{Sizes}
use Rattle.message.specs.declared.Event.{Event}
use Rattle.message.specs.declared.Event.TheVariants.{Observation, Alive}
use Rattle.message.specs.Fixes.{FixesNumber, FixesFact}
use Rattle.message.specs.declared.Message.{Message}
use Rattle.knowledge.specs.Knowledge.{none, word_sound, words_agree, Knowledge, noted, valued, number, Sound, KnownPoint, KnownNone, is_point, is_none, sound, free_event, free}
use Rattle.knowledge.proofs.Runs.{steady_decides, level_decides, full_decides, free_place_decides}

iff : {b : Bool} {P : Type 0} → Decides b P → (b ≡ true) ↔ P
iff d = (d.sound, d.whole)

-- the tests on a minute's two words
pub word_decides : (p known values : ℕ)
    → Decides (word_sound p known values) ((i : ℕ) → i < 32 → (bit values i ≡ true → bit known i ≡ true) × (bit known i ≡ true → i < p))
unfolding word_sound
word_decides p known values =
    each 32 _ _ (λ i. both (implies (itself (bit values i)) (itself (bit known i))) (implies (itself (bit known i)) (less i p)))

words_decide : (known old named values : ℕ)
    → Decides (words_agree known old named values) ((i : ℕ) → i < 32 → (bit named i ≡ true) × (bit known i ≡ true) → bit old i ≡ bit values i)
unfolding words_agree
words_decide known old named values =
    each 32 _ _ (λ i. implies (both (itself (bit named i)) (itself (bit known i))) (alike (bit old i) (bit values i)))

module _ (z : Sizes) where
  pub point_law : (k : Knowledge) (t : ℕ) → (is_point z k t ≡ true) ↔ KnownPoint z k t
  unfolding is_point
  point_law k t =
      iff
      (same
      (λ h. let u = h.under in record { component = h.at; is_component = omega arith; full_run = h.there })
      (λ h. let l = h.is_component in record { at = h.component; from = omega arith; under = omega arith; there = h.full_run })
      (some 0 z.components _ _ (λ c. full_decides (number z k c) z.minutes t)))

  pub none_law : (k : Knowledge) (t : ℕ) → (is_none z k t ≡ true) ↔ KnownNone z k t
  unfolding is_none
  none_law k t = iff (each z.components _ _ (λ c. level_decides (number z k c) z.minutes t))

  pub sound_law : (k : Knowledge) → (sound z k ≡ true) ↔ Sound z k
  unfolding sound noted valued
  sound_law k =
      iff
      (same
      (λ h. record { runs = h.0; values = λ i t l m. (h.1 t m i l).0; propositions = λ i t l m. (h.1 t m i l).1 })
      (λ h. (h.runs, λ t m i l. (h.values i t l m, h.propositions i t l m)))
      (both (each z.components _ _ (λ c. steady_decides (number z k c) (suc z.minutes)))
      (each z.minutes _ _ (λ t. word_decides z.propositions _ _))))

  -- nothing known is overwritten by another value
  pub record Free (k : Knowledge) (c : ℕ) (x : Event) : Type 0 where
    pub small : (p n : ℕ) → FixesNumber x p n → n < none
    pub numbers : (p n : ℕ) → FixesNumber x p n → number z k c p < none → number z k c p ≡ n
    pub facts : (i t : ℕ) (b : Bool) → i < 32 → FixesFact x i t b → noted k i t ≡ true → valued k i t ≡ b

  abbrev FreePlace : Knowledge → ℕ → ℕ → ℕ → Type 0
  FreePlace k c p v = (v < none) × (number z k c p < none → number z k c p ≡ v)

  free_decides : (k : Knowledge) (c : ℕ) (x : Event) → Decides (free_event z k c x) (Free k c x)
  unfolding noted valued
  free_decides k c (Alive t n) =
      same
      (λ h. record { small = λ p v f. rw f.1 h.0; numbers = λ p v f. rw (f.0, f.1) h.1; facts = λ i u b l f. absurd f })
      (λ h. (h.small t n (refl, refl), h.numbers t n (refl, refl)))
      (free_place_decides (number z k c) t n)
  free_decides k c (Observation t n named values) =
      same there
      (λ h. (
        (h.small (suc t) n (inl (refl, refl)), h.numbers (suc t) n (inl (refl, refl))),
        (
          (h.small t (n - 1) (inr (refl, refl)), h.numbers t (n - 1) (inr (refl, refl))),
          λ i l g. h.facts i t (bit values i) l (refl, g.0, refl) g.1,
        ),
      ))
      (both (free_place_decides (number z k c) (suc t) n) (both (free_place_decides (number z k c) t (n - 1)) (words_decide _ _ named values)))
    where
      there : FreePlace k c (suc t) n × (FreePlace k c t (n - 1) × ((i : ℕ) → i < 32 → (bit named i ≡ true) × (noted k i t ≡ true) → valued k i t ≡ bit values i))
          → Free k c (Observation t n named values)
      there h = record { small = small; numbers = numbers; facts = λ i u b l f e. ap (valued k i) f.0 ∙ h.1.1 i l (f.1, ap (noted k i) (sym f.0) ∙ e) ∙ sym f.2 }
        where
          small : (p v : ℕ) → FixesNumber (Observation t n named values) p v → v < none
          small p v (inl f) = rw f.1 h.0.0
          small p v (inr f) = rw f.1 h.1.0.0

          numbers : (p v : ℕ) → FixesNumber (Observation t n named values) p v → number z k c p < none → number z k c p ≡ v
          numbers p v (inl f) = rw (f.0, f.1) h.0.1
          numbers p v (inr f) = rw (f.0, f.1) h.1.0.1

  pub free_law : (k : Knowledge) (m : Message) → (free z k m ≡ true) ↔ Free k m.component m.event
  unfolding free
  free_law k m = iff (free_decides k m.component m.event)
