-- Laws of the definitions in specs/Store. Assumes nothing.
use Rattle.std.specs.Prelude.{ℕ, suc, ◌+◌, ◌-◌, ◌*◌, ◌≤◌, ◌<◌, ◌≡◌, refl, Bool, true, false, cond, ◌||◌, ◌⊎◌, ◌↔◌, List, get_or, length, set}
use Rattle.std.proofs.Common.{arith, sym, ◌∙◌, true≢false, inl, length-set, get_or-set_same, get_or-set_other}
use Rattle.std.proofs.Math.Decide.{ℕ_discrete}
use Rattle.std.proofs.Math.Path.{ap}
use Rattle.std.proofs.Math.Bool.{or-true, or-false, or_self}
use Rattle.std.proofs.Math.Logic.{inr}
use Rattle.std.specs.Int.Bits.{bit_or}
use Rattle.kleene.specs.Truth.{unknown, false3, true3}
use Rattle.knowledge.specs.Knowledge.{none, Steady, Knowledge, Sized, noted, valued, fact, number, Sound, put_numbers, put_facts, stored}
use Rattle.bits.specs.Bits.{bit}
use Rattle.bits.proofs.Bits.{bit-bit_or}
use Rattle.rows.proofs.Grid.{same_row, same_place, in_grid}
use Rattle.policy.specs.declared.Sizes.{Sizes}
use Rattle.message.specs.declared.Event.{Event}
use Rattle.message.specs.declared.Event.TheVariants.{Observation, Alive}
use Rattle.message.specs.Fixes.{FixesNumber, FixesFact, Fits, FitsEvent}
use Rattle.message.specs.declared.Message.{Message}
use Rattle.knowledge.proofs.Laws.{Free}
use Rattle.knowledge.specs.Store.{Fact, FactCases}

-- a list with two cells set
module _ (l : List ℕ) (i j a b d : ℕ) where
  first_set : (i ≡ j → ⊥) → i < length l → get_or (set (set l i a) j b) i d ≡ a
  first_set n h = get_or-set_other (set l i a) j i b d n ∙ get_or-set_same l i a d h

  second_set : j < length l → get_or (set (set l i a) j b) j d ≡ b
  second_set h = get_or-set_same (set l i a) j b d (rw (length-set l i a) h)

  neither_set : (x : ℕ) → (x ≡ i → ⊥) → (x ≡ j → ⊥) → get_or (set (set l i a) j b) x d ≡ get_or l x d
  neither_set x n o = get_or-set_other (set l i a) j x b d o ∙ get_or-set_other l i x a d n

-- what storing m makes of a number or a fact: it is one that the message fixes, or it is as it was
module _ (z : Sizes) (k : Knowledge) (m : Message) where
  abbrev pub NumberCases : ℕ → ℕ → Type 0
  NumberCases c p = ((n : ℕ) × (m.component ≡ c) × FixesNumber m.event p n) ⊎ (number z (stored z k m) c p ≡ number z k c p)

pub fact_law : (k : Knowledge) (i t : ℕ) (b : Bool) → (fact k i t ≡ cond b true3 false3) ↔ Fact k i t b
fact_law k i t b = (λ e. go (noted k i t) refl (valued k i t) refl b e, λ f. rw (f.is, f.so) refl)
  where
    go : (n : Bool) → noted k i t ≡ n → (v : Bool) → valued k i t ≡ v → (b : Bool) → cond n (cond v true3 false3) unknown ≡ cond b true3 false3 → Fact k i t b
    go true e true f true h = record { is = e; so = f }
    go true e false f false h = record { is = e; so = f }
    go true e true f false h = let z : ◌≡◌ {A = ℕ} 0 1 = cc in absurd (omega arith)
    go true e false f true h = let z : ◌≡◌ {A = ℕ} 0 1 = cc in absurd (omega arith)
    go false e v f true h = let z : ◌≡◌ {A = ℕ} 0 1 = cc in absurd (omega arith)
    go false e v f false h = let z : ◌≡◌ {A = ℕ} 0 1 = cc in absurd (omega arith)

module _ (z : Sizes) where
  put_hit : (l : List ℕ) → length l ≡ z.components * suc z.minutes → (c : ℕ) → c < z.components → (x : Event) → FitsEvent z x
      → (p n : ℕ) → FixesNumber x p n → get_or (put_numbers z l c x) (c * suc z.minutes + p) none ≡ n
  put_hit l e c h (Alive t n) f p v g =
      rw (g.0, g.1) (get_or-set_same l _ n none (omega (arith, in_grid z.components (suc z.minutes) c t h (omega arith))))
  put_hit l e c h (Observation t n named values) f p v (inl g) =
      rw (g.0, g.1) (first_set l (c * suc z.minutes + suc t) (c * suc z.minutes + t) n (n - 1) none (omega arith)
      (omega (arith, in_grid z.components (suc z.minutes) c (suc t) h (omega (arith, f.0)))))
  put_hit l e c h (Observation t n named values) f p v (inr g) =
      rw (g.0, g.1) (second_set l (c * suc z.minutes + suc t) (c * suc z.minutes + t) n (n - 1) none
      (omega (arith, in_grid z.components (suc z.minutes) c t h (omega (arith, f.0)))))

  -- a place that is not (c', q) keeps its number
  apart : (c p c' q : ℕ) → p ≤ z.minutes → q ≤ z.minutes → ((c' ≡ c) × (p ≡ q) → ⊥) → c * suc z.minutes + p ≡ c' * suc z.minutes + q → ⊥
  apart c p c' q h k n e =
      n (sym (same_row (suc z.minutes) c p c' q (omega arith) (omega arith) e), same_place (suc z.minutes) c p c' q (omega arith) (omega arith) e)

  put_either : (l : List ℕ) (c' : ℕ) (x : Event) → FitsEvent z x → (c p : ℕ) → p ≤ z.minutes
      → ((n : ℕ) × (c' ≡ c) × FixesNumber x p n) ⊎ (get_or (put_numbers z l c' x) (c * suc z.minutes + p) none ≡ get_or l (c * suc z.minutes + p) none)
  put_either l c' (Alive t n) f c p h = go (ℕ_discrete c' c) (ℕ_discrete p t)
    where
      go : Dec (c' ≡ c) → Dec (p ≡ t) → ((v : ℕ) × (c' ≡ c) × FixesNumber (Alive t n) p v) ⊎ (get_or (put_numbers z l c' (Alive t n)) (c * suc z.minutes + p) none ≡ get_or l (c * suc z.minutes + p) none)
      go (yes a) (yes b) = inl (n, a, (b, refl))
      go (no a) d = inr (get_or-set_other l _ _ n none (apart c p c' t h f (λ w. a w.0)))
      go (yes a) (no b) = inr (get_or-set_other l _ _ n none (apart c p c' t h f (λ w. b w.1)))
  put_either l c' (Observation t n named values) f c p h = go (ℕ_discrete c' c) (ℕ_discrete p (suc t)) (ℕ_discrete p t)
    where
      miss : ((c' ≡ c) × (p ≡ suc t) → ⊥) → ((c' ≡ c) × (p ≡ t) → ⊥)
          → get_or (put_numbers z l c' (Observation t n named values)) (c * suc z.minutes + p) none ≡ get_or l (c * suc z.minutes + p) none
      miss a b =
          neither_set l (c' * suc z.minutes + suc t) (c' * suc z.minutes + t) n (n - 1) none (c * suc z.minutes + p)
          (apart c p c' (suc t) h f.0 a) (apart c p c' t h (omega (arith, f.0)) b)

      go : Dec (c' ≡ c) → Dec (p ≡ suc t) → Dec (p ≡ t)
          → ((v : ℕ) × (c' ≡ c) × FixesNumber (Observation t n named values) p v) ⊎ (get_or (put_numbers z l c' (Observation t n named values)) (c * suc z.minutes + p) none ≡ get_or l (c * suc z.minutes + p) none)
      go (yes a) (yes b) d = inl (n, a, inl (b, refl))
      go (yes a) (no b) (yes d) = inl (n - 1, a, inr (d, refl))
      go (yes a) (no b) (no d) = inr (miss (λ w. b w.1) (λ w. d w.1))
      go (no a) b d = inr (miss (λ w. a w.0) (λ w. a w.0))

  put_length : (l : List ℕ) (c : ℕ) (x : Event) → length (put_numbers z l c x) ≡ length l
  put_length l c (Alive t n) = length-set l _ n
  put_length l c (Observation t n named values) = length-set (set l (c * suc z.minutes + suc t) n) _ (n - 1) ∙ length-set l _ n

  facts_length : (l : List ℕ) (x : Event) → length (put_facts z l x) ≡ length l
  facts_length l (Alive t n) = refl
  facts_length l (Observation t n named values) = length-set (set l (2 * t) (bit_or (get_or l (2 * t) 0) named)) _ _ ∙ length-set l _ _

  module _ (k : Knowledge) (m : Message) (long : Sized z k) (fits : Fits z m) where
    pub store_long : Sized z (stored z k m)
    unfolding stored
    store_long = record { numbers = put_length k.numbers m.component m.event ∙ long.numbers; facts = facts_length k.facts m.event ∙ long.facts }

    pub number_hit : (p n : ℕ) → FixesNumber m.event p n → number z (stored z k m) m.component p ≡ n
    unfolding stored number
    number_hit p n f = put_hit k.numbers long.numbers m.component fits.component_in m.event fits.event_in p n f

    pub number_either : (c p : ℕ) → p ≤ z.minutes → NumberCases z k m c p
    unfolding stored number
    number_either c p h = put_either k.numbers m.component m.event fits.event_in c p h

  -- the facts of the minute of an observation
  noted_at : (l : List ℕ) (cs cs' : List ℕ) (t n named values : ℕ) → 2 * t + 1 < length l → (i : ℕ)
      → noted (record { numbers = cs; facts = put_facts z l (Observation t n named values) }) i t ≡ (noted (record { numbers = cs'; facts = l }) i t || bit named i)
  unfolding noted
  noted_at l cs cs' t n named values h i =
      ap (λ (x : ℕ). bit x i) (first_set l (2 * t) (2 * t + 1) (bit_or (get_or l (2 * t) 0) named) (bit_or (get_or l (2 * t + 1) 0) values) 0 (omega arith) (omega arith)) ∙ bit-bit_or i _ named

  valued_at : (l : List ℕ) (cs cs' : List ℕ) (t n named values : ℕ) → 2 * t + 1 < length l → (i : ℕ)
      → valued (record { numbers = cs; facts = put_facts z l (Observation t n named values) }) i t ≡ (valued (record { numbers = cs'; facts = l }) i t || bit values i)
  unfolding valued
  valued_at l cs cs' t n named values h i =
      ap (λ (x : ℕ). bit x i) (second_set l (2 * t) (2 * t + 1) (bit_or (get_or l (2 * t) 0) named) (bit_or (get_or l (2 * t + 1) 0) values) 0 h) ∙ bit-bit_or i _ values

  noted_off : (l : List ℕ) (cs cs' : List ℕ) (t n named values : ℕ) (i u : ℕ) → (u ≡ t → ⊥)
      → noted (record { numbers = cs; facts = put_facts z l (Observation t n named values) }) i u ≡ noted (record { numbers = cs'; facts = l }) i u
  unfolding noted
  noted_off l cs cs' t n named values i u h =
      ap (λ (x : ℕ). bit x i) (neither_set l (2 * t) (2 * t + 1) (bit_or (get_or l (2 * t) 0) named) (bit_or (get_or l (2 * t + 1) 0) values) 0 (2 * u) (λ (e : 2 * u ≡ 2 * t). h (omega arith)) (omega arith))

  valued_off : (l : List ℕ) (cs cs' : List ℕ) (t n named values : ℕ) (i u : ℕ) → (u ≡ t → ⊥)
      → valued (record { numbers = cs; facts = put_facts z l (Observation t n named values) }) i u ≡ valued (record { numbers = cs'; facts = l }) i u
  unfolding valued
  valued_off l cs cs' t n named values i u h =
      ap (λ (x : ℕ). bit x i) (neither_set l (2 * t) (2 * t + 1) (bit_or (get_or l (2 * t) 0) named) (bit_or (get_or l (2 * t + 1) 0) values) 0 (2 * u + 1) (omega arith) (λ (e : 2 * u + 1 ≡ 2 * t + 1). h (omega arith)))

  -- a value bit only where the proposition is named
  unnamed : (named values : ℕ) → ((i : ℕ) → bit values i ≡ true → bit named i ≡ true) → (i : ℕ) → bit named i ≡ false → bit values i ≡ false
  unnamed named values h i e = go (bit values i) refl
    where
      go : (b : Bool) → bit values i ≡ b → bit values i ≡ false
      go true f = absurd (true≢false (sym (h i f) ∙ e))
      go false f = f

  -- where the value bit at hand, known or not, admits with the new one, the two together are the new one
  merged : (n v b : Bool) → (v ≡ true → n ≡ true) → (n ≡ true → v ≡ b) → (v || b) ≡ b
  merged true v b f g = ap (λ (x : Bool). x || b) (g refl) ∙ or_self b
  merged false true b f g = absurd (true≢false (sym (f refl)))
  merged false false b f g = refl

  module _ (k : Knowledge) (t n named values : ℕ) (fits : FitsEvent z (Observation t n named values)) (facts-long : length k.facts ≡ 2 * z.minutes)
      (clean : Sound z k) (c : ℕ) (free : Free z k c (Observation t n named values)) (cs : List ℕ) where
    abbrev next : Knowledge
    next = record { numbers = cs; facts = put_facts z k.facts (Observation t n named values) }

    named_there : (i : ℕ) → i < 32 → bit named i ≡ true → Fact next i t (bit values i)
    named_there i h e = record {
      is = noted_at k.facts cs k.numbers t n named values (omega (arith, fits.0)) i ∙ ap (λ (x : Bool). noted k i t || x) e ∙ or-true (noted k i t);
      so = valued_at k.facts cs k.numbers t n named values (omega (arith, fits.0)) i
          ∙ merged (noted k i t) (valued k i t) (bit values i) (clean.values i t h fits.0) (free.facts i t (bit values i) h (refl, e, refl));
    }

    still_noted : (i : ℕ) → bit named i ≡ false → noted next i t ≡ noted k i t
    still_noted i e = noted_at k.facts cs k.numbers t n named values (omega (arith, fits.0)) i ∙ ap (λ (x : Bool). noted k i t || x) e ∙ or-false (noted k i t)

    still_valued : (i : ℕ) → bit named i ≡ false → valued next i t ≡ valued k i t
    still_valued i e =
        valued_at k.facts cs k.numbers t n named values (omega (arith, fits.0)) i
        ∙ ap (λ (x : Bool). valued k i t || x) (unnamed named values fits.5 i e) ∙ or-false (valued k i t)

    -- each bit is as it was, or named
    bits_either : (i u : ℕ) → ((u ≡ t) × (bit named i ≡ true)) ⊎ ((noted next i u ≡ noted k i u) × (valued next i u ≡ valued k i u))
    bits_either i u = go (ℕ_discrete u t) (bit named i) refl
      where
        go : Dec (u ≡ t) → (b : Bool) → bit named i ≡ b → ((u ≡ t) × (bit named i ≡ true)) ⊎ ((noted next i u ≡ noted k i u) × (valued next i u ≡ valued k i u))
        go (no d) b e = inr (noted_off k.facts cs k.numbers t n named values i u d, valued_off k.facts cs k.numbers t n named values i u d)
        go (yes d) true e = inl (d, e)
        go (yes d) false e = inr (rw d (still_noted i e), rw d (still_valued i e))

  -- what a message in range fixes is in range
  pub fixed_place : (x : Event) → FitsEvent z x → (p n : ℕ) → FixesNumber x p n → p ≤ z.minutes
  fixed_place (Alive t n) f p v g = rw g.0 f
  fixed_place (Observation t n named values) f p v (inl g) = rw g.0 f.0
  fixed_place (Observation t n named values) f p v (inr g) = rw g.0 (omega (arith, f.0))

  pub fixed_fact : (x : Event) → FitsEvent z x → (i u : ℕ) (b : Bool) → FixesFact x i u b → (i < z.propositions) × (u < z.minutes)
  fixed_fact (Alive t n) f i u b g = absurd g
  fixed_fact (Observation t n named values) f i u b g = (f.4 i g.1, rw g.0 f.0)

  -- what is known after an observation or an alive is stored
  module _ (k : Knowledge) (m : Message) (long : Sized z k) (fits : Fits z m) (clean : Sound z k) (free : Free z k m.component m.event) where
    bit_cases : (x : Event) → FitsEvent z x → Free z k m.component x → (cs : List ℕ) → (i u : ℕ) → i < 32
        → FactCases x k (record { numbers = cs; facts = put_facts z k.facts x }) i u
    unfolding noted valued
    bit_cases (Alive t n) f g cs i u h = inr (refl, refl)
    bit_cases (Observation t n named values) f g cs i u h = go (bits_either k t n named values f long.facts clean m.component g cs i u)
      where
        after : Knowledge
        after = next k t n named values f long.facts clean m.component g cs

        go : ((u ≡ t) × (bit named i ≡ true)) ⊎ ((noted after i u ≡ noted k i u) × (valued after i u ≡ valued k i u)) → FactCases (Observation t n named values) k after i u
        go (inl w) = inl (bit values i, (w.0, w.1, refl), rw w.0 (named_there k t n named values f long.facts clean m.component g cs i h w.1))
        go (inr w) = inr w

    pub fact_cases : (i u : ℕ) → i < 32 → FactCases m.event k (stored z k m) i u
    unfolding stored
    fact_cases i u h = bit_cases m.event fits.event_in free (put_numbers z k.numbers m.component m.event) i u h

    event_hit : (x : Event) → FitsEvent z x → Free z k m.component x → (cs : List ℕ) → (i u : ℕ) (b : Bool) → i < 32
        → FixesFact x i u b → Fact (record { numbers = cs; facts = put_facts z k.facts x }) i u b
    event_hit (Alive t n) f g cs i u b h w = absurd w
    event_hit (Observation t n named values) f g cs i u b h w =
        rw (w.0, w.2) (named_there k t n named values f long.facts clean m.component g cs i h w.1)

    pub fact_hit : (i u : ℕ) (b : Bool) → i < 32 → FixesFact m.event i u b → Fact (stored z k m) i u b
    unfolding stored
    fact_hit i u b h w = event_hit m.event fits.event_in free (put_numbers z k.numbers m.component m.event) i u b h w

    -- a fact is known afterwards just where it was, or where the message fixes it
    pub facts_after : (i u : ℕ) (b : Bool) → i < 32 → Fact (stored z k m) i u b ↔ (Fact k i u b ⊎ FixesFact m.event i u b)
    facts_after i u b h = (λ w. there w (fact_cases i u h), back)
      where
        there : Fact (stored z k m) i u b → FactCases m.event k (stored z k m) i u → Fact k i u b ⊎ FixesFact m.event i u b
        there w (inl y) = let e : y.0 ≡ b = sym y.2.so ∙ w.so in inr (rw e at y.1)
        there w (inr y) = inl (record { is = sym y.0 ∙ w.is; so = sym y.1 ∙ w.so })

        keep : Fact k i u b → FactCases m.event k (stored z k m) i u → Fact (stored z k m) i u b
        keep w (inl y) = record { is = y.2.is; so = y.2.so ∙ sym (free.facts i u y.0 h y.1 w.is) ∙ w.so }
        keep w (inr y) = record { is = y.0 ∙ w.is; so = y.1 ∙ w.so }

        back : Fact k i u b ⊎ FixesFact m.event i u b → Fact (stored z k m) i u b
        back (inl w) = keep w (fact_cases i u h)
        back (inr w) = fact_hit i u b h w

    -- and so a number
    pub numbers_after : (c p n : ℕ) → p ≤ z.minutes → n < none
        → (number z (stored z k m) c p ≡ n) ↔ ((number z k c p ≡ n) ⊎ ((m.component ≡ c) × FixesNumber m.event p n))
    numbers_after c p n h l = (λ e. there e (number_either k m long fits c p h), back)
      where
        there : number z (stored z k m) c p ≡ n → NumberCases z k m c p → (number z k c p ≡ n) ⊎ ((m.component ≡ c) × FixesNumber m.event p n)
        there e (inl y) =
            let f : y.0 ≡ n = sym (number_hit k m long fits p y.0 y.2) ∙ ap (λ (x : ℕ). number z (stored z k m) x p) y.1 ∙ e in
            inr (y.1, rw f at y.2)
        there e (inr y) = inl (sym y ∙ e)

        keep : number z k c p ≡ n → NumberCases z k m c p → number z (stored z k m) c p ≡ n
        keep e (inl y) =
            ap (λ (x : ℕ). number z (stored z k m) x p) (sym y.1) ∙ number_hit k m long fits p y.0 y.2
            ∙ sym (free.numbers p y.0 y.2 (rw (y.1, e) l)) ∙ ap (λ (x : ℕ). number z k x p) y.1 ∙ e
        keep e (inr y) = y ∙ e

        back : (number z k c p ≡ n) ⊎ ((m.component ≡ c) × FixesNumber m.event p n) → number z (stored z k m) c p ≡ n
        back (inl e) = keep e (number_either k m long fits c p h)
        back (inr y) = ap (λ (x : ℕ). number z (stored z k m) x p) (sym y.0) ∙ number_hit k m long fits p n y.1

    -- the facts stay sound: the stored knowledge is sound if its runs are steady
    pub stored_sound : ((c : ℕ) → c < z.components → Steady (number z (stored z k m) c) (suc z.minutes)) → Sound z (stored z k m)
    stored_sound runs = record {
      runs = runs;
      values = λ i t l h e. values i t l h e (fact_cases i t l);
      propositions = λ i t l h e. propositions i t l h e (fact_cases i t l);
    }
      where
        values : (i t : ℕ) → i < 32 → t < z.minutes → valued (stored z k m) i t ≡ true → FactCases m.event k (stored z k m) i t
            → noted (stored z k m) i t ≡ true
        values i t l h e (inl w) = w.2.is
        values i t l h e (inr w) = w.0 ∙ clean.values i t l h (sym w.1 ∙ e)

        propositions : (i t : ℕ) → i < 32 → t < z.minutes → noted (stored z k m) i t ≡ true → FactCases m.event k (stored z k m) i t
            → i < z.propositions
        propositions i t l h e (inl w) = (fixed_fact m.event fits.event_in i t w.0 w.1).0
        propositions i t l h e (inr w) = clean.propositions i t l h (sym w.0 ∙ e)
