-- What holds after any takes: the knowledge is what the opening and the accepted messages fix, and the sheets are the reading over it.
use Rattle.std.specs.Prelude.{ℕ, ◌+◌, ◌*◌, ◌≤◌, ◌<◌, ◌≡◌, refl, Bool, true, false, cond, ◌⊎◌, List, get_or, length, set, eqb}
use Rattle.std.proofs.Common.{arith, sym, ap, ◌∙◌, true≢false, inl, inr, get_or-set_same, get_or-set_other}
use Rattle.std.proofs.Math.Decide.{dec_lt, ℕ_discrete}
use Rattle.std.proofs.Math.ListN.{length-replicate}
use Rattle.std.proofs.Math.Seq.{set_out}
use Rattle.std.specs.Int.Bits.{bit_or}
use Rattle.std.proofs.lemmas.Nat.{or_lt}
use Rattle.logic.proofs.Bools.{both}
use Rattle.policy.specs.declared.Policy.{Policy}
use Rattle.policy.specs.Proper.{Proper}
use Rattle.message.specs.declared.Event.{Event}
use Rattle.message.specs.declared.Event.TheVariants.{Observation, Alive}
use Rattle.message.specs.Fixes.{FixesNumber, FixesFact, Fits, FitsEvent}
use Rattle.message.specs.declared.Message.{Message}
use Rattle.knowledge.specs.Knowledge.{Knowledge, none, number, Sound, sound, fresh, put_facts, stored, free, admits, Sized as Long}
use Rattle.knowledge.proofs.Laws.{Free, free_law, sound_law}
use Rattle.knowledge.specs.Store.{Fact}
use Rattle.knowledge.proofs.Store.{fact_law, store_long, number_either, number_hit, facts_after, numbers_after}
use Rattle.valuation.specs.Sheets.{valuation_of, verdicts_of}
use Rattle.origin.specs.Origin.{Origin}
use Rattle.monitor.specs.State.{State, Sized, opened, over}
use Rattle.monitor.proofs.Laws.{knowledge_sized, over_sized, fresh_number, fresh_known, fresh_first, fresh_facts, fresh_noted, fresh_sound, blank_sheet, lengths}
use Rattle.monitor.specs.Demands.{Exact}

module _ (c : Policy) (o : Origin) where
  pub record KeptUp (x : State) (Q : Message → Type 0) : Type 0 where
    pub sized : Sized c x
    pub origin : x.origin ≡ o
    pub exact : Exact c.sizes x.known Q
    pub fits : (m : Message) → Q m → Fits c.sizes m
    pub small : (m : Message) → Q m → (p n : ℕ) → FixesNumber m.event p n → n < none
    pub valuation : x.valuation ≡ valuation_of c x.known
    pub verdicts : x.verdicts ≡ verdicts_of c x.known

  -- the same of messages that are the same
  pub relabel : {x : State} {Q R : Message → Type 0} → ((m : Message) → Q m → R m) → ((m : Message) → R m → Q m) → KeptUp x Q → KeptUp x R
  relabel {x} {Q} {R} f g z = record {
    sized = z.sized;
    origin = z.origin;
    exact = exact;
    fits = λ m r. z.fits m (g m r);
    small = λ m r. z.small m (g m r);
    valuation = z.valuation;
    verdicts = z.verdicts;
  }
    where
      old : Exact c.sizes x.known Q
      old = z.exact

      exact : Exact c.sizes x.known R
      exact = record {
        numbers = λ s p n l h b. (λ e. there s p n ((old.numbers s p n l h b).0 e), λ y. (old.numbers s p n l h b).1 (back s p n y));
        facts = λ i t b l h. (λ e. let y = (old.facts i t b l h).0 e in (y.0, f y.0 y.1, y.2), λ y. (old.facts i t b l h).1 (y.0, g y.0 y.1, y.2));
        unknown_number = old.unknown_number;
        words = old.words;
        sound = old.sound;
      }
        where
          there : (s p n : ℕ) → ((p ≡ 0) × (n ≡ 0)) ⊎ ((m : Message) × Q m × (m.component ≡ s) × FixesNumber m.event p n)
              → ((p ≡ 0) × (n ≡ 0)) ⊎ ((m : Message) × R m × (m.component ≡ s) × FixesNumber m.event p n)
          there s p n (inl y) = inl y
          there s p n (inr y) = inr (y.0, f y.0 y.1, y.2, y.3)

          back : (s p n : ℕ) → ((p ≡ 0) × (n ≡ 0)) ⊎ ((m : Message) × R m × (m.component ≡ s) × FixesNumber m.event p n)
              → ((p ≡ 0) × (n ≡ 0)) ⊎ ((m : Message) × Q m × (m.component ≡ s) × FixesNumber m.event p n)
          back s p n (inl y) = inl y
          back s p n (inr y) = inr (y.0, g y.0 y.1, y.2, y.3)

  -- ---- the opening

  fresh_exact : Exact c.sizes (fresh c.sizes) (λ m. ⊥)
  fresh_exact = record {
    numbers = λ s p n l h b. (λ e. inl (fresh_known c s p n l h b e), back s p n l);
    facts = λ i t b l h. (λ e. absurd (true≢false (sym ((fact_law (fresh c.sizes) i t b).0 e).is ∙ fresh_noted c i t)), λ y. absurd y.1);
    unknown_number = cap;
    words = λ i. rw (fresh_facts c i) (omega arith);
    sound = fresh_sound c;
  }
    where
      back : (s p n : ℕ) → s < c.sizes.components → ((p ≡ 0) × (n ≡ 0)) ⊎ ((m : Message) × ⊥ × (m.component ≡ s) × FixesNumber m.event p n) → number c.sizes (fresh c.sizes) s p ≡ n
      back s p n l (inl y) = rw (y.0, y.1) (fresh_first c s l)
      back s p n l (inr y) = absurd y.1

      cap : (s p : ℕ) → s < c.sizes.components → p ≤ c.sizes.minutes → number c.sizes (fresh c.sizes) s p ≤ none
      cap s p l h = rw (fresh_number c s p l h) (go (eqb p 0))
        where
          go : (b : Bool) → cond b 0 none ≤ none
          go true = omega arith
          go false = omega arith

  pub opened_up : length o.bytes ≡ 517 → KeptUp (opened c o) (λ m. ⊥)
  unfolding opened
  opened_up l = record {
    sized = record {
      sheets = record { numbers = (lengths c).0; facts = (lengths c).1; valuation = (lengths c).2; verdicts = length-replicate {A = ℕ} (c.rules * c.sizes.minutes) 0 };
      origin = l;
    };
    origin = refl;
    exact = fresh_exact;
    fits = λ m q. absurd q;
    small = λ m q. absurd q;
    valuation = refl;
    verdicts = blank_sheet c;
  }

  -- ---- an accepted message

  set_word : (l : List ℕ) (i a : ℕ) → ((j : ℕ) → get_or l j 0 < 4294967296) → a < 4294967296 → (j : ℕ) → get_or (set l i a) j 0 < 4294967296
  set_word l i a f h j = go (ℕ_discrete j i) (dec_lt i (length l))
    where
      go : Dec (j ≡ i) → Dec (i < length l) → get_or (set l i a) j 0 < 4294967296
      go (no n) d = rw (get_or-set_other l i j a 0 n) (f j)
      go (yes e) (yes d) = rw (e, get_or-set_same l i a 0 d) h
      go (yes e) (no d) = rw (set_out l i a (omega arith)) (f j)

  facts_word : (l : List ℕ) (x : Event) → FitsEvent c.sizes x → ((j : ℕ) → get_or l j 0 < 4294967296) → (j : ℕ) → get_or (put_facts c.sizes l x) j 0 < 4294967296
  facts_word l (Alive t n) z f j = f j
  facts_word l (Observation t n named values) z f j =
      set_word (set l (2 * t) (bit_or (get_or l (2 * t) 0) named)) (2 * t + 1) (bit_or (get_or l (2 * t + 1) 0) values)
      (set_word l (2 * t) (bit_or (get_or l (2 * t) 0) named) f (or_lt 32 (get_or l (2 * t) 0) named (f (2 * t)) z.2))
      (or_lt 32 (get_or l (2 * t + 1) 0) values (f (2 * t + 1)) z.3) j

  module _ (proper : Proper c) (x : State) (Q : Message → Type 0) (up : KeptUp x Q) (m : Message) (fit : Fits c.sizes m) (ok : admits c.sizes x.known m ≡ true) where
    abbrev k : Knowledge
    k = x.known

    abbrev Q' : Message → Type 0
    Q' y = Q y ⊎ (y ≡ m)

    long : Long c.sizes k
    long = knowledge_sized c up.sized.sheets

    lax : Free c.sizes k m.component m.event
    unfolding admits
    lax = (free_law c.sizes k m).0 (both (free c.sizes k m) (sound c.sizes (stored c.sizes k m)) ok).0

    clean : Sound c.sizes k
    clean = up.exact.sound

    next_sound : Sound c.sizes (stored c.sizes k m)
    unfolding admits
    next_sound = (sound_law c.sizes (stored c.sizes k m)).0 (both (free c.sizes k m) (sound c.sizes (stored c.sizes k m)) ok).1

    next_words : (i : ℕ) → get_or (stored c.sizes k m).facts i 0 < 4294967296
    unfolding stored
    next_words = facts_word k.facts m.event fit.event_in up.exact.words

    next_exact : Exact c.sizes (stored c.sizes k m) Q'
    next_exact = record {
      numbers = λ s p n l h b. (λ e. told s p n l h b ((numbers_after c.sizes k m long fit clean lax s p n h b).0 e), λ y. (numbers_after c.sizes k m long fit clean lax s p n h b).1 (back s p n l h b y));
      facts = λ i t b l h. let w : i < 32 = omega (arith, proper.propositions.high) in (
        λ e. noticed i t b l h ((facts_after c.sizes k m long fit clean lax i t b w).0 ((fact_law (stored c.sizes k m) i t b).0 e)),
        λ y. (fact_law (stored c.sizes k m) i t b).1 ((facts_after c.sizes k m long fit clean lax i t b w).1 (kept i t b l h y.0 y.1 y.2)),
      );
      unknown_number = λ s p l h. cap s p l h (number_either c.sizes k m long fit s p h);
      words = next_words;
      sound = next_sound;
    }
      where
        told : (s p n : ℕ) → s < c.sizes.components → p ≤ c.sizes.minutes → n < none → (number c.sizes k s p ≡ n) ⊎ ((m.component ≡ s) × FixesNumber m.event p n)
            → ((p ≡ 0) × (n ≡ 0)) ⊎ ((y : Message) × Q' y × (y.component ≡ s) × FixesNumber y.event p n)
        told s p n l h b (inr z) = inr (m, inr refl, z.0, z.1)
        told s p n l h b (inl e) = go ((up.exact.numbers s p n l h b).0 e)
          where
            go : ((p ≡ 0) × (n ≡ 0)) ⊎ ((y : Message) × Q y × (y.component ≡ s) × FixesNumber y.event p n)
                → ((p ≡ 0) × (n ≡ 0)) ⊎ ((y : Message) × Q' y × (y.component ≡ s) × FixesNumber y.event p n)
            go (inl z) = inl z
            go (inr z) = inr (z.0, inl z.1, z.2, z.3)

        back : (s p n : ℕ) → s < c.sizes.components → p ≤ c.sizes.minutes → n < none → ((p ≡ 0) × (n ≡ 0)) ⊎ ((y : Message) × Q' y × (y.component ≡ s) × FixesNumber y.event p n)
            → (number c.sizes k s p ≡ n) ⊎ ((m.component ≡ s) × FixesNumber m.event p n)
        back s p n l h b (inl z) = inl ((up.exact.numbers s p n l h b).1 (inl z))
        back s p n l h b (inr z) = go z.0 z.1 z.2 z.3
          where
            go : (y : Message) → Q' y → y.component ≡ s → FixesNumber y.event p n → (number c.sizes k s p ≡ n) ⊎ ((m.component ≡ s) × FixesNumber m.event p n)
            go y (inl q) e f = inl ((up.exact.numbers s p n l h b).1 (inr (y, q, e, f)))
            go y (inr q) e f = inr (rw q at e, rw q at f)

        noticed : (i t : ℕ) (b : Bool) → i < c.sizes.propositions → t < c.sizes.minutes → Fact k i t b ⊎ FixesFact m.event i t b
            → (y : Message) × Q' y × FixesFact y.event i t b
        noticed i t b l h (inl z) = let y = (up.exact.facts i t b l h).0 ((fact_law k i t b).1 z) in (y.0, inl y.1, y.2)
        noticed i t b l h (inr z) = (m, inr refl, z)

        kept : (i t : ℕ) (b : Bool) → i < c.sizes.propositions → t < c.sizes.minutes → (y : Message) → Q' y → FixesFact y.event i t b → Fact k i t b ⊎ FixesFact m.event i t b
        kept i t b l h y (inl q) f = inl ((fact_law k i t b).0 ((up.exact.facts i t b l h).1 (y, q, f)))
        kept i t b l h y (inr q) f = inr (rw q at f)

        cap : (s p : ℕ) → s < c.sizes.components → p ≤ c.sizes.minutes → ((n : ℕ) × (m.component ≡ s) × FixesNumber m.event p n) ⊎ (number c.sizes (stored c.sizes k m) s p ≡ number c.sizes k s p) → number c.sizes (stored c.sizes k m) s p ≤ none
        cap s p l h (inl z) =
            omega (arith, lax.small p z.0 z.2, ap (λ (y : ℕ). number c.sizes (stored c.sizes k m) y p) (sym z.1) ∙ number_hit c.sizes k m long fit p z.0 z.2)
        cap s p l h (inr z) = rw z (up.exact.unknown_number s p l h)

    pub next_up : KeptUp (over c x.origin (stored c.sizes k m)) Q'
    next_up = record {
      sized = over_sized c x.origin (stored c.sizes k m) up.sized.origin (store_long c.sizes k m long fit);
      origin = up.origin;
      exact = next_exact;
      fits = fits;
      small = small;
      valuation = refl;
      verdicts = refl;
    }
      where
        fits : (y : Message) → Q' y → Fits c.sizes y
        fits y (inl q) = up.fits y q
        fits y (inr q) = rw q fit

        small : (y : Message) → Q' y → (p n : ℕ) → FixesNumber y.event p n → n < none
        small y (inl q) p n f = up.small y q p n f
        small y (inr q) p n f = lax.small p n (rw q at f)
