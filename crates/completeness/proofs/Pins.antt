-- Laws of the definitions in specs/Pins. Assumes nothing.
use Rattle.std.specs.Prelude.{ℕ, zero, suc, ◌<◌, ◌≡◌, refl, true, false, ◌⊎◌}
use Rattle.std.proofs.Common.{arith, sym, ◌∙◌, inl, inr}
use Rattle.std.proofs.lemmas.Bool.{false≢true}
use Rattle.bits.specs.Bits.{bit}
use Rattle.mtl.specs.declared.Formula.TheVariants.{True, Proposition, Until}
use Rattle.mtl.specs.Reading.{since, until, deep, reading}
use Rattle.policy.specs.Format.{rule_lines}
use Rattle.policy.specs.Proper.{formula_at}
use Rattle.knowledge.specs.Knowledge.{Knowledge, level, full, noted, valued, number, KnownPoint, KnownNone, is_point, is_none}
use Rattle.knowledge.proofs.Laws.{point_law, none_law}
use Rattle.reach.specs.Reach.{reach_deep, reach}
use Rattle.completeness.specs.Pins.{Pins, at_2, at_3, policy, sizes}

-- each of the four minutes
four : (P : ℕ → Type 0) → P 0 → P 1 → P 2 → P 3 → (t : ℕ) → t < 4 → P t
four P a b c d zero h = a
four P a b c d (suc zero) h = b
four P a b c d (suc (suc zero)) h = c
four P a b c d (suc (suc (suc zero))) h = d
four P a b c d (suc (suc (suc (suc t)))) h = absurd (omega arith)

-- the lines name mark 0 only
names_zero : (l i : ℕ) → l < 3 → formula_at policy l ≡ Proposition i → i ≡ 0
names_zero zero i h e = let q : True ≡ Proposition i = e in absurd (let z : ◌≡◌ {A = ℕ} 0 1 = cc in omega arith)
names_zero (suc zero) i h e = let q : Proposition 0 ≡ Proposition i = e in let z : 0 ≡ i = cc in sym z
names_zero (suc (suc zero)) i h e = let q : Until 0 1 0 1 ≡ Proposition i = e in absurd (let z : ◌≡◌ {A = ℕ} 0 1 = cc in omega arith)
names_zero (suc (suc (suc l))) i h e = absurd (omega arith)

-- a minute that is not known busy
not_busy : (k : Knowledge) (t : ℕ) {X : Type 0} → is_point sizes k t ≡ false → KnownPoint sizes k t → X
not_busy k t e b = absurd (false≢true (sym e ∙ (point_law sizes k t).1 b))

abbrev Known : Knowledge → ℕ → Type 0
Known k t = KnownPoint sizes k t ⊎ KnownNone sizes k t

busy : (k : Knowledge) (t : ℕ) → is_point sizes k t ≡ true → Known k t
busy k t e = inl ((point_law sizes k t).0 e)

quiet : (k : Knowledge) (t : ℕ) → is_none sizes k t ≡ true → Known k t
quiet k t e = inr ((none_law sizes k t).0 e)

pub pins : Pins
unfolding level full noted valued number is_point is_none bit since until deep reading reach_deep reach rule_lines
pins = record {
  reach_is = refl;
  complete_2 = record {
    minutes = four (Known at_2) (quiet at_2 0 refl) (quiet at_2 1 refl) (busy at_2 2 refl) (quiet at_2 3 refl);
    propositions = λ i t u n h b. rw (names_zero n.line i n.is_line n.names)
        (four (λ t. KnownPoint sizes at_2 t → noted at_2 0 t ≡ true) (not_busy at_2 0 refl) (not_busy at_2 1 refl) (λ b. refl) (not_busy at_2 3 refl) t h b);
  };
  stands = refl;
  complete_3 = record {
    minutes = four (Known at_3) (quiet at_3 0 refl) (quiet at_3 1 refl) (quiet at_3 2 refl) (busy at_3 3 refl);
    propositions = λ i t u n h b. rw (names_zero n.line i n.is_line n.names)
        (four (λ t. KnownPoint sizes at_3 t → noted at_3 0 t ≡ true) (not_busy at_3 0 refl) (not_busy at_3 1 refl) (not_busy at_3 2 refl) (λ b. refl) t h b);
  };
  blank = refl;
  open_minute = refl;
  unknown_mark = refl;
  not_named = λ n. let z = names_zero n.line 1 n.is_line n.names in omega arith;
  not_every = λ c. false≢true (c.propositions 1 2 (omega arith) tt (omega arith) ((point_law sizes at_2 2).0 refl));
}
