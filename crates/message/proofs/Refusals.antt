-- The writer refuses each number for its own cause: its tests say what 01 says of the numbers. Assumes nothing.
use Rattle.std.specs.Prelude.{ℕ, ◌^◌, ◌≤◌, ◌<◌, ◌≡◌, Bool, false, ◌⊎◌, ◌↔◌, List, ltb, leb, eqb, Ok}
use Rattle.std.proofs.Common.{arith, sym, subst}
use Rattle.std.proofs.Math.Path.{refl}
use Rattle.std.proofs.Math.Bool.{true, cond}
use Rattle.std.proofs.Math.Logic.{inl, inr}
use borrow.Author.Tests.{ltb-true, lt-ltb, leb-true, leb-false, le-leb, lt-leb, eqb-true, eq-eqb}
use Rattle.std.proofs.Math.ListN.{length}
use Rattle.logic.proofs.Bools.{both, pair}
use Rattle.bits.proofs.Masks.{bits_below, or_among}
use Rattle.refusal.specs.declared.Refusal.{Refusal}
use Rattle.refusal.specs.declared.Refusal.TheVariants.{BadMessage, ShortBuffer}
use Rattle.refusal.specs.Numbers.{refusal_number}
use Rattle.refusal.specs.Checks.{Check, first_failed, Passed, none, pass, Refuses, here, there, RefusedWith, reply}
use Rattle.refusal.proofs.Laws.{number_law, passing_law, refused_where}
use Rattle.refusal.proofs.Writes.{alike, told, kept_rest, unwritten}
use Rattle.policy.specs.declared.Sizes.{Sizes}
use Rattle.policy.specs.Format.{policy_checks, policy_of}
use Rattle.policy.specs.Format.{answer_of as policy_answer}
use Rattle.policy.proofs.Ranges.{fails, denies}
use Rattle.policy.proofs.Answered.{policy_refuses}
use Rattle.policy.proofs.CheckedFirst.{both_passed, once_accepted, by_policy}
use Rattle.message.specs.declared.MessageNumbers.{MessageNumbers}
use Rattle.message.specs.Text.{Observes, Lives, InRange, text_of, alive_good, observation_good, numbers_good, writing_checks, encode_checks, encode_of}
use Rattle.message.specs.Written.{EncodeCauses}

-- ---- what the tests say

module _ (z : Sizes) (n : MessageNumbers) where
  observes : observation_good z n ≡ true → Observes z n
  observes e =
      let minute = both (ltb n.minute z.minutes) _ e in
      let number = both (leb 1 n.number) _ minute.1 in
      let named = both (ltb n.named (2 ^ z.propositions)) _ number.1 in
      record {
        minute_in = ltb-true _ _ minute.0;
        counted = leb-true _ _ number.0;
        named_in = (bits_below z.propositions n.named).0 (ltb-true _ _ named.0);
        values_in = (or_among n.named n.values).0 (eqb-true _ _ named.1);
      }

  observed : Observes z n → observation_good z n ≡ true
  observed o =
      pair (lt-ltb _ _ o.minute_in)
      (pair (le-leb _ _ o.counted)
      (pair (lt-ltb _ _ ((bits_below z.propositions n.named).1 o.named_in)) (eq-eqb _ _ ((or_among n.named n.values).1 o.values_in))))

  lives : alive_good z n ≡ true → Lives z n
  lives e =
      let minute = both (leb n.minute z.minutes) _ e in
      let named = both (eqb n.named 0) _ minute.1 in
      record { minute_in = leb-true _ _ minute.0; no_names = eqb-true _ _ named.0; no_values = eqb-true _ _ named.1 }

  lived : Lives z n → alive_good z n ≡ true
  lived l = pair (le-leb _ _ l.minute_in) (pair (eq-eqb _ _ l.no_names) (eq-eqb _ _ l.no_values))

  pub numbers_law : (numbers_good z n ≡ true) ↔ InRange z n
  unfolding numbers_good
  numbers_law = (good, passes)
    where
      good : numbers_good z n ≡ true → InRange z n
      good e =
          let component = both (ltb n.component z.components) _ e in
          let number = both (leb n.number 65535) _ component.1 in
          record {
            component_in = ltb-true _ _ component.0;
            number_in = omega (arith, leb-true n.number 65535 number.0);
            observation = λ a. observes (subst (λ (b : Bool). cond b (alive_good z n) (observation_good z n) ≡ true) a number.1);
            alive = λ a. lives (subst (λ (b : Bool). cond b (alive_good z n) (observation_good z n) ≡ true) a number.1);
          }

      kind : InRange z n → (b : Bool) → n.alive ≡ b → cond b (alive_good z n) (observation_good z n) ≡ true
      kind r true e = lived (r.alive e)
      kind r false e = observed (r.observation e)

      passes : InRange z n → numbers_good z n ≡ true
      passes r = pair (lt-ltb _ _ r.component_in) (pair (le-leb n.number 65535 (omega (arith, r.number_in))) (kind r n.alive refl))

-- ---- the causes

module _ (s : List ℕ) (n : MessageNumbers) (out : List ℕ) where
  abbrev z : Sizes
  z = (policy_of s).sizes

  abbrev first : List Check
  first = policy_checks s

  abbrev later : List Check
  later = writing_checks (policy_of s).sizes n (length out)

  abbrev cs : List Check
  cs = encode_checks s n (length out)

  -- what the answer's number and place say, of the checks
  by_number : (k at : ℕ) → RefusedWith (reply (encode_of s n out).answer) k at ↔ RefusedWith (first_failed cs) k at
  unfolding encode_of
  by_number k at = alike (text_of n) out (first_failed cs) k at

  -- the later checks answer 8 and 11 only
  later_numbers : (r : Refusal) → Refuses later r → (refusal_number r ≡ 8) ⊎ (refusal_number r ≡ 11)
  unfolding writing_checks
  later_numbers r (here a) = inl refl
  later_numbers r (there a (here b)) = inr refl
  later_numbers r (there a (there b q)) = elim q [ ]

  high : (r : Refusal) → Refuses later r → 4 < refusal_number r
  high r q = go (later_numbers r q)
    where
      go : (refusal_number r ≡ 8) ⊎ (refusal_number r ≡ 11) → 4 < refusal_number r
      go (inl e) = omega arith
      go (inr e) = omega arith

  bad_told : Refuses later BadMessage → InRange z n → ⊥
  unfolding writing_checks
  bad_told (here a) = denies _ (numbers_law z n) a
  bad_told (there a (there b q)) = elim q [ ]

  short_told : Refuses later ShortBuffer → InRange z n × (length out < length (text_of n))
  unfolding writing_checks
  short_told (there a (there _ x12)) = elim x12 [ ]
  short_told (there a (here b)) = ((numbers_law z n).0 a, leb-false _ _ b)

  no_other : (r : Refusal) → Refuses cs r → ((1 ≤ refusal_number r) × (refusal_number r ≤ 4)) ⊎ ((refusal_number r ≡ 8) ⊎ (refusal_number r ≡ 11))
  unfolding encode_checks
  no_other r q = go (refused_where first later r q)
    where
      go : Refuses first r ⊎ (Passed first × Refuses later r) → ((1 ≤ refusal_number r) × (refusal_number r ≤ 4)) ⊎ ((refusal_number r ≡ 8) ⊎ (refusal_number r ≡ 11))
      go (inl f) = inl (policy_refuses s r f)
      go (inr f) = inr (later_numbers r f.1)

  passed : Passed cs ↔ ((policy_answer s ≡ Ok tt) × InRange z n × (length (text_of n) ≤ length out))
  unfolding encode_checks writing_checks
  passed = (λ q. let p = (both_passed s later).0 q in told_by p.0 p.1, λ q. (both_passed s later).1 (q.0, passes q.1 q.2))
    where
      told_by : policy_answer s ≡ Ok tt → Passed later → (policy_answer s ≡ Ok tt) × InRange z n × (length (text_of n) ≤ length out)
      told_by a (pass b (pass c none)) = (a, (numbers_law z n).0 b, leb-true _ _ c)

      passes : InRange z n → length (text_of n) ≤ length out → Passed later
      passes r l = pass ((numbers_law z n).1 r) (pass (le-leb _ _ l) none)

  pub causes : EncodeCauses s n out (encode_of s n out)
  unfolding encode_checks writing_checks encode_of
  causes = record {
    policy = λ k at h. (λ w. (by_policy s later high k at h).0 ((by_number k at).0 w), λ w. (by_number k at).1 ((by_policy s later high k at h).1 w));
    eight = λ at. (
      λ w. let q = (number_law cs 8 at).0 ((by_number 8 at).0 w) in
          let f = (once_accepted s later BadMessage (omega arith)).0 q.0 in
          (sym q.2, f.0, bad_told f.1),
      λ q. rw q.0 ((by_number 8 0).1 ((number_law cs 8 0).1
          ((once_accepted s later BadMessage (omega arith)).1 (q.1, here (fails _ (numbers_law z n) q.2)), refl, refl))),
    );
    eleven = λ at. (
      λ w. let q = (number_law cs 11 at).0 ((by_number 11 at).0 w) in
          let f = (once_accepted s later ShortBuffer (omega arith)).0 q.0 in
          let t = short_told f.1 in
          (sym q.2, f.0, t.0, t.1),
      λ q. rw q.0 ((by_number 11 0).1 ((number_law cs 11 0).1 (
        (once_accepted s later ShortBuffer (omega arith)).1 (q.1, there ((numbers_law z n).1 q.2) (here (lt-leb _ _ q.3))),
        refl,
        refl,
      ))),
    );
    no_other = λ k at w. let q = (number_law cs k at).0 ((by_number k at).0 w) in rw (sym q.1) (no_other _ q.0);
    done = λ k. (
      λ e. let t = (told (text_of n) out (first_failed cs) k).0 e in let q = passed.0 ((passing_law cs).0 t.0) in (q.0, q.1, q.2, t.1),
      λ q. (told (text_of n) out (first_failed cs) k).1 ((passing_law cs).1 (passed.1 (q.0, q.1, q.2)), q.3),
    );
    text = λ k e. kept_rest (text_of n) out (first_failed cs) k e;
    unwritten = λ r e. unwritten (text_of n) out (first_failed cs) r e;
  }
