-- Laws of the definitions in specs/Reported. Assumes nothing.
use Rattle.std.specs.Prelude.{ℕ, zero, suc, ◌≤◌, ◌<◌, ◌≡◌, refl, ◌⊎◌, eqb, Ok}
use Rattle.std.proofs.Common.{arith, sym, ap, subst, ◌∙◌, inl, inr, eqb-true, eq-eqb, ne_eqb}
use Rattle.std.proofs.Math.Decide.{ℕ_discrete}
use mathlib.Core.List.{List, [], ◌∷◌, Memᴰ}
use Rattle.bits.specs.Digits.{digit, below, expanded}
use Rattle.bits.specs.Bits.{bit}
use Rattle.bits.proofs.Bits.{bit_of_zero}
use Rattle.mtl.specs.Reading.{reading}
use Rattle.policy.specs.Format.{line_length, fields_at, keeps_kind, good_line, meaning, formula_of, subformula_of, subformula_at, heading_checks, offset, line_checks, lines_checks, lines_up_to, subformulas_of, rule_lines, rules_up_to, closing_checks, policy_checks, answer_of as policy_answer, policy_of}
use Rattle.message.specs.declared.Event.{Event}
use Rattle.message.specs.Format.{component_of, minute_of, number_of, named_of, packed_of, length_of, fields_of, good_alive, good_observation, all_written, good_fields, answer_of as message_answer, event_in}
use Rattle.message.specs.Fixes.{FixesNumber, FixesFact, meaning_of}
use Rattle.knowledge.specs.Trace.{tally, Admits}
use Rattle.knowledge.specs.Knowledge.{follow, steady, level, full, word_sound, words_agree, noted, valued, number, is_point, is_none, sound, fresh, stored, free, admits}
use Rattle.valuation.specs.Sheets.{valuation_of, verdicts_of}
use Rattle.reach.specs.Reach.{reach_deep, reach}
use Rattle.completeness.specs.Complete.{Every}
use Rattle.completeness.specs.Reports.{Observed, Reports}
use Rattle.origin.specs.Origin.{origin_of, opened_under}
use Rattle.monitor.specs.State.{State, sizes_fit, opened, open_state, receive, run_calls, accepted_from, accepted}
use Rattle.monitor.specs.Demands.{sizes_of, shown}
use Rattle.demands.proofs.Proved.{opens}
use Rattle.demands.specs.Small.{U, false_at_2, false_at_3, alive_at_4}
use Rattle.demands.specs.Reported.{Closes, ReportedShifts, Says, Sent, shift, takes}

-- ---- the shift's counts: none before minute n, and one from there on

none_yet : (n p : ℕ) → p ≤ n → tally (λ t. eqb t n) p ≡ 0
none_yet n zero h = refl
none_yet n (suc p) h = rw (ne_eqb p n (omega arith), none_yet n p (omega arith)) refl

one_since : (n p : ℕ) → n < p → tally (λ t. eqb t n) p ≡ 1
one_since n zero h = absurd (omega arith)
one_since n (suc p) h = go (λ l. one_since n p l) (ℕ_discrete p n)
  where
    go : (n < p → tally (λ t. eqb t n) p ≡ 1) → Dec (p ≡ n) → tally (λ t. eqb t n) (suc p) ≡ 1
    go ih (yes e) = rw (eq-eqb p n e, none_yet n p (omega arith)) refl
    go ih (no q) = rw (ne_eqb p n q, ih (omega arith)) refl

says_2 : Says false_at_2 2
unfolding digit below expanded component_of minute_of number_of named_of packed_of fields_of event_in meaning_of
says_2 = record { component = refl; event = refl }

says_3 : Says false_at_3 3
unfolding digit below expanded component_of minute_of number_of named_of packed_of fields_of event_in meaning_of
says_3 = record { component = refl; event = refl }

closes : Closes
unfolding bit policy_of component_of minute_of number_of fields_of event_in meaning_of
closes = record { propositions = refl; components = refl; minutes = refl; component = refl; event = refl; first_bit = refl }

module _ (n : ℕ) (inside : n < 4) where
  -- the shift could have sent them
  of_shift : (b : List ℕ) → Says b n → Admits (sizes_of U) (shift n) (meaning_of b)
  of_shift b says = record {
    numbers = λ p m f. counted p m (subst (λ (x : Event). FixesNumber x p m) says.event f);
    facts = λ i t v f. let q = subst (λ (x : Event). FixesFact x i t v) says.event f in rw q.2 (sym (bit_of_zero i));
  }
    where
      counted : (p m : ℕ) → ((p ≡ suc n) × (m ≡ 1)) ⊎ ((p ≡ n) × (m ≡ 0)) → tally (λ t. eqb t n) p ≡ m
      counted p m (inl q) = rw (q.0, q.1) (one_since n (suc n) (omega arith))
      counted p m (inr q) = rw (q.0, q.1) (none_yet n n (omega arith))

  alive_of_shift : Admits (sizes_of U) (shift n) (meaning_of alive_at_4)
  alive_of_shift = record {
    numbers = λ p m f.
        let q = subst (λ (x : Event). FixesNumber x p m) closes.event f in
        rw q.1 (one_since n p (omega (arith, q.0, closes.minutes)));
    facts = λ i t v f. absurd (subst (λ (x : Event). FixesFact x i t v) closes.event f);
  }

  reports : (y : State) (b : List ℕ) → Says b n → accepted U y (takes b) ≡ meaning_of b ∷ meaning_of alive_at_4 ∷ []
      → Reports (sizes_of U) Every (shift n) (Sent y b)
  reports y b says said = record {
    observations = λ c t l h o.
        let e : t ≡ n = eqb-true t n o in
        let here : 0 ≡ c = omega (arith, closes.components) in
        subst (λ (u : ℕ). Observed (sizes_of U) Every (shift n) (Sent y b) c u) (sym e)
        (record {
          report = record {
            message = meaning_of b;
            is_sent = subst (Memᴰ (meaning_of b)) (sym said) (Memᴰ.head refl);
            of_trace = of_shift b says;
            of_component = says.component ∙ here;
          };
          number = 1;
          named = 1;
          values = 0;
          is = says.event;
          names = λ i u p. let z : i ≡ 0 = omega (arith, closes.propositions) in rw z closes.first_bit;
        });
    alives = λ c l.
        let here : 0 ≡ c = omega (arith, closes.components) in
        record {
          report = record {
            message = meaning_of alive_at_4;
            is_sent = subst (Memᴰ (meaning_of alive_at_4)) (sym said) (Memᴰ.tail (Memᴰ.head refl));
            of_trace = alive_of_shift;
            of_component = closes.component ∙ here;
          };
          number = 1;
          is = closes.event;
        };
  }

pub reported_shifts : (y : State) → (open_state U y).answer ≡ Ok tt → ReportedShifts y
unfolding digit below expanded bit reading line_length fields_at keeps_kind good_line meaning formula_of subformula_of subformula_at heading_checks offset line_checks lines_checks lines_up_to subformulas_of rule_lines rules_up_to closing_checks policy_checks policy_answer policy_of component_of minute_of number_of named_of packed_of length_of fields_of good_alive good_observation all_written good_fields message_answer event_in meaning_of noted valued number is_point is_none sound fresh stored free admits valuation_of verdicts_of sizes_fit opened opened_under receive follow steady level full word_sound words_agree reach_deep reach
reported_shifts y d =
    let u : (open_state U y).state ≡ opened (policy_of U) (origin_of U) = (opens U y d).state in
    record {
      reach_is = refl;
      minutes = refl;
      reports_2 = reports 2 (omega arith) y false_at_2 says_2 (ap (λ (z : State). accepted_from U z (takes false_at_2)) u);
      reports_3 = reports 3 (omega arith) y false_at_3 says_3 (ap (λ (z : State). accepted_from U z (takes false_at_3)) u);
      broken_2 = ap (λ (z : State). shown (policy_of U) (run_calls U z (takes false_at_2)) 0 2) u;
      blank_3 = ap (λ (z : State). shown (policy_of U) (run_calls U z (takes false_at_3)) 0 3) u;
    }
