-- Laws of the definitions in specs/Past. Assumes nothing.
use Rattle.std.specs.Prelude.{ℕ, ◌≡◌, refl, Bool, true, false, ◌&&◌, ◌||◌, eqb, Ok}
use Rattle.std.proofs.Common.{arith, sym, ap, true≢false, inl, inr, ne_eqb}
use mathlib.Core.List.Memᴰ
use mathlib.Core.List.{[], ◌∷◌}
use Rattle.bits.specs.Digits.{digit, below, expanded}
use Rattle.bits.specs.Bits.{bit}
use Rattle.bits.proofs.Bits.{bit_of_zero}
use Rattle.mtl.specs.Reading.{since, until, deep, reading}
use Rattle.mtl.proofs.Textbook.{textbook}
use Rattle.policy.specs.Format.{line_length, fields_at, keeps_kind, good_line, meaning, formula_of, subformula_of, subformula_at, heading_checks, offset, line_checks, lines_checks, lines_up_to, subformulas_of, rule_lines, rules_up_to, closing_checks, policy_checks, answer_of as policy_answer, policy_of}
use Rattle.policy.specs.Proper.{formula_at}
use Rattle.message.specs.Format.{component_of, minute_of, number_of, named_of, packed_of, length_of, fields_of, good_alive, good_observation, all_written, good_fields, answer_of as message_answer, event_in}
use Rattle.message.specs.Fixes.{FixesNumber, FixesFact, meaning_of}
use Rattle.knowledge.specs.Trace.{Trace, made, AdmitsAll, time_point}
use Rattle.knowledge.specs.Knowledge.{follow, steady, level, full, word_sound, words_agree, noted, valued, number, is_point, is_none, sound, fresh, stored, free, admits}
use Rattle.valuation.specs.Sheets.{valuation_of, verdicts_of, standing}
use Rattle.origin.specs.Origin.{origin_of, opened_under}
use Rattle.monitor.specs.State.{State, sizes_fit, opened, open_state, receive, Receive, run_calls, accepted_from, accepted}
use Rattle.monitor.specs.Demands.{sizes_of, shown, rule_line, kept, broken}
use Rattle.demands.proofs.Proved.{opens}
use Rattle.demands.specs.Small.{U, false_at_3}
use Rattle.demands.specs.Past.{PastTheLastMinute}

-- both shifts: an observation at minute 3 and, in one of them, at minute 4; the mark is true at minute 4 alone
abbrev shift : Bool → Trace (sizes_of U)
shift late = record {
  observes = λ c t. eqb t 3 || (eqb t 4 && late);
  value = λ i t. eqb t 4;
  end = 5;
  ended = λ c t l h. rw (ne_eqb t 3 (omega arith), ne_eqb t 4 (omega arith)) refl;
}

-- the slip says: station 0, its first observation at minute 3, mark 0 false
said_numbers : (late : Bool) (p n : ℕ) → FixesNumber (meaning_of false_at_3).event p n → made (sizes_of U) (shift late) (meaning_of false_at_3).component p ≡ n
unfolding digit below expanded bit since until deep reading line_length fields_at keeps_kind good_line meaning formula_of subformula_of subformula_at heading_checks offset line_checks lines_checks lines_up_to subformulas_of rule_lines rules_up_to closing_checks policy_checks policy_answer policy_of component_of minute_of number_of named_of packed_of length_of fields_of good_alive good_observation all_written good_fields message_answer event_in meaning_of noted valued number is_point is_none sound fresh stored free admits valuation_of verdicts_of standing sizes_fit opened opened_under receive follow steady level full word_sound words_agree
said_numbers late p n (inl q) = rw (q.0, q.1) refl
said_numbers late p n (inr q) = rw (q.0, q.1) refl

said_facts : (late : Bool) (i t : ℕ) (b : Bool) → FixesFact (meaning_of false_at_3).event i t b → (shift late).value i t ≡ b
unfolding digit below expanded bit since until deep reading line_length fields_at keeps_kind good_line meaning formula_of subformula_of subformula_at heading_checks offset line_checks lines_checks lines_up_to subformulas_of rule_lines rules_up_to closing_checks policy_checks policy_answer policy_of component_of minute_of number_of named_of packed_of length_of fields_of good_alive good_observation all_written good_fields message_answer event_in meaning_of noted valued number is_point is_none sound fresh stored free admits valuation_of verdicts_of standing sizes_fit opened opened_under receive follow steady level full word_sound words_agree
said_facts late i t b q = rw (q.0, q.2) (sym (bit_of_zero i))

pub past_the_last_minute : (y : State) → (open_state U y).answer ≡ Ok tt → PastTheLastMinute y
unfolding digit below expanded bit since until deep reading line_length fields_at keeps_kind good_line meaning formula_of subformula_of subformula_at heading_checks offset line_checks lines_checks lines_up_to subformulas_of rule_lines rules_up_to closing_checks policy_checks policy_answer policy_of component_of minute_of number_of named_of packed_of length_of fields_of good_alive good_observation all_written good_fields message_answer event_in meaning_of noted valued number is_point is_none sound fresh stored free admits valuation_of verdicts_of standing sizes_fit opened opened_under receive follow steady level full word_sound words_agree
past_the_last_minute y d =
    let u : (open_state U y).state ≡ opened (policy_of U) (origin_of U) = (opens U y d).state in
    let said : accepted U y (Receive false_at_3 ∷ []) ≡ meaning_of false_at_3 ∷ [] = ap (λ (z : State). accepted_from U z (Receive false_at_3 ∷ [])) u in
    let admits_all : (late : Bool) → AdmitsAll (sizes_of U) (shift late) (accepted U y (Receive false_at_3 ∷ [])) =
    λ late m h. rw (Memᴰ.eq_of_singleton (rw said at h)) (record { numbers = said_numbers late; facts = said_facts late }) in
    record {
      one = shift true;
      other = shift false;
      minutes = refl;
      past = refl;
      one_admits = admits_all true;
      other_admits = admits_all false;
      one_kept = kept refl ((textbook (time_point (sizes_of U) (shift true)) (shift true).value (formula_at (policy_of U)) (rule_line (policy_of U) 0) 3).0 refl);
      other_broken = broken refl (λ h. true≢false (sym ((textbook (time_point (sizes_of U) (shift false)) (shift false).value (formula_at (policy_of U)) (rule_line (policy_of U) 0) 3).1 h)));
      blank = ap (λ (z : State). shown (policy_of U) (run_calls U z (Receive false_at_3 ∷ [])) 0 3) u;
    }
