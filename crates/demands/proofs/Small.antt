-- Laws of the definitions in specs/Small. Assumes nothing.
use Rattle.std.specs.Prelude.{ℕ, ◌≡◌, refl, List, [], ◌∷◌, ◌++◌, map, length, Ok}
use Rattle.std.proofs.Common.{sym, ap, ◌∙◌}
use Rattle.bits.specs.Digits.{digit, below, expanded}
use Rattle.bits.specs.Bits.{bit}
use Rattle.mtl.specs.Reading.{since, until, deep, reading}
use Rattle.policy.specs.Format.{line_length, fields_at, keeps_kind, good_line, meaning, formula_of, subformula_of, subformula_at, heading_checks, offset, line_checks, lines_checks, lines_up_to, subformulas_of, rule_lines, rules_up_to, closing_checks, policy_checks, answer_of as policy_answer, policy_of}
use Rattle.message.specs.Format.{component_of, minute_of, number_of, named_of, packed_of, length_of, fields_of, good_alive, good_observation, all_written, good_fields, answer_of as message_answer, event_in, used_of, messages_of}
use Rattle.message.specs.Fixes.{meaning_of}
use Rattle.knowledge.specs.Knowledge.{follow, steady, level, full, word_sound, words_agree, noted, valued, number, is_point, is_none, sound, fresh, stored, free, admits}
use Rattle.valuation.specs.Sheets.{valuation_of, verdicts_of, standing}
use Rattle.origin.specs.Origin.{Origin, origin_of, opened_under}
use Rattle.monitor.specs.State.{State, lent, sizes_fit, opened, open_state, receive, PacketOutcome, receive_packet, Receive, run_calls, after}
use Rattle.demands.proofs.Proved.{opens}
use Rattle.demands.specs.Small.{A, A', B, D, K, LostSlips, N, SixKinds, SmallPackets, SmallShift, T, TwoCards, U, alive_at_3, alive_at_4, false_at_2, false_at_3, first_at_0, frame, mixer, one_short, reply, second_at_2, sheet}

-- what is assumed of x and y below is so for any buffers of the cards' sizes: both openings are done
pub opens_sized : (n f v d : List ℕ) (o : Origin) → length n ≡ 5 → length f ≡ 8 → length v ≡ 12 → length d ≡ 4 → length o.bytes ≡ 517
    → ((open_state K (lent n f v d o)).answer ≡ Ok tt) × ((open_state U (lent n f v d o)).answer ≡ Ok tt)
unfolding open_state line_length fields_at keeps_kind good_line meaning formula_of subformula_of subformula_at heading_checks offset line_checks lines_checks lines_up_to subformulas_of rule_lines rules_up_to closing_checks policy_checks policy_answer policy_of sizes_fit
opens_sized n f v d o a b c e g = (rw (a, b, c, e, g) refl, rw (a, b, c, e, g) refl)

pub opens_lost : (n f v d : List ℕ) (o : Origin) → length n ≡ 5 → length f ≡ 8 → length v ≡ 4 → length d ≡ 4 → length o.bytes ≡ 517
    → (open_state T (lent n f v d o)).answer ≡ Ok tt
unfolding open_state line_length fields_at keeps_kind good_line meaning formula_of subformula_of subformula_at heading_checks offset line_checks lines_checks lines_up_to subformulas_of rule_lines rules_up_to closing_checks policy_checks policy_answer policy_of sizes_fit
opens_lost n f v d o a b c e g = rw (a, b, c, e, g) refl

pub opens_six : (n f v d : List ℕ) (o : Origin) → length n ≡ 5 → length f ≡ 8 → length v ≡ 32 → length d ≡ 24 → length o.bytes ≡ 517
    → (open_state N (lent n f v d o)).answer ≡ Ok tt
unfolding open_state line_length fields_at keeps_kind good_line meaning formula_of subformula_of subformula_at heading_checks offset line_checks lines_checks lines_up_to subformulas_of rule_lines rules_up_to closing_checks policy_checks policy_answer policy_of sizes_fit
opens_six n f v d o a b c e g = rw (a, b, c, e, g) refl

-- each case, from the opened state on
module _ (s : List ℕ) (x : State) (e : (open_state s x).state ≡ opened (policy_of s) (origin_of s)) where
  sheet_from : (bs : List (List ℕ)) → sheet s x bs ≡ (run_calls s (opened (policy_of s) (origin_of s)) (map Receive bs)).verdicts
  sheet_from bs = ap (λ (y : State). (run_calls s y (map Receive bs)).verdicts) e

  state_from : (bs : List (List ℕ)) → after s x (map Receive bs) ≡ run_calls s (opened (policy_of s) (origin_of s)) (map Receive bs)
  state_from bs = ap (λ (y : State). run_calls s y (map Receive bs)) e

  reply_from : (bs : List (List ℕ)) (b : List ℕ) → reply s x bs b ≡ (receive s (run_calls s (opened (policy_of s) (origin_of s)) (map Receive bs)) b).answer
  reply_from bs b = ap (λ (y : State). (receive s (run_calls s y (map Receive bs)) b).answer) e

pub small_shift : (x y : State) → (open_state K x).answer ≡ Ok tt → (open_state U y).answer ≡ Ok tt → SmallShift x y
unfolding digit below expanded bit since until deep reading line_length fields_at keeps_kind good_line meaning formula_of subformula_of subformula_at heading_checks offset line_checks lines_checks lines_up_to subformulas_of rule_lines rules_up_to closing_checks policy_checks policy_answer policy_of component_of minute_of number_of named_of packed_of length_of fields_of good_alive good_observation all_written good_fields message_answer event_in meaning_of noted valued number is_point is_none sound fresh stored free admits valuation_of verdicts_of standing sizes_fit opened opened_under receive follow steady level full word_sound words_agree
small_shift x y d e =
    let k : (open_state K x).state ≡ opened (policy_of K) (origin_of K) = (opens K x d).state in
    let u : (open_state U y).state ≡ opened (policy_of U) (origin_of U) = (opens U y e).state in
    record {
      nothing = sheet_from K x k [];
      a = sheet_from K x k (A ∷ []);
      b = sheet_from K x k (B ∷ []);
      ab = sheet_from K x k (A ∷ B ∷ []);
      ba = sheet_from K x k (B ∷ A ∷ []);
      abd = sheet_from K x k (A ∷ B ∷ D ∷ []);
      d = sheet_from K x k (D ∷ []);
      idle = reply_from K x k [] (0x10 ∷ []);
      idle_state = state_from K x k ((0x10 ∷ []) ∷ []) ∙ sym (state_from K x k []);
      bad = reply_from K x k [] (0x00 ∷ []);
      conflict = reply_from K x k [] (0x04 ∷ 0x02 ∷ 0x00 ∷ []);
      conflict_alive = reply_from K x k (A ∷ []) (0x12 ∷ 0x01 ∷ 0x00 ∷ []);
      conflict_fact = reply_from K x k (A ∷ []) A';
      conflict_none = reply_from K x k [] (0x16 ∷ 0x04 ∷ 0x00 ∷ 0xFF ∷ 0xFF ∷ []);
      total = reply_from K x k (A ∷ B ∷ []) D;
      until_blank = sheet_from U y u (false_at_3 ∷ []);
      until_broken = sheet_from U y u (false_at_2 ∷ alive_at_4 ∷ []);
    }

pub lost_slips : (x : State) → (open_state T x).answer ≡ Ok tt → LostSlips x
unfolding digit below expanded bit since until deep reading line_length fields_at keeps_kind good_line meaning formula_of subformula_of subformula_at heading_checks offset line_checks lines_checks lines_up_to subformulas_of rule_lines rules_up_to closing_checks policy_checks policy_answer policy_of component_of minute_of number_of named_of packed_of length_of fields_of good_alive good_observation all_written good_fields message_answer event_in meaning_of noted valued number is_point is_none sound fresh stored free admits valuation_of verdicts_of standing sizes_fit opened opened_under receive follow steady level full word_sound words_agree
lost_slips x d =
    let k : (open_state T x).state ≡ opened (policy_of T) (origin_of T) = (opens T x d).state in
    record {
      all_three = sheet_from T x k (mixer ∷ []);
      total = reply_from T x k [] mixer;
      by_alive = sheet_from T x k (alive_at_3 ∷ []);
      one_open = sheet_from T x k (one_short ∷ []);
      then_known = sheet_from T x k (one_short ∷ (0x12 ∷ 0x01 ∷ 0x00 ∷ []) ∷ []);
    }

pub six_kinds : (x : State) → (open_state N x).answer ≡ Ok tt → SixKinds x
unfolding digit below expanded bit since until deep reading line_length fields_at keeps_kind good_line meaning formula_of subformula_of subformula_at heading_checks offset line_checks lines_checks lines_up_to subformulas_of rule_lines rules_up_to closing_checks policy_checks policy_answer policy_of component_of minute_of number_of named_of packed_of length_of fields_of good_alive good_observation all_written good_fields message_answer event_in meaning_of noted valued number is_point is_none sound fresh stored free admits valuation_of verdicts_of standing sizes_fit opened opened_under receive follow steady level full word_sound words_agree
six_kinds x d =
    let k : (open_state N x).state ≡ opened (policy_of N) (origin_of N) = (opens N x d).state in
    record {
      verdicts = sheet_from N x k (first_at_0 ∷ second_at_2 ∷ []);
      values = ap (λ (y : State). y.valuation) (state_from N x k (first_at_0 ∷ second_at_2 ∷ []));
      total = reply_from N x k (first_at_0 ∷ []) second_at_2;
    }

module _ (x : State) (e : (open_state K x).state ≡ opened (policy_of K) (origin_of K)) where
  frame_from : (b : List ℕ) → frame x b ≡ receive_packet K (opened (policy_of K) (origin_of K)) b
  frame_from b = ap (λ (y : State). receive_packet K y b) e

  answer_from : (b : List ℕ) → (frame x b).answer ≡ (receive_packet K (opened (policy_of K) (origin_of K)) b).answer
  answer_from b = ap (λ (o : PacketOutcome). o.answer) (frame_from b)

  verdicts_from : (b : List ℕ) → (frame x b).state.verdicts ≡ (receive_packet K (opened (policy_of K) (origin_of K)) b).state.verdicts
  verdicts_from b = ap (λ (o : PacketOutcome). o.state.verdicts) (frame_from b)

  left_from : (b : List ℕ) → (frame x b).state ≡ (receive_packet K (opened (policy_of K) (origin_of K)) b).state
  left_from b = ap (λ (o : PacketOutcome). o.state) (frame_from b)

pub small_packets : (x : State) → (open_state K x).answer ≡ Ok tt → SmallPackets x
unfolding digit below expanded bit since until deep reading line_length fields_at keeps_kind good_line meaning formula_of subformula_of subformula_at heading_checks offset line_checks lines_checks lines_up_to subformulas_of rule_lines rules_up_to closing_checks policy_checks policy_answer policy_of component_of minute_of number_of named_of packed_of length_of fields_of good_alive good_observation all_written good_fields message_answer event_in meaning_of noted valued number is_point is_none sound fresh stored free admits valuation_of verdicts_of standing sizes_fit opened opened_under receive follow steady level full word_sound words_agree receive_packet messages_of used_of
small_packets x d =
    let k : (open_state K x).state ≡ opened (policy_of K) (origin_of K) = (opens K x d).state in
    record {
      abd = answer_from x k (A ++ B ++ D);
      abd_sheet = verdicts_from x k (A ++ B ++ D);
      dba_state = left_from x k (D ++ B ++ A) ∙ sym (left_from x k (A ++ B ++ D));
      cut = answer_from x k (A ++ (0x06 ∷ 0x03 ∷ []));
      cut_sheet = verdicts_from x k (A ++ (0x06 ∷ 0x03 ∷ []));
      bad = answer_from x k (A ++ (0x00 ∷ B));
      bad_sheet = verdicts_from x k (A ++ (0x00 ∷ B));
      conflict = answer_from x k (A ++ (0x12 ∷ 0x01 ∷ 0x00 ∷ D));
      first_bad = answer_from x k (0x00 ∷ A);
      first_bad_state = left_from x k (0x00 ∷ A) ∙ sym (state_from K x k []);
      empty = answer_from x k [];
      empty_state = left_from x k [] ∙ sym (state_from K x k []);
    }

opened_cards : TwoCards (opened (policy_of K) (origin_of K))
unfolding digit below expanded bit since until deep reading line_length fields_at keeps_kind good_line meaning formula_of subformula_of subformula_at heading_checks offset line_checks lines_checks lines_up_to subformulas_of rule_lines rules_up_to closing_checks policy_checks policy_answer policy_of component_of minute_of number_of named_of packed_of length_of fields_of good_alive good_observation all_written good_fields message_answer event_in meaning_of noted valued number is_point is_none sound fresh stored free admits valuation_of verdicts_of standing sizes_fit opened opened_under receive follow steady level full word_sound words_agree open_state receive_packet messages_of used_of
opened_cards = record {
  stored = refl;
  take_other = refl;
  packet_other = refl;
  empty_other = refl;
  take_own = refl;
  opened_anew = refl;
  then_own = refl;
  then_other = refl;
  in_card = refl;
  behind_card = refl;
  last_byte = refl;
  shorter = refl;
  longer = refl;
  past_all = refl;
  short_buffer = refl;
  unsound_other = refl;
  unsound_own = refl;
}

pub two_cards : (x : State) → (open_state K x).answer ≡ Ok tt → TwoCards (open_state K x).state
two_cards x d = rw (opens K x d).state opened_cards
