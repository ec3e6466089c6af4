-- 01, "Reasons to turn a call away": the table's numbers and places, each computed.
use Rattle.std.specs.Prelude.{ℕ, ◌+◌, ◌≡◌}
use Rattle.refusal.specs.declared.Refusal.TheVariants.{TruncatedPolicy, BadHeading, BadSubformula, RuleCount, BufferSize, CorruptKnowledge, TruncatedMessage, BadMessage, Conflict, OutOfRange, ShortBuffer, OtherPolicy, RuleSyntax, RuleLimit}
use Rattle.refusal.specs.Numbers.{refusal_number, refusal_place, packet_place}

pub record Table : Type 0 where
  -- 1, cut card: card length, or first extra byte
  pub cut_card : (at : ℕ) → (refusal_number (TruncatedPolicy at) ≡ 1) × (refusal_place (TruncatedPolicy at) ≡ at)
  -- 2, bad heading: first byte of the first such field
  pub bad_heading : (at : ℕ) → (refusal_number (BadHeading at) ≡ 2) × (refusal_place (BadHeading at) ≡ at)
  -- 3, bad line: the line's map byte
  pub bad_line : (at : ℕ) → (refusal_number (BadSubformula at) ≡ 3) × (refusal_place (BadSubformula at) ≡ at)
  -- 4, rule count
  pub rule_count : (refusal_number RuleCount ≡ 4) × (refusal_place RuleCount ≡ 0)
  -- 5, wrong tray
  pub wrong_tray : (refusal_number BufferSize ≡ 5) × (refusal_place BufferSize ≡ 0)
  -- 6, spoiled record
  pub spoiled_record : (refusal_number CorruptKnowledge ≡ 6) × (refusal_place CorruptKnowledge ≡ 0)
  -- 7, cut slip: slip length, or first extra byte
  pub cut_slip : (at : ℕ) → (refusal_number (TruncatedMessage at) ≡ 7) × (refusal_place (TruncatedMessage at) ≡ at)
  -- 8, bad slip
  pub bad_slip : (refusal_number BadMessage ≡ 8) × (refusal_place BadMessage ≡ 0)
  -- 9, clash
  pub clash : (refusal_number Conflict ≡ 9) × (refusal_place Conflict ≡ 0)
  -- 10, off the sheet
  pub off_the_sheet : (refusal_number OutOfRange ≡ 10) × (refusal_place OutOfRange ≡ 0)
  -- 11, short paper (02, request 3); "numbers added later have place 0 where none is named"
  pub short_paper : (refusal_number ShortBuffer ≡ 11) × (refusal_place ShortBuffer ≡ 0)
  -- 12, other card (02, request 5)
  pub other_card : (refusal_number OtherPolicy ≡ 12) × (refusal_place OtherPolicy ≡ 0)
  -- 13, unreadable rule: the first byte that no text of the grammar can continue with, or the text's end (02, request 7)
  pub unreadable_rule : (at : ℕ) → (refusal_number (RuleSyntax at) ≡ 13) × (refusal_place (RuleSyntax at) ≡ at)
  -- 14, too much rule: where a limit is passed (02, request 7)
  pub too_much_rule : (at : ℕ) → (refusal_number (RuleLimit at) ≡ 14) × (refusal_place (RuleLimit at) ≡ at)

-- 02, request 1: where a refusal stands in a packet whose message starts at byte `start`
pub record PacketTable : Type 0 where
  -- 1 to 6 and 12 are checked before 7: they "keep their places"
  pub cut_card : (start at : ℕ) → packet_place start (TruncatedPolicy at) ≡ refusal_place (TruncatedPolicy at)
  pub bad_heading : (start at : ℕ) → packet_place start (BadHeading at) ≡ refusal_place (BadHeading at)
  pub bad_line : (start at : ℕ) → packet_place start (BadSubformula at) ≡ refusal_place (BadSubformula at)
  pub rule_count : (start : ℕ) → packet_place start RuleCount ≡ refusal_place RuleCount
  pub wrong_tray : (start : ℕ) → packet_place start BufferSize ≡ refusal_place BufferSize
  pub spoiled_record : (start : ℕ) → packet_place start CorruptKnowledge ≡ refusal_place CorruptKnowledge
  pub other_card : (start : ℕ) → packet_place start OtherPolicy ≡ refusal_place OtherPolicy
  -- 7: its own place, "counted from the packet's start"
  pub cut_slip : (start at : ℕ) → packet_place start (TruncatedMessage at) ≡ start + refusal_place (TruncatedMessage at)
  -- 8 and 9 are checked after 7: "the slip's first byte"
  pub bad_slip : (start : ℕ) → packet_place start BadMessage ≡ start
  pub clash : (start : ℕ) → packet_place start Conflict ≡ start
