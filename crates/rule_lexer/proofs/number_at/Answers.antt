-- Each turn one digit more has been read (`Scanned`), up to the first byte that is no digit or to the text's end. Assumes nothing.
use Rattle.std.proofs.Common.{arith, ◌≡◌, ℕ, ◌+◌, ◌-◌, ◌≤◌, ◌<◌, sym, ap, ◌∙◌, Bool, false, List, length, take, drop, get_or, min, length-drop, take_all, get_or-drop}
use Rattle.std.proofs.Math.Decide.{dec_lt}
use Rattle.std.proofs.Math.ListN.{get_or-eq_default, drop_of_length-le}
use Rattle.std.specs.Char.{is_ascii_digit}
use Rattle.rule_grammar.specs.Numeral.{digit}
use Rattle.rule_text.proofs.Laws.{zero_number, scan_on, scan_end}
use Rattle.rule_lexer.proofs.number_at.Goals as goal

module _ (text : List ℕ) (at m : ℕ) (start : m ≡ min at (length text)) where
  abbrev rest : List ℕ
  rest = take (length text - m) (drop m text)

  rest_is : rest ≡ drop at text
  rest_is = take_all (length text - m) (drop m text) (omega (arith, length-drop m text)) ∙ go (dec_lt at (length text))
    where
      go : Dec (at < length text) → drop m text ≡ drop at text
      go (yes l) = let q : m ≡ at = omega (arith, start) in ap (λ (k : ℕ). drop k text) q
      go (no l) = drop_of_length-le text (omega (arith, start)) ∙ sym (drop_of_length-le text (omega arith))

  byte_read : (k e : ℕ) → e ≡ at + k → get_or rest k 0 ≡ get_or text e 0
  byte_read k e q = ap (λ (xs : List ℕ). get_or xs k 0) rest_is ∙ get_or-drop at text k 0 ∙ ap (λ (j : ℕ). get_or text j 0) (sym q)

  digit_read : (k e : ℕ) (b r : Bool) → e ≡ at + k → r ≡ is_ascii_digit (get_or rest k 0) → r ≡ b → digit (get_or text e 0) ≡ b
  digit_read k e b r q f g = ap digit (sym (byte_read k e q)) ∙ sym f ∙ g

  no_digit_past : (k e : ℕ) → e ≡ at + k → length rest ≤ k → digit (get_or text e 0) ≡ false
  no_digit_past k e q h = ap digit (get_or-eq_default text 0 (omega (arith, ap length rest_is, length-drop at text)))

pub returns-then-byte_at-eq48 : goal.returns-then-byte_at-eq48
returns-then-byte_at-eq48 c = zero_number c.args.text.now _ (sym c.byte_at.ensures ∙ c.if-byte_at-eq48.true)

pub returns-then-not-is_ascii_digit : goal.returns-then-not-is_ascii_digit
returns-then-not-is_ascii_digit c =
    scan_end c.args.text.now c.args.at c.loop-byte.end c.loop-byte.value c.loop-byte.invariant.1
    (digit_read c.args.text.now c.args.at _ c.min.ensures _ _ _ _ c.loop-byte.invariant.0 c.is_ascii_digit.ensures.value c.if-not-is_ascii_digit.true)
    (λ e. c.if-byte_at-eq48.false (c.byte_at.ensures ∙ e))

pub loop-byte-preserved : goal.loop-byte-preserved
loop-byte-preserved c = (
  omega (arith, c.loop-byte.invariant.0),
  scan_on c.args.text.now c.args.at c.loop-byte.end c.loop-byte.value _ _ c.loop-byte.invariant.1
      (byte_read c.args.text.now c.args.at _ c.min.ensures _ _ c.loop-byte.invariant.0)
      (digit_read c.args.text.now c.args.at _ c.min.ensures _ _ _ _ c.loop-byte.invariant.0 c.is_ascii_digit.ensures.value c.if-not-is_ascii_digit.false)
      c.with_digit-value.ensures,
)

pub returns : goal.returns
returns c =
    scan_end c.args.text.now c.args.at c.loop-byte.end c.loop-byte.value c.loop-byte.invariant.1
    (no_digit_past c.args.text.now c.args.at _ c.min.ensures _ _ c.loop-byte.invariant.0 c.loop-byte-test.false)
    (λ e. c.if-byte_at-eq48.false (c.byte_at.ensures ∙ e))
