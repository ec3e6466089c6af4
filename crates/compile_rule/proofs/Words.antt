-- Laws of the definitions in specs/Words. Assumes nothing.
use Rattle.std.specs.Prelude.{ℕ, ◌+◌, ◌≤◌, ◌<◌, ◌≡◌, true, List, take, get_or, false, Option, None, Some, length}
use Rattle.std.proofs.Common.{arith, sym, ◌∙◌}
use Rattle.std.proofs.Math.Decide.{dec_lt}
use Rattle.std.proofs.Math.Path.{ap}
use Rattle.compile_rule.specs.declared.beginning.Expected.{Expected}
use Rattle.compile_rule.specs.declared.beginning.Beginning.{Beginning}
use Rattle.compile_rule.specs.declared.reason.Reason.{Reason}
use Rattle.compile_rule.specs.declared.excess.Excess.{Excess}
use Rattle.compile_rule.specs.Choices.{digit}
use Rattle.compile_rule.specs.Begun.{begun}
use Rattle.compile_rule.specs.Words.{limit_at, limit_by, reason_at, reason_by, DigitsEnd}
use Rattle.std.specs.List.{AllWithin, HoldsAt}
use Rattle.std.specs.Option.{MatchOption, unwrap_or}
use Rattle.compile_rule.proofs.Choices.{digit_past}

-- the digits end at the first byte that is none, or where the bytes do
pub digits_stop : (text : List ℕ) (r : Option ℕ) → MatchOption r (AllWithin (λ x. digit x ≡ true) text 0 (length text))
    (λ i. (i < length text) × HoldsAt (λ x. digit x ≡ false) text i × AllWithin (λ x. digit x ≡ true) text 0 i)
    → DigitsEnd text 0 (unwrap_or r (length text))
digits_stop text None h = record {
  from = omega arith;
  inside = omega arith;
  digits = λ k p q. h k 0 p q;
  no_more = digit_past text (length text) (omega arith);
}
digits_stop text (Some i) h = record {
  from = omega arith;
  inside = omega arith;
  digits = λ k p q. h.2 k 0 p q;
  no_more = h.1 0;
}

-- what an arm answers is the answer
module _ (text : List ℕ) (at : ℕ) (b : Beginning) (e : Expected) (known : b ≡ begun (take at text)) (told : b.expected ≡ e) where
  pub reasoned : (r : Reason) → r ≡ reason_by e text at b → r ≡ reason_at text at
  unfolding reason_at
  reasoned r g =
      g ∙ ap (λ (e : Expected). reason_by e text at b) (sym told) ∙ ap (λ (b : Beginning). reason_by b.expected text at b) known

  pub limited : (r : Excess) → r ≡ limit_by e text at b → r ≡ limit_at text at
  unfolding limit_at
  limited r g =
      g ∙ ap (λ (e : Expected). limit_by e text at b) (sym told) ∙ ap (λ (b : Beginning). limit_by b.expected text at b) known

pub digits_more : (text : List ℕ) (at end : ℕ) → ((k : ℕ) → at ≤ k → k < end → digit (get_or text k 0) ≡ true) → digit (get_or text end 0) ≡ true
    → (k : ℕ) → at ≤ k → k < end + 1 → digit (get_or text k 0) ≡ true
digits_more text at end before here k from h = go (dec_lt k end)
  where
    go : Dec (k < end) → digit (get_or text k 0) ≡ true
    go (yes l) = before k from l
    go (no l) = ap (λ (k : ℕ). digit (get_or text k 0)) (same k end h l) ∙ here
      where
        same : (k end : ℕ) → k < end + 1 → (k < end → ⊥) → k ≡ end
        same k end h l = omega arith
