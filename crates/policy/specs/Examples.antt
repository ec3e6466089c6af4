-- A policy with a line of every kind and one that has every field. The list of widths is shared by what is read and by what is stated of it, so that
-- no theorem can tell a wrong one: this example does.
use Rattle.std.specs.Prelude.{◌≡◌, true, false, List, [], ◌∷◌, ◌++◌, replicate, ℕ, Err, Ok}
use Rattle.mtl.specs.declared.Formula.TheVariants as F
use Rattle.refusal.specs.declared.Refusal.TheVariants.{BadHeading, BadSubformula, RuleCount, ShortBuffer}
use Rattle.policy.specs.declared.LineNumbers.{LineNumbers}
use Rattle.policy.specs.declared.PolicyNumbers.{PolicyNumbers}
use Rattle.policy.specs.Format.{answer_of, policy_of}
use Rattle.policy.specs.Proper.{formula_at}
use Rattle.policy.specs.Text.{numbered, text_of, encode_of}

-- 2 marks, 3 stations, 258 minutes, 12 lines: true; mark 1; not line 1; line 1 or line 2; line 1 since line 2 from 1 to 258, a rule; line 3 until
-- line 4 from 256 to 1,023; line 1 and line 2; line 2 implies line 1; once line 3 from 0 to 258; historically line 4 from 1 to 1,023; eventually
-- line 5 from 256 to 256; always line 10 from 2 to 3
abbrev every_kind : List ℕ
every_kind =
    0x02 ∷ 0x03 ∷ 0x02 ∷ 0x01 ∷ 0x0C
    ∷ 0x00
    ∷ 0x03 ∷ 0x01 ∷ 0x01
    ∷ 0x03 ∷ 0x02 ∷ 0x01
    ∷ 0x07 ∷ 0x03 ∷ 0x01 ∷ 0x02
    ∷ 0x3F ∷ 0x04 ∷ 0x01 ∷ 0x02 ∷ 0x01 ∷ 0x00 ∷ 0x02 ∷ 0x01
    ∷ 0x1F ∷ 0x05 ∷ 0x03 ∷ 0x04 ∷ 0x00 ∷ 0x01 ∷ 0xFF ∷ 0x03
    ∷ 0x07 ∷ 0x06 ∷ 0x01 ∷ 0x02
    ∷ 0x07 ∷ 0x07 ∷ 0x02 ∷ 0x01
    ∷ 0x13 ∷ 0x08 ∷ 0x03 ∷ 0x02 ∷ 0x01
    ∷ 0x1B ∷ 0x09 ∷ 0x04 ∷ 0x01 ∷ 0x00 ∷ 0xFF ∷ 0x03
    ∷ 0x1B ∷ 0x0A ∷ 0x05 ∷ 0x00 ∷ 0x01 ∷ 0x00 ∷ 0x01
    ∷ 0x1B ∷ 0x0B ∷ 0x0A ∷ 0x02 ∷ 0x00 ∷ 0x03 ∷ 0x00
    ∷ []

pub record EveryKind : Type 0 where
  pub accepted : answer_of every_kind ≡ Ok tt
  pub propositions : (policy_of every_kind).sizes.propositions ≡ 2
  pub components : (policy_of every_kind).sizes.components ≡ 3
  pub minutes : (policy_of every_kind).sizes.minutes ≡ 258
  pub count : (policy_of every_kind).count ≡ 12
  pub rules : (policy_of every_kind).rules ≡ 1
  pub line_0 : formula_at (policy_of every_kind) 0 ≡ F.True
  pub line_1 : formula_at (policy_of every_kind) 1 ≡ F.Proposition 1
  pub line_2 : formula_at (policy_of every_kind) 2 ≡ F.Not 1
  pub line_3 : formula_at (policy_of every_kind) 3 ≡ F.Or 1 2
  pub line_4 : formula_at (policy_of every_kind) 4 ≡ F.Since 1 2 1 258
  pub line_5 : formula_at (policy_of every_kind) 5 ≡ F.Until 3 4 256 1023
  pub line_6 : formula_at (policy_of every_kind) 6 ≡ F.And 1 2
  pub line_7 : formula_at (policy_of every_kind) 7 ≡ F.Implies 2 1
  pub line_8 : formula_at (policy_of every_kind) 8 ≡ F.Once 3 0 258
  pub line_9 : formula_at (policy_of every_kind) 9 ≡ F.Historically 4 1 1023
  pub line_10 : formula_at (policy_of every_kind) 10 ≡ F.Eventually 5 256 256
  pub line_11 : formula_at (policy_of every_kind) 11 ≡ F.Always 10 2 3

-- ---- written (02, request 3)

-- the numbers of that policy, with a line past the twelve that is not looked at
abbrev every_number : PolicyNumbers
every_number =
    record {
      propositions = 2;
      components = 3;
      minutes = 258;
      count = 12;
      lines =
          numbered 0 0 0 0 0 false
          ∷ numbered 1 1 0 0 0 false
          ∷ numbered 2 1 0 0 0 false
          ∷ numbered 3 1 2 0 0 false
          ∷ numbered 4 1 2 1 258 true
          ∷ numbered 5 3 4 256 1023 false
          ∷ numbered 6 1 2 0 0 false
          ∷ numbered 7 2 1 0 0 false
          ∷ numbered 8 3 0 0 258 false
          ∷ numbered 9 4 0 1 1023 false
          ∷ numbered 10 5 0 256 256 false
          ∷ numbered 11 10 0 2 3 false
          ∷ numbered 12 99 99 99 9 true
          ∷ [];
    }

-- the same with other lines
abbrev with_lines : ℕ → List LineNumbers → PolicyNumbers
with_lines n lines = record { propositions = 2; components = 3; minutes = 258; count = n; lines = lines }

pub record EveryNumber : Type 0 where
  pub text : text_of every_number ≡ every_kind
  -- into a buffer that fits, one that is longer, and one that is a byte short
  pub exact : encode_of every_number (replicate 66 7) ≡ record { answer = Ok 66; out = every_kind }
  pub longer : encode_of every_number (replicate 68 7) ≡ record { answer = Ok 66; out = every_kind ++ 7 ∷ 7 ∷ [] }
  pub short : encode_of every_number (replicate 65 7) ≡ record { answer = Err ShortBuffer; out = replicate 65 7 }
  -- "in that order": a bad line and no rule are 3, also in a buffer that is short; no line at all is 2
  pub line_first : encode_of (with_lines 1 (numbered 1 2 0 0 0 false ∷ [])) [] ≡ record { answer = Err (BadSubformula 0); out = [] }
  -- a "once" has no second operand, and there is no kind 12
  pub once_second : encode_of (with_lines 3 (numbered 0 0 0 0 0 false ∷ numbered 0 0 0 0 0 false ∷ numbered 8 0 1 0 0 true ∷ [])) []
      ≡ record { answer = Err (BadSubformula 0); out = [] }
  pub no_twelve : encode_of (with_lines 1 (numbered 12 0 0 0 0 true ∷ [])) [] ≡ record { answer = Err (BadSubformula 0); out = [] }
  pub no_rule : encode_of (with_lines 1 (numbered 1 1 0 0 0 false ∷ [])) [] ≡ record { answer = Err RuleCount; out = [] }
  pub no_line : encode_of (with_lines 0 []) [] ≡ record { answer = Err (BadHeading 0); out = [] }
  -- 01's K, from its fields
  pub k : text_of (record {
    propositions = 1;
    components = 1;
    minutes = 4;
    count = 3;
    lines = numbered 0 0 0 0 0 false ∷ numbered 1 0 0 0 0 false ∷ numbered 4 0 1 0 2 true ∷ [];
  }) ≡ 0x01 ∷ 0x01 ∷ 0x04 ∷ 0x00 ∷ 0x03 ∷ 0x00 ∷ 0x01 ∷ 0x01 ∷ 0x35 ∷ 0x04 ∷ 0x01 ∷ 0x02 ∷ 0x00 ∷ []
