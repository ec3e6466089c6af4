-- The call on the bytes of cards, computed: 01's card K, which looks back; K with an until in its place; one with three rules, whose reaches differ; and
-- refusals.
use Rattle.std.specs.Prelude.{ℕ, ◌≡◌, List, [], ◌∷◌, Err, Ok}
use Rattle.refusal.specs.declared.Refusal.TheVariants.{TruncatedPolicy, ShortBuffer}
use Rattle.refusal.specs.Writes.{Written}
use Rattle.refusal.specs.Writes.{Output}
use Rattle.reach.specs.Reaches.{rule_reaches}

-- "mark 0 at some time in the last 2 minutes", and "mark 0 within the next minute"
abbrev K : List ℕ
K = 0x01 ∷ 0x01 ∷ 0x04 ∷ 0x00 ∷ 0x03 ∷ 0x00 ∷ 0x01 ∷ 0x01 ∷ 0x35 ∷ 0x04 ∷ 0x01 ∷ 0x02 ∷ 0x00 ∷ []

abbrev U : List ℕ
U = 0x01 ∷ 0x01 ∷ 0x04 ∷ 0x00 ∷ 0x03 ∷ 0x00 ∷ 0x01 ∷ 0x01 ∷ 0x35 ∷ 0x05 ∷ 0x01 ∷ 0x01 ∷ 0x00 ∷ []

-- line 0 is mark 0; lines 1, 2 and 4 are rules: eventually within 5, once in the last 9, and (line 3, eventually line 1 within 7) and line 2
abbrev three_rules : List ℕ
three_rules =
    0x01 ∷ 0x01 ∷ 0x20 ∷ 0x00 ∷ 0x05
    ∷ 0x01 ∷ 0x01
    ∷ 0x31 ∷ 0x0A ∷ 0x05 ∷ 0x00
    ∷ 0x31 ∷ 0x08 ∷ 0x09 ∷ 0x00
    ∷ 0x13 ∷ 0x0A ∷ 0x01 ∷ 0x07 ∷ 0x00
    ∷ 0x27 ∷ 0x06 ∷ 0x03 ∷ 0x02
    ∷ []

abbrev gives : Written → List ℕ → Output
gives a out = record { answer = a; out = out }

pub record Examples : Type 0 where
  pub looks_back : rule_reaches K (9 ∷ []) ≡ gives (Ok 1) (0 ∷ [])
  pub looks_ahead : rule_reaches U (9 ∷ []) ≡ gives (Ok 1) (1 ∷ [])
  -- each rule's at the place of its number, and the rest is kept
  pub in_order : rule_reaches three_rules (9 ∷ 9 ∷ 9 ∷ 9 ∷ []) ≡ gives (Ok 3) (5 ∷ 0 ∷ 12 ∷ 9 ∷ [])
  pub no_room : rule_reaches three_rules (9 ∷ 9 ∷ []) ≡ gives (Err ShortBuffer) (9 ∷ 9 ∷ [])
  -- the card comes first
  pub no_card : rule_reaches [] [] ≡ gives (Err (TruncatedPolicy 0)) []
