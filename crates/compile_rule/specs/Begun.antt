-- 02, request 7: how a text of the grammar has begun, and what comes next, byte by byte. What it says of other texts does not matter.
use Rattle.std.specs.Prelude.{ℕ, ◌+◌, ◌-◌, ◌*◌, ◌/◌, ◌%◌, List, eqb, ltb}
use Rattle.compile_rule.specs.declared.beginning.Expected.{Expected}
use Rattle.compile_rule.specs.declared.beginning.Expected.TheVariants.{Term, True, Not, Space, Mark, Ended, Joint, Or, And, Since, Until, Bracket, Lower, Upper}
use Rattle.compile_rule.specs.declared.beginning.Beginning.{Beginning}
use Rattle.compile_rule.specs.Choices.{choose, digit, run}

abbrev pub expecting : Expected → ℕ → ℕ → Beginning
expecting expected left levels = record { expected = expected; left = left; levels = levels }

-- "t", "n", "m" or "("
unfoldable pub begin_term : ℕ → ℕ → Beginning
begin_term byte levels =
    choose (eqb byte 116) (expecting True 3 levels)
    (choose (eqb byte 110) (expecting Not 2 levels)
    (choose (eqb byte 109) (expecting Mark 0 levels)
    (expecting Term 0 (levels % 4611686018427387904 * 2))))

-- ")" or a space
unfoldable pub end_term : ℕ → ℕ → Beginning
end_term byte levels = choose (eqb byte 41) (expecting Ended 0 (levels / 2)) (expecting Joint 0 levels)

-- "o", "a", "s" or "u"
unfoldable pub begin_joint : ℕ → ℕ → Beginning
begin_joint byte levels =
    choose (eqb byte 111) (expecting Or 1 (levels / 2 * 2 + 1))
    (choose (eqb byte 97) (expecting And 2 (levels / 2 * 2 + 1))
    (choose (eqb byte 115) (expecting Since 4 (levels / 2 * 2 + 1))
    (expecting Until 4 (levels / 2 * 2 + 1))))

unfoldable pub go_on : Beginning → Expected → Beginning
go_on b next = choose (ltb 1 b.left) (expecting b.expected (b.left - 1) b.levels) (expecting next 0 b.levels)

unfoldable pub go_on_mark : Beginning → ℕ → Beginning
go_on_mark b byte = choose (digit byte) b (end_term byte b.levels)

unfoldable pub go_on_bound : Beginning → ℕ → ℕ → Expected → Beginning
go_on_bound b byte end next = choose (eqb byte end) (expecting next 0 b.levels) b

abbrev pub following : Expected → Beginning → ℕ → Beginning
following Term b byte = begin_term byte b.levels
following True b byte = go_on b Ended
following Not b byte = go_on b Space
following Space b byte = expecting Term 0 b.levels
following Mark b byte = go_on_mark b byte
following Ended b byte = end_term byte b.levels
following Joint b byte = begin_joint byte b.levels
following Or b byte = go_on b Space
following And b byte = go_on b Space
following Since b byte = go_on b Bracket
following Until b byte = go_on b Bracket
following Bracket b byte = expecting Lower 0 b.levels
following Lower b byte = go_on_bound b byte 44 Upper
following Upper b byte = go_on_bound b byte 93 Space

unfoldable pub step : Beginning → ℕ → Beginning
step b byte = following b.expected b byte

-- behind these bytes
unfoldable pub begun : List ℕ → Beginning
begun bytes = run step (expecting Term 0 1) bytes
