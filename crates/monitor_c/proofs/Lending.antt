-- A writer's outcome, and a policy's lines as C lends them. Assumes nothing.
use Prim.Native.Nat.{ℕ}
use mathlib.Core.Path.{◌≡◌, ap, ap₂, ◌∙◌}
use mathlib.Core.List.{List}
use Rattle.refusal.specs.Writes.{Written}
use Rattle.refusal.specs.Writes.{Output}
use Rattle.policy.specs.declared.LineNumbers.{LineNumbers}
use Rattle.policy.specs.Text.{encode_of}
use Rattle.line_table.specs.Table.{lines_from}
use Rattle.c_answers.specs.Returned.{policy_numbers, number_of, detail_of, ReturnedText, returned_text}

-- a writer's outcome handed on
pub handed_text : (w : Written) (out : List ℕ) (o : Output) (r d : ℕ) → ◌≡◌ {A = Output} (record { answer = w; out = out }) o → d ≡ detail_of (λ n. n) w → r ≡ number_of w
    → ◌≡◌ {A = ReturnedText} (record { number = r; detail = d; out = out }) (returned_text o)
handed_text w out o r d e f g =
    ap₂ {C = ReturnedText} (λ (n m : ℕ). record { number = n; detail = m; out = out }) g f ∙ ap returned_text e

-- the policy's lines are those that were lent
pub lent_lines : (propositions components minutes count : ℕ) (f : List ℕ) (lines : List LineNumbers) (out : List ℕ) (o : Output) → lines ≡ lines_from f 64
    → o ≡ encode_of (record { propositions = propositions; components = components; minutes = minutes; count = count; lines = lines }) out
    → o ≡ encode_of (policy_numbers propositions components minutes count f) out
lent_lines propositions components minutes count f lines out o e g =
    g
    ∙ ap (λ (l : List LineNumbers). encode_of (record { propositions = propositions; components = components; minutes = minutes; count = count; lines = l }) out) e
