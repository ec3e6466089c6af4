-- What a call that writes leaves in the lent buffer (02, request 3; 01: "a call added later that writes into a longer buffer keeps the rest of it").
use Rattle.std.specs.Prelude.{ℕ, List, ◌++◌, length, drop, Result, Err, Ok}
use Rattle.refusal.specs.Checks.{Checked}
use Rattle.refusal.specs.declared.Refusal.{Refusal}

-- what a call that writes a text answers: how long the text is, or why nothing was written
abbrev pub Written : Type 0
Written = Result ℕ Refusal

-- the answer, and the buffer afterwards
pub record Output : Type 0 where
  pub answer : Written
  pub out : List ℕ

-- "write the card or slip .. and give its length": the text from the buffer's start, the rest as it was; where a check refuses, nothing is written
abbrev pub written : Checked → List ℕ → List ℕ → Output
written (Ok _) text out = record { answer = Ok (length text); out = text ++ drop (length text) out }
written (Err r) text out = record { answer = Err r; out = out }
