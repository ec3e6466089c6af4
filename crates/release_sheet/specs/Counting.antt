-- 01: "taken N refused N". What the tally is after one more message, by its answer.
use Rattle.std.specs.Prelude.{ℕ, ◌+◌, Result, Ok, Err}
use Rattle.refusal.specs.declared.Refusal.{Refusal}
use Rattle.release_sheet.specs.declared.Tally.{Tally}

abbrev pub tallied : Tally → Result ℕ Refusal → Tally
tallied t (Ok n) = record { taken = t.taken + 1; refused = t.refused }
tallied t (Err r) = record { taken = t.taken; refused = t.refused + 1 }
