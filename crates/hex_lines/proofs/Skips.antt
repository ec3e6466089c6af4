-- Some elements left out, and then some more. Assumes nothing.
use Rattle.std.proofs.Common.{◌≡◌, ℕ, ◌+◌, List, drop, ap, ◌∙◌}
use Rattle.std.proofs.lemmas.List.{drop-drop}

pub skipped : (m n : ℕ) (all rest last : List ℕ) → rest ≡ drop m all → last ≡ drop n rest → last ≡ drop (m + n) all
skipped m n all rest last r l = l ∙ ap (drop n) r ∙ drop-drop n m all
