-- A buffer that a loop filled from the front: it is the table of what was written, or all zeros.
use Rattle.std.specs.Prelude.{◌≡◌, List, ℕ, ◌<◌, length, replicate}
use Rattle.std.proofs.Common.{sym, ◌∙◌, zero-le, ext_get_or}
use Rattle.std.proofs.lemmas.List.{length-replicate}
use Rattle.rows.specs.Over.{Over}
use Rattle.rows.proofs.Laws.{zeros}
use Rattle.rows.specs.Grid.{table}
use Rattle.rows.proofs.Grid.{table_length, table_at}

pub filled : (F : ℕ → ℕ) (old new : List ℕ) → Over F 0 (length old) old new → new ≡ table (length old) F
filled F old new o =
    ext_get_or 0 new (table (length old) F) (o.long ∙ sym (table_length (length old) F))
    (λ i h. let l : i < length old = rw o.long at h in o.inside i zero-le l ∙ sym (table_at (length old) F i 0 l))

pub cleared : (old new : List ℕ) → Over (λ i. 0) 0 (length old) old new → new ≡ replicate (length old) 0
cleared old new o =
    ext_get_or 0 new (replicate (length old) 0) (o.long ∙ sym (length-replicate {A = ℕ} (length old) 0))
    (λ i h. let l : i < length old = rw o.long at h in o.inside i zero-le l ∙ sym (zeros (length old) i))
