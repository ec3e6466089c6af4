-- What opening writes, cell by cell. Assumes nothing.
use Rattle.std.specs.Prelude.{◌≡◌, List, ℕ, ◌≤◌, length, get_or}
use Rattle.std.proofs.Common.{sym, ap, ap₂, ◌∙◌, ext_get_or}
use Rattle.rows.specs.Grid.{table}
use Rattle.rows.proofs.Grid.{table_length, table_at}
use Rattle.origin.specs.Origin.{stamped, origin_of}
use Rattle.origin.proofs.Origin.{origin_long, origin_byte}

pub written : (s old new : List ℕ) (extent : ℕ) → length s ≤ 517 → length old ≡ 517 → new ≡ table (length old) (λ i. get_or s i 0) → extent ≡ length s
    → stamped new extent ≡ origin_of s
written s old new extent short long e f = ap₂ stamped (e ∙ ap (λ (n : ℕ). table n (λ i. get_or s i 0)) long ∙ whole) f
  where
    whole : table 517 (λ i. get_or s i 0) ≡ (origin_of s).bytes
    whole =
        ext_get_or 0 (table 517 (λ i. get_or s i 0)) (origin_of s).bytes (table_length 517 (λ i. get_or s i 0) ∙ sym (origin_long s short))
        (λ i h. table_at 517 (λ j. get_or s j 0) i 0 (rw (table_length 517 (λ j. get_or s j 0)) at h) ∙ sym (origin_byte s i))
