-- 02, request 1: the part of a packet that the reader of the first message hands back.
use Rattle.std.specs.Prelude.{ℕ, ◌+◌, ◌≡◌, List, drop}
use Rattle.std.specs.Borrow.{Bor}

-- the part of a slice from its n-th element on, at its own place in the caller's block: no copy
abbrev pub Part : Bor (List ℕ) → ℕ → Bor (List ℕ) → Type 0
Part s n r = (r.now ≡ drop n s.now) × (r.ref_ptr ≡ (s.ref_ptr.0, s.ref_ptr.1 + n))
