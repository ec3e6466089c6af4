-- How many places are read, by which of the two nearest there are. Assumes nothing.
use Prim.Native.Nat.{ℕ, ◌≤◌, ◌<◌}
use native.Mathlib.Omega.{arith}
use Rattle.knowledge.specs.Knowledge.{none}
use Rattle.knowledge.specs.Outwards.{Counted}
use Rattle.knowledge.proofs.Nearest.{read_from_to}

module _ (f : ℕ → ℕ) (m t : ℕ) where
  pub counted : t ≤ m → Counted f m t
  counted inside = record {
    both = λ a b A B. read_from_to f m t a b (omega (arith, A.before)) (omega (arith, B.after)) B.within A.nearest B.nearest (λ _. A.known) (λ _. (B.after, B.known));
    to_end = λ a A N. read_from_to f m t a m (omega (arith, A.before)) inside (omega arith) A.nearest (λ i l k. N i l (omega arith)) (λ _. A.known) end;
    from_start = λ b N B.
        omega (arith, read_from_to f m t 0 b (omega arith) (omega (arith, B.after)) B.within (λ i l k. N i k) B.nearest start (λ _. (B.after, B.known)));
    whole_run = λ N K.
        omega (arith, read_from_to f m t 0 m (omega arith) inside (omega arith) (λ i l k. N i k) (λ i l k. K i l (omega arith)) start end);
  }
    where
      start : 0 < 0 → f 0 < none
      start l = absurd (let z : ⊥ = omega arith in z)

      end : m < m → (t < m) × (f m < none)
      end l = absurd (let z : ⊥ = omega arith in z)
