-- A row joined with what a run tells, one stretch of minutes after another; and what one more component tells.
-- Assumes nothing.
use mathlib.Core.Path.{◌≡◌, refl, sym, ap, ap₂, ◌∙◌}
use mathlib.Core.Bool.{◌||◌}
use mathlib.Core.List.{List}
use Prim.Native.Nat.{ℕ, ◌+◌, ◌≤◌, ◌<◌}
use native.Mathlib.Nat.{zero-add}
use native.Mathlib.Numerals.{add-one}
use native.Mathlib.Decide.{dec_lt}
use native.Mathlib.Omega.{arith}
use lib.ListN.{get_or}
use Rattle.kleene.specs.Truth.{Truth, code_of, value_of, or3}
use Rattle.kleene.proofs.Truth.{read_back}
use Rattle.mtl.specs.Algebra.{any, all}
use Rattle.mtl.specs.Algebra as algebra
use Rattle.rows.specs.Over.{Over}
use Rattle.rows.proofs.Laws.{two}
use Rattle.policy.specs.declared.Sizes.{Sizes}
use Rattle.knowledge.specs.Knowledge.{Knowledge, number, is_point, is_none, point_known, run_of, level, full, says}
use Rattle.knowledge_store.proofs.Merging.{or_says, code_below}
use Rattle.logic.proofs.Bools.{de_morgan}
use Rattle.knowledge.specs.Run.{Codes, joined, told}

pub stretch : (f : ℕ → ℕ) (m mid hi : ℕ) (old row new : List ℕ) (x : Truth) → Over (joined old (told f m)) 0 mid old row
    → Over (joined row (λ _. x)) mid hi row new → mid ≤ hi → ((t : ℕ) → mid ≤ t → t < hi → x ≡ told f m t) → Over (joined old (told f m)) 0 hi old new
stretch f m mid hi old row new x o s l e =
    two (joined old (told f m)) (joined row (λ _. x)) 0 mid hi old row new o s (omega arith) l
    (λ t p q. ap₂ (λ (x : ℕ) (y : Truth). code_of (or3 (value_of x) y)) (o.above t p) (e t p q))

-- a row that holds what x tells, and 0 from m on, is one of codes
pub row_codes : (x : ℕ → Truth) (m : ℕ) (row : List ℕ) → ((t : ℕ) → t < m → get_or row t 0 ≡ code_of (x t)) → ((t : ℕ) → m ≤ t → get_or row t 0 ≡ 0) → Codes row
row_codes x m row f g i = go (dec_lt i m)
  where
    go : Dec (i < m) → get_or row i 0 < 3
    go (yes a) = rw (f i a) (code_below (x i))
    go (no a) = rw (g i (omega arith)) (omega arith)

-- and such a row, joined, is one
pub codes_kept : (x : ℕ → Truth) (lo hi : ℕ) (old new : List ℕ) → Codes old → Over (joined old x) lo hi old new → Codes new
codes_kept x lo hi old new h o i = go (dec_lt i lo) (dec_lt i hi)
  where
    go : Dec (i < lo) → Dec (i < hi) → get_or new i 0 < 3
    go (yes a) b = rw (o.below i a) (h i)
    go (no a) (yes b) = rw (o.inside i (omega arith) b) (code_below (or3 (value_of (get_or old i 0)) (x i)))
    go (no a) (no b) = rw (o.above i (omega arith)) (h i)

-- what the first n components tell of minute t
unfoldable pub points : List ℕ → ℕ → ℕ → ℕ → Truth
points l m n t = says (any algebra.two 0 n (λ c. full (run_of l m c) m t)) (all algebra.two 0 n (λ c. level (run_of l m c) m t))

-- one more component is joined by Kleene's or
pub points_more : (l : List ℕ) (m n t : ℕ) → points l m (n + 1) t ≡ or3 (points l m n t) (told (run_of l m n) m t)
unfolding points told
points_more l m n t =
    let busy = any algebra.two 0 n (λ c. full (run_of l m c) m t) in
    let quiet = all algebra.two 0 n (λ c. level (run_of l m c) m t) in
    rw add-one
    (ap (says (busy || full (run_of l m (0 + n)) m t)) (de_morgan quiet (level (run_of l m (0 + n)) m t))
    ∙ sym (or_says busy quiet (full (run_of l m (0 + n)) m t) (level (run_of l m (0 + n)) m t))
    ∙ ap (λ (j : ℕ). or3 (points l m n t) (told (run_of l m j) m t)) (zero-add n))

pub all_points : (z : Sizes) (k : Knowledge) (t : ℕ) → points k.numbers z.minutes z.components t ≡ point_known z k t
unfolding points is_point is_none number full level
all_points z k t = refl

-- the row after one more component
pub one_more_run : (l : List ℕ) (f : ℕ → ℕ) (m n : ℕ) (row new : List ℕ) → Over (joined row (told f m)) 0 m row new
    → ((t : ℕ) → t < m → get_or row t 0 ≡ code_of (points l m n t)) → ((t : ℕ) → told f m t ≡ told (run_of l m n) m t)
    → (t : ℕ) → t < m → get_or new t 0 ≡ code_of (points l m (n + 1) t)
one_more_run l f m n row new o e s t h =
    o.inside t (omega arith) h
    ∙ ap code_of (ap₂ or3 (read_back (get_or row t 0) (points l m n t) (e t h)) (s t) ∙ sym (points_more l m n t))
