-- The running indexes of since and until. A threshold k is 2 for "surely so" and 1 for "may be so", in the order of truth.
use Rattle.std.specs.Prelude.{ℕ, ◌+◌, ◌-◌, ◌≤◌, ◌<◌, ◌≡◌, Bool, true, false, cond, List, leb, get_or}
use Rattle.kleene.specs.Truth.{Truth, and3}
use Rattle.kleene.specs.Rank.{rank_of}
use Rattle.kleene.specs.Tests.{literal}
use Rattle.valuation.specs.declared.Nearest.{Nearest}

-- e(j) and f(j), or e(j) and not f(j): as a rank
unfoldable pub ranked : Bool → (ℕ → Truth) → (ℕ → Truth) → ℕ → ℕ
ranked negated e f j = rank_of (and3 (e j) (literal negated (f j)))

-- e(j) and β(j), where a since or until begins
abbrev pub begun : (ℕ → Truth) → (ℕ → Truth) → ℕ → ℕ
begun = ranked false

-- e(s) and not α(s), where it breaks off
abbrev pub broken : (ℕ → Truth) → (ℕ → Truth) → ℕ → ℕ
broken = ranked true

-- the first m cells are f's ranks
abbrev pub Ranks : ℕ → (ℕ → ℕ) → List ℕ → Type 0
Ranks m f r = (t : ℕ) → t < m → get_or r t 0 ≡ f t

-- an index once a minute of rank v is passed, whose own index is here
abbrev pub moved : ℕ → ℕ → ℕ → ℕ → ℕ
moved k v here old = cond (leb k v) here old

-- r - 1 is the last i < n with k ≤ f i; r is 0 where there is none
pub record Last (k : ℕ) (f : ℕ → ℕ) (n r : ℕ) : Type 0 where
  pub within : r ≤ n
  pub there : (i : ℕ) → r ≡ i + 1 → k ≤ f i
  pub after : (i : ℕ) → r ≤ i → i < n → f i < k

-- going up, before minute n
pub record Lasts (f : ℕ → ℕ) (n : ℕ) (p : Nearest) : Type 0 where
  pub sure : Last 2 f n p.sure
  pub may : Last 1 f n p.may

-- past every minute that is asked for
abbrev pub far : ℕ
far = 4096

-- going down is going up with time turned round
abbrev pub turned : (ℕ → ℕ) → ℕ → ℕ
turned f i = f (far - 1 - i)

abbrev pub turned_nearest : Nearest → Nearest
turned_nearest p = record { sure = far - p.sure; may = far - p.may }

-- the first i with n ≤ i and k ≤ f i; far where there is none before far
abbrev pub Firsts : (ℕ → ℕ) → ℕ → Nearest → Type 0
Firsts f n p = Lasts (turned f) (far - n) (turned_nearest p)
