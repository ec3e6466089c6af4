-- 02, request 2: "To find out whether a minute is quiet for a station, work outwards from that minute". What the search gives, and "the number of
-- places read". A run of m minutes has the places 0 to m, and the number at minute t - 1 stands at place t: the places before minute t are 0 to t,
-- of which place 0 stands for "before minute 0", and those at or after it are t + 1 to m.
use Rattle.std.specs.Prelude.{ℕ, suc, ◌+◌, ◌-◌, ◌≤◌, ◌<◌, ◌≡◌, Bool, not, ◌&&◌, ◌||◌, ◌⊎◌, ltb, leb, eqb}
use Rattle.mtl.specs.Algebra.{two, all}
use Rattle.knowledge.specs.declared.Search.{Search}
use Rattle.knowledge.specs.Trace.{tally}
use Rattle.knowledge.specs.Knowledge.{none, level, full}

-- "the nearest known count before the minute"
pub record NearestBefore (f : ℕ → ℕ) (t a : ℕ) : Type 0 where
  pub before : a ≤ t
  pub known : f a < none
  pub nearest : (i : ℕ) → a < i → i ≤ t → none ≤ f i

-- "the nearest at or after it"
pub record NearestAfter (f : ℕ → ℕ) (m t b : ℕ) : Type 0 where
  pub after : t < b
  pub within : b ≤ m
  pub known : f b < none
  pub nearest : (i : ℕ) → t < i → i < b → none ≤ f i

-- there is none
abbrev pub NoneBefore : (ℕ → ℕ) → ℕ → Type 0
NoneBefore f t = (i : ℕ) → i ≤ t → none ≤ f i

abbrev pub NoneAfter : (ℕ → ℕ) → ℕ → ℕ → Type 0
NoneAfter f m t = (i : ℕ) → t < i → i ≤ m → none ≤ f i

-- is place p one of "those from the nearest known count before the minute to the nearest at or after it, both counted, or to the run's end if there is
-- none"? It is unless some known number on its side of the minute is nearer: after p and before the minute, or at or after the minute and before p.
-- 02 has no word for a run that knows none before the minute, which no sound record has: there it goes to the run's start
unfoldable pub in_reach : (ℕ → ℕ) → ℕ → ℕ → Bool
in_reach f t p = all two 0 (suc t) (λ i. not (ltb p i) || leb none (f i)) && all two 0 p (λ i. not (ltb t i) || leb none (f i))

-- "the number of places read": how many of the places 0 to m
unfoldable pub places_read : (ℕ → ℕ) → ℕ → ℕ → ℕ
places_read f m t = tally (in_reach f t) (suc m)

-- the same number by the places at which it starts and ends
pub record Counted (f : ℕ → ℕ) (m t : ℕ) : Type 0 where
  -- "exactly those from the nearest known count before the minute to the nearest at or after it, both counted"
  pub both : (a b : ℕ) → NearestBefore f t a → NearestAfter f m t b → places_read f m t ≡ suc (b - a)
  -- "or to the run's end if there is none": the places a to m
  pub to_end : (a : ℕ) → NearestBefore f t a → NoneAfter f m t → places_read f m t ≡ suc (m - a)
  -- from the run's start, where none is known before the minute
  pub from_start : (b : ℕ) → NoneBefore f t → NearestAfter f m t b → places_read f m t ≡ suc b
  pub whole_run : NoneBefore f t → NoneAfter f m t → places_read f m t ≡ suc m

-- the known numbers of a run never fall, and they rise by at most one a place. All that the answers need of soundness is this, each its own half
abbrev pub NeverFalls : (ℕ → ℕ) → ℕ → Type 0
NeverFalls f m = (a b : ℕ) → a ≤ b → b ≤ m → f a < none → f b < none → f a ≤ f b

abbrev pub NeverJumps : (ℕ → ℕ) → ℕ → Type 0
NeverJumps f m = (a b : ℕ) → a ≤ b → b ≤ m → f a < none → f b < none → f b ≤ f a + (b - a)

-- 02, request 4: the two numbers that a search found "differ by exactly b − a"
abbrev pub full_gap : Search → Bool
full_gap r = eqb r.later (r.earlier + (r.after - r.before)) && ltb r.later none

-- what the search from minute t gives
pub record Outwards (f : ℕ → ℕ) (m t : ℕ) (r : Search) : Type 0 where
  -- "The answer keeps its meaning": equal known numbers at any place before the minute and any at or after it
  pub answer : NeverFalls f m → r.level ≡ level f m t
  -- 02, request 4: known numbers "that differ by exactly b − a" at any such places
  pub full_answer : NeverJumps f m → full_gap r ≡ full f m t
  pub before : NearestBefore f t r.before ⊎ (NoneBefore f t × (r.before ≡ 0))
  pub after : NearestAfter f m t r.after ⊎ (NoneAfter f m t × (r.after ≡ suc m))
  -- the numbers at these two places
  pub earlier : (NearestBefore f t r.before → r.earlier ≡ f r.before) × (NoneBefore f t → r.earlier ≡ none)
  pub later : (NearestAfter f m t r.after → r.later ≡ f r.after) × (NoneAfter f m t → r.later ≡ none)
  -- it "comes with the number of places read"
  pub reads : r.reads ≡ places_read f m t
