-- The words of the functions' contracts: what is asked of one run, of a list of runs, and of the row that they tell.
use Rattle.std.specs.Prelude.{ℕ, suc, ◌+◌, ◌-◌, ◌≤◌, ◌<◌, min, ◌≡◌, Bool, cond, ◌&&◌, List, eqb, get_or, length}
use Rattle.kleene.specs.Truth.{Truth, code_of, value_of, or3}
use Rattle.policy.specs.declared.Sizes.{Sizes}
use Rattle.message.specs.declared.Event.{Event}
use Rattle.message.specs.declared.Message.{Message}
use Rattle.knowledge.specs.declared.Found.{Found}
use Rattle.knowledge.specs.Knowledge.{Knowledge, most_minutes, none, run_of, Steady, steady, level, full, says, free_place, point_known}

-- the run of a list
abbrev pub cell : List ℕ → ℕ → ℕ
cell l p = get_or l p 0

-- the knowledge in two lists
abbrev pub held : List ℕ → List ℕ → Knowledge
held numbers facts = record { numbers = numbers; facts = facts }

-- an event and its component
abbrev pub sent : ℕ → Event → Message
sent component event = record { component = component; event = event }

-- what the run tells of minute t, of which there are m: did its component make an observation
unfoldable pub told : (ℕ → ℕ) → ℕ → ℕ → Truth
told f m t = says (full f m t) (level f m t)

-- a row of truth codes
abbrev pub Codes : List ℕ → Type 0
Codes row = (i : ℕ) → get_or row i 0 < 3

-- the same with what x tells joined to each cell by Kleene's or
abbrev pub joined : List ℕ → (ℕ → Truth) → ℕ → ℕ
joined row x i = code_of (or3 (value_of (get_or row i 0)) (x i))

-- the run with the number v at place p
unfoldable pub put : (ℕ → ℕ) → ℕ → ℕ → ℕ → ℕ
put f p v i = cond (eqb i p) v (f i)

-- may v be stored at place p: it is not 65535, what is known there is v, and the run with it is steady
unfoldable pub may : (ℕ → ℕ) → ℕ → ℕ → ℕ → Bool
may f n p v = free_place f p v && steady (put f p v) n

pub record May (f : ℕ → ℕ) (n p v : ℕ) : Type 0 where
  pub small : v < none
  pub nothing_else : f p < none → f p ≡ v
  pub stored : Steady (put f p v) n

-- and an observation's two numbers, each by itself
abbrev pub may_observe : (ℕ → ℕ) → ℕ → ℕ → ℕ → Bool
may_observe f n t v = may f n (suc t) v && may f n t (v - 1)

-- r is the first known place from `from` on, or the end n
pub record Next (f : ℕ → ℕ) (n from r : ℕ) : Type 0 where
  pub past : from ≤ r
  pub within : r ≤ n
  pub between : (i : ℕ) → from ≤ i → i < r → none ≤ f i
  pub there : r < n → f r < none

-- what reading forth from `from` in a run of n places finds, and how many places it reads: with no number the place is n
pub record Forth (f : ℕ → ℕ) (n from : ℕ) (r : Found) : Type 0 where
  pub place : Next f n from r.place
  pub number : r.place < n → r.number ≡ f r.place
  pub nothing : n ≤ r.place → r.number ≡ none
  pub reads : from + r.reads ≡ min (suc r.place) n

-- r is the last known place before `place`
pub record Previous (f : ℕ → ℕ) (place r : ℕ) : Type 0 where
  pub before : r < place
  pub known : f r < none
  pub between : (i : ℕ) → r < i → i < place → none ≤ f i

-- what reading back from `place` finds, and how many places it reads: with no number the place is 0
pub record Back (f : ℕ → ℕ) (place : ℕ) (r : Found) : Type 0 where
  pub before : r.place < place
  pub between : (i : ℕ) → r.place < i → i < place → none ≤ f i
  pub there : 0 < r.place → f r.place < none
  pub number : f r.place < none → r.number ≡ f r.place
  pub nothing : none ≤ f r.place → r.number ≡ none
  pub reads : r.place + r.reads ≡ place

-- every component's run is steady
abbrev pub SteadyRuns : Sizes → List ℕ → Type 0
SteadyRuns z l = (c : ℕ) → c < z.components → Steady (run_of l z.minutes c) (suc z.minutes)

-- the row of the numbers: for each minute whether it is a time point, as a truth code, and 0 from the last minute on
pub record PointRow (z : Sizes) (numbers row : List ℕ) : Type 0 where
  pub long : length row ≡ most_minutes
  pub inside : (k : Knowledge) → k.numbers ≡ numbers → (t : ℕ) → t < z.minutes → get_or row t 0 ≡ code_of (point_known z k t)
  pub past : (t : ℕ) → z.minutes ≤ t → get_or row t 0 ≡ 0
