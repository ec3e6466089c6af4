-- Computed cases that pin what the knowledge tells, what storing does and what is sound: each fails for a wrong definition that the theorems alone
-- would let pass. Only the definitions are imported, so that a wrong one is refused here by itself.
use Rattle.std.specs.Prelude.{ℕ, ◌≡◌, true, false, List, [], ◌∷◌, ◌++◌, get_or}
use Rattle.kleene.specs.Truth.{Truth, unknown, true3, false3}
use Rattle.policy.specs.declared.Sizes.{Sizes}
use Rattle.message.specs.declared.Event.{Event}
use Rattle.message.specs.declared.Event.TheVariants.{Observation, Alive}
use Rattle.knowledge.specs.Knowledge.{Knowledge, none, fact, number, sound, point_known, fresh, stored}
use Rattle.knowledge.specs.Outwards.{places_read}

-- one proposition, n components, four minutes: a run has five places, the first of which stands for "before minute 0"
abbrev sizes : ℕ → Sizes
sizes n = record { propositions = 1; components = n; minutes = 4 }

-- a place that is not known
abbrev u : ℕ
u = none

abbrev run : ℕ → ℕ → ℕ → ℕ → ℕ → List ℕ
run a b c d e = a ∷ b ∷ c ∷ d ∷ e ∷ []

abbrev with_numbers : List ℕ → Knowledge
with_numbers numbers = record { numbers = numbers; facts = [] }

abbrev with_facts : List ℕ → Knowledge
with_facts facts = record { numbers = []; facts = facts }

abbrev told : Sizes → List ℕ → ℕ → Truth
told z numbers t = point_known z (with_numbers numbers) t

-- what is told of the four minutes
abbrev minutes : Truth → Truth → Truth → Truth → List Truth
minutes a b c d = a ∷ b ∷ c ∷ d ∷ []

abbrev by_two : List ℕ → List ℕ → List Truth
by_two f g = minutes (told (sizes 2) (f ++ g) 0) (told (sizes 2) (f ++ g) 1) (told (sizes 2) (f ++ g) 2) (told (sizes 2) (f ++ g) 3)

abbrev by_three : List ℕ → List ℕ → List ℕ → List Truth
by_three f g h =
    minutes (told (sizes 3) (f ++ g ++ h) 0) (told (sizes 3) (f ++ g ++ h) 1) (told (sizes 3) (f ++ g ++ h) 2) (told (sizes 3) (f ++ g ++ h) 3)

abbrev by_fresh : List Truth
by_fresh =
    minutes (point_known (sizes 2) (fresh (sizes 2)) 0) (point_known (sizes 2) (fresh (sizes 2)) 1) (point_known (sizes 2) (fresh (sizes 2)) 2)
    (point_known (sizes 2) (fresh (sizes 2)) 3)

-- a run that says nothing, one that says quiet throughout, one quiet across a gap, and one busy in minute 0
abbrev silent : List ℕ
silent = run 0 u u u u

abbrev idle : List ℕ
idle = run 0 0 0 0 0

abbrev gap : List ℕ
gap = run 0 u 0 u u

abbrev busy : List ℕ
busy = run 0 1 u u u

abbrev open_throughout : List Truth
open_throughout = minutes unknown unknown unknown unknown

-- how many places the searches from the four minutes read
abbrev reads : List ℕ → List ℕ
reads l =
    let f : ℕ → ℕ = λ p. get_or l p 0 in
    places_read f 4 0 ∷ places_read f 4 1 ∷ places_read f 4 2 ∷ places_read f 4 3 ∷ []

abbrev each_reads : ℕ → ℕ → ℕ → ℕ → List ℕ
each_reads a b c d = a ∷ b ∷ c ∷ d ∷ []

-- the fresh knowledge of two components, with an event of the second one
abbrev with_event : Event → Knowledge
with_event x = stored (sizes 2) (fresh (sizes 2)) (record { component = 1; event = x })

-- one component's run beside one minute's two words of facts
abbrev IsSound : List ℕ → ℕ → ℕ → Type 0
IsSound f known values = sound (sizes 1) (record { numbers = f; facts = known ∷ values ∷ 0 ∷ 0 ∷ 0 ∷ 0 ∷ 0 ∷ 0 ∷ [] }) ≡ true

abbrev IsCorrupt : List ℕ → ℕ → ℕ → Type 0
IsCorrupt f known values = sound (sizes 1) (record { numbers = f; facts = known ∷ values ∷ 0 ∷ 0 ∷ 0 ∷ 0 ∷ 0 ∷ 0 ∷ [] }) ≡ false

pub record Pins : Type 0 where
  -- equal numbers with an unknown place between them: both minutes are quiet, and those after them open
  pub quiet_across_gap : by_two gap gap ≡ minutes false3 false3 unknown unknown
  -- a gap may start past the first place, and it goes up to the last minute
  pub quiet_to_the_last : by_two (run 0 0 u u 0) (run 0 u u u 0) ≡ minutes false3 false3 false3 false3
  -- quiet only if every component says so: not the first, not the second, not the one between
  pub quiet_not_by_first : by_two gap silent ≡ open_throughout
  pub quiet_not_by_second : by_two silent gap ≡ open_throughout
  pub quiet_not_by_outer : by_three gap silent gap ≡ open_throughout
  -- one component says so by neighbouring places, the other across a gap
  pub quiet_either_way : by_two (run 0 0 u u u) gap ≡ minutes false3 unknown unknown unknown
  -- busy by the last component alone, also where the others are known to be quiet; the last minute too
  pub busy_by_last : by_three silent silent busy ≡ minutes true3 unknown unknown unknown
  pub busy_among_idle : by_three idle idle (run 0 1 1 1 2) ≡ minutes true3 false3 false3 true3
  -- busy by the first alone, and by the middle one alone
  pub busy_by_first : by_three busy silent silent ≡ minutes true3 unknown unknown unknown
  pub busy_by_middle : by_three silent busy silent ≡ minutes true3 unknown unknown unknown
  -- 02, request 4: all minutes of a full gap are busy, of one that starts at the first place, one that ends at the last, and one between
  pub busy_full_gap : by_two (run 0 u 2 u u) idle ≡ minutes true3 true3 unknown unknown
  pub busy_to_the_last : by_two (run 0 0 u u 3) idle ≡ minutes false3 true3 true3 true3
  pub busy_between : by_two (run 0 0 u 2 2) silent ≡ minutes unknown true3 true3 unknown
  -- "A mixer lost two slips at minutes 0 and 1, then reported count 3 at minute 2": the minute itself by its own two numbers, the others by the run's
  -- start and the number before
  pub lost_two : by_two (run 0 u 2 3 u) silent ≡ minutes true3 true3 true3 unknown
  -- by the last component alone, also where the others are known to be quiet, and where the first is open
  pub busy_gap_by_last : by_three idle silent (run 0 u 2 u u) ≡ minutes true3 true3 unknown unknown
  -- two full gaps, of different components
  pub busy_by_turns : by_two (run 0 u 2 2 2) (run 0 0 0 u 2) ≡ minutes true3 true3 true3 true3
  -- open otherwise: one observation in two minutes, two in three, and neighbouring numbers two apart
  pub open_gap : by_two (run 0 u 1 u u) idle ≡ minutes unknown unknown unknown unknown
  pub open_one_short : by_two (run 0 u u 2 u) idle ≡ minutes unknown unknown unknown unknown
  pub open_two_apart : by_two (run 0 2 u u u) idle ≡ minutes unknown unknown unknown unknown
  -- a run's last place is not the next run's first
  pub open_at_the_end : by_two (run 0 0 0 0 u) idle ≡ minutes false3 false3 false3 unknown
  -- a search reads the nearest known places and those between: two where all are known, and the last minute's too
  pub reads_known : reads (run 0 1 1 1 2) ≡ each_reads 2 2 2 2
  pub reads_gaps : reads (run 0 0 u u 0) ≡ each_reads 2 4 4 4
  pub reads_gap_first : reads (run 0 u u 1 1) ≡ each_reads 4 4 4 2
  -- with none at or after the minute it reads to the run's end, the last place too; of a fresh run that is all of it
  pub reads_to_end : reads busy ≡ each_reads 2 4 4 4
  pub reads_last : reads (run 0 0 0 0 u) ≡ each_reads 2 2 2 2
  pub reads_fresh : reads silent ≡ each_reads 5 5 5 5
  -- with none before it, to the run's start
  pub reads_from_start : reads (run u u 1 u u) ≡ each_reads 3 3 3 3
  pub reads_first_known : reads (run u 1 u 1 u) ≡ each_reads 2 3 3 2
  pub reads_whole : reads (run u u u u u) ≡ each_reads 5 5 5 5
  -- the fresh knowledge tells nothing
  pub fresh_open : by_fresh ≡ open_throughout
  pub fresh_silent : (fresh (sizes 2)).numbers ≡ silent ++ silent
  pub fresh_facts : (fresh (sizes 2)).facts ≡ 0 ∷ 0 ∷ 0 ∷ 0 ∷ 0 ∷ 0 ∷ 0 ∷ 0 ∷ []
  -- a minute's first word says which propositions are known, its second word their values
  pub fact_true : fact (with_facts (1 ∷ 1 ∷ 1 ∷ 0 ∷ 0 ∷ 0 ∷ [])) 0 0 ≡ true3
  pub fact_false : fact (with_facts (1 ∷ 1 ∷ 1 ∷ 0 ∷ 0 ∷ 0 ∷ [])) 0 1 ≡ false3
  pub fact_unknown : fact (with_facts (1 ∷ 1 ∷ 1 ∷ 0 ∷ 0 ∷ 0 ∷ [])) 0 2 ≡ unknown
  pub fact_of_its_bit : fact (with_facts (0 ∷ 0 ∷ 2 ∷ 2 ∷ [])) 1 1 ≡ true3
  pub fact_of_no_other : fact (with_facts (0 ∷ 0 ∷ 2 ∷ 2 ∷ [])) 0 1 ≡ unknown
  -- an alive's number stands at the place before its own minute, an observation's at its minute, and one less before it
  pub alive_before : number (sizes 2) (with_event (Alive 2 1)) 1 2 ≡ 1
  pub alive_after : number (sizes 2) (with_event (Alive 2 1)) 1 3 ≡ u
  pub observed_before : number (sizes 2) (with_event (Observation 2 1 1 1)) 1 2 ≡ 0
  pub observed_after : number (sizes 2) (with_event (Observation 2 1 1 1)) 1 3 ≡ 1
  -- no other component's number, and the facts of no other minute
  pub observed_own : number (sizes 2) (with_event (Observation 2 1 1 1)) 0 3 ≡ u
  pub observed_facts : (with_event (Observation 2 1 1 1)).facts ≡ 0 ∷ 0 ∷ 0 ∷ 0 ∷ 1 ∷ 1 ∷ 0 ∷ 0 ∷ []
  pub alive_facts : (with_event (Alive 2 1)).facts ≡ 0 ∷ 0 ∷ 0 ∷ 0 ∷ 0 ∷ 0 ∷ 0 ∷ 0 ∷ []
  -- sound: the first number is 0, and a later one is above an earlier one by at most their distance, also across a place that is not known
  pub sound_run : IsSound (run 0 1 u 3 u) 1 1
  pub first_not_zero : IsCorrupt (run 1 1 u u u) 0 0
  pub first_not_known : IsCorrupt (run u u u u u) 0 0
  pub falls : IsCorrupt (run 0 1 u 0 u) 0 0
  pub climbs : IsCorrupt (run 0 u 3 u u) 0 0
  -- no value bit where its proposition is not known, and no proposition beyond the policy
  pub value_not_known : IsCorrupt silent 0 1
  pub beyond_policy : IsCorrupt silent 2 0
