-- Laws of the definitions in specs/Pins. Assumes nothing.
use Rattle.std.specs.Prelude.{refl}
use Rattle.bits.specs.Bits.{bit}
use Rattle.knowledge.specs.Knowledge.{follow, steady, level, full, word_sound, noted, valued, number, is_point, is_none, sound, fresh, stored}
use Rattle.knowledge.specs.Outwards.{in_reach, places_read}
use Rattle.knowledge.specs.Pins.{Pins}

pub pins : Pins
unfolding bit follow steady level full word_sound noted valued number is_point is_none sound fresh stored in_reach places_read
pins = record {
  quiet_across_gap = refl;
  quiet_to_the_last = refl;
  quiet_not_by_first = refl;
  quiet_not_by_second = refl;
  quiet_not_by_outer = refl;
  quiet_either_way = refl;
  busy_by_last = refl;
  busy_among_idle = refl;
  busy_by_first = refl;
  busy_by_middle = refl;
  busy_full_gap = refl;
  busy_to_the_last = refl;
  busy_between = refl;
  lost_two = refl;
  busy_gap_by_last = refl;
  busy_by_turns = refl;
  open_gap = refl;
  open_one_short = refl;
  open_two_apart = refl;
  open_at_the_end = refl;
  reads_known = refl;
  reads_gaps = refl;
  reads_gap_first = refl;
  reads_to_end = refl;
  reads_last = refl;
  reads_fresh = refl;
  reads_from_start = refl;
  reads_first_known = refl;
  reads_whole = refl;
  fresh_open = refl;
  fresh_silent = refl;
  fresh_facts = refl;
  fact_true = refl;
  fact_false = refl;
  fact_unknown = refl;
  fact_of_its_bit = refl;
  fact_of_no_other = refl;
  alive_before = refl;
  alive_after = refl;
  observed_before = refl;
  observed_after = refl;
  observed_own = refl;
  observed_facts = refl;
  alive_facts = refl;
  sound_run = refl;
  first_not_zero = refl;
  first_not_known = refl;
  falls = refl;
  climbs = refl;
  value_not_known = refl;
  beyond_policy = refl;
}
