-- Computed cases that pin the reading: each fails for a wrong reading that the theorems alone would let pass.
use Rattle.std.specs.Prelude.{refl}
use Rattle.mtl.specs.Reading.{since, until, deep, reading}
use Rattle.mtl.specs.Replacing.{moved}
use Rattle.mtl.specs.Pins.{Pins}

pub pins : Pins
unfolding since until deep reading moved
pins = record {
  since_at_j = refl;
  until_at_j = refl;
  since_at_t = refl;
  until_at_t = refl;
  since_lower_in = refl;
  since_lower_out = refl;
  since_upper_in = refl;
  since_upper_out = refl;
  since_before = refl;
  until_lower_in = refl;
  until_lower_out = refl;
  until_upper_in = refl;
  until_upper_out = refl;
  since_quiet = refl;
  since_open = refl;
  until_quiet = refl;
  since_no_point = refl;
  until_past = refl;
  until_past_point = refl;
  until_past_none = refl;
  missing = refl;
  excluded_middle = refl;
  and_both = refl;
  and_one = refl;
  and_open = refl;
  and_false = refl;
  and_at_quiet = refl;
  and_at_open = refl;
  and_past = refl;
  implies_there = refl;
  implies_back = refl;
  implies_self_open = refl;
  implies_at_quiet = refl;
  implies_at_open = refl;
  implies_past = refl;
  once_lower_in = refl;
  once_lower_out = refl;
  once_upper_in = refl;
  once_upper_out = refl;
  once_before = refl;
  once_quiet = refl;
  once_none = refl;
  once_open = refl;
  once_at_quiet = refl;
  once_past = refl;
  historically_lower_in = refl;
  historically_lower_out = refl;
  historically_upper_in = refl;
  historically_upper_out = refl;
  historically_before = refl;
  historically_part = refl;
  historically_none = refl;
  historically_quiet = refl;
  historically_open = refl;
  historically_at_quiet = refl;
  historically_past = refl;
  eventually_lower_in = refl;
  eventually_lower_out = refl;
  eventually_upper_in = refl;
  eventually_upper_out = refl;
  eventually_quiet = refl;
  eventually_open = refl;
  eventually_at_quiet = refl;
  eventually_past = refl;
  eventually_from_m = refl;
  eventually_across = refl;
  always_lower_in = refl;
  always_lower_out = refl;
  always_upper_in = refl;
  always_upper_out = refl;
  always_quiet = refl;
  always_open = refl;
  always_at_quiet = refl;
  always_past = refl;
  always_from_m = refl;
  always_across = refl;
  and_lines = refl;
  historically_lines = refl;
}
