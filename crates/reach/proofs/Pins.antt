-- Laws of the definitions in specs/Pins. Assumes nothing.
use Rattle.std.specs.Prelude.{refl}
use Rattle.mtl.specs.Reading.{since, until, deep, reading}
use Rattle.reach.specs.Reach.{reach_deep, reach}
use Rattle.reach.specs.Pins.{Pins}

pub pins : Pins
unfolding since until deep reading reach_deep reach
pins = record {
  of_true = refl;
  of_proposition = refl;
  of_not = refl;
  of_or = refl;
  of_or_left = refl;
  of_and = refl;
  of_and_left = refl;
  of_implies = refl;
  of_implies_left = refl;
  of_since = refl;
  of_since_left = refl;
  of_once = refl;
  of_historically = refl;
  of_until = refl;
  of_until_left = refl;
  of_eventually = refl;
  of_always = refl;
  until_in = refl;
  until_out = refl;
  eventually_in = refl;
  eventually_out = refl;
  always_in = refl;
  always_out = refl;
  nested_reach = refl;
  nested_in = refl;
  nested_out = refl;
}
