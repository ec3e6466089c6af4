-- Laws of the definitions in specs/Examples. Assumes nothing.
use Rattle.std.specs.Prelude.{refl}
use Rattle.bits.specs.Digits.{digit, below, expanded, gathered}
use Rattle.message.specs.Format.{component_of, minute_of, number_of, named_of, packed_of, fields_of, length_of, good_alive, good_observation, all_written, good_fields, event_in, answer_of, decode_of, first_answer, first_of, used_of, messages_of}
use Rattle.message.specs.Text.{text_of, numbers_good, writing_checks, encode_under}
use Rattle.message.specs.Examples.{Packets, Rules, SmallShift, Texts}

pub small_shift : SmallShift
unfolding decode_of answer_of event_in good_fields all_written good_observation good_alive length_of fields_of packed_of named_of number_of minute_of component_of expanded below digit
small_shift = record { a = refl; b = refl; d = refl; alive = refl; no_number = refl; empty = refl }

pub rules : Rules
unfolding decode_of answer_of event_in good_fields all_written good_observation good_alive length_of fields_of packed_of named_of number_of minute_of component_of expanded below digit
rules = record {
  every = refl;
  late = refl;
  alive_last = refl;
  alive_late = refl;
  alive_named = refl;
  station = refl;
  mark = refl;
  spare_value = refl;
  spare_bit = refl;
  written_zero = refl;
}

pub packets : Packets
unfolding first_of first_answer used_of messages_of decode_of answer_of event_in good_fields all_written good_observation good_alive length_of fields_of packed_of named_of number_of minute_of component_of expanded below digit
packets = record {
  first = refl;
  first_rest = refl;
  bad = refl;
  bad_rest = refl;
  bad_alone = refl;
  early = refl;
  early_rest = refl;
  three = refl;
  cut = refl;
  empty = refl;
}

pub texts : Texts
unfolding gathered below digit text_of numbers_good writing_checks encode_under
texts = record {
  a = refl;
  d = refl;
  alive = refl;
  every = refl;
  nine = refl;
  longer = refl;
  short = refl;
  station = refl;
  station_256 = refl;
  late = refl;
  alive_late = refl;
  uncounted = refl;
  most = refl;
  past_most = refl;
  mark = refl;
  unnamed = refl;
  alive_named = refl;
}
