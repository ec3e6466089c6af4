-- Laws of the definitions in specs/Table. Assumes nothing.
use Rattle.std.specs.Prelude.{refl}
use Rattle.refusal.specs.Table.{PacketTable, Table}

pub table : Table
table = record {
  cut_card = λ at. (refl, refl);
  bad_heading = λ at. (refl, refl);
  bad_line = λ at. (refl, refl);
  rule_count = (refl, refl);
  wrong_tray = (refl, refl);
  spoiled_record = (refl, refl);
  cut_slip = λ at. (refl, refl);
  bad_slip = (refl, refl);
  clash = (refl, refl);
  off_the_sheet = (refl, refl);
  short_paper = (refl, refl);
  other_card = (refl, refl);
  unreadable_rule = λ at. (refl, refl);
  too_much_rule = λ at. (refl, refl);
}

pub packet_table : PacketTable
packet_table = record {
  cut_card = λ start at. refl;
  bad_heading = λ start at. refl;
  bad_line = λ start at. refl;
  rule_count = λ start. refl;
  wrong_tray = λ start. refl;
  spoiled_record = λ start. refl;
  other_card = λ start. refl;
  cut_slip = λ start at. refl;
  bad_slip = λ start. refl;
  clash = λ start. refl;
}
