-- A line that fits is put whole, in the room that was made for it. Assumes nothing.
use Rattle.release_sheet.proofs.Lines.{line_moves}
use Rattle.release_sheet.proofs.output.Page.put_line.Goals as goal

pub returns : goal.returns
returns g c = record {
  placed = line_moves (λ s. s.at) c.args.self.now (g.D.Display.output c.args.line) c.writeln.new.self c.requires.fits
      c.requires.room c.in_ok-writeln.ensures.writes;
}
