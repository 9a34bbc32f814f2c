-- `append_creation`, by cases of the birth, a map's or a program's: the frame of the close, and then the frame that creates the object, are
-- those of `creation` (`ok_more`), by the contracts of `append_close`, `append_map` and `append_program`.
use Rattle.std.proofs.Common.{ap}
use Rattle.command_frames.specs.Command.{close}
use Rattle.fd_table.specs.Table.{named}
use Rattle.tenant.specs.Kept.{state_in}
use Rattle.tenant.specs.State.{live}
use Rattle.saving.specs.Restored.{made_program}
use Rattle.saving.specs.SaveParts.{made_empty, creation}
use Rattle.saving.proofs.SaveSteps.{ok_more}
use Rattle.saving.proofs.frame_writer.FrameWriter.append_creation.Goals as goal

pub returns-in_ok-append_close-in-OfMap : goal.returns-in_ok-append_close-in-OfMap
returns-in_ok-append_close-in-OfMap c = record {
  written = λ part.
      let s = state_in part c.args.tenant.now in
      let fd = c.in-OfMap.fd in
      ok_more c.append_map.result c.args.self.now.frames.items
      c.append_map.new.self.frames.items c.args.self.now.number
      c.append_close.new.self.number (close fd)
      (made_empty (live s c.in-OfMap.map))
      (creation s c.args.birth) (ap (creation s) c.in-OfMap.is)
      c.append_close.ensures.number c.in_ok-append_close-in-OfMap.ensures.written
      (c.append_map.ensures.written part);
}

pub returns-in_ok-append_close-in-OfProgram : goal.returns-in_ok-append_close-in-OfProgram
returns-in_ok-append_close-in-OfProgram c = record {
  written = λ part.
      let s = state_in part c.args.tenant.now in
      let fd = c.in-OfProgram.fd in
      ok_more c.append_program.result c.args.self.now.frames.items
      c.append_program.new.self.frames.items c.args.self.now.number
      c.append_close-in-OfProgram.new.self.number (close fd)
      (made_program (named c.args.tenant.now.objects fd))
      (creation s c.args.birth) (ap (creation s) c.in-OfProgram.is)
      c.append_close-in-OfProgram.ensures.number c.in_ok-append_close-in-OfProgram.ensures.written
      c.append_program.ensures.written;
}
