-- `append_map`: if `map_shape` returns a shape, the map is live and has it, so the frame of `append_create` is that of the only command of
-- `made_empty` (`ok_one`).
use Rattle.std.proofs.Common.{[], ◌∷◌, sym, ap, ◌∙◌}
use Rattle.tagged_model.specs.declared.shape.MapShape.{MapShape}
use Rattle.tenant.specs.Kept.{state_in}
use Rattle.tenant.specs.State.{live}
use Rattle.saving.specs.Restored.{create_of}
use Rattle.saving.specs.SaveParts.{made_empty}
use Rattle.saving.proofs.SaveSteps.{ok_one}
use Rattle.saving.proofs.frame_writer.FrameWriter.append_map.Goals as goal

pub returns-in-Some : goal.returns-in-Some
returns-in-Some c = record {
  written = λ part.
      ok_one c.append_create.result c.args.self.now.frames.items c.append_create.new.self.frames.items c.args.self.now.number
      (create_of c.in-Some.shape) (made_empty (live (state_in part c.args.tenant.now) c.args.map))
      (ap made_empty (c.in-Some.ensures.state part)
      ∙ ap (λ (s : MapShape). create_of s ∷ []) (sym c.in-Some.ensures.shape.1))
      c.append_create.ensures.written;
}
