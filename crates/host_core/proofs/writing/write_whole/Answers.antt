-- `write_whole`: one more write takes the front of the rest, by the writer's contract, so a longer prefix of the bytes is written, and the
-- new rest follows it.
use Rattle.std.proofs.Common.{◌+◌, length, subst, ap, ◌∙◌, arith, rules, length-drop}
use Rattle.std.proofs.lemmas.List.{take_rest}
use Rattle.std.specs.Io.KnownBytes.{Appends}
use Rattle.std.proofs.KnownBytes.{Appends-trans}
use Rattle.host_core.proofs.Buffers.{take-drop-take, drop_further}
use Rattle.host_core.proofs.writing.write_whole.Goals as goal

pub loop-rest-preserved : goal.loop-rest-preserved
loop-rest-preserved g c =
    let (n, within, rest-is, went) = c.loop-rest.invariant.done in
    let bytes = c.args.bytes.now in
    let count = c.in-Ok.count in
    let joined = take-drop-take n count bytes c.loop-rest.rest.now rest-is in
    record {
      done = (
        n + count,
        omega (arith, ap length rest-is, length-drop n bytes, c.in-Ok.ensures.bound),
        take_rest c.loop-rest.rest.now count ∙ drop_further n count bytes c.loop-rest.rest.now rest-is,
        subst (Appends _ _) joined (Appends-trans _ _ _ _ _ went c.in-Ok.ensures.bytes),
      );
      sound = search rules;
    }
