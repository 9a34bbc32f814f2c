-- `named_by`: each turn adds one more descriptor with its object, if it has one, after those before it (`filter_map-append`).
use Rattle.std.proofs.Common.{arith}
use Rattle.std.proofs.lemmas.Grind.{common_steps}
use Rattle.std.proofs.lemmas.List.Elements.{filter_map-append}
use Rattle.bpfhost_c.proofs.preparing.named_by.Goals as goal

pub loop-descriptor-preserved : goal.loop-descriptor-preserved
loop-descriptor-preserved c = grind (arith, common_steps, filter_map-append)
