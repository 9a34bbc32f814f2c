-- `check_and_add`: a fault of a jump is the first of its instruction, whatever descriptors are open, and so with these.
use Rattle.verifier.proofs.shape.check_and_add.Goals as goal

pub returns-then-jumps-clause-refused : goal.returns-then-jumps-clause-refused
returns-then-jumps-clause-refused c = c.check_jump.ensures.refused c.args.named.now
