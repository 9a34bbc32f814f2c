-- `named_bytes_lie_inside`: bytes at an address that has an offset in the part begin and end in the part, since these are the two tests
-- of `named_offset` (`is_named`).
use Rattle.bpf_helpers.proofs.Named.{is_named}
use Rattle.bpf_helpers.proofs.look_up.named_bytes_lie_inside.Goals as goal

pub returns-clause-from : goal.returns-clause-from
returns-clause-from c = (is_named c.args.arena.now c.args.tenant c.args.size c.args.address c.requires).from

pub returns-clause-to : goal.returns-clause-to
returns-clause-to c = (is_named c.args.arena.now c.args.tenant c.args.size c.args.address c.requires).to

pub returns-clause-value : goal.returns-clause-value
returns-clause-value c = (is_named c.args.arena.now c.args.tenant c.args.size c.args.address c.requires).offset
