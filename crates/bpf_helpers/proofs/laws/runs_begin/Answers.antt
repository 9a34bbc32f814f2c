-- `runs_begin`: in a layout that gives each object the address of its key's element, words, bytes and maps represent the first state: it
-- has no stack byte, the context has its words, and each value lies after the context, so the bytes from before the run are in it.
use Rattle.bpf_helpers.proofs.Runs.{runs_begin}
use Rattle.bpf_helpers.proofs.laws.runs_begin.Goals as goal

pub returns : goal.returns
returns c = runs_begin
