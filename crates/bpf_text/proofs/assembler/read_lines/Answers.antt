-- `read_lines`: each turn adds what `read_line` returns for one more line, so the lines up to it are read (`read_more`).
use Rattle.std.proofs.Common.{List, ℕ, [], Bor}
use Rattle.bpf_text.proofs.LabelLines.{read_more}
use Rattle.bpf_text.proofs.assembler.read_lines.Goals as goal

pub loop-line-preserved : goal.loop-line-preserved
loop-line-preserved c =
    let l = c.loop-line in
    let d : Bor (List ℕ) = record { ref_ptr = (0, 0); now = [] } in
    read_more c.args.text.now l.line-index d l.lines.items c.extend_from_slice.new.self.items
    c.in-Ok.found c.loop-line-test.true c.in_ok-extend_from_slice.ensures.items
    l.invariant c.in-Ok.ensures
