-- `from_hex_lines`: if `slots_on` returns bytes, no line has a fault. If these are some, they are the slots of the text, which then has no
-- fault (`faultless`). If they are none, `Empty` is the text's fault, and its only one (`seen`).
use Rattle.std.proofs.Common.{◌≡◌, arith, sym, ap, ◌∙◌, ℕ, List, map, inr, length, refl, Bor}
use Rattle.bpf_text.specs.Lines.{text_lines}
use Rattle.bpf_text.specs.HexText.{hex_bytes, hex_fault_at}
use Rattle.std.proofs.lemmas.Bool.Decides.{nat_tests}
use Rattle.bpf_text.proofs.HexLines.{none_at_all}
use Rattle.bpf_text.proofs.OneFault.{seen, faultless}
use Rattle.bpf_text.specs.Fault.{empty_fault}
use Rattle.bpf_text.proofs.hexadecimal.from_hex_lines.Goals as goal

pub returns-then-is_empty-clause-fault : goal.returns-then-is_empty-clause-fault
returns-then-is_empty-clause-fault c =
    let lines : List (List ℕ) = map (λ (line : Bor (List ℕ)). line.now) c.deref.result.now in
    let same : lines ≡ text_lines c.args.text.now =
    ap (map (λ (line : Bor (List ℕ)). line.now)) c.deref.ensures.value ∙ c.in_ok-lines.ensures in
    let none = none_at_all c.deref.result.now c.in_ok-bytes.ensures.none in
    inr (inr (record {
      fault_is = refl;
      none = λ i. ap (λ (ls : List (List ℕ)). hex_fault_at ls i) (sym same) ∙ none i;
      slots_is =
          grind (
            arith,
            nat_tests,
            ap (λ (ls : List (List ℕ)). length (hex_bytes ls)) same,
            ap (λ (bs : List ℕ). length bs) c.in_ok-bytes.ensures.found,
          );
    }))

pub returns-then-is_empty-clause-faulty : goal.returns-then-is_empty-clause-faulty
returns-then-is_empty-clause-faulty c = λ fault has.
    seen c.args.text.now empty_fault fault (returns-then-is_empty-clause-fault c) has

pub returns-clause-found : goal.returns-clause-found
returns-clause-found c =
    let lines : List (List ℕ) = map (λ (line : Bor (List ℕ)). line.now) c.deref.result.now in
    let same : lines ≡ text_lines c.args.text.now =
    ap (map (λ (line : Bor (List ℕ)). line.now)) c.deref.ensures.value ∙ c.in_ok-lines.ensures in
    let none = none_at_all c.deref.result.now c.in_ok-bytes.ensures.none in
    record {
      none = λ i. ap (λ (ls : List (List ℕ)). hex_fault_at ls i) (sym same) ∙ none i;
      bytes_are = c.in_ok-bytes.ensures.found ∙ ap hex_bytes same;
      some = grind (arith, nat_tests);
    }

pub returns-clause-faulty : goal.returns-clause-faulty
returns-clause-faulty c = λ fault has.
    faultless c.args.text.now c.in_ok-bytes.bytes.items fault (returns-clause-found c) has
