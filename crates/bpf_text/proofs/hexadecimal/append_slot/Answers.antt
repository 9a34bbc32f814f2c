-- `append_slot`, by cases of the line: it is blank (`empty_line`), its digits are no slot (`bad_line`), or it has a slot (`slot_line`),
-- which is appended, or for which a program has no room. Whether it has room follows from the number of bytes so far (`fits`, `passes`).
use Rattle.std.proofs.Common.{◌≡◌, List, ℕ, eqb, true, false, length, arith, ap, sym, ◌∙◌, append-nil, inr, unwrap_or, ◌++◌, Option, []}
use Rattle.text_line.specs.Blanks.{stripped}
use Rattle.bpf_text.specs.HexText.{hex_line, hex_fault}
use Rattle.bpf_text.proofs.HexLines.{empty_line, slot_line, bad_line, fits, passes}
use Rattle.bpf_text.proofs.hexadecimal.append_slot.Goals as goal

pub returns-then-is_empty-clause-ok : goal.returns-then-is_empty-clause-ok
returns-then-is_empty-clause-ok c =
    let digits : List ℕ = c.stripped-digits.result.now in
    let same : digits ≡ stripped c.args.line.now = cc in
    let none : eqb (length digits) 0 ≡ true = cc in
    sym (append-nil c.args.bytes.now.items)
    ∙ ap (λ (o : Option (List ℕ)). c.args.bytes.now.items ++ unwrap_or o [])
    (sym (empty_line c.args.line.now digits same none))

pub returns-then-is_empty-clause-none : goal.returns-then-is_empty-clause-none
returns-then-is_empty-clause-none c =
    let digits : List ℕ = c.stripped-digits.result.now in
    let same : digits ≡ stripped c.args.line.now = cc in
    let none : eqb (length digits) 0 ≡ true = cc in
    fits (length c.args.bytes.now.items) (hex_line c.args.line.now) []
    (empty_line c.args.line.now digits same none) (omega arith)

pub returns-in_default-clause-fault : goal.returns-in_default-clause-fault
returns-in_default-clause-fault c =
    let digits : List ℕ = c.stripped-digits.result.now in
    let same : digits ≡ stripped c.args.line.now = cc in
    let some : eqb (length digits) 0 ≡ false = cc in
    inr (
      λ e. cc e,
      ap (hex_fault (length c.args.bytes.now.items))
          (bad_line c.args.line.now digits c.in_default.field-0 same some c.in_default.ensures),
    )

pub returns-then-len-clause-fault : goal.returns-then-len-clause-fault
returns-then-len-clause-fault c =
    let digits : List ℕ = c.stripped-digits.result.now in
    let same : digits ≡ stripped c.args.line.now = cc in
    let some : eqb (length digits) 0 ≡ false = cc in
    let line = slot_line c.args.line.now digits c.in-Ok.slot same some c.in-Ok.ensures in
    inr (
      λ e. cc e,
      passes (length c.args.bytes.now.items) (hex_line c.args.line.now) c.in-Ok.slot line (omega arith) (omega arith),
    )

pub returns-in-Ok-extend_from_slice-clause-ok : goal.returns-in-Ok-extend_from_slice-clause-ok
returns-in-Ok-extend_from_slice-clause-ok c =
    let digits : List ℕ = c.stripped-digits.result.now in
    let same : digits ≡ stripped c.args.line.now = cc in
    let some : eqb (length digits) 0 ≡ false = cc in
    let line = slot_line c.args.line.now digits c.in-Ok.slot same some c.in-Ok.ensures in
    c.in-Ok-extend_from_slice.ensures.items
    ∙ ap (λ (o : Option (List ℕ)). c.args.bytes.now.items ++ unwrap_or o []) (sym line)

pub returns-in-Ok-extend_from_slice-clause-none : goal.returns-in-Ok-extend_from_slice-clause-none
returns-in-Ok-extend_from_slice-clause-none c =
    let digits : List ℕ = c.stripped-digits.result.now in
    let same : digits ≡ stripped c.args.line.now = cc in
    let some : eqb (length digits) 0 ≡ false = cc in
    let line = slot_line c.args.line.now digits c.in-Ok.slot same some c.in-Ok.ensures in
    fits (length c.args.bytes.now.items) (hex_line c.args.line.now) c.in-Ok.slot line (omega arith)
