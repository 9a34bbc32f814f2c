-- `write_map_value`: the register's name, the descriptor and the offset, which are appended one after another, are the line of the
-- instruction (`printed_map_value`).
use Rattle.std.proofs.Common.{◌≡◌, ◌++◌, OnOk, List, ℕ, ℤ, [], codes, subst, ap, ◌∙◌, w32}
use Rattle.std.specs.String.{string_bytes}
use Rattle.std.proofs.lemmas.Int.{to_z-of_z}
use Rattle.text_line.specs.Form.{constant}
use Rattle.text_line.specs.Written.{number_of, laid_out}
use Rattle.bpf_text.proofs.Printing.{printed_map_value}
use Rattle.bpf_text.proofs.disassembler.write_map_value.Goals as goal

pub returns : goal.returns
returns c =
    let before : List ℕ = string_bytes c.args.text.now in
    let named : List ℕ = string_bytes c.write.new.self in
    let held : List ℕ = string_bytes c.write_constant.new.text in
    let named_is =
    c.in_ok-write.ensures.bytes
    ∙ ap (λ (name : List ℕ). before ++ (name ++ codes " = map_value ")) c.wide_name-dst.ensures in
    let held_is =
    c.in_ok-write_constant.ensures
    ∙ ap (λ (z : ℤ). named ++ laid_out (constant (number_of z) [])) (to_z-of_z w32 c.args.fd c.ranges.fd) in
    let all = printed_map_value c.args.dst c.args.fd c.args.off before named held named_is held_is in
    subst (λ (t : List ℕ). OnOk c.write-2.result (string_bytes c.write-2.new.self ≡ t)) all c.write-2.ensures.bytes
