-- `hex_lines`: each turn appends the line of the next eight bytes (`hex_text-append`), and at the end fewer than eight are left, which have
-- no line (`hex_text_short`). The law `hex_lines_are_read` gives the clause `slots`.
use Rattle.std.proofs.Common.{arith, ap, sym, ◌∙◌, append-nil, append_assoc, ◌≡◌, ◌++◌, ◌∷◌, [], List, ℕ, subst}
use Rattle.std.specs.String.{string_bytes}
use Rattle.bpf_text.specs.HexText.{hex_text, IsHexText}
use Rattle.insn_set.specs.Program.{program_bytes}
use Rattle.hex.specs.Hex.{encode_lower}
use Rattle.std.proofs.lemmas.List.{take-append-drop}
use Rattle.bpf_text.proofs.HexLines.{hex_text-append, hex_text_short}
use Rattle.bpf_text.proofs.hexadecimal.hex_lines.Goals as goal

pub loop-rest-preserved : goal.loop-rest-preserved
loop-rest-preserved c =
    let slot : List ℕ = c.split_at.result.0.now in
    let after : List ℕ = c.split_at.result.1.now in
    let parts : c.loop-rest.rest.now ≡ slot ++ after = sym (take-append-drop 8 c.loop-rest.rest.now) ∙ cc in
    let step = hex_text-append slot after c.split_at.ensures.front_len in
    let text :
    string_bytes c.push_str-in-loop-rest.new.self ≡ (string_bytes c.loop-rest.text ++ encode_lower slot) ++ 10 ∷ [] =
    c.in_ok-push_str-2.ensures.bytes
    ∙ ap (λ (t : List ℕ). t ++ 10 ∷ [])
    (c.in_ok-push_str.ensures.bytes
    ∙ ap (λ (t : List ℕ). string_bytes c.loop-rest.text ++ t) (c.deref.ensures ∙ c.in_ok-encode.ensures)) in
    ap (λ (t : List ℕ). t ++ hex_text after) text
    ∙ simp append_assoc
    (ap (λ (t : List ℕ). string_bytes c.loop-rest.text ++ t) (sym (ap hex_text parts ∙ step)) ∙ c.loop-rest.invariant)

pub returns-clause-text : goal.returns-clause-text
returns-clause-text c =
    let none = hex_text_short c.loop-rest.rest.now (omega arith) in
    sym (append-nil (string_bytes c.loop-rest.text))
    ∙ ap (λ (t : List ℕ). string_bytes c.loop-rest.text ++ t) (sym none)
    ∙ c.loop-rest.invariant

pub returns-clause-slots : goal.returns-clause-slots
returns-clause-slots c =
    subst (λ (t : List ℕ). IsHexText t (program_bytes c.args.program.now))
    (sym (returns-clause-text c))
    (c.hex_lines_are_read.ensures c.args.program.now c.in_ok-bytes.ensures.program)
