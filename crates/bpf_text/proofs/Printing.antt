-- The printed text.
use Rattle.std.proofs.Common.{◌≡◌, ℕ, suc, ℤ, pos, negsuc, List, [], ◌∷◌, ◌++◌, sym, ap, ◌∙◌, append-nil, append_assoc}
use Rattle.std.specs.Fmt.{decimal}
use Rattle.std.specs.Option.{option_to_list}
use Rattle.std.specs.Prelude.{Option, Some, None, codes, true}
use Rattle.std.proofs.lemmas.List.Concat.{flat_map-append}
use Rattle.insn_set.specs.declared.insn.Insn.{Insn}
use Rattle.insn_set.specs.declared.insn.Insn.TheVariants.{MapValue}
use Rattle.text_line.specs.Token.{number}
use Rattle.text_line.specs.Names.{register_name}
use Rattle.text_line.specs.Form.{TokenLayout, constant, sign, word, space}
use Rattle.text_line.specs.Written.{number_of, laid_out, printed_insn}
use Rattle.bpf_text.specs.Printed.{printed, printed_line}

-- the layout after a constant comes after its text
pub laid_out_constant : (z : ℤ) (rest : TokenLayout)
    → laid_out (constant (number_of z) rest) ≡ laid_out (constant (number_of z) []) ++ laid_out rest
laid_out_constant (pos n) rest = ap (λ (t : List ℕ). t ++ laid_out rest) (sym (append-nil (decimal n)))
laid_out_constant (negsuc n) rest = ap (λ (t : List ℕ). 45 ∷ (t ++ laid_out rest)) (sym (append-nil (decimal (suc n))))

-- a wide load of an address in a map's value: the name, the descriptor and the offset follow the text before
pub printed_map_value :
    (dst : ℕ) (fd : ℤ) (off : ℕ) (before named held : List ℕ)
    → named ≡ before ++ (register_name true dst ++ codes " = map_value ")
    → held ≡ named ++ laid_out (constant (number_of fd) [])
    → held ++ (codes " + " ++ (decimal off ++ codes " ll")) ≡ before ++ printed_insn (MapValue dst fd off)
unfolding printed_insn
printed_map_value dst fd off before named held n h =
    let behind : TokenLayout =
    space ∷ sign (codes "+") ∷ space ∷ Some (number (Some off)) ∷ space ∷ word (codes "ll") ∷ [] in
    let first : List ℕ = register_name true dst ++ codes " = map_value " in
    let number_text : List ℕ = laid_out (constant (number_of fd) []) in
    ap (λ (t : List ℕ). t ++ laid_out behind) h
    ∙ append_assoc named number_text (laid_out behind)
    ∙ ap (λ (t : List ℕ). t ++ (number_text ++ laid_out behind)) n
    ∙ append_assoc before first (number_text ++ laid_out behind)
    ∙ ap (λ (t : List ℕ). before ++ t) (append_assoc (register_name true dst) (codes " = map_value ") (number_text ++ laid_out behind)
    ∙ ap (λ (t : List ℕ). register_name true dst ++ (codes " = map_value " ++ t)) (sym (laid_out_constant fd behind)))

-- the text of instructions, followed by the text of one more or of none, is the text of all of them
pub printed_more : (insns before after : List Insn) (text : List ℕ) (o : Option Insn) (line : List ℕ)
    → text ≡ printed before → after ≡ before ++ option_to_list o
    → line ≡ printed (option_to_list o)
    → text ++ line ≡ printed after
printed_more insns before after text o line h e l =
    ap (λ (t : List ℕ). t ++ line) h ∙ ap (λ (t : List ℕ). printed before ++ t) l
    ∙ sym (flat_map-append printed_line before (option_to_list o)) ∙ ap printed (sym e)

-- the text of a list of one instruction is the instruction's line and a line feed
pub printed_one : (insn : Insn) (o : Option Insn)
    → Some insn ≡ o → printed_insn insn ++ 10 ∷ [] ≡ printed (option_to_list o)
printed_one insn o e = sym (append-nil (printed_line insn)) ∙ ap (λ (x : Option Insn). printed (option_to_list x)) e

-- the text of no instruction is empty
pub printed_none : (o : Option Insn) → None ≡ o → [] ≡ printed (option_to_list o)
printed_none o e = ap (λ (x : Option Insn). printed (option_to_list x)) e
