-- A text has at most one fault of its own.
use Rattle.std.proofs.Common.{◌≡◌, ℕ, ◌<◌, List, length, Option, Some, None, sym, ap, ◌∙◌, arith, inl, inr}
use Rattle.std.specs.Prelude.{◌⊎◌}
use Rattle.bpf_text.specs.declared.fault.TextFault.{TextFault}
use Rattle.bpf_text.specs.declared.fault.TextFaultKind.{TextFaultKind}
use Rattle.bpf_text.specs.Fault.{memory_fault, IsFirstFaultyLine, IsFaultBy}
use Rattle.bpf_text.specs.HexText.{hex_bytes, IsHexText, IsHexFault}
use Rattle.bpf_text.specs.Lines.{text_lines}

line_before : (fault_at : ℕ → Option TextFaultKind) (a b : TextFault)
    (h : IsFirstFaultyLine fault_at a) (k : IsFirstFaultyLine fault_at b)
    → h.index < k.index → ⊥
line_before fault_at a b h k less = let no : Some a.kind ≡ None = sym h.here ∙ k.below h.index less in cc no

fault_of : ℕ → TextFaultKind → TextFault
fault_of line kind = record { line = line; kind = kind }

same_fault : (a b : TextFault) → a.line ≡ b.line → a.kind ≡ b.kind → a ≡ b
unfolding fault_of
same_fault a b line kind = ap (λ (l : ℕ). fault_of l a.kind) line ∙ ap (fault_of b.line) kind

first_same : (fault_at : ℕ → Option TextFaultKind) (a b : TextFault)
    → IsFirstFaultyLine fault_at a → IsFirstFaultyLine fault_at b → a ≡ b
first_same fault_at a b h k =
    let not_less : h.index < k.index → ⊥ = line_before fault_at a b h k in
    let not_more : k.index < h.index → ⊥ = line_before fault_at b a k h in
    let index : h.index ≡ k.index = omega arith in
    let kind : Some a.kind ≡ Some b.kind = sym h.here ∙ ap fault_at index ∙ k.here in
    same_fault a b (omega (arith, h.line, k.line)) (cc kind)

-- given the faults of its lines and its number of slots, a text has at most one fault of its own
pub at_most_one_fault : (fault_at : ℕ → Option TextFaultKind) (slots : ℕ) (a b : TextFault)
    → IsFaultBy fault_at slots a → IsFaultBy fault_at slots b → a ≡ b
at_most_one_fault fault_at slots a b (inl h) (inl k) = first_same fault_at a b h k
at_most_one_fault fault_at slots a b (inl h) (inr k) =
    absurd (let no : Some a.kind ≡ None = sym h.here ∙ k.none h.index in cc no)
at_most_one_fault fault_at slots a b (inr h) (inl k) =
    absurd (let no : Some b.kind ≡ None = sym k.here ∙ h.none k.index in cc no)
at_most_one_fault fault_at slots a b (inr h) (inr k) = h.fault_is ∙ sym k.fault_is

-- ---- hex lines

no_hex_fault : (text slots : List ℕ) (fault : TextFault) → IsHexText text slots → IsHexFault text fault → ⊥
no_hex_fault text slots fault is (inl h) = let no : Some fault.kind ≡ None = sym h.here ∙ is.none h.index in cc no
no_hex_fault text slots fault is (inr h) = omega (arith, is.some, ap length is.bytes_are, h.slots_is)

-- a text that has slots has no fault
pub faultless : {A : Type 0} (text slots : List ℕ) (fault : TextFault)
    → IsHexText text slots → IsHexFault text fault → A
faultless text slots fault is h = absurd (no_hex_fault text slots fault is h)

-- the fault that is returned is the fault of the text, or out of memory
pub seen : (text : List ℕ) (seen fault : TextFault)
    → (seen ≡ memory_fault) ⊎ IsHexFault text seen
    → IsHexFault text fault
    → (seen ≡ fault) ⊎ (seen ≡ memory_fault)
seen text e fault (inl memory) h = inr memory
seen text e fault (inr own) h = inl (at_most_one_fault _ (length (hex_bytes (text_lines text))) e fault own h)
