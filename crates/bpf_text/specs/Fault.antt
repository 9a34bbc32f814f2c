-- The first fault of a text. The kinds and their order are this project's own.
use Rattle.std.specs.Prelude.{◌≡◌, ℕ, ◌+◌, ◌<◌, ◌⊎◌, Option, Some, None}
use Rattle.bpf_text.specs.declared.fault.TextFault.{TextFault}
use Rattle.bpf_text.specs.declared.fault.TextFaultKind.{TextFaultKind}
use Rattle.bpf_text.specs.declared.fault.TextFaultKind.TheVariants.{Syntax, Range, UnknownLabel, LabelTwice, TooLong, Empty, Memory}

-- the kind's number, which a fault line has
abbrev pub kind_number : TextFaultKind → ℕ
kind_number Syntax = 1
kind_number Range = 2
kind_number UnknownLabel = 3
kind_number LabelTwice = 4
kind_number TooLong = 5
kind_number Empty = 6
kind_number Memory = 7

-- the fault of a text for which memory is refused; line 0 is the whole text
abbrev pub memory_fault : TextFault
memory_fault = record { line = 0; kind = Memory }

-- the fault of a text that has no slot; line 0 is the whole text
abbrev pub empty_fault : TextFault
empty_fault = record { line = 0; kind = Empty }

-- Below, `fault_at i` is the fault of line i + 1, of the lowest kind that the line has; None if it
-- has no fault.

-- no line whose index, from 0, is below n has a fault
abbrev pub NoneBelow : (ℕ → Option TextFaultKind) → ℕ → Type 0
NoneBelow fault_at n = (i : ℕ) → i < n → fault_at i ≡ None

-- the fault of the first line that has one; a fault counts lines from 1, the index from 0
pub record IsFirstFaultyLine (fault_at : ℕ → Option TextFaultKind)
    (fault : TextFault) : Type 0 where
  pub index : ℕ
  pub line : fault.line ≡ index + 1
  pub here : fault_at index ≡ Some fault.kind
  pub below : NoneBelow fault_at index

-- the fault of a text of which no line has a fault and that has no slot: `slots` is their number
pub record IsEmpty (fault_at : ℕ → Option TextFaultKind) (slots : ℕ)
    (fault : TextFault) : Type 0 where
  pub fault_is : fault ≡ empty_fault
  pub none : (i : ℕ) → fault_at i ≡ None
  pub slots_is : slots ≡ 0

-- a text's own fault, given the faults of its lines and its number of slots
abbrev pub IsFaultBy : (ℕ → Option TextFaultKind) → ℕ → TextFault → Type 0
IsFaultBy fault_at slots fault = IsFirstFaultyLine fault_at fault ⊎ IsEmpty fault_at slots fault
