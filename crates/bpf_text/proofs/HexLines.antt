-- The lines of hex digits.
use Rattle.std.proofs.Common.{◌≡◌, ◌≢◌, ℕ, ◌+◌, ◌*◌, ◌<◌, ◌≤◌, eqb, true, false, Bool, List, [], ◌∷◌, ◌++◌, length, take, map, Option, Some, None, Ok}
use Rattle.std.proofs.Common.{Err, refl, sym, ap, ◌∙◌, arith, cond, ◌⊎◌, inl, inr, Bor, option_map, unwrap_or, get_or, below_more, append-nil, ltb, leb}
use Rattle.std.specs.Result.{result_ok}
use Rattle.std.proofs.lemmas.Option.{slice_get-map, slice_get-get_or, slice_get_past}
use Rattle.std.proofs.lemmas.List.{take_more, get_or-map, length-map}
use Rattle.std.proofs.lemmas.List.Concat.{flat_map-append}
use Rattle.bpf_text.specs.declared.fault.TextFault.{TextFault}
use Rattle.bpf_text.specs.declared.fault.TextFaultKind.TheVariants.{Memory, TooLong}
use Rattle.bpf_text.specs.Fault.{NoneBelow, IsFirstFaultyLine, memory_fault}
use Rattle.bpf_text.specs.inside.Faults.{fault_on}
use Rattle.std.proofs.lemmas.Bool.{cases_lt, le-ltb, le-leb, lt-ltb}
use Rattle.bpf_text.proofs.Faults.{fault_on_line}
use Rattle.hex.specs.Hex.{encode_lower, decode_sized}
use Rattle.hex.specs.declared.error.FromHexError.{FromHexError}
use Rattle.insn_set.specs.declared.TheConstants.{MAX_SLOTS}
use Rattle.text_line.specs.Blanks.{stripped}
use Rattle.bpf_text.specs.declared.fault.TextFaultKind.{TextFaultKind}
use Rattle.bpf_text.specs.HexText.{hex_text, hex_digits, hex_line, hex_fault, hex_fault_at, hex_fault_of, hex_bytes}

-- ---- the bytes of a line

-- a line of only blanks is read as no bytes
pub empty_line : (line digits : List ℕ)
    → digits ≡ stripped line → eqb (length digits) 0 ≡ true
    → hex_line line ≡ Some []
unfolding hex_line
empty_line line digits e h =
    ap hex_digits (sym e) ∙ ap (λ (b : Bool). cond b (Some []) (result_ok (decode_sized digits 8))) h

-- a line whose digits decode to eight bytes is read as these bytes
pub slot_line : (line digits slot : List ℕ)
    → digits ≡ stripped line → eqb (length digits) 0 ≡ false
    → Ok slot ≡ decode_sized digits 8
    → hex_line line ≡ Some slot
unfolding hex_line
slot_line line digits slot e h d =
    ap hex_digits (sym e)
    ∙ ap (λ (b : Bool). cond b (Some []) (result_ok (decode_sized digits 8))) h
    ∙ ap result_ok (sym d)

-- a line that is not blank, and whose digits do not decode to eight bytes, has no reading
pub bad_line : (line digits : List ℕ) (error : FromHexError)
    → digits ≡ stripped line → eqb (length digits) 0 ≡ false
    → Err error ≡ decode_sized digits 8
    → hex_line line ≡ None
unfolding hex_line
bad_line line digits error e h d =
    ap hex_digits (sym e)
    ∙ ap (λ (b : Bool). cond b (Some []) (result_ok (decode_sized digits 8))) h
    ∙ ap result_ok (sym d)

-- a line that is read has no fault if a program may have its bytes and those before it
pub fits : (before : ℕ) (line : Option (List ℕ)) (bytes : List ℕ)
    → line ≡ Some bytes → before + length bytes ≤ 8 * MAX_SLOTS
    → hex_fault before line ≡ None
fits before line bytes e h =
    let room : ltb (8 * MAX_SLOTS) (before + length bytes) ≡ false = le-ltb _ _ h in
    let inside : leb before (8 * MAX_SLOTS) ≡ true = le-leb _ _ (omega arith) in
    ap (hex_fault before) e ∙ rw (room, inside) refl

-- a line whose bytes are the first that are too many for a program has the fault TooLong
pub passes : (before : ℕ) (line : Option (List ℕ)) (bytes : List ℕ)
    → line ≡ Some bytes → before ≤ 8 * MAX_SLOTS
    → 8 * MAX_SLOTS < before + length bytes
    → hex_fault before line ≡ Some TooLong
passes before line bytes e low h =
    let past : ltb (8 * MAX_SLOTS) (before + length bytes) ≡ true = lt-ltb _ _ h in
    let inside : leb before (8 * MAX_SLOTS) ≡ true = le-leb _ _ low in
    ap (hex_fault before) e ∙ rw (past, inside) refl

-- ---- the text of slots

-- the hex text of eight bytes and a rest is the line of these eight, then the hex text of the rest
pub hex_text-append : (front rest : List ℕ)
    → length front ≡ 8 → hex_text (front ++ rest) ≡ encode_lower front ++ 10 ∷ hex_text rest
unfolding hex_text
hex_text-append (a ∷ b ∷ c ∷ d ∷ e ∷ f ∷ g ∷ h ∷ []) rest long = refl
hex_text-append _ rest long = absurd (omega arith)

-- the hex text of fewer than eight bytes is empty
pub hex_text_short : (rest : List ℕ) → length rest < 8 → hex_text rest ≡ []
unfolding hex_text
hex_text_short (a ∷ b ∷ c ∷ d ∷ e ∷ f ∷ g ∷ h ∷ rest) short = absurd (omega arith)
hex_text_short _ short = refl

-- ---- one line after another

abbrev texts : List (Bor (List ℕ)) → List (List ℕ)
texts xs = map (λ line. line.now) xs

fault_here : (xs : List (Bor (List ℕ))) (i : ℕ) (d : Bor (List ℕ))
    → i < length xs
    → hex_fault_at (texts xs) i ≡ hex_fault (length (hex_bytes (take i (texts xs)))) (hex_line (get_or xs i d).now)
unfolding hex_fault_at
fault_here xs i d h =
    ap (hex_fault_of (length (hex_bytes (take i (texts xs)))))
    (slice_get-map (λ (line : Bor (List ℕ)). line.now) xs i
    ∙ ap (option_map (λ (line : Bor (List ℕ)). line.now)) (slice_get-get_or xs i d h))

-- if no line before has a fault, nor has the next one, no line up to it has one
pub none_more : (xs : List (Bor (List ℕ))) (i : ℕ) (d : Bor (List ℕ)) (bytes : List ℕ)
    → i < length xs → bytes ≡ hex_bytes (take i (texts xs))
    → NoneBelow (hex_fault_at (texts xs)) i
    → hex_fault (length bytes) (hex_line (get_or xs i d).now) ≡ None
    → NoneBelow (hex_fault_at (texts xs)) (i + 1)
none_more xs i d bytes h e below none =
    below_more _ _ below
    (fault_here xs i d h ∙ ap (λ (b : List ℕ). hex_fault (length b) (hex_line (get_or xs i d).now)) (sym e) ∙ none)

-- the bytes of the first lines, followed by those of the next line, are the bytes of the lines up to it
pub bytes_more : (xs : List (Bor (List ℕ))) (i : ℕ) (d : Bor (List ℕ)) (bytes new : List ℕ)
    → i < length xs → bytes ≡ hex_bytes (take i (texts xs))
    → new ≡ bytes ++ unwrap_or (hex_line (get_or xs i d).now) []
    → new ≡ hex_bytes (take (i + 1) (texts xs))
bytes_more xs i d bytes new h e n =
    let line : List ℕ = (get_or xs i d).now in
    let more = take_more (texts xs) i [] (omega (arith, length-map xs (λ (line : Bor (List ℕ)). line.now))) in
    let here = get_or-map (λ (line : Bor (List ℕ)). line.now) xs i d [] h in
    n ∙ ap (λ (b : List ℕ). b ++ unwrap_or (hex_line line) []) e
    ∙ ap (λ (b : List ℕ). hex_bytes (take i (texts xs)) ++ b) (sym (append-nil (unwrap_or (hex_line line) [])))
    ∙ sym (flat_map-append (λ (line : List ℕ). unwrap_or (hex_line line) []) (take i (texts xs)) (line ∷ []))
    ∙ ap (λ (l : List ℕ). hex_bytes (take i (texts xs) ++ l ∷ [])) (sym here)
    ∙ ap hex_bytes (sym more)

-- if no line before has a fault, a fault of the next line is that of the first faulty line, or of memory
pub first_here : (xs : List (Bor (List ℕ))) (i : ℕ) (d : Bor (List ℕ)) (bytes : List ℕ)
    (kind : TextFaultKind) (fault : TextFault)
    → i < length xs → bytes ≡ hex_bytes (take i (texts xs))
    → NoneBelow (hex_fault_at (texts xs)) i → fault ≡ fault_on i kind
    → (kind ≡ Memory) ⊎ ((kind ≢ Memory) × (hex_fault (length bytes) (hex_line (get_or xs i d).now) ≡ Some kind))
    → (fault ≡ memory_fault) ⊎ IsFirstFaultyLine (hex_fault_at (texts xs)) fault
first_here xs i d bytes kind fault h e below at (inl memory) = inl (at ∙ ap (fault_on i) memory)
first_here xs i d bytes kind fault h e below at (inr here) =
    let is : fault ≡ record { line = i + 1; kind = kind } = at ∙ fault_on_line i kind here.0 in
    inr (record {
      index = i;
      line = ap (λ (f : TextFault). f.line) is;
      here =
          fault_here xs i d h
          ∙ ap (λ (b : List ℕ). hex_fault (length b) (hex_line (get_or xs i d).now)) (sym e)
          ∙ here.1
          ∙ ap (λ (f : TextFault). Some f.kind) (sym is);
      below = below;
    })

-- after the last line there is no fault
pub none_at_all : (xs : List (Bor (List ℕ)))
    → NoneBelow (hex_fault_at (texts xs)) (length xs)
    → (i : ℕ) → hex_fault_at (texts xs) i ≡ None
unfolding hex_fault_at
none_at_all xs below i =
    elim (cases_lt i (length xs)) [
      | inl inside ↦ below i inside
      | inr past ↦ ap
          (hex_fault_of (length (hex_bytes (take i (texts xs)))))
          (slice_get_past (texts xs) i (omega (arith, length-map xs (λ (line : Bor (List ℕ)). line.now))))
    ]
