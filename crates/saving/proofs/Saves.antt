-- The parts of a save together, and the frames of a part so far.
use Rattle.std.proofs.Common.{◌≡◌, ℕ, suc, ◌+◌, ◌-◌, ◌<◌, ◌≤◌, Bool, true, false, List, [], ◌∷◌, ◌++◌, reverse}
use Rattle.std.proofs.Common.{Option, Some, None, refl, sym, ap, ap₂, ◌∙◌, nat_eq, if◌then◌else◌, arith, eq-eqb}
use Rattle.std.specs.List.{flat_map}
use Rattle.std.specs.Map.{values_of}
use Rattle.std.proofs.lemmas.Grind.{flat_map-append}
use Rattle.std.proofs.lemmas.List.{append_assoc, append-nil, reverse-append}
use Rattle.std.proofs.lemmas.Option.{none-some, same_Some}
use Rattle.command_frames.specs.Command.{Command, close}
use Rattle.fd_table.specs.Table.{first_descriptor, most, named}
use Rattle.insn_set.specs.Program.{program_bytes}
use Rattle.insn_set.specs.Spelling.{spelling}
use Rattle.ordered_keys.specs.Orders.{occurrences, first_entry, entry_after_element, next_entry}
use Rattle.tenant.specs.declared.object.OpenObject.{OpenObject}
use Rattle.tenant.specs.State.{Map, TenantState, live}
use Rattle.saving.specs.declared.save_parts.TheConstants.{KEYS_PER_SAVE_PART}
use Rattle.saving.specs.Births.{Birth, OfMap, OfProgram, descriptor_of}
use Rattle.saving.specs.Filler.{filler}
use Rattle.saving.specs.Restored.{load_of, made_map, made_program, made, filled, born, closings}
use Rattle.saving.specs.SaveParts.{made_empty, puts_of, creation, key_commands, birth_parts, PartsAreWhole}
use Rattle.saving.specs.inside.Puts.{closing, entries_after, rest_after}
use Rattle.saving.proofs.Pieces.{joined}

-- ---- all parts

abbrev birth_commands : TenantState → Birth → List Command
birth_commands s b = close (descriptor_of b) ∷ made s b

born_in_order : (s : TenantState) (births : List Birth) → born s births ≡ flat_map (birth_commands s) (reverse births)
born_in_order s [] = refl
born_in_order s (b ∷ older) =
    ap (λ (cs : List Command). cs ++ birth_commands s b) (born_in_order s older)
    ∙ ap (λ (cs : List Command). flat_map (birth_commands s) (reverse older) ++ cs)
    (sym (append-nil (birth_commands s b)))
    ∙ sym (flat_map-append (birth_commands s) (reverse older) (b ∷ []))
    ∙ ap (flat_map (birth_commands s)) (sym (reverse-append (b ∷ []) older))

-- the creation of an object and its keys are all commands of the birth
with_keys : (s : TenantState) (b : Birth) → creation s b ++ key_commands s b ≡ birth_commands s b
with_keys s (OfMap handle fd) = by (live s handle)
  where
    by : (m : Option Map) → (close fd ∷ made_empty m) ++ puts_of fd m ≡ close fd ∷ made_map fd m
    by None = refl
    by (Some t) = refl
with_keys s (OfProgram fd) = append-nil (close fd ∷ made_program (named s.objects fd))

joined_birth : (s : TenantState) (b : Birth)
    → flat_map (λ (part : List Command). part) (birth_parts s b) ≡ birth_commands s b
joined_birth s b =
    ap (λ (cs : List Command). creation s b ++ cs) (joined KEYS_PER_SAVE_PART (omega arith) (key_commands s b))
    ∙ with_keys s b

collected : {A B : Type 0} (f : A → List (List B)) (g : A → List B)
    → ((x : A) → flat_map (λ (part : List B). part) (f x) ≡ g x)
    → (xs : List A) (last : List B)
    → flat_map (λ (part : List B). part) (flat_map f xs ++ last ∷ []) ≡ flat_map g xs ++ last
collected f g each [] last = append-nil last
collected {A} {B} f g each (x ∷ xs) last =
    let all = λ (ps : List (List B)). flat_map (λ (part : List B). part) ps in
    ap all (append_assoc (f x) (flat_map f xs) (last ∷ []))
    ∙ flat_map-append (λ (part : List B). part) (f x) (flat_map f xs ++ last ∷ [])
    ∙ ap₂ (λ (ys zs : List B). ys ++ zs) (each x) (collected f g each xs last)
    ∙ sym (append_assoc (g x) (flat_map g xs) last)

pub parts_are_whole : PartsAreWhole
parts_are_whole s births =
    let last = closings s.objects first_descriptor most in
    ap (λ (cs : List Command). filled most ++ cs)
    (collected (birth_parts s) (birth_commands s) (joined_birth s) (reverse births) last)
    ∙ ap (λ (cs : List Command). filled most ++ (cs ++ last)) (sym (born_in_order s births))

-- ---- frames

-- bytes that are written after a frame follow the old ones and the frame
pub then_more : {A : Type 0} (old : List A) {mid new : List A} (frame rest : List A)
    → mid ≡ old ++ frame → new ≡ mid ++ rest → new ≡ old ++ (frame ++ rest)
then_more {A} old frame rest one more = more ∙ ap (λ (xs : List A). xs ++ rest) one ∙ append_assoc old frame rest

-- once the next frame is written, all is what is written so far and what is left after this frame
pub one_less : {A : Type 0} (before : List A) {all after : List A} (frame rest : List A)
    → before ++ (frame ++ rest) ≡ all → after ≡ before ++ frame
    → after ++ rest ≡ all
one_less {A} before frame rest left written =
    ap (λ (xs : List A). xs ++ rest) written ∙ append_assoc before frame rest ∙ left

-- if nothing is left, what is written so far is all
pub nothing_left : {A : Type 0} {all now : List A} (rest : List A) → now ++ rest ≡ all → rest ≡ [] → now ≡ all
nothing_left {A} {all} {now} rest left none = sym (append-nil now) ∙ ap (λ (xs : List A). now ++ xs) (sym none) ∙ left

-- ---- the fillers

-- the slots of the filler are these sixteen bytes
pub filler_bytes : program_bytes filler ≡ 183 ∷ 0 ∷ 0 ∷ 0 ∷ 0 ∷ 0 ∷ 0 ∷ 0 ∷ 149 ∷ 0 ∷ 0 ∷ 0 ∷ 0 ∷ 0 ∷ 0 ∷ 0 ∷ []
unfolding spelling
filler_bytes = refl

-- if fillers are left to load, the next command is a load of the filler
pub filled_next : (n i : ℕ) → i < n → filled (n - i) ≡ load_of filler ∷ filled (n - (i + 1))
unfolding filled
filled_next n i lt = let e : n - i ≡ suc (n - (i + 1)) = omega arith in ap filled e

-- once n fillers are loaded, none of n is left to load
pub filled_none : (n i : ℕ) → n ≤ i → filled (n - i) ≡ []
unfolding filled
filled_none n i le = let e : n - i ≡ 0 = omega arith in ap filled e

-- ---- the closings

-- the closings of descriptors are that of the first one and those of the others
pub closings_next : (objects : List (Option OpenObject)) (fd n : ℕ)
    → 0 < n
    → closings objects fd n ≡ closing fd (named objects fd) ++ closings objects (fd + 1) (n - 1)
unfolding closings
closings_next objects fd n lt = let e : n ≡ suc (n - 1) = omega arith in ap (closings objects fd) e

-- if no descriptor is left, no closing is left
pub closings_none : (objects : List (Option OpenObject)) (fd n : ℕ) → n ≡ 0 → closings objects fd n ≡ []
unfolding closings
closings_none objects fd n e = ap (closings objects fd) e

-- ---- the entries of a map after an element

fewer : (b : Bool) (n : ℕ) → (if b then 1 else 0) + n ≤ 1 → n ≤ 1
fewer true n le = omega (arith, le)
fewer false n le = omega (arith, le)

seen : (p q n : ℕ) → p ≡ q → 1 ≤ (if nat_eq p q then 1 else 0) + n
seen p q n e = let b : nat_eq p q ≡ true = eq-eqb p q e in grind arith

seen_later : (b : Bool) (n : ℕ) → 1 ≤ n → 1 ≤ (if b then 1 else 0) + n
seen_later true n le = omega arith
seen_later false n le = omega (arith, le)

self : (p q : ℕ) → p ≡ q → nat_eq q p ≡ true
self p q e = eq-eqb q p (sym e)

module _ {K : Type 0} where
  -- the entry after an element is the first of those after it
  pub first_of_rest : (element : Option ℕ) (es : List (K × ℕ))
      → next_entry element es ≡ first_entry (rest_after element es)
  first_of_rest None es = refl
  first_of_rest (Some p) es = behind p es
    where
      behind : (p : ℕ) (es : List (K × ℕ)) → entry_after_element p es ≡ first_entry (entries_after p es)
      behind p [] = refl
      behind p (e ∷ es) = by (nat_eq p e.1) (behind p es)
        where
          by : (b : Bool)
              → entry_after_element p es ≡ first_entry (entries_after p es)
              → (if b then first_entry es else entry_after_element p es) ≡ first_entry (if b then es else entries_after p es)
          by true r = refl
          by false r = r

  -- a list of entries without a first entry is empty
  pub none_first : (es : List (K × ℕ)) → first_entry es ≡ None → es ≡ []
  none_first [] e = refl
  none_first (x ∷ es) e = absurd (none-some x (sym e))

  with_first : (e : K × ℕ) (es : List (K × ℕ)) → first_entry es ≡ Some e → (rest : List (K × ℕ)) × (es ≡ e ∷ rest)
  with_first e [] is = absurd (none-some e is)
  with_first e (x ∷ es) is = (es, ap (λ (y : K × ℕ). y ∷ es) (same_Some x e is))

  abbrev AreOnce : List (K × ℕ) → Type 0
  AreOnce es = (p : ℕ) → occurrences p (values_of es) ≤ 1

  later_once : (x : K × ℕ) (es : List (K × ℕ)) → AreOnce (x ∷ es) → AreOnce es
  later_once x es once p = fewer (nat_eq p x.1) (occurrences p (values_of es)) (once p)

  -- a later entry has another element than the first
  head_other : (x : K × ℕ) (es : List (K × ℕ)) (p : ℕ)
      → AreOnce (x ∷ es) → 1 ≤ occurrences p (values_of es) → nat_eq p x.1 ≡ false
  head_other x es p once some = by (nat_eq p x.1) refl (once p)
    where
      by : (b : Bool) → nat_eq p x.1 ≡ b → (if b then 1 else 0) + occurrences p (values_of es) ≤ 1 → b ≡ false
      by true e le = absurd (omega (arith, le, some))
      by false e le = refl

  first_seen : (e : K × ℕ) (es : List (K × ℕ)) → first_entry es ≡ Some e → 1 ≤ occurrences e.1 (values_of es)
  first_seen e [] is = absurd (none-some e is)
  first_seen e (x ∷ es) is =
      seen e.1 x.1 (occurrences e.1 (values_of es)) (ap (λ (y : K × ℕ). y.1) (sym (same_Some x e is)))

  behind_seen : (p : ℕ) (e : K × ℕ) (es : List (K × ℕ))
      → entry_after_element p es ≡ Some e → 1 ≤ occurrences e.1 (values_of es)
  behind_seen p e [] is = absurd (none-some e is)
  behind_seen p e (x ∷ es) is =
      seen_later (nat_eq e.1 x.1) (occurrences e.1 (values_of es))
      (by (nat_eq p x.1) is (first_seen e es) (behind_seen p e es))
    where
      by : (b : Bool)
          → (if b then first_entry es else entry_after_element p es) ≡ Some e
          → (first_entry es ≡ Some e → 1 ≤ occurrences e.1 (values_of es))
          → (entry_after_element p es ≡ Some e → 1 ≤ occurrences e.1 (values_of es))
          → 1 ≤ occurrences e.1 (values_of es)
      by true is f r = f is
      by false is f r = r is

  skip : (p : ℕ) (x : K × ℕ) (es : List (K × ℕ)) → nat_eq p x.1 ≡ false → entries_after p (x ∷ es) ≡ entries_after p es
  skip p x es e = ap (λ (b : Bool). if b then es else entries_after p es) e

  rest_of_first : (e : K × ℕ) (es : List (K × ℕ)) → first_entry es ≡ Some e → es ≡ e ∷ entries_after e.1 es
  rest_of_first e [] is = absurd (none-some e is)
  rest_of_first e (x ∷ es) is =
      let same = same_Some x e is in
      let hit : nat_eq e.1 x.1 ≡ true = self x.1 e.1 (ap (λ (y : K × ℕ). y.1) same) in
      ap (λ (y : K × ℕ). y ∷ es) same ∙ ap (λ (b : Bool). e ∷ (if b then es else entries_after e.1 es)) (sym hit)

  rest_of_behind : (p : ℕ) (e : K × ℕ) (es : List (K × ℕ))
      → AreOnce es → entry_after_element p es ≡ Some e
      → entries_after p es ≡ e ∷ entries_after e.1 es
  rest_of_behind p e [] once is = absurd (none-some e is)
  rest_of_behind p e (x ∷ es) once is = by (nat_eq p x.1) is (rest_of_behind p e es (later_once x es once))
    where
      other : 1 ≤ occurrences e.1 (values_of es) → entries_after e.1 (x ∷ es) ≡ entries_after e.1 es
      other some = skip e.1 x es (head_other x es e.1 once some)

      by : (b : Bool)
          → (if b then first_entry es else entry_after_element p es) ≡ Some e
          → (entry_after_element p es ≡ Some e → entries_after p es ≡ e ∷ entries_after e.1 es)
          → (if b then es else entries_after p es) ≡ e ∷ entries_after e.1 (x ∷ es)
      by true is r = rest_of_first e es is ∙ ap (λ (ys : List (K × ℕ)). e ∷ ys) (sym (other (first_seen e es is)))
      by false is r = r is ∙ ap (λ (ys : List (K × ℕ)). e ∷ ys) (sym (other (behind_seen p e es is)))

  -- the entries after an element are the next one and those after the next one
  pub rest_of_next : (element : Option ℕ) (e : K × ℕ) (es : List (K × ℕ))
      → ((p : ℕ) → occurrences p (values_of es) ≤ 1)
      → next_entry element es ≡ Some e
      → rest_after element es ≡ e ∷ rest_after (Some e.1) es
  rest_of_next None e es once is = rest_of_first e es is
  rest_of_next (Some p) e es once is = rest_of_behind p e es once is
