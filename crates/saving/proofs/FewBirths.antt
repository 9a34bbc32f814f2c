-- There are at most as many births as descriptors and handles.
use Rattle.std.proofs.Common.{◌≡◌, ℕ, zero, suc, ◌+◌, ◌-◌, ◌≤◌, ◌<◌, Bool, true, false, List, [], ◌∷◌, length, set}
use Rattle.std.proofs.Common.{get_or, replicate, Option, Some, None, refl, sym, ap, subst, ◌∙◌, inl, inr, arith, true≢false}
use Rattle.std.specs.Prelude.{◌⊎◌, nat_lt, if◌then◌else◌}
use Rattle.std.specs.List.{list_any}
use Rattle.std.proofs.lemmas.Bool.{cases_lt, eq-eqb, lt-ltb, le-ltb}
use Rattle.std.proofs.lemmas.List.{get_or-set_other}
use Rattle.bpf_maps.specs.Sum.{total}
use Rattle.fd_table.specs.Table.{first_descriptor, most}
use Rattle.bpf_maps.specs.Limits.{most_maps}
use Rattle.tenant.specs.State.{TenantState}
use Rattle.saving.specs.Alike.{HoldsItsMaps}
use Rattle.saving.specs.Births.{Birth, OfMap, OfProgram, descriptor_of, is_of_map, is_of_program, IsBorn, AreInOrder}
use Rattle.saving.proofs.Lists.{total_out, there_within}
use Rattle.saving.proofs.Wholes.{none_of}

-- a list of n marks, without the marks of these births
abbrev Mark : Type 0
Mark = Option (Unit {0})

abbrev marked : Mark
marked = Some tt

abbrev without_mark : Option ℕ → List Mark → List Mark
without_mark None ms = ms
without_mark (Some k) ms = set ms k None

abbrev marks_of : (Birth → Option ℕ) → ℕ → List Birth → List Mark
marks_of mark n [] = replicate n marked
marks_of mark n (b ∷ older) = without_mark (mark b) (marks_of mark n older)

abbrev counted : Option ℕ → ℕ
counted None = 0
counted (Some k) = 1

-- the number of births that have a mark
abbrev count_of : (Birth → Option ℕ) → List Birth → ℕ
count_of mark [] = 0
count_of mark (b ∷ older) = counted (mark b) + count_of mark older

-- the mark of each birth is below n, and no older birth has it
abbrev AreTaken : (Birth → Option ℕ) → ℕ → List Birth → Type 0
AreTaken mark n [] = Unit {0}
AreTaken mark n (b ∷ older) =
    ((k : ℕ) → mark b ≡ Some k → get_or (marks_of mark n older) k None ≡ marked) × AreTaken mark n older

all_marks : (n : ℕ) → total (λ (u : Unit {0}). 1) (replicate n marked) ≡ n
unfolding total
all_marks zero = refl
all_marks (suc n) = let rest = all_marks n in omega arith

few_of : (mark : Birth → Option ℕ) (n : ℕ) (bs : List Birth)
    → AreTaken mark n bs → total (λ (u : Unit {0}). 1) (marks_of mark n bs) + count_of mark bs ≡ n
few_of mark n [] h = let all = all_marks n in omega arith
few_of mark n (b ∷ older) h = by (mark b) refl (few_of mark n older h.1)
  where
    by : (o : Option ℕ)
        → mark b ≡ o
        → total (λ (u : Unit {0}). 1) (marks_of mark n older) + count_of mark older ≡ n
        → total (λ (u : Unit {0}). 1) (without_mark o (marks_of mark n older)) + (counted o + count_of mark older) ≡ n
    by None e rest = omega arith
    by (Some k) e rest = let out = total_out (λ (u : Unit {0}). 1) (marks_of mark n older) k tt (h.0 k e) in omega arith

-- a mark that no birth has is in the list
mark_there : (n k : ℕ) → k < n → get_or (replicate n marked) k None ≡ marked
mark_there zero k lt = absurd (omega arith)
mark_there (suc n) zero lt = refl
mark_there (suc n) (suc k) lt = mark_there n k (omega arith)

still_marked : (mark : Birth → Option ℕ) (test : Birth → Bool) (n k : ℕ) (bs : List Birth)
    → k < n
    → ((b : Birth) → mark b ≡ Some k → test b ≡ true)
    → list_any test bs ≡ false
    → get_or (marks_of mark n bs) k None ≡ marked
still_marked mark test n k [] lt tests none = mark_there n k lt
still_marked mark test n k (b ∷ older) lt tests none =
    let parts = none_of (test b) (list_any test older) none in
    by (mark b) refl parts.0 (still_marked mark test n k older lt tests parts.1)
  where
    by : (o : Option ℕ)
        → mark b ≡ o → test b ≡ false
        → get_or (marks_of mark n older) k None ≡ marked
        → get_or (without_mark o (marks_of mark n older)) k None ≡ marked
    by None e f rest = rest
    by (Some m) e f rest =
        get_or-set_other (marks_of mark n older) m k None None
        (λ same. true≢false (sym (tests b (e ∙ ap (λ (x : ℕ). Some x) (sym same))) ∙ f))
        ∙ rest

-- ---- maps, and programs

map_mark : Birth → Option ℕ
map_mark (OfMap handle fd) = Some handle
map_mark (OfProgram fd) = None

-- the index of a descriptor in the table; a number below the first descriptor has an index after the table
slot_of : ℕ → ℕ
slot_of fd = if nat_lt fd first_descriptor then most + fd else fd - first_descriptor

slot_is : (fd : ℕ) → first_descriptor ≤ fd → slot_of fd ≡ fd - first_descriptor
unfolding slot_of
slot_is fd low = ap (λ (b : Bool). if b then most + fd else fd - first_descriptor) (le-ltb fd first_descriptor low)

one_slot : (fd k : ℕ) → slot_of fd ≡ k → k < most → fd ≡ k + first_descriptor
unfolding slot_of
one_slot fd k e lt = by (cases_lt fd first_descriptor)
  where
    by : (fd < first_descriptor) ⊎ (first_descriptor ≤ fd) → fd ≡ k + first_descriptor
    by (inl below) =
        let behind : most + fd ≡ k =
        sym (ap (λ (b : Bool). if b then most + fd else fd - first_descriptor) (lt-ltb fd first_descriptor below))
        ∙ e in
        absurd (omega arith)
    by (inr low) =
        let there : fd - first_descriptor ≡ k =
        sym (ap (λ (b : Bool). if b then most + fd else fd - first_descriptor) (le-ltb fd first_descriptor low)) ∙ e in
        omega arith

program_mark : Birth → Option ℕ
program_mark (OfMap handle fd) = None
program_mark (OfProgram fd) = Some (slot_of fd)

both_counted : (bs : List Birth) → count_of map_mark bs + count_of program_mark bs ≡ length bs
unfolding map_mark program_mark
both_counted [] = refl
both_counted (OfMap handle fd ∷ older) = let rest = both_counted older in omega arith
both_counted (OfProgram fd ∷ older) = let rest = both_counted older in omega arith

same_some : (m n : ℕ) → Some m ≡ Some n → m ≡ n
same_some m n e = cc

module _ {s : TenantState} (h : HoldsItsMaps s) where
  maps_taken : (bs : List Birth) → AreInOrder s bs → AreTaken map_mark most_maps bs
  unfolding map_mark
  maps_taken [] order = tt
  maps_taken (b ∷ older) (low, high, apart, is, order) = (by b is, maps_taken older order)
    where
      test : (handle : ℕ) (x : Birth) → map_mark x ≡ Some handle → is_of_map handle x ≡ true
      test handle (OfMap p fd) e = eq-eqb p handle (same_some p handle e)
      test handle (OfProgram fd) e =
          absurd (let wrong : (let none : Option ℕ = None in none) ≡ Some handle = e in cc wrong)

      by : (x : Birth)
          → IsBorn s older x → (k : ℕ) → map_mark x ≡ Some k
          → get_or (marks_of map_mark most_maps older) k None ≡ marked
      by (OfMap handle fd) (live_so, new) k e =
          let within = there_within s.maps handle live_so in
          let long = h.handles in
          subst (λ (j : ℕ). get_or (marks_of map_mark most_maps older) j None ≡ marked)
          (same_some handle k e)
          (still_marked map_mark (is_of_map handle) most_maps handle older (omega arith) (test handle) new)
      by (OfProgram fd) is k e = absurd (let wrong : (let none : Option ℕ = None in none) ≡ Some k = e in cc wrong)

  programs_taken : (bs : List Birth) → AreInOrder s bs → AreTaken program_mark most bs
  unfolding program_mark
  programs_taken [] order = tt
  programs_taken (b ∷ older) (low, high, apart, is, order) = (by b low high apart, programs_taken older order)
    where
      test : (n k : ℕ)
          → n ≡ k + first_descriptor → k < most
          → (x : Birth) → program_mark x ≡ Some k
          → is_of_program n x ≡ true
      test n k same lt (OfMap p fd) e =
          absurd (let wrong : (let none : Option ℕ = None in none) ≡ Some k = e in cc wrong)
      test n k same lt (OfProgram fd) e = eq-eqb fd n (one_slot fd k (same_some (slot_of fd) k e) lt ∙ sym same)

      by : (x : Birth)
          → first_descriptor ≤ descriptor_of x → descriptor_of x < first_descriptor + most
          → list_any (is_of_program (descriptor_of x)) older ≡ false
          → (k : ℕ) → program_mark x ≡ Some k
          → get_or (marks_of program_mark most older) k None ≡ marked
      by (OfMap handle fd) low high apart k e =
          absurd (let wrong : (let none : Option ℕ = None in none) ≡ Some k = e in cc wrong)
      by (OfProgram fd) low high apart k e =
          let at = sym (slot_is fd low) ∙ same_some (slot_of fd) k e in
          still_marked program_mark (is_of_program fd) most k older (omega arith)
          (test fd k (omega arith) (omega arith)) apart

  -- births in order are at most as many as descriptors and handles together
  pub few_births : (bs : List Birth) → AreInOrder s bs → length bs ≤ most + most_maps
  few_births bs order =
      let maps = few_of map_mark most_maps bs (maps_taken bs order) in
      let programs = few_of program_mark most bs (programs_taken bs order) in
      let both = both_counted bs in
      omega arith
