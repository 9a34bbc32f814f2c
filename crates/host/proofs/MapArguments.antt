-- An argument names at most one map.
use Rattle.std.proofs.Common.{◌≡◌, ◌∙◌, ◌<◌, ◌==◌, ℕ, Bool, true, false, List, [], ◌∷◌, length, Option, Some, None}
use Rattle.std.proofs.Common.{IfSome, IfNone, IsTrue, MatchOption, codes, ap, sym, subst, refl, arith, Bor, Result, Ok}
use Rattle.std.specs.Char.{is_ascii_digit}
use Rattle.std.specs.List.{All, AllByRecursion, after_first, before_first, join_with_byte, list_all, position_or_len}
use Rattle.std.specs.Result.{result_ok}
use Rattle.std.proofs.Props.{props}
use Rattle.std.proofs.lemmas.Bool.Decides.{nat_tests}
use Rattle.std.proofs.lemmas.List.Elements.{All-from_recursion}
use Rattle.std.proofs.lemmas.List.Splits.{join_with_byte-slice_split, slice_split_at, slice_split_first, slice_split_none}
use Rattle.std.proofs.lemmas.List.Sums.{fails_before_first}
use Rattle.clap.specs.Words.{Text}
use Rattle.tagged_model.specs.Shape.{is_shape}
use Rattle.tagged_model.specs.declared.shape.MapKind.{MapKind}
use Rattle.tagged_model.specs.declared.shape.MapKind.TheVariants.{Array, Hash}
use Rattle.tagged_model.specs.declared.shape.MapShape.{MapShape}
use Rattle.tagged_model.specs.declared.shape.Named.{Named}
use Rattle.tagged_model.specs.declared.shape.Target.{Target}
use Rattle.tagged_model.specs.declared.shape.Target.TheVariants.{Map}
use Rattle.host.specs.program.Decimal.{decimal_number}
use Rattle.host.specs.program.Shapes.{colon, descriptor_number, kind_name, IsMapArgument, IsShapeOf}
use Rattle.host.specs.inside.program.MapFields.{map_fields}

abbrev is_colon : ℕ → Bool
is_colon b = b == colon

-- ---- fields

-- the text has no colon
abbrev Lacks : Text → Type 0
Lacks text = All (λ b. is_colon b ≡ false) text

one_field : (text : Text) → Lacks text → map_fields text ≡ text ∷ []
one_field text lacks = slice_split_none is_colon text lacks

-- the text before and after the first colon
pub first_cut : (text : Text) (r : Option (Bor Text × Bor Text))
    → MatchOption r (position_or_len is_colon text ≡ length text)
    (λ cut.
    (position_or_len is_colon text < length text)
    × (cut.0.now ≡ before_first is_colon text)
    × (cut.1.now ≡ after_first is_colon text))
    → IfSome r (λ cut. map_fields text ≡ cut.0.now ∷ map_fields cut.1.now)
first_cut text None is = tt
first_cut text (Some cut) is =
    slice_split_first is_colon text 0 is.0
    ∙ sym (ap (λ front. front ∷ map_fields cut.1.now) is.1
    ∙ ap (λ rest. before_first is_colon text ∷ map_fields rest) is.2)

-- a text that cannot be cut at a colon is one field
pub no_cut : (text : Text) (r : Option (Bor Text × Bor Text))
    → MatchOption r (position_or_len is_colon text ≡ length text)
    (λ cut.
    (position_or_len is_colon text < length text)
    × (cut.0.now ≡ before_first is_colon text)
    × (cut.1.now ≡ after_first is_colon text))
    → IfNone r (map_fields text ≡ text ∷ [])
no_cut text None is = one_field text (λ k d below. fails_before_first is_colon text k d (omega (arith, is)))
no_cut text (Some cut) is = tt

-- fields without a colon, joined by colons, are the fields of the joined text
fields_joined : (first : Text) (more : List Text)
    → AllByRecursion Lacks (first ∷ more)
    → map_fields (join_with_byte colon (first ∷ more)) ≡ first ∷ more
fields_joined first [] lack = one_field first lack.0
fields_joined first (second ∷ more) lack =
    slice_split_at is_colon first colon (join_with_byte colon (second ∷ more)) lack.0 refl
    ∙ ap (λ rest. first ∷ rest) (fields_joined second more lack.1)

-- ---- no field of a map has a colon

digits_lack : (text : Text) → list_all is_ascii_digit text ≡ true → AllByRecursion (λ b. is_colon b ≡ false) text
digits_lack [] all = tt
digits_lack (b ∷ bs) all = grind (arith, nat_tests, digits_lack bs)

number_lacks : (text : Text) (n : ℕ) → decimal_number text ≡ Some n → Lacks text
number_lacks text n is = All-from_recursion (λ b. is_colon b ≡ false) text (digits_lack text (grind (arith, nat_tests)))

descriptor_lacks : (text : Text) (fd : ℕ) → descriptor_number text ≡ Some fd → Lacks text
descriptor_lacks text fd is =
    All-from_recursion (λ b. is_colon b ≡ false) text (digits_lack text (grind (arith, nat_tests)))

kind_lacks : (kind : MapKind) → Lacks (kind_name kind)
kind_lacks Array =
    All-from_recursion (λ b. is_colon b ≡ false) (codes "array") (refl, (refl, (refl, (refl, (refl, tt)))))
kind_lacks Hash = All-from_recursion (λ b. is_colon b ≡ false) (codes "hash") (refl, (refl, (refl, (refl, tt))))

five_fields : (argument : Text) (map : Named) (is : IsMapArgument argument map)
    → map_fields argument ≡ is.fd ∷ is.kind ∷ is.key_size ∷ is.value_size ∷ is.max_entries ∷ []
five_fields argument map is =
    ap map_fields is.spelled
    ∙ fields_joined is.fd (is.kind ∷ is.key_size ∷ is.value_size ∷ is.max_entries ∷ []) (
      descriptor_lacks is.fd map.fd is.descriptor,
      (
        subst Lacks (sym is.shaped.kind_is) (kind_lacks is.shape.kind),
        (
          number_lacks is.key_size _ is.shaped.key_size_is,
          (
            number_lacks is.value_size _ is.shaped.value_size_is,
            (number_lacks is.max_entries _ is.shaped.max_entries_is, tt),
          ),
        ),
      ),
    )

-- ---- arguments that name no map

-- if no map was read from an argument that names none, what was read is what it names
pub none_named : (argument : Text) (r : Option Named) → r ≡ None → ((map : Named) → ¬ IsMapArgument argument map)
    → (map : Named) → (r ≡ Some map → IsMapArgument argument map) × (IsMapArgument argument map → r ≡ Some map)
none_named argument r none never map = (
  (λ some. absurd (let both : None ≡ Some map = sym none ∙ some in cc both)),
  (λ is. absurd (never map is)),
)

-- an argument of fewer than five fields names no map
pub few_fields : (argument : Text) → length (map_fields argument) < 5 → (map : Named) → ¬ IsMapArgument argument map
few_fields argument few map is = omega (arith, ap length (five_fields argument map is))

-- the fields of a map argument are those of the argument that was cut at four colons
pub record SameFields
    (argument fd kind key_size value_size max_entries : Text)
    (map : Named) (is : IsMapArgument argument map) : Type 0 where
  -- the field of the descriptor is the first
  pub fd_is : is.fd ≡ fd
  -- the field of the kind is the second
  pub kind_is : is.kind ≡ kind
  -- the field of the size of a key is the third
  pub key_size_is : is.key_size ≡ key_size
  -- the field of the size of a value is the fourth
  pub value_size_is : is.value_size ≡ value_size
  -- the field of the maximum of entries is the rest of the argument
  pub max_entries_is : is.max_entries ≡ max_entries

whole : (text field : Text) → map_fields text ≡ field ∷ [] → field ≡ text
whole text field is = sym (ap (join_with_byte colon) is) ∙ join_with_byte-slice_split colon text

head : List Text → Text
head [] = []
head (x ∷ xs) = x

tail : List Text → List Text
tail [] = []
tail (x ∷ xs) = xs

-- if an argument that names a map was cut at four colons, the pieces are the fields of the map
pub same_fields : (argument fd kind key_size value_size max_entries : Text)
    → map_fields argument ≡ fd ∷ kind ∷ key_size ∷ value_size ∷ map_fields max_entries
    → (map : Named) (is : IsMapArgument argument map)
    → SameFields argument fd kind key_size value_size max_entries map is
unfolding head tail
same_fields argument fd kind key_size value_size max_entries cut map is =
    let same = sym (five_fields argument map is) ∙ cut in
    record {
      fd_is = ap head same;
      kind_is = ap (λ xs. head (tail xs)) same;
      key_size_is = ap (λ xs. head (tail (tail xs))) same;
      value_size_is = ap (λ xs. head (tail (tail (tail xs)))) same;
      max_entries_is = whole max_entries is.max_entries (sym (ap (λ xs. tail (tail (tail (tail xs)))) same));
    }

-- an argument whose last four fields are those of no shape names no map
pub no_shape : (argument fd kind key_size value_size max_entries : Text)
    → map_fields argument ≡ fd ∷ kind ∷ key_size ∷ value_size ∷ map_fields max_entries
    → ((shape : MapShape) → ¬ IsShapeOf shape kind key_size value_size max_entries)
    → (map : Named) → ¬ IsMapArgument argument map
no_shape argument fd kind key_size value_size max_entries cut never map is =
    let same = same_fields argument fd kind key_size value_size max_entries cut map is in
    never is.shape (record {
      kind_is = sym same.kind_is ∙ is.shaped.kind_is;
      key_size_is = ap decimal_number (sym same.key_size_is) ∙ is.shaped.key_size_is;
      value_size_is = ap decimal_number (sym same.value_size_is) ∙ is.shaped.value_size_is;
      max_entries_is = ap decimal_number (sym same.max_entries_is) ∙ is.shaped.max_entries_is;
    })

-- an argument whose first field is no descriptor names no map
pub no_descriptor : (argument fd kind key_size value_size max_entries : Text)
    → map_fields argument ≡ fd ∷ kind ∷ key_size ∷ value_size ∷ map_fields max_entries
    → descriptor_number fd ≡ None → (map : Named) → ¬ IsMapArgument argument map
no_descriptor argument fd kind key_size value_size max_entries cut none map is =
    let same = same_fields argument fd kind key_size value_size max_entries cut map is in
    let both : None ≡ Some map.fd = sym none ∙ (ap descriptor_number (sym same.fd_is) ∙ is.descriptor) in
    cc both

-- ---- arguments that name a map

same_kind : (a b : MapKind) → kind_name a ≡ kind_name b → a ≡ b
same_kind Array Array e = refl
same_kind Array Hash e = absurd (omega (arith, ap length e))
same_kind Hash Array e = absurd (omega (arith, ap length e))
same_kind Hash Hash e = refl

listed_prop : (b : Bool) → IsProp (IsTrue b)
listed_prop b = hlevel props

-- shapes of equal fields are equal
shape_with : (kind : MapKind) (key value max : ℕ) → IsTrue (is_shape kind key value max) → MapShape
shape_with kind key value max listed = record {
  kind = kind;
  key_size = key;
  value_size = value;
  max_entries = max;
  listed = listed;
}

module _ (kind : MapKind) (key value max : ℕ) (listed : IsTrue (is_shape kind key value max)) where
  abbrev IsSame : MapKind → ℕ → ℕ → ℕ → Type 0
  IsSame k a b c = (h : IsTrue (is_shape k a b c)) → shape_with kind key value max listed ≡ shape_with k a b c h

  same_shape_of : (k : MapKind) (a b c : ℕ) → kind ≡ k → key ≡ a → value ≡ b → max ≡ c → IsSame k a b c
  same_shape_of k a b c kind_is key_is value_is max_is =
      let same : IsSame kind key value max =
      λ h. ap (shape_with kind key value max) (listed_prop (is_shape kind key value max) listed h) in
      subst (IsSame k a b) max_is
      (subst (λ n. IsSame k a n max) value_is
      (subst (λ n. IsSame k n value max) key_is (subst (λ x. IsSame x key value max) kind_is same)))

some_same : (a b : ℕ) (o p : Option ℕ) → o ≡ Some a → p ≡ Some b → o ≡ p → a ≡ b
some_same a b o p is_a is_b same = let both : Some a ≡ Some b = sym is_a ∙ (same ∙ is_b) in cc both

-- four fields are those of at most one shape
pub same_shape : (a b : MapShape) (kind key_size value_size max_entries : Text)
    → IsShapeOf a kind key_size value_size max_entries
    → IsShapeOf b kind key_size value_size max_entries
    → a ≡ b
unfolding shape_with
same_shape a b kind key_size value_size max_entries is_a is_b =
    same_shape_of a.kind a.key_size a.value_size a.max_entries a.listed b.kind b.key_size b.value_size b.max_entries
    (same_kind a.kind b.kind (sym is_a.kind_is ∙ is_b.kind_is))
    (some_same _ _ _ _ is_a.key_size_is is_b.key_size_is refl) (some_same _ _ _ _ is_a.value_size_is
    is_b.value_size_is refl)
    (some_same _ _ _ _ is_a.max_entries_is is_b.max_entries_is refl) b.listed

named_with : ℕ → Target → Named
named_with fd target = record { fd = fd; target = target }

some_map : (a b : Named) → Some a ≡ Some b → a ≡ b
some_map a b e = cc e

same_map : (argument fd kind key_size value_size max_entries : Text) (descriptor : ℕ) (shape : MapShape)
    → map_fields argument ≡ fd ∷ kind ∷ key_size ∷ value_size ∷ map_fields max_entries
    → Some descriptor ≡ descriptor_number fd
    → IsShapeOf shape kind key_size value_size max_entries
    → (map : Named) → IsMapArgument argument map
    → record { fd = descriptor; target = Map shape } ≡ map
unfolding named_with
same_map argument fd kind key_size value_size max_entries descriptor shape cut number shaped map is =
    let same = same_fields argument fd kind key_size value_size max_entries cut map is in
    let shape_is : shape ≡ is.shape = same_shape shape is.shape kind key_size value_size max_entries shaped (record {
      kind_is = sym same.kind_is ∙ is.shaped.kind_is;
      key_size_is = ap decimal_number (sym same.key_size_is) ∙ is.shaped.key_size_is;
      value_size_is = ap decimal_number (sym same.value_size_is) ∙ is.shaped.value_size_is;
      max_entries_is = ap decimal_number (sym same.max_entries_is) ∙ is.shaped.max_entries_is;
    }) in
    let fd_is : descriptor ≡ map.fd =
    some_same _ _ _ _ (sym number) is.descriptor (ap descriptor_number (sym same.fd_is)) in
    ap (λ fd. named_with fd (Map shape)) fd_is ∙ ap (named_with map.fd) (ap Map shape_is ∙ sym is.target)

-- an argument with these fields names this map
pub named_by : (argument fd kind key_size value_size max_entries : Text) {descriptor : ℕ} {shape : MapShape}
    → argument ≡ join_with_byte colon (fd ∷ kind ∷ key_size ∷ value_size ∷ max_entries ∷ [])
    → descriptor_number fd ≡ Some descriptor
    → IsShapeOf shape kind key_size value_size max_entries
    → IsMapArgument argument (record { fd = descriptor; target = Map shape })
named_by argument fd kind key_size value_size max_entries {descriptor} {shape} spelled number shaped = record {
  fd = fd;
  kind = kind;
  key_size = key_size;
  value_size = value_size;
  max_entries = max_entries;
  shape = shape;
  spelled = spelled;
  descriptor = number;
  target = refl;
  shaped = shaped;
}

-- the argument names this map and no other
pub one_named : (argument fd kind key_size value_size max_entries : Text) (descriptor : ℕ)
    (shape : MapShape)
    → map_fields argument ≡ fd ∷ kind ∷ key_size ∷ value_size ∷ map_fields max_entries
    → Some descriptor ≡ descriptor_number fd
    → IsShapeOf shape kind key_size value_size max_entries
    → (map : Named)
    → (Some (record { fd = descriptor; target = Map shape }) ≡ Some map → IsMapArgument argument map)
    × (IsMapArgument argument map → Some (record { fd = descriptor; target = Map shape }) ≡ Some map)
one_named argument fd kind key_size value_size max_entries descriptor shape cut number shaped map =
    let is : IsMapArgument argument (record { fd = descriptor; target = Map shape }) =
    named_by argument fd kind key_size value_size max_entries
    (sym (join_with_byte-slice_split colon argument)
    ∙ ap (join_with_byte colon)
    (cut
    ∙ ap (λ rest. fd ∷ kind ∷ key_size ∷ value_size ∷ rest)
    (one_field max_entries (number_lacks max_entries _ shaped.max_entries_is))))
    (sym number) shaped in (
      (λ e. subst (IsMapArgument argument) (some_map _ _ e) is),
      (λ other.
          ap Some
          (same_map argument fd kind key_size value_size max_entries descriptor shape cut number shaped map other)),
    )

-- two maps that an argument names are the same
pub one_map : (argument : Text) (a b : Named) → IsMapArgument argument a → IsMapArgument argument b → a ≡ b
unfolding named_with
one_map argument a b is_a is_b =
    let named = one_named argument is_a.fd is_a.kind is_a.key_size is_a.value_size is_a.max_entries a.fd is_a.shape
    (five_fields argument a is_a ∙ ap (λ rest. is_a.fd ∷ is_a.kind ∷ is_a.key_size ∷ is_a.value_size ∷ rest)
    (sym (one_field is_a.max_entries (number_lacks is_a.max_entries _ is_a.shaped.max_entries_is))))
    (sym is_a.descriptor) is_a.shaped in
    some_map a b (ap (λ target. Some (named_with a.fd target)) is_a.target ∙ (named b).1 is_b)

-- ---- the map that was read from an argument

-- if `result_ok` of a result is None, the result has no map
pub none_read : {E : Type 0} (r : Result Named E) (map : Named) → None ≡ result_ok r → r ≡ Ok map → ⊥
none_read r map none ok = let both : None ≡ Some map = none ∙ ap result_ok ok in cc both

-- if `result_ok` of a result is a map, it is the map that the result has
pub one_read : {E : Type 0} (r : Result Named E) (map other : Named)
    → Some map ≡ result_ok r → r ≡ Ok other → map ≡ other
one_read r map other some ok = some_map map other (some ∙ ap result_ok ok)
