-- Arguments name one list of maps, or one of them is the first wrong argument.
use Rattle.std.proofs.Common.{◌≡◌, ◌≢◌, ◌∙◌, ◌<◌, ◌+◌, ◌==◌, ◌||◌, ℕ, zero, suc, Bool, true, false, true≢false}
use Rattle.std.proofs.Common.{List, [], ◌∷◌, ◌++◌, length, get_or, take, drop, ap, ap₂, sym, subst, refl, arith, Bor}
use Rattle.std.specs.List.{AllPairs, AllZip}
use Rattle.std.proofs.lemmas.Bool.Decides.{nat_tests}
use Rattle.std.proofs.lemmas.List.{length-append}
use Rattle.std.proofs.lemmas.List.Quantifiers.{all_pairs_push}
use Rattle.clap.specs.Words.{Text}
use Rattle.clap.specs.Walk.{texts}
use Rattle.tagged_model.specs.declared.shape.Named.{Named}
use Rattle.host.specs.program.Shapes.{has_descriptor, AreMapArguments, IsFirstWrongArgument, IsMapArgument}
use Rattle.host.proofs.MapArguments.{one_map}

-- the descriptors of two maps differ
abbrev Differ : Named → Named → Type 0
Differ a b = a.fd ≢ b.fd

-- ---- one more argument

both_false : (a b : Bool) → (a || b) ≡ false → (a ≡ false) × (b ≡ false)
both_false true b e = absurd (true≢false e)
both_false false b e = (refl, e)

-- a descriptor that no map has
absent_at : (fd : ℕ) (maps : List Named)
    → has_descriptor fd maps ≡ false → (k : ℕ) (d : Named) → k < length maps
    → (get_or maps k d).fd ≢ fd
absent_at fd [] absent k d below = absurd (omega arith)
absent_at fd (m ∷ ms) absent zero d below =
    let apart : (m.fd == fd) ≡ false = (both_false (m.fd == fd) (has_descriptor fd ms) absent).0 in
    grind (arith, nat_tests)
absent_at fd (m ∷ ms) absent (suc k) d below =
    absent_at fd ms (both_false (m.fd == fd) (has_descriptor fd ms) absent).1 k d (omega arith)

each_more : (arguments : List Text) (maps : List Named) (argument : Text) (m : Named)
    → AllZip IsMapArgument arguments maps → IsMapArgument argument m
    → AllZip IsMapArgument (arguments ++ argument ∷ []) (maps ++ m ∷ [])
each_more [] [] argument m each is = (is, tt)
each_more [] (n ∷ ns) argument m each is = absurd each
each_more (w ∷ ws) [] argument m each is = absurd each
each_more (w ∷ ws) (n ∷ ns) argument m each is = (each.0, each_more ws ns argument m each.1 is)

-- if arguments name maps, and the next one a map with another descriptor, they name the maps with this one at the end
pub maps_more : (arguments : List Text) (maps : List Named) (argument : Text) (m : Named)
    → AreMapArguments arguments maps → IsMapArgument argument m
    → has_descriptor m.fd maps ≡ false
    → AreMapArguments (arguments ++ argument ∷ []) (maps ++ m ∷ [])
maps_more arguments maps argument m are is absent = record {
  each = each_more arguments maps argument m are.each is;
  apart = all_pairs_push Differ maps m are.apart (absent_at m.fd maps absent);
}

-- the arguments up to the next one
texts_more : (arguments : List (Bor Text)) (i : ℕ) (d : Bor Text)
    → i < length arguments
    → take (suc i) (texts arguments) ≡ take i (texts arguments) ++ (get_or arguments i d).now ∷ []
texts_more [] i d below = absurd (omega arith)
texts_more (w ∷ ws) zero d below = refl
texts_more (w ∷ ws) (suc i) d below = ap (λ front. w.now ∷ front) (texts_more ws i d (omega arith))

texts_cut : (arguments : List (Bor Text)) (i : ℕ) (d : Bor Text) → i < length arguments
    → texts arguments ≡ take i (texts arguments) ++ (get_or arguments i d).now ∷ drop (suc i) (texts arguments)
texts_cut [] i d below = absurd (omega arith)
texts_cut (w ∷ ws) zero d below = refl
texts_cut (w ∷ ws) (suc i) d below = ap (λ front. w.now ∷ front) (texts_cut ws i d (omega arith))

length_before : (arguments : List (Bor Text)) (i : ℕ) → i < length arguments → length (take i (texts arguments)) ≡ i
length_before [] i below = absurd (omega arith)
length_before (w ∷ ws) zero below = refl
length_before (w ∷ ws) (suc i) below = ap suc (length_before ws i (omega arith))

-- if the first i arguments name maps, and the next one a map with another descriptor, i + 1 arguments name maps
pub next_right : (arguments : List (Bor Text)) (i : ℕ) (d : Bor Text) (maps : List Named) (m : Named)
    → i < length arguments
    → AreMapArguments (take i (texts arguments)) maps
    → IsMapArgument (get_or arguments i d).now m → has_descriptor m.fd maps ≡ false
    → AreMapArguments (take (i + 1) (texts arguments)) (maps ++ m ∷ [])
next_right arguments i d maps m below are is absent =
    let next : suc i ≡ i + 1 = omega arith in
    let more = maps_more (take i (texts arguments)) maps (get_or arguments i d).now m are is absent in
    subst (λ n. AreMapArguments (take n (texts arguments)) (maps ++ m ∷ [])) next
    (subst (λ ws. AreMapArguments ws (maps ++ m ∷ [])) (sym (texts_more arguments i d below)) more)

-- if the next argument names no map, or one with a descriptor of those before it, it is the first wrong one
pub next_wrong : (arguments : List (Bor Text)) (i : ℕ) (d : Bor Text) (maps : List Named)
    → i < length arguments
    → AreMapArguments (take i (texts arguments)) maps
    → ((m : Named) → IsMapArgument (get_or arguments i d).now m → has_descriptor m.fd maps ≡ true)
    → IsFirstWrongArgument (texts arguments) (i + 1)
next_wrong arguments i d maps below are wrong = record {
  before = take i (texts arguments);
  argument = (get_or arguments i d).now;
  after = drop (suc i) (texts arguments);
  maps = maps;
  parts = texts_cut arguments i d below;
  right = are;
  wrong = wrong;
  number_is = omega (arith, length_before arguments i below);
}

-- ---- if all arguments name maps, none is wrong

-- the maps of the first arguments, of the next one, and of the others
pub record AreParted (before : List Text) (argument : Text) (after : List Text) (maps : List Named) : Type 0 where
  -- the maps of the arguments before
  pub first : List Named
  -- the map of the argument
  pub next : Named
  -- the maps of the arguments after it
  pub others : List Named
  -- the maps are these, one after another
  pub maps_are : maps ≡ first ++ next ∷ others
  -- the arguments before name the first maps, in order
  pub each : AllZip IsMapArgument before first
  -- the argument names the next map
  pub is : IsMapArgument argument next

parted : (before : List Text) (argument : Text) (after : List Text) (maps : List Named)
    → AllZip IsMapArgument (before ++ argument ∷ after) maps → AreParted before argument after maps
parted [] argument after [] each = absurd each
parted [] argument after (m ∷ ms) each = record {
  first = [];
  next = m;
  others = ms;
  maps_are = refl;
  each = tt;
  is = each.0;
}
parted (w ∷ ws) argument after [] each = absurd each
parted (w ∷ ws) argument after (m ∷ ms) each =
    let rest = parted ws argument after ms each.1 in
    record {
      first = m ∷ rest.first;
      next = rest.next;
      others = rest.others;
      maps_are = ap (λ xs. m ∷ xs) rest.maps_are;
      each = (each.0, rest.each);
      is = rest.is;
    }

-- arguments name one list of maps
same_maps : (arguments : List Text) (a b : List Named)
    → AllZip IsMapArgument arguments a → AllZip IsMapArgument arguments b → a ≡ b
same_maps [] [] [] of_a of_b = refl
same_maps [] [] (n ∷ ns) of_a of_b = absurd of_b
same_maps [] (m ∷ ms) b of_a of_b = absurd of_a
same_maps (w ∷ ws) [] b of_a of_b = absurd of_a
same_maps (w ∷ ws) (m ∷ ms) [] of_a of_b = absurd of_b
same_maps (w ∷ ws) (m ∷ ms) (n ∷ ns) of_a of_b =
    ap₂ (λ (x : Named) (xs : List Named). x ∷ xs) (one_map w m n of_a.0 of_b.0) (same_maps ws ms ns of_a.1 of_b.1)

at_next : (first : List Named) (next : Named) (others : List Named) (d : Named)
    → get_or (first ++ next ∷ others) (length first) d ≡ next
at_next [] next others d = refl
at_next (m ∷ ms) next others d = at_next ms next others d

either_false : (a b : Bool) → a ≡ false → b ≡ false → (a || b) ≡ false
either_false a b a_is b_is = rw (a_is, b_is) refl

-- no map before the next one has its descriptor
not_before : (first : List Named) (next : Named) (others : List Named)
    → AllPairs Differ (first ++ next ∷ others) → has_descriptor next.fd first ≡ false
not_before [] next others apart = refl
not_before (m ∷ ms) next others apart =
    let long : length (ms ++ next ∷ others) ≡ length ms + length (next ∷ others) = length-append ms (next ∷ others) in
    let differ : m.fd ≢ next.fd =
    subst (Differ m) (at_next ms next others m) (apart 0 (suc (length ms)) m (omega arith) (omega (arith, long))) in
    let here : (m.fd == next.fd) ≡ false = grind (arith, nat_tests) in
    either_false (m.fd == next.fd) (has_descriptor next.fd ms) here
    (not_before ms next others (λ i j d less below. apart (suc i) (suc j) d (omega arith) (omega arith)))

-- if all arguments name maps with different descriptors, none is wrong
pub none_wrong : (arguments : List Text) (maps : List Named) (number : ℕ)
    → AreMapArguments arguments maps → IsFirstWrongArgument arguments number → ⊥
none_wrong arguments maps number are is =
    let parts =
    parted is.before is.argument is.after maps (subst (λ ws. AllZip IsMapArgument ws maps) is.parts are.each) in
    let same : is.maps ≡ parts.first = same_maps is.before is.maps parts.first is.right.each parts.each in
    let absent = not_before parts.first parts.next parts.others (subst (AllPairs Differ) parts.maps_are are.apart) in
    true≢false (sym (is.wrong parts.next parts.is) ∙ (ap (has_descriptor parts.next.fd) same ∙ absent))
