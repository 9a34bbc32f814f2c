-- Labels and the lines that define them.
use Rattle.std.proofs.Common.{◌≡◌, ℕ, suc, ◌+◌, ◌<◌, Bool, true, false, cond, List, [], ◌∷◌, ◌++◌, length}
use Rattle.std.proofs.Common.{take, map, get_or, Option, Some, None, Bor, subst, refl, sym, ap, ◌∙◌, arith}
use Rattle.std.specs.Prelude.{option_map, is_some}
use Rattle.std.specs.Option.{option_or, option_copied}
use Rattle.text_line.specs.declared.form.Line.{Line as CodeLine}
use Rattle.text_line.specs.Shown.{seen_option, seen_lines}
use Rattle.bpf_text.specs.inside.Labels.{Labels, definition_of, line_start, FindsLabels, defined_label}
use Rattle.text_line.specs.Line.{Line, blank, label, code, ReadAs}
use Rattle.std.specs.Str.{bytes_eq}
use Rattle.std.proofs.lemmas.Slice.Eq.{bytes_eq-Decides}
use Rattle.std.proofs.lemmas.Bool.{false≢true}
use Rattle.std.proofs.lemmas.List.{take_more, get_or-map, length-map, length-take, map-append}
use Rattle.bpf_text.specs.declared.assembler.LineStart.{LineStart}
use Rattle.bpf_text.specs.Assembly.{AreRead, line_slots, slots_on, defines, label_line}

label_line_step : (name : List ℕ) (l x : Option Line) (xs : List (Option Line)) (b : Bool)
    → label_line name (xs ++ x ∷ []) ≡ option_or (label_line name xs) (cond (defines name x) (Some (length xs)) None)
    → cond b (Some 0) (option_map suc (label_line name (xs ++ x ∷ [])))
    ≡ option_or (cond b (Some 0) (option_map suc (label_line name xs)))
    (cond (defines name x) (Some (suc (length xs))) None)
label_line_step name l x xs true e = refl
label_line_step name l x xs false e = ap (option_map suc) e ∙ pushed (label_line name xs) (defines name x) (length xs)
  where
    pushed : (o : Option ℕ) (b : Bool) (n : ℕ)
        → option_map suc (option_or o (cond b (Some n) None)) ≡ option_or (option_map suc o) (cond b (Some (suc n)) None)
    pushed (Some k) b n = refl
    pushed None true n = refl
    pushed None false n = refl

-- after one more line, a label has its line from before, or if it had none, the new one if this defines it
pub label_line-append : (name : List ℕ) (xs : List (Option Line)) (x : Option Line)
    → label_line name (xs ++ x ∷ []) ≡ option_or (label_line name xs) (cond (defines name x) (Some (length xs)) None)
unfolding label_line
label_line-append name [] x =
    elim (defines name x) as
    (λ (b : Bool). cond b (Some 0) (option_map suc None) ≡ cond b (Some 0) None)
    [ true ↦ refl | false ↦ refl ]
label_line-append name (l ∷ xs) x = label_line_step name l x xs (defines name l) (label_line-append name xs x)

-- one more line adds its slots
pub slots_on-append : (xs : List (Option Line)) (x : Option Line) → slots_on (xs ++ x ∷ []) ≡ slots_on xs + line_slots x
unfolding slots_on
slots_on-append [] x = omega arith
slots_on-append (l ∷ xs) x = omega (arith, slots_on-append xs x)

-- ---- the labels that are kept

bytes_eq-sym : (a b : List ℕ) → bytes_eq a b ≡ true → bytes_eq b a ≡ true
bytes_eq-sym a b h = (bytes_eq-Decides b a).1 (sym ((bytes_eq-Decides a b).0 h))

bytes_eq-other : (a b : List ℕ) (t : Bool) → bytes_eq a b ≡ false → bytes_eq b a ≡ t → t ≡ false
bytes_eq-other a b true h k = absurd (false≢true (sym h ∙ bytes_eq-sym b a k))
bytes_eq-other a b false h k = refl

abbrev some_definition : LineStart → Option LineStart
some_definition p = Some p

or_none : (o : Option LineStart) → option_or o None ≡ o
or_none None = refl
or_none (Some p) = refl

defines_is : (q name : List ℕ) (x : Option Line) → defined_label x ≡ Some name → defines q x ≡ bytes_eq q name
defines_is q name None e = absurd (let no : Some name ≡ None = sym e in cc no)
defines_is q name (Some blank) e = absurd (let no : Some name ≡ None = sym e in cc no)
defines_is q name (Some (label n)) e = let same : n ≡ name = cc in ap (bytes_eq q) same
defines_is q name (Some (code f n)) e = absurd (let no : Some name ≡ None = sym e in cc no)

noted_step : (old new : Option LineStart) (definition : LineStart) (name q : List ℕ)
    (x : Option Line) (b : Bool)
    → defined_label x ≡ Some name → bytes_eq name q ≡ b
    → (b ≡ true → old ≡ None)
    → new ≡ cond b (some_definition definition) old
    → new ≡ option_or old (cond (defines q x) (some_definition definition) None)
noted_step old new definition name q x true is eq none e =
    let here : defines q x ≡ true = defines_is q name x is ∙ bytes_eq-sym name q eq in
    e
    ∙ sym (ap (λ (t : Bool). option_or old (cond t (some_definition definition) None)) here
    ∙ ap (λ (o : Option LineStart). option_or o (some_definition definition)) (none refl))
noted_step old new definition name q x false is eq none e =
    let there : defines q x ≡ false = defines_is q name x is ∙ bytes_eq-other name q (bytes_eq q name) eq refl in
    e ∙ sym (ap (λ (t : Bool). option_or old (cond t (some_definition definition) None)) there ∙ or_none old)

-- the definition of a name that had none is kept now
pub noted : (old new : Labels) (definition : LineStart) (name : List ℕ) (x : Option Line)
    → defined_label x ≡ Some name → definition_of old name ≡ None
    → ((q : List ℕ) → definition_of new q ≡ cond (bytes_eq name q) (some_definition definition) (definition_of old q))
    → (q : List ℕ)
    → definition_of new q ≡ option_or (definition_of old q) (cond (defines q x) (some_definition definition) None)
noted old new definition name x is none change q =
    noted_step (definition_of old q) (definition_of new q) definition name q x (bytes_eq name q) is
    refl
    (λ t. ap (definition_of old) (sym ((bytes_eq-Decides name q).0 t)) ∙ none)
    (change q)

pushed_definition : (lines : List (Option Line)) (o : Option ℕ) (b : Bool) (i : ℕ)
    → option_or (option_map (line_start lines) o) (cond b (some_definition (line_start lines i)) None)
    ≡ option_map (line_start lines) (option_or o (cond b (Some i) None))
pushed_definition lines (Some k) b i = refl
pushed_definition lines None true i = refl
pushed_definition lines None false i = refl

-- if the labels of the first lines are kept, and the next line's is noted, the labels of all of these are kept
pub finds_more : (lines : List (Option Line)) (i : ℕ) (x : Option Line) (old new : Labels)
    (definition : LineStart)
    → take (i + 1) lines ≡ take i lines ++ x ∷ []
    → length (take i lines) ≡ i → FindsLabels lines old i
    → definition ≡ line_start lines i
    → ((q : List ℕ)
    → definition_of new q ≡ option_or (definition_of old q) (cond (defines q x) (some_definition definition) None))
    → FindsLabels lines new (i + 1)
finds_more lines i x old new definition more len finds is change = λ q.
    change q
    ∙ ap (λ (o : Option LineStart). option_or o (cond (defines q x) (some_definition definition) None)) (finds q)
    ∙ ap (λ (p : LineStart).
    option_or (option_map (line_start lines) (label_line q (take i lines)))
    (cond (defines q x) (some_definition p) None))
    is
    ∙ pushed_definition lines (label_line q (take i lines)) (defines q x) i
    ∙ ap (λ (n : ℕ).
    option_map (line_start lines) (option_or (label_line q (take i lines)) (cond (defines q x) (Some n) None)))
    (sym len)
    ∙ ap (option_map (line_start lines)) (sym (label_line-append q (take i lines) x))
    ∙ ap (λ (xs : List (Option Line)). option_map (line_start lines) (label_line q xs)) (sym more)

-- the slots of the first lines, and those of the next line, are as many as the slots of the lines up to it
pub slots_more : (lines : List (Option Line)) (i : ℕ) (x : Option Line) (slot : ℕ)
    → take (i + 1) lines ≡ take i lines ++ x ∷ []
    → slot ≡ slots_on (take i lines)
    → slot + line_slots x ≡ slots_on (take (i + 1) lines)
slots_more lines i x slot more is =
    ap (λ (n : ℕ). n + line_slots x) is ∙ sym (slots_on-append (take i lines) x) ∙ ap slots_on (sym more)

-- without lines no label has a definition
pub none_found : (lines : List (Option Line)) (q : List ℕ) → None ≡ option_map (line_start lines) (label_line q [])
unfolding label_line
none_found lines q = refl

-- without lines the number of slots is 0
pub no_slots : 0 ≡ slots_on []
unfolding slots_on
no_slots = refl

-- if an option has no value, its copy has none
pub none_copied : (o : Option (Bor LineStart)) → is_some o ≡ false → option_copied o ≡ None
none_copied None h = refl
none_copied (Some p) h = absurd (false≢true (sym h))

-- the lines that are represented up to the next one are those before it, then the one that it represents
pub take_seen : (xs : List (Option CodeLine)) (i : ℕ) (x : Option CodeLine)
    → i < length xs → x ≡ get_or xs i x
    → take (i + 1) (seen_lines xs) ≡ take i (seen_lines xs) ++ seen_option x ∷ []
take_seen xs i x h e =
    let inside : i < length (seen_lines xs) = omega (arith, length-map xs seen_option) in
    take_more (seen_lines xs) i (seen_option x) inside
    ∙ ap (λ (l : Option Line). take i (seen_lines xs) ++ l ∷ [])
    (get_or-map seen_option xs i x (seen_option x) h ∙ ap seen_option (sym e))

-- exactly i lines are before the line at index i
pub length_seen : (xs : List (Option CodeLine)) (i : ℕ) → i < length xs → length (take i (seen_lines xs)) ≡ i
length_seen xs i h = omega (arith, length-take i (seen_lines xs), length-map xs seen_option)

-- ---- lines that are read

-- lines that are read, followed by one more that is read, are read
pub are_read-append : (bs : List (List ℕ)) (ls : List (Option Line)) (b : List ℕ) (l : Option Line)
    → AreRead bs ls → ReadAs b l → AreRead (bs ++ b ∷ []) (ls ++ l ∷ [])
are_read-append [] [] b l h r = (r, tt)
are_read-append [] (x ∷ ls) b l h r = absurd h
are_read-append (a ∷ bs) [] b l h r = absurd h
are_read-append (a ∷ bs) (x ∷ ls) b l h r = (h.0, are_read-append bs ls b l h.1 r)

-- the readings of the first lines, with that of the next line, are the readings of the lines up to it
pub read_more : (text : List (Bor (List ℕ))) (i : ℕ) (d : Bor (List ℕ))
    (old new : List (Option CodeLine)) (found : Option CodeLine)
    → i < length text → new ≡ old ++ found ∷ []
    → AreRead (map (λ line. line.now) (take i text)) (seen_lines old)
    → ReadAs (get_or text i d).now (seen_option found)
    → AreRead (map (λ line. line.now) (take (i + 1) text)) (seen_lines new)
read_more text i d old new found h e are here =
    let front : map (λ (line : Bor (List ℕ)). line.now) (take (i + 1) text)
    ≡ map (λ (line : Bor (List ℕ)). line.now) (take i text) ++ (get_or text i d).now ∷ [] =
    ap (map (λ (line : Bor (List ℕ)). line.now)) (take_more text i d h)
    ∙ map-append (λ (line : Bor (List ℕ)). line.now) (take i text) (get_or text i d ∷ []) in
    let back : seen_lines new ≡ seen_lines old ++ seen_option found ∷ [] =
    ap seen_lines e ∙ map-append seen_option old (found ∷ []) in
    let one : AreRead (map (λ (line : Bor (List ℕ)). line.now) (take i text) ++ (get_or text i d).now ∷ [])
    (seen_lines old ++ seen_option found ∷ []) =
    are_read-append (map (λ (line : Bor (List ℕ)). line.now) (take i text)) (seen_lines old)
    (get_or text i d).now (seen_option found) are here in
    subst (λ (bs : List (List ℕ)). AreRead bs (seen_lines new)) (sym front)
    (subst (λ (ls : List (Option Line)).
    AreRead (map (λ (line : Bor (List ℕ)). line.now) (take i text) ++ (get_or text i d).now ∷ []) ls)
    (sym back) one)
