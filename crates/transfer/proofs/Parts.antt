-- Results of the facts agree with results of the machine, operator by operator.
use Rattle.std.proofs.Common.{◌≡◌, ℕ, ◌<◌, ◌^◌, Bool, true, false, Option, Some, None, Result, Ok, Err, refl, sym, subst}
use Rattle.words.specs.Widths.{width}
use Rattle.reg_kinds.specs.declared.kind.Kind.{Kind}
use Rattle.reg_kinds.specs.declared.kind.Kind.TheVariants as kind
use Rattle.reg_kinds.specs.declared.facts.Facts.{Facts}
use Rattle.reg_kinds.specs.declared.reason.Reason.{Reason}
use Rattle.reg_kinds.specs.Reason.{and_then_ok}
use Rattle.tagged_model.specs.declared.value.Tagged.{Tagged}
use Rattle.tagged_model.specs.State.{RunState, at_slot}
use Rattle.tagged_model.specs.Step.{Step, goes, ends, faults, or_fault}
use Rattle.tagged_model.specs.StateInvariant.{IsInRange, HasMaps}
use Rattle.abstraction.specs.Admits.{Witness, IsOfKind, AdmitsBy}
use Rattle.tagged_model.specs.Named.{Shapes}
use Rattle.abstraction.specs.Laws.{Describes}
use Rattle.transfer.specs.Branches.{Edges}
use Rattle.transfer.specs.Sound.{IsKindAt, AreWellFormedAt, EdgeAdmits}

-- ---- laws of operators and comparisons, on 64 and on 32 bits
pub record AtBothWidths (Law : ℕ → Type 0) : Type 0 where
  -- the law for words of 64 bits
  pub wide : Law 64
  -- the law for words of 32 bits
  pub narrow : Law 32

-- a law of both widths holds at the width of the instruction
pub at_width : {Law : ℕ → Type 0} → AtBothWidths Law → (wide : Bool) → Law (width wide)
at_width laws true = laws.wide
at_width laws false = laws.narrow

-- ---- results

-- a result is not both a reason and a value
pub refused : {A : Type 0} (r : Reason) (y : A) → Err r ≡ Ok y → ⊥
refused r y e = cc

-- equal results have equal values
pub same_ok : {A : Type 0} (x y : A) → ◌≡◌ {A = Result A Reason} (Ok x) (Ok y) → x ≡ y
same_ok x y e = cc

-- P holds of the value, if there is one
abbrev pub OkIs : {A : Type 0} → (A → Type 0) → Result A Reason → Type 0
OkIs P (Err r) = Unit {0}
OkIs P (Ok x) = P x

-- if P holds of the first value of a sequence, and the second step leads from P to Q, Q holds of the last value
pub then_ok : {A B : Type 0} (P : A → Type 0) (Q : B → Type 0) (r : Result A Reason)
    (go : A → Result B Reason)
    → OkIs P r → ((x : A) → P x → OkIs Q (go x)) → OkIs Q (and_then_ok r go)
then_ok P Q (Err e) go h next = tt
then_ok P Q (Ok x) go h next = next x h

-- what holds of the value of a result, if it has one, holds of the value that it has
pub ok_is : {A : Type 0} (P : A → Type 0) (r : Result A Reason) (x : A) → OkIs P r → r ≡ Ok x → P x
ok_is P (Err e) x h q = absurd (refused e x q)
ok_is P (Ok y) x h q = subst P (same_ok y x q) h

-- P holds of the value, if there is one
abbrev pub SomeIs : {A : Type 0} → (A → Type 0) → Option A → Type 0
SomeIs P None = Unit {0}
SomeIs P (Some x) = P x

-- ---- agreement: if the facts have a result, the machine has one, and P holds of the two

abbrev pub Agree : {A B : Type 0} → (A → B → Type 0) → Result A Reason → Option B → Type 0
Agree P (Err r) o = Unit {0}
Agree P (Ok x) None = ⊥
Agree P (Ok x) (Some y) = P x y

-- agreement from a law that has the result of the facts as its premise
pub by_law : {A B : Type 0} (P : A → B → Type 0) (r : Result A Reason) (o : Option B)
    → ((x : A) → r ≡ Ok x → (y : B) × (o ≡ Some y) × P x y) → Agree P r o
by_law P (Err e) o h = tt
by_law P (Ok x) o h = let found = h x refl in subst (Agree P (Ok x)) (sym found.1) found.2

-- ---- the context of an instruction: the shapes of the maps, the witness, and the slot
pub record Here : Type 0 where
  -- the shapes of the maps
  pub shapes : Shapes
  -- the witness by which the facts describe the state
  pub witness : Witness
  -- the slot of the instruction
  pub slot : ℕ

-- ---- kinds of values

-- the value is of the kind, and the kind is well formed at the slot
pub record IsKindOf (here : Here) (k : Kind) (v : Tagged) : Type 0 where
  -- the value is of this kind, by the witness
  pub is : IsOfKind here.witness k v
  -- the kind is well formed at the slot of the instruction
  pub words : IsKindAt here.slot k

-- if the facts have a kind, the machine has a value of this kind
abbrev pub Gives : Here → Result Kind Reason → Option Tagged → Type 0
Gives here r o = Agree (IsKindOf here) r o

abbrev pub IsReadable : Kind → Type 0
IsReadable kind.Unreadable = ⊥
IsReadable k = Unit {0}

-- the machine has the value v of a readable kind
pub record IsFound (here : Here) (o : Option Tagged) (k : Kind) (v : Tagged) : Type 0 where
  -- the value is of the kind
  pub kind : IsKindOf here k v
  -- the machine has this value
  pub from : o ≡ Some v
  -- a value of the kind may be read
  pub readable : IsReadable k

-- ---- states

-- the facts are well formed and admit the state, which is in range and has the maps
pub record IsKnown (here : Here) (f : Facts) (s : RunState) : Type 0 where
  -- the facts admit the state
  pub admits : AdmitsBy here.witness f s
  -- the facts are well formed at the slot of the instruction
  pub words : AreWellFormedAt here.slot f
  -- the numbers of the state are in range
  pub proper : IsInRange s
  -- the state has a map of each shape
  pub maps : HasMaps here.shapes s

-- known facts describe the state
pub still_of : {here : Here} {f : Facts} {s : RunState} → IsKnown here f s → Describes here.witness f here.shapes s
still_of known = record { admits = known.admits; proper = known.proper; maps = known.maps }

-- this still holds at another slot
pub still_at : {witness : Witness} {f : Facts} {shapes : Shapes} {s : RunState}
    → Describes witness f shapes s
    → (n : ℕ) → Describes witness f shapes (at_slot n s)
still_at still n =
    record {
      admits = record {
        registers = still.admits.registers;
        slots = still.admits.slots;
        objects = still.admits.objects;
      };
      proper = record {
        bytes = still.proper.bytes;
        words = still.proper.words;
        count = still.proper.count;
        values = still.proper.values;
        packet = still.proper.packet;
      };
      maps = still.maps;
    }

-- ---- steps: `On` relates the edges to the state after the step

-- the edge to the next instruction
abbrev pub OnFalling : Here → ℕ → Edges → RunState → Type 0
OnFalling here next e t = EdgeAdmits here.shapes e.falling (Some next) t

-- the edge of a jump
abbrev pub OnJumping : Here → Option ℕ → Edges → RunState → Type 0
OnJumping here target e t = EdgeAdmits here.shapes e.jumping target t

abbrev pub IsCovered : (Edges → RunState → Type 0) → Edges → Step → Type 0
IsCovered On e (goes t) = On e t
IsCovered On e (ends n) = n < 2 ^ 32
IsCovered On e faults = ⊥

-- if the facts permit the step, it is covered
abbrev pub IsCoveredIf : (Edges → RunState → Type 0) → Result Edges Reason → Step → Type 0
IsCoveredIf On r step = OkIs (λ e. IsCovered On e step) r

-- if facts and machine agree on the first result, and the step is covered from there, the whole step is covered
pub then_covered : {A B : Type 0} (On : Edges → RunState → Type 0) (P : A → B → Type 0)
    (r : Result A Reason) (o : Option B) (go : A → Result Edges Reason) (on : B → Step)
    → Agree P r o
    → ((x : A) (y : B) → P x y → IsCoveredIf On (go x) (on y))
    → IsCoveredIf On (and_then_ok r go) (or_fault o on)
then_covered On P (Err e) o go on h further = tt
then_covered On P (Ok x) None go on h further = absurd h
then_covered On P (Ok x) (Some y) go on h further = further x y h
