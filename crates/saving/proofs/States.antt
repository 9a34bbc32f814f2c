-- States that are given by the object of each descriptor, with the maps of another state under their handles.
use Rattle.std.proofs.Common.{◌≡◌, ℕ, ◌-◌, ◌<◌, Bool, true, false, List, [], ◌∷◌, ◌++◌, length}
use Rattle.std.proofs.Common.{Option, Some, None, IsSome, is_some, refl, sym, ap, ap₂, subst, ◌∙◌, arith}
use Rattle.std.specs.Prelude.{◌||◌, if◌then◌else◌}
use Rattle.std.proofs.lemmas.List.{ext_get_or}
use Rattle.command_frames.specs.Command.{Command, close}
use Rattle.fd_table.specs.Table.{first_descriptor}
use Rattle.tagged_model.specs.State.{set_at}
use Rattle.tenant.specs.declared.object.OpenObject.{OpenObject}
use Rattle.tenant.specs.State.{Map, TenantState, live, names, is_named, named_from, with_objects}
use Rattle.tenant.specs.Machine.{Answer, Answers, gives, closed}
use Rattle.saving.specs.Alike.{HoldsItsMaps}
use Rattle.saving.specs.Laws.{MapsAreHeld, AlikeIsBisimulation}
use Rattle.saving.specs.Restored.{Leads}
use Rattle.saving.proofs.Pairs.{ArePair}
use Rattle.saving.proofs.Closes.{length_named, live_with, live_if, live_parts, NamesFewer, closed_fewer, named_open}
use Rattle.saving.proofs.Tables.{Opened, table, IsDescriptor, IsOnlyFree, table-length, table-get, named-table, table-open, table-closed}

-- ---- commands one after another

-- if commands lead to a state, and others from there to a second one, both in order lead to the second
pub leads_then : (cs ds : List Command) (s t u : TenantState) → Leads s cs t → Leads t ds u → Leads s (cs ++ ds) u
leads_then [] ds s t u h k = subst (λ (x : TenantState). Leads x ds u) h k
leads_then (c ∷ cs) ds s t u (a, answers, well, rest) k = (a, answers, well, leads_then cs ds a.after t u rest k)

-- ---- a state that is alike to another

pub record Follows (x t : TenantState) : Type 0 where
  -- the new handle of each handle
  pub move : ℕ → ℕ
  -- both states hold their maps, and the second is the first with its handles renamed
  pub pair : ArePair move x t

-- the reply of the other state to the same command, and the state after it
pub record FollowsTo (t : TenantState) (c : Command) (a : Answer) : Type 0 where
  -- the result of the command in the other state
  pub b : Answer
  -- the machine gives this result in the other state, without a refusal of memory
  pub answers : Answers false t c b
  -- the status is that of the first result
  pub status : b.status ≡ a.status
  -- the state after the command is that of the first result with its handles renamed
  pub after : Follows a.after b.after

module _ (held : MapsAreHeld) (bisimulation : AlikeIsBisimulation) where
  -- a state with renamed handles gives a command the same status, and again has renamed handles after it
  pub follows : (x t : TenantState) (c : Command) (a : Answer) → Follows x t → Answers false x c a → FollowsTo t c a
  follows x t c a h is =
      let (b, answers, alike) = bisimulation false x t c a h.pair.one h.pair.two (h.move, h.pair.by) is in
      record {
        b = b;
        answers = answers;
        status = alike.status;
        after = record {
          move = alike.after.0;
          pair = record {
            one = held.kept false x c a h.pair.one is;
            two = held.kept false t c b h.pair.two answers;
            by = alike.after.1;
          };
        };
      }

-- ---- states by their open objects

abbrev pub state_of : TenantState → Opened → TenantState
state_of s f = record { objects = table f; maps = named_from (table f) 0 s.maps; refused = false }

-- each map that is named is live
abbrev pub IsWithin : TenantState → Opened → Type 0
IsWithin s f = (handle : ℕ) → is_named (table f) handle ≡ true → IsSome (live s handle)

-- the state with these open objects holds its maps if each map that they name is live
pub held_of : (s : TenantState) (f : Opened) → HoldsItsMaps s → IsWithin s f → HoldsItsMaps (state_of s f)
held_of s f h within = record {
  descriptors = table-length f;
  handles = length_named (table f) 0 s.maps ∙ h.handles;
  live_if_named = λ handle e. ap is_some (live_if s (table f) handle e) ∙ within handle e;
  named_if_live = λ handle some. (live_parts s (table f) handle some).0;
}

-- a state with these open objects, exactly the maps that they name and a clear flag is the state of them
pub same_state : (s : TenantState) (f : Opened) (x : TenantState)
    → x.objects ≡ table f → length x.maps ≡ length s.maps
    → ((handle : ℕ) → live x handle ≡ (if is_named (table f) handle then live s handle else None))
    → x.refused ≡ false
    → x ≡ state_of s f
same_state s f x objects long maps flag =
    ap₂ (λ (os : List (Option OpenObject)) (ms : List (Option Map)).
    record { objects = os; maps = ms; refused = x.refused })
    objects
    (ext_get_or None x.maps (named_from (table f) 0 s.maps)
    (long ∙ sym (length_named (table f) 0 s.maps)) (λ i lt. maps i ∙ sym (live_with s (table f) i)))
    ∙ ap (λ (b : Bool). record { objects = table f; maps = named_from (table f) 0 s.maps; refused = b }) flag

-- ---- a descriptor is closed

twice : (a b : Bool) (o : Option Map)
    → (a ≡ true → b ≡ true)
    → (if a then (if b then o else None) else None) ≡ (if a then o else None)
twice true b o h = ap (λ (x : Bool). if x then o else None) (h refl)
twice false b o h = refl

-- the state of some objects, with fewer of them open, is the state of the fewer objects
pub narrowed : (s : TenantState) (f g : Opened)
    → NamesFewer (table g) (table f) → with_objects (state_of s f) (table g) ≡ state_of s g
narrowed s f g fewer =
    same_state s g (with_objects (state_of s f) (table g)) refl
    (length_named (table g) 0 (named_from (table f) 0 s.maps) ∙ length_named (table f) 0 s.maps)
    (λ handle.
    live_with (state_of s f) (table g) handle
    ∙ ap (λ (o : Option Map). if is_named (table g) handle then o else None) (live_with s (table f) handle)
    ∙ twice (is_named (table g) handle) (is_named (table f) handle) (live s handle) (fewer handle))
    refl

-- a handle that is named after a descriptor is closed was named before
pub closed_names : (f : Opened) (fd : ℕ) → IsDescriptor fd → NamesFewer (table (set_at f fd None)) (table f)
closed_names f fd is =
    subst (λ (os : List (Option OpenObject)). NamesFewer os (table f)) (table-closed f fd is)
    (closed_fewer (table f) fd)

-- CLOSE of an open descriptor succeeds, and leads to the state without its object
pub close_answer : (s : TenantState) (f : Opened) (fd : ℕ) (o : OpenObject)
    → IsDescriptor fd → f fd ≡ Some o
    → Answers false (state_of s f) (close fd) (gives [] (state_of s (set_at f fd None)))
close_answer s f fd o is there =
    ap (gives [])
    (sym (narrowed s f (set_at f fd None) (closed_names f fd is))
    ∙ ap (with_objects (state_of s f)) (sym (table-closed f fd is)))
    ∙ sym (ap (closed (state_of s f) fd) (named-table f fd is ∙ there))

-- ---- a descriptor is opened

-- after the free descriptor is opened a handle is named if the new object or another one names it
pub opened_names : (f : Opened) (fd : ℕ) (o : OpenObject) (handle : ℕ)
    → IsOnlyFree f fd
    → is_named (table (set_at f fd (Some o))) handle ≡ (names handle o || is_named (table f) handle)
opened_names f fd o handle is =
    ap (λ (os : List (Option OpenObject)). is_named os handle) (sym (table-open f fd o is.descriptor))
    ∙ named_open (table f) (fd - first_descriptor) o handle within (table-get f fd is.descriptor ∙ is.free)
  where
    within : fd - first_descriptor < length (table f)
    within = let low = is.descriptor.low in let high = is.descriptor.high in let long = table-length f in omega arith
