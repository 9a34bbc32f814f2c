-- Refused memory: the status of a command, and what it does to the flag.
use Rattle.std.proofs.Common.{Result, Ok, Err, ◌≡◌, ◌≢◌, ℕ, Bool, true, false, List, [], ◌∷◌, length}
use Rattle.std.proofs.Common.{Option, Some, None, refl, sym, ap, subst, ◌∙◌, ◌⊎◌, inl, inr, get_or}
use Rattle.std.specs.Prelude.{ℤ, pos, ◌==◌, nat_lt, nat_le, if◌then◌else◌, MatchBool}
use Rattle.std.specs.Int.{w32, cast_unsigned}
use Rattle.byteorder.specs.Endian.{little_bytes}
use Rattle.command_frames.specs.Command.{Command, map_create, map_lookup, map_update, map_delete, map_next_key, prog_load, prog_test_run, close}
use Rattle.fd_table.specs.Table as table
use Rattle.insn_codec.specs.declared.fault.FaultKind.{FaultKind}
use Rattle.insn_codec.specs.declared.fault.FaultKind.TheVariants as kind
use Rattle.insn_codec.specs.ProgramFault.{IsProgramFault}
use Rattle.insn_codec.specs.declared.fault.CodecFault.{CodecFault}
use Rattle.insn_set.specs.declared.insn.Insn.{Insn}
use Rattle.reg_kinds.specs.declared.reason.Reason.{Reason}
use Rattle.reg_kinds.specs.declared.reason.Reason.TheVariants as reason
use Rattle.tagged_model.specs.declared.shape.MapKind.{MapKind}
use Rattle.tagged_model.specs.declared.shape.MapKind.TheVariants.{Hash, Array}
use Rattle.tagged_model.specs.declared.shape.MapShape.{MapShape}
use Rattle.tagged_model.specs.declared.shape.Named.{Named}
use Rattle.tagged_model.specs.declared.fault.MapFault.TheVariants as map
use Rattle.tagged_model.specs.declared.value.Outcome.{Outcome}
use Rattle.tagged_model.specs.declared.value.Outcome.TheVariants.{Value, Fault}
use Rattle.tagged_model.specs.Shape.{is_shape, is_valid}
use Rattle.tagged_model.specs.Step.{result_of, left_of}
use Rattle.tagged_model.specs.Table as call
use Rattle.tagged_model.specs.Table.{verdict, removal, removal_of, look_up, next_of, of_found, of_absent, exist, no_exist, is_full, shape_area}
use Rattle.verifier.specs.declared.refusal.Cause.{Cause}
use Rattle.verifier.specs.declared.refusal.Cause.TheVariants as cause
use Rattle.verifier.specs.declared.refusal.Refusal.{Refusal}
use Rattle.verifier.specs.Judgement.{Judges, IsRefusedFor}
use Rattle.verifier.specs.Verdict.{IsRefused}
use Rattle.tenant.specs.declared.errno.Errno.{Errno}
use Rattle.tenant.specs.declared.errno.Errno.TheVariants.{NoEntry, TooBig, BadDescriptor, NoMemory, Invalid, TooManyOpen, NoSpace}
use Rattle.tenant.specs.declared.object.OpenObject.{OpenObject}
use Rattle.tenant.specs.declared.object.OpenObject.TheVariants as object
use Rattle.tenant.specs.Errno.{status_of}
use Rattle.tenant.specs.Laws.{takes_memory, IsNoRefusal, RefusalsAreReported}
use Rattle.tenant.specs.Machine.{Answer, refuses, refuses_for_memory, codec_errno, verdict_errno, cause_errno, created_as, created_under, created, room_for}
use Rattle.tenant.specs.Machine.{shape_where, kind_of, asked_shape, of_object, of_handle, on_map, gives_or_no_entry, element_put, element_taken_out, targets}
use Rattle.tenant.specs.Machine.{result_of_judgement, LoadsUnder, outcome_result, maps_given, maps_left, ran, run_of, longest_packet, closed, Answers}
use Rattle.tenant.specs.State.{Map, TenantState, live}
use Rattle.tenant.proofs.LookUps.{has_size}
use Rattle.tenant.proofs.NextKeys.{is_empty_or_fits}
use Rattle.tenant.proofs.Updates.{has_sizes, key_of, value_of, put_of}

-- ---- with a refusal

-- the result without a refusal, or that memory was refused
abbrev OrRefused : TenantState → Answer → Answer → Type 0
OrRefused s seen refused = (refused ≡ seen) ⊎ (refused ≡ refuses_for_memory s)

refused_as : (s : TenantState) (shape : MapShape) (fd : ℕ) (o : Option ℕ)
    → OrRefused s (created_as false s shape fd o) (created_as true s shape fd o)
refused_as s shape fd None = inl refl
refused_as s shape fd (Some handle) = inr refl

refused_under : (s : TenantState) (shape : MapShape) (o : Option ℕ)
    → OrRefused s (created_under false s shape o) (created_under true s shape o)
refused_under s shape None = inl refl
refused_under s shape (Some fd) = refused_as s shape fd (room_for s (shape_area shape))

refused_create : (s : TenantState) (r : Result MapShape Errno) → OrRefused s (created false s r) (created true s r)
refused_create s (Err errno) = inl refl
refused_create s (Ok shape) = refused_under s shape (table.lowest s.objects)

create_seen : (s : TenantState) (a seen refused : Answer)
    → a ≡ refused → OrRefused s seen refused
    → (a ≡ seen) ⊎ ((true ≡ true) × (a ≡ refuses_for_memory s))
create_seen s a seen refused is (inl same) = inl (is ∙ same)
create_seen s a seen refused is (inr same) = inr (refl, is ∙ same)

load_seen : (s : TenantState) (o : Option ℕ) (slots : List ℕ) (a : Answer)
    → LoadsUnder true s o slots a
    → LoadsUnder false s o slots a ⊎ ((true ≡ true) × (a ≡ refuses_for_memory s))
load_seen s None slots a is = inl is
load_seen s (Some fd) slots a is = inr (refl, is)

load_by : (socket : Bool) (s : TenantState) (o : Option ℕ) (slots : List ℕ) (a x : Answer)
    → MatchBool socket (LoadsUnder true s o slots a) (a ≡ x)
    → MatchBool socket (LoadsUnder false s o slots a) (a ≡ x) ⊎ ((true ≡ true) × (a ≡ refuses_for_memory s))
load_by true s o slots a x is = load_seen s o slots a is
load_by false s o slots a x is = inl is

-- a result is that without a refusal of memory, or memory is refused to a command that takes some
pub seen_or_refused : (refused : Bool) (s : TenantState) (command : Command) (a : Answer) → Answers refused s command a
    → Answers false s command a ⊎ ((takes_memory command ≡ true) × (a ≡ refuses_for_memory s))
seen_or_refused false s command a is = inl is
seen_or_refused true s (map_create kind key value max flags) a is =
    create_seen s a _ _ is (refused_create s (asked_shape (kind_of kind) key value max flags))
seen_or_refused true s (prog_load kind slots) a is = load_by (kind == 1) s (table.lowest s.objects) slots a _ is
seen_or_refused true s other a is = inl is

-- ---- without a refusal

-- the lowest byte of a status
abbrev pub low : ℤ → ℕ
low status = get_or (little_bytes 4 (cast_unsigned w32 status)) 0 0

-- the lowest byte of the status of a refusal of memory is 244; no other error has it
pub unlike : (n : ℕ) → (n == 244) ≡ false → n ≢ 244
unlike n differs e = let wrong : true ≡ false = sym (ap (λ (m : ℕ). m == 244) e) ∙ differs in cc wrong

-- the status is another one, and the flag is as before
abbrev pub IsOther : TenantState → Answer → Type 0
IsOther s a = (low a.status ≢ 244) × (a.after.refused ≡ s.refused)

-- a result that is this one
is_other : (s : TenantState) (a b : Answer) → a ≡ b → IsOther s b → IsOther s a
is_other s a b same h = subst (IsOther s) (sym same) h

module _ (s : TenantState) where
  invalid : IsOther s (refuses Invalid s)
  invalid = (unlike 234 refl, refl)

  not_open : IsOther s (refuses BadDescriptor s)
  not_open = (unlike 247 refl, refl)

  no_entry : IsOther s (refuses NoEntry s)
  no_entry = (unlike 254 refl, refl)

  too_big : IsOther s (refuses TooBig s)
  too_big = (unlike 249 refl, refl)

  -- ---- the calls of a map

  on_map_other : (fd : ℕ) (f : ℕ → Map → Answer)
      → ((handle : ℕ) (t : Map) → IsOther s (f handle t)) → IsOther s (on_map s fd f)
  on_map_other fd f each = of_objects (table.named s.objects fd)
    where
      of_handles : (handle : ℕ) (o : Option Map) → IsOther s (of_handle s handle f o)
      of_handles handle None = not_open
      of_handles handle (Some t) = each handle t

      of_objects : (o : Option OpenObject) → IsOther s (of_object s f o)
      of_objects None = not_open
      of_objects (Some (object.Program l)) = invalid
      of_objects (Some (object.Map handle)) = of_handles handle (live s handle)

  -- a command on a map that tests sizes
  tested_other : (fd : ℕ) (fits : Map → Bool) (f : ℕ → Map → Answer)
      → ((handle : ℕ) (t : Map) → IsOther s (f handle t))
      → IsOther s (on_map s fd (λ p t. if fits t then f p t else refuses Invalid s))
  tested_other fd fits f each = on_map_other fd _ (λ handle t. by (fits t) (f handle t) (each handle t))
    where
      by : (right : Bool) (a : Answer) → IsOther s a → IsOther s (if right then a else refuses Invalid s)
      by true a h = h
      by false a h = invalid

  found_other : (o : Option (List ℕ)) → IsOther s (gives_or_no_entry s o)
  found_other None = no_entry
  found_other (Some value) = (unlike 0 refl, refl)

  -- no update runs out of memory
  module _ (handle : ℕ) (t : Map) (key value : List ℕ) (flags : ℕ) where
    abbrev IsOtherPut : call.Verdict (List ℕ) → Type 0
    IsOtherPut v = IsOther s (element_put s handle t key value v)

    of_hash : (must full : Bool)
        → IsOtherPut (if must then call.Refused map.NoEntry else (if full then call.Refused map.TooBig else call.New))
    of_hash true full = no_entry
    of_hash false true = too_big
    of_hash false false = (unlike 0 refl, refl)

    of_absence : (k : MapKind) → IsOtherPut (of_absent k (is_full t) flags)
    of_absence Array = too_big
    of_absence Hash = of_hash (flags == exist) (is_full t)

    of_presence : (new : Bool) (a : List ℕ) → IsOtherPut (if new then call.Refused map.Exists else call.Present a)
    of_presence true a = (unlike 239 refl, refl)
    of_presence false a = (unlike 0 refl, refl)

    of_look_up : (o : Option (List ℕ)) → IsOtherPut (of_found t flags o)
    of_look_up None = of_absence t.shape.kind
    of_look_up (Some a) = of_presence (flags == no_exist) a

    by_flags : (right : Bool)
        → IsOtherPut (if right then of_found t flags (look_up t key) else call.Refused map.Invalid)
    by_flags true = of_look_up (look_up t key)
    by_flags false = invalid

    put_other : IsOtherPut (verdict t key flags)
    put_other = by_flags (nat_le flags exist)

  taken_other : (handle : ℕ) (t : Map) (key : List ℕ) → IsOther s (element_taken_out s handle t key (removal t key))
  taken_other handle t key = by t.shape.kind (look_up t key)
    where
      by : (k : MapKind) (o : Option (List ℕ)) → IsOther s (element_taken_out s handle t key (removal_of k o))
      by Array o = invalid
      by Hash None = no_entry
      by Hash (Some a) = (unlike 0 refl, refl)

  -- ---- a test run, and CLOSE

  run_other : (words packet : List ℕ) (o : Option OpenObject) → IsOther s (run_of s words packet o)
  run_other words packet None = not_open
  run_other words packet (Some (object.Map handle)) = invalid
  run_other words packet (Some (object.Program l)) = by_length (nat_lt longest_packet (length packet))
    where
      ended : (o : Outcome) (maps : List (Option Map)) → IsOther s (outcome_result o (record s { maps = maps }))
      ended (Value n) maps = (unlike 0 refl, refl)
      ended Fault maps = (unlike 242 refl, refl)

      by_length : (long : Bool) → IsOther s (if long then refuses TooBig s else ran s l words packet)
      by_length true = too_big
      by_length false =
          let context = length packet ∷ words in
          let given = maps_given s l in
          ended (result_of l.insns given context packet)
          (maps_left (left_of l.insns given context packet) l.maps s.maps)

  closed_other : (fd : ℕ) (o : Option OpenObject) → IsOther s (closed s fd o)
  closed_other fd None = not_open
  closed_other fd (Some o) = (unlike 0 refl, refl)

  -- a command that takes no memory has no status of a refusal of memory, and the flag is not changed
  pub answer_other : (refused : Bool) (command : Command) (a : Answer)
      → Answers refused s command a → takes_memory command ≡ false → IsOther s a
  answer_other refused (map_create kind key value max flags) a is differs =
      absurd (let wrong : true ≡ false = differs in cc wrong)
  answer_other refused (map_lookup fd key) a is differs =
      is_other s a _ is (tested_other fd (has_size key) _ (λ handle t. found_other (look_up t key)))
  answer_other refused (map_update fd flags bytes) a is differs =
      is_other s a _ is
      (tested_other fd (has_sizes bytes) (put_of s flags bytes)
      (λ handle t. put_other handle t (key_of t.shape bytes) (value_of t.shape bytes) flags))
  answer_other refused (map_delete fd key) a is differs =
      is_other s a _ is (tested_other fd (has_size key) _ (λ handle t. taken_other handle t key))
  answer_other refused (map_next_key fd key) a is differs =
      is_other s a _ is (tested_other fd (is_empty_or_fits key) _ (λ handle t. found_other (next_of t key)))
  answer_other refused (prog_load kind slots) a is differs = absurd (let wrong : true ≡ false = differs in cc wrong)
  answer_other refused (prog_test_run fd words packet) a is differs =
      is_other s a _ is (run_other words packet (table.named s.objects fd))
  answer_other refused (close fd) a is differs = is_other s a _ is (closed_other fd (table.named s.objects fd))

-- ---- without a refusal

spared : (s : TenantState) (a : Answer) → IsOther s a → IsNoRefusal s a
spared s a (far, same) = (λ e. far (ap low e), same)

not_refused : (fd : ℕ) → pos fd ≢ status_of NoMemory
not_refused fd e = cc e

too_many : (s : TenantState) → IsNoRefusal s (refuses TooManyOpen s)
too_many s = spared s (refuses TooManyOpen s) (unlike 232 refl, refl)

is_spared : (s : TenantState) (a b : Answer) → a ≡ b → IsNoRefusal s b → IsNoRefusal s a
is_spared s a b same h = subst (IsNoRefusal s) (sym same) h

create_spared : (s : TenantState) (k : Option MapKind) (key value max flags : ℕ)
    → IsNoRefusal s (created false s (asked_shape k key value max flags))
create_spared s None key value max flags = spared s (refuses Invalid s) (invalid s)
create_spared s (Some k) key value max flags =
    by_fields (is_valid k key value max flags)
    (λ listed. record { kind = k; key_size = key; value_size = value; max_entries = max; listed = listed })
  where
    by_room : (made : MapShape) (fd : ℕ) (o : Option ℕ) → IsNoRefusal s (created_as false s made fd o)
    by_room made fd None = spared s (refuses NoSpace s) (unlike 228 refl, refl)
    by_room made fd (Some handle) = (not_refused fd, refl)

    by_free : (made : MapShape) (o : Option ℕ) → IsNoRefusal s (created_under false s made o)
    by_free made None = too_many s
    by_free made (Some fd) = by_room made fd (room_for s (shape_area made))

    by_area : (fits : Bool) (made : fits ≡ true → MapShape) → IsNoRefusal s (created false s (shape_where fits made))
    by_area true made = by_free (made refl) (table.lowest s.objects)
    by_area false made = spared s (refuses TooBig s) (too_big s)

    by_fields : (valid : Bool) (made : is_shape k key value max ≡ true → MapShape)
        → IsNoRefusal s (created false s (if valid then shape_where (is_shape k key value max) made else Err Invalid))
    by_fields true made = by_area (is_shape k key value max) made
    by_fields false made = spared s (refuses Invalid s) (invalid s)

-- ---- a load

judged_flag : (s : TenantState) (fd : ℕ) (j : Result (List Insn) Refusal)
    → (result_of_judgement s fd j).after.refused ≡ s.refused
judged_flag s fd (Ok insns) = refl
judged_flag s fd (Err refusal) = refl

load_flag : (s : TenantState) (o : Option ℕ) (slots : List ℕ) (a : Answer)
    → LoadsUnder false s o slots a → a.after.refused ≡ s.refused
load_flag s None slots a is = ap (λ (x : Answer). x.after.refused) is
load_flag s (Some fd) slots a (j, judges, is) = ap (λ (x : Answer). x.after.refused) is ∙ judged_flag s fd j

loads_flag : (socket : Bool) (s : TenantState) (o : Option ℕ) (slots : List ℕ) (a : Answer)
    → MatchBool socket (LoadsUnder false s o slots a) (a ≡ refuses Invalid s)
    → a.after.refused ≡ s.refused
loads_flag true s o slots a is = load_flag s o slots a is
loads_flag false s o slots a is = ap (λ (x : Answer). x.after.refused) is

-- a command that is refused no memory leaves the flag as it was
pub flag_kept : (s : TenantState) (command : Command) (a : Answer)
    → Answers false s command a → a.after.refused ≡ s.refused
flag_kept s (map_create kind key value max flags) a is =
    (is_spared s a _ is (create_spared s (kind_of kind) key value max flags)).1
flag_kept s (prog_load kind slots) a is = loads_flag (kind == 1) s (table.lowest s.objects) slots a is
flag_kept s other a is = (answer_other s false other a is refl).1

-- slots are rejected for a fault, and a program by a rule, never since memory is refused
pub record NoVerdictIsMemory : Type 0 where
  -- no slots are rejected since memory is refused
  pub slots : (bytes : List ℕ) (fault : CodecFault) → IsProgramFault bytes fault → fault.kind ≢ kind.Memory
  -- no rule rejects a program since memory is refused
  pub rules : (code : List Insn) (named : List Named) (slot : ℕ) (why : Reason)
      → IsRefused code named slot why → why ≢ reason.Memory

codec_unlike : (k : FaultKind) → k ≢ kind.Memory → low (status_of (codec_errno k)) ≢ 244
codec_unlike kind.Empty differs = unlike 249 refl
codec_unlike kind.TooLong differs = unlike 249 refl
codec_unlike kind.Memory differs = absurd (differs refl)
codec_unlike other differs = unlike 234 refl

verdict_unlike : (why : Reason) → why ≢ reason.Memory → low (status_of (verdict_errno why)) ≢ 244
verdict_unlike reason.JumpOutside differs = unlike 234 refl
verdict_unlike reason.JumpBackward differs = unlike 234 refl
verdict_unlike reason.FallsOff differs = unlike 234 refl
verdict_unlike reason.Unreachable differs = unlike 234 refl
verdict_unlike reason.UnknownHelper differs = unlike 234 refl
verdict_unlike reason.DescriptorNotOpen differs = unlike 247 refl
verdict_unlike reason.DescriptorNotMap differs = unlike 234 refl
verdict_unlike reason.NoDirectValue differs = unlike 234 refl
verdict_unlike reason.Memory differs = absurd (differs refl)
verdict_unlike other differs = unlike 243 refl

module _ (law : NoVerdictIsMemory) (s : TenantState) where
  cause_unlike : (named : List Named) (slots : List ℕ) (slot : ℕ) (c : Cause)
      → IsRefusedFor named slots slot c → low (status_of (cause_errno c)) ≢ 244
  cause_unlike named slots slot (cause.Slots k) is =
      codec_unlike k (law.slots slots (record { slot = slot; kind = k }) is)
  cause_unlike named slots slot (cause.Verdict why) (insns, program, spelled, is) =
      verdict_unlike why (law.rules insns named slot why is)

  judged_spared : (fd : ℕ) (slots : List ℕ) (j : Result (List Insn) Refusal)
      → Judges (targets s) slots j → IsNoRefusal s (result_of_judgement s fd j)
  judged_spared fd slots (Ok insns) is = (not_refused fd, refl)
  judged_spared fd slots (Err refusal) is = (
    λ e.
        cause_unlike (targets s) slots refusal.slot refusal.cause is (ap low e),
    refl,
  )

  load_spared : (o : Option ℕ) (slots : List ℕ) (a : Answer) → LoadsUnder false s o slots a → IsNoRefusal s a
  load_spared None slots a is = is_spared s a _ is (too_many s)
  load_spared (Some fd) slots a (j, judges, is) = is_spared s a _ is (judged_spared fd slots j judges)

  loads_spared : (socket : Bool) (o : Option ℕ) (slots : List ℕ) (a : Answer)
      → MatchBool socket (LoadsUnder false s o slots a) (a ≡ refuses Invalid s) → IsNoRefusal s a
  loads_spared true o slots a is = load_spared o slots a is
  loads_spared false o slots a is = is_spared s a _ is (spared s (refuses Invalid s) (invalid s))

  answer_spared : (command : Command) (a : Answer) → Answers false s command a → IsNoRefusal s a
  answer_spared (map_create kind key value max flags) a is =
      is_spared s a _ is (create_spared s (kind_of kind) key value max flags)
  answer_spared (prog_load kind slots) a is = loads_spared (kind == 1) (table.lowest s.objects) slots a is
  answer_spared other a is = spared s a (answer_other s false other a is refl)

pub refusals_are_reported : NoVerdictIsMemory → RefusalsAreReported
refusals_are_reported law = record {
  refused = λ s command a is. seen_or_refused true s command a is;
  unrefused = λ s command a is. answer_spared law s command a is;
  others = λ refused s command a is other. spared s a (answer_other s refused command a is other);
}
