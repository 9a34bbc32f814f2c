-- The machine of one tenant: the answer to each command, and the open objects and the maps after it
-- (bpf(2); for a test run linux/bpf.h, BPF_PROG_TEST_RUN). The order of the refusals is this
-- project's own.
use Rattle.std.specs.Prelude.{◌≡◌, ℕ, ◌+◌, ℤ, pos, Bool, true, false, ◌||◌, ◌==◌, nat_lt, List, [], ◌∷◌, ◌++◌, length, take, drop}
use Rattle.std.specs.Prelude.{replicate, Option, Some, None, option_map, slice_set, Result, Ok, Err, if◌then◌else◌, MatchBool, refl}
use Rattle.std.specs.Map.{lookup}
use Rattle.byteorder.specs.Endian.{little_bytes}
use Rattle.command_frames.specs.Command.{Command, map_create, map_lookup, map_update, map_delete, map_next_key, prog_load, prog_test_run, close}
use Rattle.fd_table.specs.Table as table
pub use Rattle.flat_machine.specs.Packets.{longest_packet}
use Rattle.insn_set.specs.declared.insn.Insn.{Insn}
use Rattle.insn_codec.specs.declared.fault.FaultKind.{FaultKind}
use Rattle.insn_codec.specs.declared.fault.FaultKind.TheVariants as kind
use Rattle.reg_kinds.specs.declared.reason.Reason.{Reason}
use Rattle.reg_kinds.specs.declared.reason.Reason.TheVariants as reason
use Rattle.tagged_model.specs.declared.shape.MapKind.{MapKind}
use Rattle.tagged_model.specs.declared.shape.MapKind.TheVariants.{Hash, Array}
use Rattle.tagged_model.specs.declared.shape.MapShape.{MapShape}
use Rattle.tagged_model.specs.declared.shape.Named.{Named}
use Rattle.tagged_model.specs.declared.shape.Target.{Target}
use Rattle.tagged_model.specs.declared.shape.Target.TheVariants as target
use Rattle.tagged_model.specs.declared.fault.MapFault.{MapFault}
use Rattle.tagged_model.specs.declared.value.Outcome.{Outcome}
use Rattle.tagged_model.specs.declared.value.Outcome.TheVariants.{Value, Fault}
use Rattle.tagged_model.specs.Cells.{and_then}
use Rattle.tagged_model.specs.Shape.{is_shape, is_valid}
use Rattle.tagged_model.specs.Step.{MapsByDescriptor, result_of, left_of}
use Rattle.tagged_model.specs.Table as call
use Rattle.tagged_model.specs.Table.{look_up, verdict, removal, next_of, with_new, with_object, with_deleted, after_run, new_table, shape_area}
use Rattle.verifier.specs.declared.refusal.Cause.{Cause}
use Rattle.verifier.specs.declared.refusal.Cause.TheVariants as cause
use Rattle.verifier.specs.declared.refusal.Refusal.{Refusal}
use Rattle.verifier.specs.Judgement.{cause_number, Judges}
use Rattle.verifier.specs.Maps.{maps_of, objects_at}
use Rattle.tenant.specs.declared.errno.Errno.{Errno}
use Rattle.tenant.specs.declared.errno.Errno.TheVariants.{NoEntry, TooBig, BadDescriptor, NoMemory, AccessDenied, BadAddress, Invalid, TooManyOpen, NoSpace}
use Rattle.tenant.specs.declared.object.OpenObject.{OpenObject}
use Rattle.tenant.specs.declared.object.OpenObject.TheVariants as object
use Rattle.tenant.specs.Loaded.{LoadedProgram}
use Rattle.tenant.specs.Errno.{status_of, map_errno}
use Rattle.bpf_maps.specs.Limits.{most_bytes}
use Rattle.tenant.specs.State.{Map, TenantState, live, free_handle, maps_area, with_map_at, with_objects}

-- ---- answers

-- the result of a command: the status and the payload of its reply, and the state after it
pub record Answer : Type 0 where
  pub status : ℤ
  pub payload : List ℕ
  pub after : TenantState

-- the result of a command with an error, which changes nothing
abbrev pub refuses : Errno → TenantState → Answer
refuses errno s = record { status = status_of errno; payload = []; after = s }

-- the result of a command to which memory is refused: it sets the flag, and changes nothing else
abbrev pub refuses_for_memory : TenantState → Answer
refuses_for_memory s = record {
  status = status_of NoMemory;
  payload = [];
  after = record s { refused = true };
}

-- the result of a command that succeeds: status 0, this payload, and this state after it
abbrev pub gives : List ℕ → TenantState → Answer
gives payload s = record { status = pos 0; payload = payload; after = s }

-- the result of a command that opens an object: the status is its descriptor
abbrev pub opens : ℕ → TenantState → Answer
opens fd s = record { status = pos fd; payload = []; after = s }

-- ---- MAP_CREATE

-- the kind of the maps of a type, by its number in bpf(2) (BPF_MAP_TYPE_HASH, BPF_MAP_TYPE_ARRAY);
-- None for any other number
abbrev pub kind_of : ℕ → Option MapKind
kind_of n = if n == 1 then Some Hash else (if n == 2 then Some Array else None)

-- the shape that `shape` gives for a proof that the area fits; the error TooBig if it does not fit
-- (`fits` is false). Each `MapShape` contains such a proof
abbrev pub shape_where : (fits : Bool) → (fits ≡ true → MapShape) → Result MapShape Errno
shape_where true shape = Ok (shape refl)
shape_where false shape = Err TooBig

-- the shape with these fields of MAP_CREATE, with sizes in bytes. Invalid if no kind of maps has
-- the type (None), or, by `is_valid`, the key size is not 4 in an array or from 1 to `longest_key`
-- in a hash map, the value size not from 1 to `longest_value`, `max` not from 1 to `most_entries`,
-- or a flag is set. Else TooBig if the values, each rounded up to a multiple of eight bytes, take
-- more than `largest_area`: then `is_shape` is false. If it is true, `shape_where` passes the proof
-- of this as `listed` to the record of the shape, since each `MapShape` contains such a proof
abbrev pub asked_shape : Option MapKind → ℕ → ℕ → ℕ → ℕ → Result MapShape Errno
asked_shape None key value max flags = Err Invalid
asked_shape (Some kind) key value max flags =
    if is_valid kind key value max flags
    then shape_where (is_shape kind key value max)
    (λ listed.
    record {
      kind = kind;
      key_size = key;
      value_size = value;
      max_entries = max;
      listed = listed;
    })
    else Err Invalid

-- a new map of this shape: in an array each value is zeros, and a hash map has no key
abbrev pub new_map : MapShape → Map
new_map shape = new_table (λ i. replicate shape.value_size 0) shape

-- the handle for a new map with an area of this size; None if no handle is free, or if the values
-- of all maps would take too many bytes
abbrev pub room_for : TenantState → ℕ → Option ℕ
room_for s size = if nat_lt most_bytes (maps_area s.maps + size) then None else free_handle s

-- the result of MAP_CREATE at a free descriptor and a free handle, by whether memory is refused
abbrev pub created_at : Bool → TenantState → MapShape → ℕ → ℕ → Answer
created_at true s shape fd handle = refuses_for_memory s
created_at false s shape fd handle =
    opens fd
    (record s {
      objects = table.with_open s.objects fd (object.Map handle);
      maps = slice_set s.maps handle
          (Some (new_map shape));
    })

-- the result of MAP_CREATE at a free descriptor, with the handle for the map; the error NoSpace
-- without one (None). `refused` is whether memory is refused
abbrev pub created_as : Bool → TenantState → MapShape → ℕ → Option ℕ → Answer
created_as refused s shape fd None = refuses NoSpace s
created_as refused s shape fd (Some handle) = created_at refused s shape fd handle

-- the result of MAP_CREATE of this shape at a free descriptor, or the error TooManyOpen without one
-- (None); `refused` is whether memory is refused
abbrev pub created_under : Bool → TenantState → MapShape → Option ℕ → Answer
created_under refused s shape None = refuses TooManyOpen s
created_under refused s shape (Some fd) =
    created_as refused s shape fd (room_for s (shape_area shape))

-- MAP_CREATE with fields that have this shape or this error; `refused` is whether memory is refused
abbrev pub created : Bool → TenantState → Result MapShape Errno → Answer
created refused s (Err errno) = refuses errno s
created refused s (Ok shape) = created_under refused s shape (table.lowest s.objects)

-- ---- the calls of a map

-- the result of a command on the map of a handle: what f gives for the handle and the map. Without
-- a map it would be an error, but no tenant has a descriptor of such a handle
abbrev pub of_handle : TenantState → ℕ → (ℕ → Map → Answer) → Option Map → Answer
of_handle s handle f None = refuses BadDescriptor s
of_handle s handle f (Some t) = f handle t

-- the result of a command on a map, by what its descriptor names: for a map what f gives for its
-- handle and the map; an error for a program, or if the descriptor is not open (None)
abbrev pub of_object : TenantState → (ℕ → Map → Answer) → Option OpenObject → Answer
of_object s f None = refuses BadDescriptor s
of_object s f (Some (object.Program l)) = refuses Invalid s
of_object s f (Some (object.Map handle)) = of_handle s handle f (live s handle)

-- the result of a command on the map that a descriptor names: what f gives for its handle and the
-- map; an error if the descriptor is not open or names a program
abbrev pub on_map : TenantState → ℕ → (ℕ → Map → Answer) → Answer
on_map s fd f = of_object s f (table.named s.objects fd)

-- the result of a search: the bytes that are found, a value or a key, or the error NoEntry
abbrev pub gives_or_no_entry : TenantState → Option (List ℕ) → Answer
gives_or_no_entry s None = refuses NoEntry s
gives_or_no_entry s (Some value) = gives value s

-- MAP_LOOKUP_ELEM: the value of a key
abbrev pub element_looked_up : TenantState → ℕ → List ℕ → Answer
element_looked_up s fd key =
    on_map s fd
    (λ handle t.
    if length key == t.shape.key_size
    then gives_or_no_entry s (look_up t key)
    else refuses Invalid s)

-- the result of an update, by the verdict on it: an error if it is refused; else a present key gets
-- the value and keeps its position, or a new key with the value goes to the end
abbrev pub element_put : TenantState → ℕ → Map → List ℕ → List ℕ → call.Verdict (List ℕ) → Answer
element_put s handle t key value (call.Refused fault) = refuses (map_errno fault) s
element_put s handle t key value (call.Present old) =
    gives [] (with_map_at s handle (with_object t key value))
element_put s handle t key value call.New = gives [] (with_map_at s handle (with_new t key value))

-- MAP_UPDATE_ELEM at the descriptor fd: the bytes are the key and then the value; if their number
-- is not that of both, the error is Invalid
abbrev pub element_updated : TenantState → ℕ → ℕ → List ℕ → Answer
element_updated s fd flags bytes =
    on_map s fd (λ handle t. if length bytes == t.shape.key_size + t.shape.value_size
    then element_put s handle t (take t.shape.key_size bytes) (drop t.shape.key_size bytes)
    (verdict t (take t.shape.key_size bytes) flags)
    else refuses Invalid s)

-- the result of a deletion: an error if it is refused; else the key and its value are deleted and,
-- since no run is in progress, not kept apart
abbrev pub element_taken_out : TenantState → ℕ → Map → List ℕ → Result (List ℕ) MapFault → Answer
element_taken_out s handle t key (Err fault) = refuses (map_errno fault) s
element_taken_out s handle t key (Ok value) =
    gives [] (with_map_at s handle (after_run (with_deleted t key)))

-- MAP_DELETE_ELEM: the key and its value are deleted; an error if the descriptor names no map, the
-- key has not the size of the map's keys, or the deletion is refused
abbrev pub element_deleted : TenantState → ℕ → List ℕ → Answer
element_deleted s fd key =
    on_map s fd
    (λ handle t.
    if length key == t.shape.key_size
    then element_taken_out s handle t key (removal t key)
    else refuses Invalid s)

-- MAP_GET_NEXT_KEY: the key after this one; after an empty or absent key, the first key
abbrev pub given_next : TenantState → ℕ → List ℕ → Answer
given_next s fd key =
    on_map s fd
    (λ handle t.
    if length key == 0 || length key == t.shape.key_size
    then gives_or_no_entry s (next_of t key)
    else refuses Invalid s)

-- ---- PROG_LOAD

-- the error of slots that are no program: TooBig if there are none or too many, as in the kernel,
-- else Invalid. NoMemory is for the fault Memory, which is a refusal of memory and no fault of
-- slots
abbrev pub codec_errno : FaultKind → Errno
codec_errno kind.Opcode = Invalid
codec_errno kind.Reserved = Invalid
codec_errno kind.Register = Invalid
codec_errno kind.SecondSlot = Invalid
codec_errno kind.Ragged = Invalid
codec_errno kind.Empty = TooBig
codec_errno kind.TooLong = TooBig
codec_errno kind.Memory = NoMemory

-- the error of a program that is not accepted, from the reason. If its shape is wrong, it is
-- BadDescriptor for a descriptor that is not open, AccessDenied for a write of the frame pointer,
-- else Invalid. If it is unsafe, it is AccessDenied. No rule has the reason Memory
abbrev pub verdict_errno : Reason → Errno
verdict_errno reason.JumpOutside = Invalid
verdict_errno reason.JumpBackward = Invalid
verdict_errno reason.FallsOff = Invalid
verdict_errno reason.Unreachable = Invalid
verdict_errno reason.UnknownHelper = Invalid
verdict_errno reason.FramePointerWritten = AccessDenied
verdict_errno reason.DescriptorNotOpen = BadDescriptor
verdict_errno reason.DescriptorNotMap = Invalid
verdict_errno reason.NoDirectValue = Invalid
verdict_errno reason.UnreadableRegister = AccessDenied
verdict_errno reason.ResultNotScalar = AccessDenied
verdict_errno reason.NotPointer = AccessDenied
verdict_errno reason.PointerArithmetic = AccessDenied
verdict_errno reason.OffsetTooLarge = AccessDenied
verdict_errno reason.OutsideStack = AccessDenied
verdict_errno reason.UnalignedStack = AccessDenied
verdict_errno reason.UnwrittenStack = AccessDenied
verdict_errno reason.PartOfSpill = AccessDenied
verdict_errno reason.OutsideValue = AccessDenied
verdict_errno reason.MaybeNull = AccessDenied
verdict_errno reason.ContextAccess = AccessDenied
verdict_errno reason.PointerStored = AccessDenied
verdict_errno reason.PointerComparison = AccessDenied
verdict_errno reason.HelperArgument = AccessDenied
verdict_errno reason.LengthUnbounded = AccessDenied
verdict_errno reason.UnalignedAtomic = AccessDenied
verdict_errno reason.Memory = NoMemory

-- the error of a load that is rejected for this cause. `Slots`: the slots are no program, for the
-- codec's fault `kind`; the error is TooBig if there are none or too many, else Invalid
-- (`codec_errno`). `Verdict`: the slots are a program that is not accepted, for the reason `why`;
-- the error is BadDescriptor if a descriptor is not open, AccessDenied if the program is unsafe or
-- writes the frame pointer, else Invalid (`verdict_errno`). But if `kind` or `why` is `Memory`, a
-- refusal of memory, the error is NoMemory
abbrev pub cause_errno : Cause → Errno
cause_errno (cause.Slots kind) = codec_errno kind
cause_errno (cause.Verdict why) = verdict_errno why

-- the result of a rejected load: the payload is the slot, in four bytes, and the number of the
-- cause, in two
abbrev pub refuses_load : Refusal → TenantState → Answer
refuses_load refusal s = record {
  status = status_of (cause_errno refusal.cause);
  payload = little_bytes 4 refusal.slot ++ little_bytes 2 (cause_number refusal.cause);
  after = s;
}

-- an open object as the verifier sees it: a map of its shape, or a program. None if a handle has no
-- map, but no tenant has a descriptor of such a handle
abbrev pub object_target : TenantState → OpenObject → Option Target
object_target s (object.Map handle) = option_map (λ t. target.Map t.shape) (live s handle)
object_target s (object.Program l) = Some target.Program

-- the list of this descriptor with its object; the empty list if it is not open (None)
abbrev pub entry_of : ℕ → Option Target → List Named
entry_of fd None = []
entry_of fd (Some t) = record { fd = fd; target = t } ∷ []

-- the open descriptors from fd on, with their objects as the verifier sees them. The list that is
-- given has what each descriptor from fd on names, None if it is not open
unfoldable pub targets_from : TenantState → ℕ → List (Option OpenObject) → List Named
targets_from s fd [] = []
targets_from s fd (o ∷ os) =
    entry_of fd (and_then o (object_target s)) ++ targets_from s (fd + 1) os

-- all open descriptors, with their objects as the verifier sees them
abbrev pub targets : TenantState → List Named
targets s = targets_from s table.first_descriptor s.objects

-- the handle of the map that a descriptor names, from the open object of the descriptor. None if
-- the object is a loaded program l, or if there is no object, since the descriptor is not open. By
-- this a load finds the handles of the program's maps (`handles_from`)
abbrev pub named_handle : Option OpenObject → Option ℕ
named_handle (Some (object.Map handle)) = Some handle
named_handle (Some (object.Program l)) = None
named_handle None = None

-- pairs of these descriptors and the handles of the maps that they name; a descriptor that names no
-- map is left out
unfoldable pub handles_from : List (Option OpenObject) → List ℕ → List (ℕ × ℕ)
handles_from objects [] = []
handles_from objects (fd ∷ fds) =
    bound (named_handle (table.named objects fd)) fd (handles_from objects fds)
  where
    bound : Option ℕ → ℕ → List (ℕ × ℕ) → List (ℕ × ℕ)
    bound None fd rest = rest
    bound (Some handle) fd rest = (fd, handle) ∷ rest

-- the loaded program of these instructions, with what their descriptors name in this state
abbrev pub loaded_program : TenantState → List Insn → LoadedProgram
loaded_program s insns = record {
  insns = insns;
  named = objects_at (maps_of insns) (targets s);
  maps = handles_from s.objects (maps_of insns);
}

-- the result of a load, by the verifier's judgement: a rejection, or the program opened at fd
abbrev pub result_of_judgement : TenantState → ℕ → Result (List Insn) Refusal → Answer
result_of_judgement s fd (Err refusal) = refuses_load refusal s
result_of_judgement s fd (Ok insns) =
    opens fd
    (record s { objects = table.with_open s.objects fd (object.Program (loaded_program s insns)) })

-- the result of a load of slots at the descriptor fd: that of refused memory (true), or that of a
-- judgement of the slots by the verifier (`Judges`)
abbrev pub LoadsAs : Bool → TenantState → ℕ → List ℕ → Answer → Type 0
LoadsAs true s fd slots answer = answer ≡ refuses_for_memory s
LoadsAs false s fd slots answer =
    (j : Result (List Insn) Refusal)
    × Judges (targets s) slots j
    × (answer ≡ result_of_judgement s fd j)

-- the result of a load at this free descriptor (`LoadsAs`); TooManyOpen if none is free (None)
abbrev pub LoadsUnder : Bool → TenantState → Option ℕ → List ℕ → Answer → Type 0
LoadsUnder refused s None slots answer = answer ≡ refuses TooManyOpen s
LoadsUnder refused s (Some fd) slots answer = LoadsAs refused s fd slots answer

-- the result of PROG_LOAD: only socket filters, kind 1, can be loaded
-- (BPF_PROG_TYPE_SOCKET_FILTER)
abbrev pub Loads : Bool → TenantState → ℕ → List ℕ → Answer → Type 0
Loads refused s kind slots answer =
    MatchBool (kind == 1) (LoadsUnder refused s (table.lowest s.objects) slots answer)
    (answer ≡ refuses Invalid s)

-- ---- PROG_TEST_RUN

-- the maps of a loaded program, by the descriptors that its instructions name; None for any other
-- descriptor
abbrev pub maps_given : TenantState → LoadedProgram → MapsByDescriptor
maps_given s l fd = and_then (lookup (λ m. m == fd) l.maps) (λ handle. live s handle)

-- the maps by handle after a run. The list of pairs has the descriptors and handles of the
-- program's maps; the handle of each gets the map that the run leaves at its descriptor (`left`)
unfoldable pub maps_left : MapsByDescriptor → List (ℕ × ℕ) → List (Option Map) → List (Option Map)
maps_left left [] maps = maps
maps_left left (m ∷ ms) maps = maps_left left ms (slice_set maps m.1 (left m.0))

-- the result of a test run with this outcome; s is the state after it. A run that ends with n, the
-- low 32 bits of register 0 at the exit, gives status 0 and, as the payload, n in four bytes,
-- little-endian. A run that faults gives the error BadAddress; no run of an accepted program does
abbrev pub outcome_result : Outcome → TenantState → Answer
outcome_result (Value n) s = gives (little_bytes 4 n) s
outcome_result Fault s = refuses BadAddress s

-- the test run of a loaded program on ten words of context and a packet: word 0 of the context is
-- the packet's length, before these
abbrev pub ran : TenantState → LoadedProgram → List ℕ → List ℕ → Answer
ran s l words packet =
    let given = maps_given s l in
    let context = length packet ∷ words in
    outcome_result (result_of l.insns given context packet) (record s {
      maps = maps_left (left_of l.insns given context packet) l.maps s.maps;
    })

-- PROG_TEST_RUN of what a descriptor names, on ten words of context and a packet
abbrev pub run_of : TenantState → List ℕ → List ℕ → Option OpenObject → Answer
run_of s words packet None = refuses BadDescriptor s
run_of s words packet (Some (object.Map handle)) = refuses Invalid s
run_of s words packet (Some (object.Program l)) =
    if nat_lt longest_packet (length packet) then refuses TooBig s else ran s l words packet

-- ---- CLOSE

-- the result of closing the descriptor fd, which names this object or is not open
abbrev pub closed : TenantState → ℕ → Option OpenObject → Answer
closed s fd None = refuses BadDescriptor s
closed s fd (Some o) = gives [] (with_objects s (table.with_closed s.objects fd))

-- ---- every command

-- The result of a command; `refused` is whether memory is refused to it. Only MAP_CREATE and
-- PROG_LOAD take memory.
abbrev pub Answers : Bool → TenantState → Command → Answer → Type 0
Answers refused s (map_create kind key value max flags) a =
    a ≡ created refused s (asked_shape (kind_of kind) key value max flags)
Answers refused s (map_lookup fd key) a = a ≡ element_looked_up s fd key
Answers refused s (map_update fd flags bytes) a = a ≡ element_updated s fd flags bytes
Answers refused s (map_delete fd key) a = a ≡ element_deleted s fd key
Answers refused s (map_next_key fd key) a = a ≡ given_next s fd key
Answers refused s (prog_load kind slots) a = Loads refused s kind slots a
Answers refused s (prog_test_run fd words packet) a =
    a ≡ run_of s words packet (table.named s.objects fd)
Answers refused s (close fd) a = a ≡ closed s fd (table.named s.objects fd)
