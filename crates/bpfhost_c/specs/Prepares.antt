-- Programs that are verified without a host, and their installation. This project's own.
use Rattle.std.specs.Prelude.{◌≡◌, ℕ, ℤ, pos, Bool, not, ◌==◌, ◌||◌, List, length, min, nat_lt, Option}
use Rattle.std.specs.Prelude.{Some, None, is_some, is_none, option_map, Result, Ok, Err, if◌then◌else◌}
use Rattle.std.specs.List.{list_all, filter_map}
use Rattle.tenant.specs.Table.{most}
use Rattle.tagged_model.specs.declared.shape.MapShape.{MapShape}
use Rattle.tagged_model.specs.declared.shape.Named.{Named}
use Rattle.tagged_model.specs.declared.shape.Target.{Target}
use Rattle.tagged_model.specs.declared.shape.Target.TheVariants as target
use Rattle.tenant.specs.declared.errno.Errno.{Errno}
use Rattle.tenant.specs.Errno.{status_of}
use Rattle.tenant.specs.Machine.{asked_shape, cause_errno, kind_of}
use Rattle.verifier.specs.declared.refusal.Refusal.{Refusal}
use Rattle.verifier.specs.Judgement.{Judges, cause_number}
use Rattle.verifier.specs.Maps.{maps_of, objects_at}
use Rattle.verifier.specs.Verified.{Accepted}
use Rattle.host_core.specs.Installs.{Installs, FitsTenant}
use Rattle.host_core.specs.State.{TenantState}
use Rattle.host_core.specs.States.{HostState}
use Rattle.bpfhost_c.specs.declared.codes.TheConstants.{DONE, ERR_NO_HOST, ERR_NO_PROGRAM, ERR_HAS_PROGRAM, ERR_DESCRIPTORS}
use Rattle.bpfhost_c.specs.declared.preparing.Descriptor.{Descriptor}
use Rattle.bpfhost_c.specs.declared.preparing.PreparedRefusal.{PreparedRefusal}
use Rattle.bpfhost_c.specs.declared.session.Session.{Session}

-- ---- the objects that descriptors are to name

-- the object of a descriptor that is to name a map, if a map can be created with the fields given
-- for it. The argument is what `asked_shape` returns for these fields. Ok: the object is a map of
-- this shape. Err, with the error by which MAP_CREATE rejects the fields: there is no object
-- (None), and no program is prepared for a list of descriptors with this one (`prepare_code`)
abbrev pub map_of : Result MapShape Errno → Option Target
map_of (Ok shape) = Some (target.Map shape)
map_of (Err errno) = None

-- the object of a descriptor: a program if its kind is 0, else a map of the shape with these fields
-- of MAP_CREATE and flags 0; None if MAP_CREATE would have an error
abbrev pub object_of : Descriptor → Option Target
object_of d =
    if d.kind == 0 then Some target.Program
    else map_of (asked_shape (kind_of d.kind) d.key_size d.value_size d.max_entries 0)

-- whether each of the descriptors has an object (`object_of`)
abbrev pub are_objects : List Descriptor → Bool
are_objects ds = list_all (λ d. is_some (object_of d)) ds

-- the descriptors with their objects; one without an object is left out
abbrev pub named_by : List Descriptor → List Named
named_by ds =
    filter_map (λ d. option_map (λ t. record { fd = d.fd; target = t }) (object_of d)) ds

-- ---- preparing

-- the code of a call that prepares a program for these descriptors, unless it is out of memory:
-- ERR_HAS_PROGRAM if the handle has one before the call (`before`), ERR_DESCRIPTORS if there are
-- too many descriptors or one has no object, else DONE, also if the program is rejected
abbrev pub prepare_code : Option Accepted → List Descriptor → ℤ
prepare_code before ds =
    if is_some before then ERR_HAS_PROGRAM
    else (if nat_lt most (length ds) || not (are_objects ds) then ERR_DESCRIPTORS else DONE)

-- the call stored the program that the slots spell, accepted with these objects, and r is all 0; or
-- it stored none (None), and r has the status, the slot and the number of the reason of the reply
-- to the frame that loads the slots
abbrev pub Prepares : List Named → List ℕ → Option Accepted → PreparedRefusal → Type 0
Prepares named slots (Some a) r =
    Judges named slots (Ok a.code) × (a.objects ≡ objects_at (maps_of a.code) named)
    × (r.status ≡ pos 0) × (r.slot ≡ 0) × (r.reason ≡ 0)
Prepares named slots None r =
    (refusal : Refusal) × Judges named slots (Err refusal)
    × (r.status ≡ status_of (cause_errno refusal.cause))
    × (r.slot ≡ min refusal.slot 4294967295) × (r.reason ≡ cause_number refusal.cause)

-- ---- installing

-- the code that a call returns that installs a program, if the program fits the tenant. `session`
-- is what the handle of the host has, `program` what that of the program has; None if it is empty
abbrev pub install_code : Option Session → Option Accepted → ℤ
install_code session program =
    if is_none session then ERR_NO_HOST else (if is_none program then ERR_NO_PROGRAM else DONE)

-- C's handle of a prepared program has a program, and this program fits the tenant in this state:
-- each descriptor of the program's maps names a map of the shape with which the program was
-- accepted. False for a handle without a program (None). If an install returns DONE, the program
-- fits; if it returns ERR_STALE, it does not. A tenant that the host does not serve has no state
-- (None); any program fits it, since an install then drops the program and returns DONE, with the
-- status of `NotPermitted`
abbrev pub FitsPrepared : Option Accepted → Option TenantState → Type 0
FitsPrepared None s = ⊥
FitsPrepared (Some a) s = FitsTenant a s

-- what a host does at a tenant's frame that loads the program, if the reply to it has this status;
-- false if the handle has no program (None)
abbrev pub InstallsPrepared : ℕ → Option Accepted → ℤ → HostState → HostState → Type 0
InstallsPrepared tenant None status before after = ⊥
InstallsPrepared tenant (Some a) status before after = Installs tenant a.code status before after
