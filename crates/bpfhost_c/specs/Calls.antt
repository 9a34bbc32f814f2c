-- The effects of the calls from C. This project's own.
use denote.RawPtr.{Ptr}
use Rattle.std.specs.Prelude.{◌≡◌, ℕ, ℤ, nat_lt, ◌||◌, if◌then◌else◌, is_none, List, [], vec_len, Option, Some, None}
use Rattle.std.specs.Vec.{vec_ptr}
use Rattle.host_core.specs.Frame.{longest_reply}
use Rattle.host_core.specs.Saving.{saved_part}
use Rattle.host_core.specs.States.{HostState, new_host}
use Rattle.host_core.specs.State.{TenantState}
use Rattle.host_core.specs.Limits.{most_tenants}
use Rattle.bpfhost_c.specs.declared.codes.TheConstants.{DONE, ERR_NO_HOST, ERR_HAS_HOST}
use Rattle.bpfhost_c.specs.declared.codes.TheConstants.{ERR_TENANT_COUNT, ERR_BUFFER_TOO_SMALL, ERR_NO_PART}
use Rattle.bpfhost_c.specs.declared.session.Session.{Session}
use Rattle.bpfhost_c.specs.Contexts.{contexts_code}

-- the state of the host to which a handle, the C caller's pointer, leads. The argument is the
-- session of the handle, which is a host with its last reply and the last part of a save; or None,
-- if the handle is empty. Then the state is that of a host of 0 tenants, so that contracts can name
-- the state before and after each call, also if a call finds or leaves no host
abbrev pub host_of : Option Session → HostState
host_of None = new_host 0
host_of (Some s) = s.host

-- the states of the host's tenants, by tenant number. The argument is what a handle leads to: a
-- session, which is a host with its last reply and the last part of a save; or None, if the handle
-- is empty, and then the list is empty
abbrev pub states : Option Session → List TenantState
states None = []
states (Some s) = s.host.states

-- The bytes `reply` are the last reply of a session, which is a host with its last reply and the
-- last part of a save. They are all bytes of the reply's vector, which begins at address `at` and
-- has `length` bytes. The handle owns the session, and the session the vector, so the caller in C
-- can read the reply there, without a copy, until the next call changes it. False for an empty
-- handle (None).
abbrev pub IsReplyAt : Option Session → List ℕ → Ptr → ℕ → Type 0
IsReplyAt None reply at length = ⊥
IsReplyAt (Some s) reply at length =
    (s.reply.items ≡ reply) × (at ≡ vec_ptr s.reply) × (length ≡ vec_len s.reply)

-- `frames` are all bytes of the vector `saved` of a session, a host with its last reply and the
-- last part of a save. The vector begins at address `at` and has `length` bytes. A call that makes
-- a part of a save puts the frames of this part there, each after its length. So the caller in C
-- can read them without a copy. False for an empty handle (None), which has no session.
abbrev pub SavedAt : Option Session → List ℕ → Ptr → ℕ → Type 0
SavedAt None frames at length = ⊥
SavedAt (Some s) frames at length =
    (s.saved.items ≡ frames) × (at ≡ vec_ptr s.saved) × (length ≡ vec_len s.saved)

-- ---- return codes

-- the code of a call that creates a host of so many tenants, unless it is out of memory; `before`
-- is what the handle has before the call, None if it is empty
abbrev pub new_code : Option Session → ℕ → ℤ
new_code before tenants =
    if nat_lt tenants 1 || nat_lt most_tenants tenants then ERR_TENANT_COUNT
    else (if is_none before then DONE else ERR_HAS_HOST)

-- the code of a call that needs only a host; `before` is what the handle has before the call
abbrev pub host_code : Option Session → ℤ
host_code before = if is_none before then ERR_NO_HOST else DONE

-- the code of a call that needs a host and room for the longest reply; the room is tested first.
-- `before` is what the handle has before the call, `room` the number of bytes of the room
abbrev pub room_code : Option Session → ℕ → ℤ
room_code before room = if nat_lt room longest_reply then ERR_BUFFER_TOO_SMALL else host_code before

-- the code of a call for one part of a tenant's save, by its number, unless it is out of memory;
-- `before` is what the handle has before the call. A tenant that is not served has no part
abbrev pub save_code : Option Session → ℕ → ℕ → ℤ
save_code before tenant part =
    if is_none before
    then ERR_NO_HOST
    else (if is_none (saved_part (host_of before) tenant part) then ERR_NO_PART else DONE)

-- the code of a call that runs packets, unless it is out of memory: ERR_NO_HOST if its handle is
-- empty (`before` is None), else that of its contexts: `words`, with `size` words for each
abbrev pub run_code : Option Session → ℕ → List ℕ → ℤ
run_code before size words = if is_none before then ERR_NO_HOST else contexts_code size words
